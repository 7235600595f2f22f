-- A message of a call, by what its branch is at the node.
use Rattle.std.proofs.Common.{◌≡◌, ℕ, Option, None, Some, refl, sym, ap, subst, ◌∙◌}
use Rattle.tran_ids.specs.declared.branch.BranchId.{BranchId}
use Rattle.node_rules.specs.Data.{Place, KeptRow, Task, Answer}
use Rattle.node_rules.specs.NodeState.{NodeState, Branch, TurnDraft as DraftByRules, branch_at, kept_row_at, nothing, saying}
use Rattle.node_rules.specs.Calls.{gone_reply, on_exec, on_opened, on_reply}
use Rattle.node_rules.specs.Turn.{BranchStatus, Is_live, Is_kept, Is_gone, exec_turn, kept_or_gone, live_or, opened_turn, reply_turn, status_of}
use Rattle.node_drafts.specs.declared.draft.TurnDraft.{TurnDraft}
use Rattle.node_drafts.specs.Gives.{GivesDraft}
use Rattle.node_calls.specs.Handled.{at_live}

-- what a live branch does alone
module _ (k : NodeState) (f : Branch → DraftByRules) (turn : BranchStatus → DraftByRules) (live : (x : Branch) → turn (Is_live x) ≡ f x) where
  other_so : (kept : (s : KeptRow) → turn (Is_kept s) ≡ nothing k) (gone : turn Is_gone ≡ nothing k) (s : Option KeptRow) → turn (kept_or_gone s) ≡ nothing k
  other_so kept gone None = gone
  other_so kept gone (Some s) = kept s

  stand_so : (kept : (s : KeptRow) → turn (Is_kept s) ≡ nothing k) (gone : turn Is_gone ≡ nothing k) (o : Option Branch) (s : Option KeptRow) → turn (live_or o s) ≡ at_live k f o
  stand_so kept gone (Some x) s = live x
  stand_so kept gone None s = other_so kept gone s

  turn_so : (kept : (s : KeptRow) → turn (Is_kept s) ≡ nothing k) (gone : turn Is_gone ≡ nothing k) (b : BranchId) → turn (status_of k b) ≡ at_live k f (branch_at k b)
  unfolding status_of
  turn_so kept gone b = stand_so kept gone (branch_at k b) (kept_row_at k b)

module _ (k : NodeState) (from b : BranchId) (after : NodeState) (draft : TurnDraft) where
  pub opened_alike : (edge strength : ℕ) → GivesDraft (at_live k (λ x. on_opened k x from edge strength) (branch_at k b)) after draft → GivesDraft (opened_turn k from edge strength (status_of k b)) after draft
  opened_alike edge strength does =
      subst (λ d. GivesDraft d after draft) (sym (turn_so k (λ x. on_opened k x from edge strength) (opened_turn k from edge strength) (λ x. refl) (λ s. refl) refl b)) does

  pub reply_alike : (call : ℕ) (weight : Option ℕ) (count : ℕ) (a : Answer) → GivesDraft (at_live k (λ x. on_reply k x from call weight count a) (branch_at k b)) after draft
      → GivesDraft (reply_turn k from call weight count a (status_of k b)) after draft
  reply_alike call weight count a does =
      subst (λ d. GivesDraft d after draft) (sym (turn_so k (λ x. on_reply k x from call weight count a) (reply_turn k from call weight count a) (λ x. refl) (λ s. refl) refl b)) does

live_by : (k : NodeState) (b : BranchId) (x : Branch) (o : Option Branch) (s : Option KeptRow) → branch_at k b ≡ o → Is_live x ≡ live_or o s → branch_at k b ≡ Some x
live_by k b x (Some y) s is stands = let it : Is_live x ≡ Is_live y = stands in let same : x ≡ y = cc in is ∙ ap Some (sym same)
live_by k b x None None is stands = absurd cc
live_by k b x None (Some s) is stands = absurd cc

live_here : (k : NodeState) (b : BranchId) (x : Branch) → Is_live x ≡ status_of k b → branch_at k b ≡ Some x
unfolding status_of
live_here k b x stands = live_by k b x (branch_at k b) (kept_row_at k b) refl stands

module _ (p : Place) (k : NodeState) (from b : BranchId) (call : ℕ) (task : Task) (after : NodeState) (draft : TurnDraft) where
  -- a live branch takes the call
  pub lives_so : (x : Branch) → Is_live x ≡ status_of k b → GivesDraft (at_live k (λ y. on_exec p k y from call task) (branch_at k b)) after draft
      → GivesDraft (exec_turn p k from b call task (status_of k b)) after draft
  lives_so x stands does =
      let f = λ (y : Branch). on_exec p k y from call task in
      subst (λ d. GivesDraft d after draft) (ap (at_live k f) (live_here k b x stands) ∙ ap (exec_turn p k from b call task) stands) does

  -- a kept one ignores it
  pub exec_kept : (row : KeptRow) → Is_kept row ≡ status_of k b → GivesDraft (nothing k) after draft → GivesDraft (exec_turn p k from b call task (status_of k b)) after draft
  exec_kept row stands does = subst (λ d. GivesDraft d after draft) (ap (exec_turn p k from b call task) stands) does

  -- and a gone one refuses it
  pub exec_gone : Is_gone ≡ status_of k b → GivesDraft (saying k (gone_reply b from call)) after draft → GivesDraft (exec_turn p k from b call task (status_of k b)) after draft
  exec_gone stands does = subst (λ d. GivesDraft d after draft) (ap (exec_turn p k from b call task) stands) does
