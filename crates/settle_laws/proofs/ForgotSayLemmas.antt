-- Why a branch says Forgotten: its record of this turn is Forgot, or its row has forgotten, or it is gone and is acknowledged.
use Rattle.std.proofs.Common.{◌≡◌, ℕ, ◌+◌, ◌⊎◌, ◌&&◌, not, Bool, true, false, if◌then◌else◌, List, [], ◌∷◌, ◌++◌, length, map, filter, fold, is_none, Option, Some, None, inl, inr, refl, ap, ◌∙◌}
use Rattle.std.specs.Prelude.{flat_map}
use Rattle.std.specs.List.{AllByRecursion}
use Rattle.std.proofs.lemmas.Bool.{cond_both}
use Rattle.agreement.specs.Events.{Event, Forget, Has}
use Rattle.node_rules.specs.Data.{Answer, BranchId, Decision, Edge, Kind, KeptRow, Place, Input, RedoRecord}
use Rattle.node_rules.specs.declared.work.Errand.{Errand}
use Rattle.node_rules.specs.Data.decisions
use Rattle.node_rules.specs.Data.kinds
use Rattle.node_rules.specs.Data.records
use Rattle.node_rules.specs.Data.acts
use Rattle.session_tree.specs.Live.{children_of, peer_of, new_edge}
use Rattle.reco.specs.declared.post.Post.{Post}
use Rattle.node_rules.specs.declared.session.Session.{Session}
use Rattle.commit_forget.specs.declared.next.Beyond.{Beyond}
use Rattle.commit_forget.specs.declared.next.Next.TheVariants as nexts
use Rattle.commit_forget.specs.Next.{ack_counts, acked_by, next_on_ack}
use Rattle.node_rules.specs.Words.{put_by_branch}
use Rattle.node_rules.specs.NodeState.{NodeState, Branch, TurnDraft, post_one, to_each, to_one, kept_row_id, kept_row_at, branch_at, with_kept_row, nothing}
use Rattle.session_tree.specs.Tree.{step as step_from}
use Rattle.node_rules.specs.Calls.{answer_says, exec_to, with_edge, hears_reply, branch_ran, less_room}
use Rattle.node_rules.specs.Statement.{ran}
use Rattle.node_rules.specs.Prepare.{path_of, prepares, site_neighbors}
use Rattle.node_rules.specs.Commit.{all_acked, beyond, passes_commit, rollback_to, passes, next_turn, counts_ack, on_ack}
use Rattle.reco.specs.declared.told.Told.{Told}
use Rattle.reco.specs.declared.told.Told.TheVariants as tolds
use Rattle.node_rules.specs.Recovery.{told_kind, Asking, asking_id, asks_live, asks_kept, acks_again, recovers, askings}
use Rattle.node_rules.specs.Turn.{Is_gone, live_or, status_of, ack_turn}
use Rattle.node_rules.specs.Inputs.{Came}
use Rattle.node_rules.proofs.Steps as steps
use Rattle.node_rules.proofs.Steps.{Step, Says}
use Rattle.run_base_laws.specs.EventRows.{RowIs, RowsAre}
use Rattle.run_rules.proofs.ListLemmas.{all_append, all_each, all_put}
use Rattle.run_base_laws.proofs.OwnLemmas.{all_found}
use Rattle.node_rules.specs.Names.{passed_on}
use Rattle.node_rules.specs.declared.work.Errand.TheVariants as errands

-- ---- lists of messages

module _ (Q : BranchId → BranchId → Type 0) where
  -- what is so of a message where it is Forgotten
  abbrev pub ForgottenSo : BranchId → BranchId → Kind → Type 0
  ForgottenSo from to kinds.Forgotten = Q from to
  ForgottenSo from to _ = Unit {0}

  abbrev May : Post → Type 0
  May x = ForgottenSo x.from x.to x.kind

  abbrev pub AllSo : List Post → Type 0
  AllSo posts = AllByRecursion May posts

  one_told : (from : BranchId) (kind : Kind) (to : Option BranchId) → ((b : BranchId) → ForgottenSo from b kind) → AllSo (to_one from kind to)
  one_told from kind None may = tt
  one_told from kind (Some to) may = (may to, tt)

  each_told : (from : BranchId) (kind : Kind) (tos : List BranchId) → ((b : BranchId) → ForgottenSo from b kind) → AllSo (to_each from kind tos)
  each_told from kind tos may = all_each May (post_one from kind) tos may

  answer_told : (x : Branch) (a : Answer) (parent : Option BranchId) → AllSo (answer_says x a parent)
  answer_told x a None = tt
  answer_told x a (Some parent) = (tt, tt)

  exec_told : (ss : List Session) (x : Branch) (i : ℕ) (errand : Errand) (to : Option BranchId) → AllSo (exec_to ss x i errand to)
  exec_told ss x i errand None = tt
  exec_told ss x i errand (Some to) = (tt, tt)

  prepares_told : (me : BranchId) (comment : List ℕ) (path : Option ℕ) (i : ℕ) (es : List Edge) → AllSo (prepares me comment path i es)
  prepares_told me comment path i [] = tt
  prepares_told me comment path i (e ∷ es) = (tt, prepares_told me comment path (i + 1) es)

  commit_told : (s : KeptRow) (n : ℕ) (bs : List Beyond) → AllSo (passes_commit s n bs)
  commit_told s n [] = one_told s.me kinds.Ack s.toward (λ b. tt)
  commit_told s n (b ∷ bs) = each_told s.me (kinds.Committed n) (map (λ c. c.branch) (b ∷ bs)) (λ c. tt)

  passes_told : (s : KeptRow) (d : Decision) → AllSo (passes s d)
  passes_told s (decisions.Commit n) = commit_told s n (beyond s)
  passes_told s decisions.Rollback =
      all_each May (rollback_to s.me) (beyond s) (λ b. cond_both b.is_parent kinds.RolledBack kinds.Rollback (λ kind. ForgottenSo s.me b.branch kind) (λ up. tt) (λ down. tt))

  told_told : (from to : BranchId) (x : Told) → ForgottenSo from to (told_kind x)
  told_told from to (tolds.Committed n) = tt
  told_told from to tolds.RolledBack = tt
  told_told from to tolds.RollBackFirst = tt
  told_told from to tolds.InDoubt = tt

  again_told : (s : KeptRow) → AllSo (acks_again s)
  again_told s = cond_both (all_acked s && not s.forgot) (to_one s.me kinds.Ack s.toward) [] AllSo (λ all. one_told s.me kinds.Ack s.toward (λ b. tt)) (λ some. tt)

  recovers_told : (s : KeptRow) (d : Option Decision) → AllSo (recovers s d)
  recovers_told s None = one_told s.me kinds.Ask s.toward (λ b. tt)
  recovers_told s (Some (decisions.Commit n)) =
      all_append May _ (acks_again s) (each_told s.me (kinds.Committed n) (map (λ b. b.branch) (filter (λ b. not b.acked) (beyond s))) (λ b. tt)) (again_told s)
  recovers_told s (Some decisions.Rollback) = tt

  abbrev AsksSo : Asking → Type 0
  AsksSo a = AllSo a.says

  sorted_told : (more asked : List Asking) → AllByRecursion AsksSo asked → AllByRecursion AsksSo more → AllByRecursion AsksSo (fold (put_by_branch asking_id) asked more)
  sorted_told [] asked all rest = all
  sorted_told (a ∷ more) asked all rest = sorted_told more (put_by_branch asking_id asked a) (all_put AsksSo asking_id asked a all rest.0) rest.1

  flat_told : (asked : List Asking) → AllByRecursion AsksSo asked → AllSo (flat_map (λ a. a.says) asked)
  flat_told [] all = tt
  flat_told (a ∷ asked) all = all_append May a.says _ all.0 (flat_told asked all.1)

  askings_told : (k : NodeState) → AllSo (flat_map (λ a. a.says) (askings k))
  askings_told k =
      flat_told (askings k) (sorted_told (map asks_live k.lives ++ map asks_kept k.stored.durable.kept) [] tt
      (all_append AsksSo (map asks_live k.lives) (map asks_kept k.stored.durable.kept) (all_each AsksSo asks_live k.lives (λ l. one_told l.me kinds.Ask l.parent (λ b. tt)))
      (all_each AsksSo asks_kept k.stored.durable.kept (λ s. recovers_told s s.decision))))

-- ---- steps to which no Ack comes

module _ (p : Place) (input : Input) (no : (from to : BranchId) → Came input from to kinds.Ack → ⊥) where
  -- the record of the turn is Forgot of who says it
  abbrev pub Forgets : Option RedoRecord → BranchId → BranchId → Type 0
  Forgets w from to = w ≡ Some (records.Forgot from)

  abbrev pub StepSo : TurnDraft → Type 0
  StepSo d = AllSo (Forgets d.wrote) d.says

  says_so : (k : NodeState) {says : List Post} → Says k input says → AllSo (Forgets None) says
  says_so k (steps.Tells s from came kept) = (told_told (Forgets None) s.me from _, tt)
  says_so k (steps.Recovers reco) = askings_told (Forgets None) k
  says_so k (steps.Gone_forgets to from came gone) = absurd (no from to came)
  says_so k _ = (tt, tt)

  pub step_so : {k : NodeState} {d : TurnDraft} → Step p input k d → StepSo d
  step_so (steps.Begins m s read_at call begins fit none step) = step_so step
  step_so (steps.Counts_call n s call counts step) = step_so step
  step_so (steps.Goes_back x step goes next) = step_so next
  step_so (steps.Pends m l given call has live code writer step) = step_so step
  step_so (steps.Lets_reads_go l comment site_below live begins step) = step_so step
  step_so (steps.Counts_ack s from kept came counts step) = absurd (no from s.me came)
  step_so (steps.Sends {k = k} says why) = says_so k why
  step_so (steps.Runs {k = k} x s given table asked way) = answer_told (Forgets None) (branch_ran k.sessions x table (ran p k x.live.me s table)) _ x.live.parent
  step_so (steps.Goes_nowhere {k = k} x s given r asked way) = answer_told (Forgets None) x _ x.live.parent
  step_so (steps.Calls {k = k} x s given i table asked way) = exec_told (Forgets None) k.sessions x i (errands.Statement (passed_on s table) given) (peer_of x.live i)
  step_so (steps.Opens x s given node link table asked way) = (tt, tt)
  step_so (steps.Goes_on {k = k} x from strength g link opened) = exec_told (Forgets None) k.sessions (with_edge x (new_edge from link strength)) (length x.live.edges + 1) (less_room g.errand) _
  step_so (steps.Hears_reply {k = k} x weight count a i e answered) = answer_told (Forgets None) (hears_reply x i weight count e) _ x.live.parent
  step_so (steps.Backs {k = k} x step from i calls next) = exec_told (Forgets None) k.sessions x i (errands.GoBack step) (peer_of x.live i)
  step_so (steps.Is_back x step from calls none) = answer_told (Forgets None) x _ x.live.parent
  step_so (steps.Opens_branch to parent edge root depth read_at came new) = (tt, tt)
  step_so (steps.Acts {k = k} l site_below acts.AskDown why) = prepares_told (Forgets None) l.me l.comment (path_of site_below (step_from l)) 1 l.edges
  step_so (steps.Acts {k = k} l site_below acts.SayReadOnly why) = one_told (Forgets None) l.me kinds.ReadOnly l.parent (λ b. tt)
  step_so (steps.Acts {k = k} l site_below acts.SayReady why) = one_told (Forgets None) l.me kinds.Ready l.parent (λ b. tt)
  step_so (steps.Acts {k = k} l site_below acts.Seal why) = one_told (Forgets _) l.me kinds.Prepared l.parent (λ b. tt)
  step_so (steps.Acts {k = k} l site_below (acts.SealAndPass i) why) = one_told (Forgets _) l.me kinds.CommitPoint (peer_of l i) (λ b. tt)
  step_so (steps.Acts {k = k} l site_below acts.Decide why) = each_told (Forgets _) l.me (kinds.Committed (k.clock + 1)) (site_neighbors l) (λ b. tt)
  step_so (steps.Acts {k = k} l site_below acts.Abandon why) =
      all_append (λ (x : Post). ForgottenSo (Forgets None) x.from x.to x.kind) (to_one l.me kinds.Abort l.parent) _ (one_told (Forgets None) l.me kinds.Abort l.parent (λ b. tt)) (each_told (Forgets None) l.me kinds.Rollback (children_of l) (λ b. tt))
  step_so (steps.Drops_told {k = k} l live drops) = each_told (Forgets None) l.me kinds.Rollback (children_of l) (λ b. tt)
  step_so (steps.Drops_asked {k = k} l from live came parent) = (tt, each_told (Forgets None) l.me kinds.Rollback (children_of l) (λ b. tt))
  step_so (steps.Does {k = k} s from (nexts.End d) kept why) = passes_told (Forgets (Some (records.Ended s.me d))) s d
  step_so (steps.Does {k = k} s from (nexts.Meet d mixed) kept why) = passes_told (Forgets (Some (records.Met s.me d mixed))) s d
  step_so (steps.Does {k = k} s from nexts.AckToward kept why) = one_told (Forgets None) s.me kinds.Ack s.toward (λ b. tt)
  step_so (steps.Does {k = k} s from nexts.Forget kept why) = each_told (Forgets (Some (records.Forgot s.me))) s.me kinds.Forgotten (map (λ b. b.branch) (beyond s)) (λ b. refl)
  step_so (steps.Does {k = k} s from nexts.SayForgotten kept (steps.Has_forgotten came knows forgot)) = absurd (no from s.me came)
  step_so (steps.Does s from nexts.SayAck kept why) = (tt, tt)
  step_so (steps.Leaves {k = k} m s d x call ends has live) = each_told (Forgets None) x.live.me kinds.Rollback (children_of x.live) (λ b. tt)
  step_so (steps.Gives_up_commit {k = k} m b (Some l) gives has pending live) = each_told (Forgets None) l.me kinds.Rollback (children_of l) (λ c. tt)
  step_so _ = tt

-- ---- a turn in which an Ack comes

module _ (t : List Event) (k : NodeState) (from to : BranchId) (rows : RowsAre t k.stored.durable.kept) where
  -- the record is Forgot of who says it, or it had forgotten, or it is gone
  abbrev pub AckedSo : Option RedoRecord → BranchId → BranchId → Type 0
  AckedSo w a b = (w ≡ Some (records.Forgot a)) ⊎ (Has (Forget a) t ⊎ ((status_of k to ≡ Is_gone) × (a ≡ to) × (b ≡ from)))

  abbrev pub AckSo : TurnDraft → Type 0
  AckSo d = AllSo (AckedSo d.wrote) d.says

  module _ (s : KeptRow) (at : kept_row_at k to ≡ Some s) where
    abbrev y : KeptRow
    y = acked_by s from

    counted : AckSo (next_turn (with_kept_row k y) y from (next_on_ack y))
    unfolding next_on_ack
    counted = by s.forgot refl (all_acked y) s.toward
      where
        by : (f : Bool) → s.forgot ≡ f → (a : Bool) (o : Option BranchId) → AckSo (next_turn (with_kept_row k y) y from (if f then nexts.SayForgotten else (if a then (if is_none o then nexts.Forget else nexts.AckToward) else nexts.Rest)))
        by true is a o = (inr (inl ((all_found (RowIs t) kept_row_id k.stored.durable.kept to s rows at).forgot is)), tt)
        by false is true None = each_told (AckedSo (Some (records.Forgot y.me))) y.me kinds.Forgotten (map (λ b. b.branch) (beyond y)) (λ b. inl refl)
        by false is true (Some q) = one_told (AckedSo None) y.me kinds.Ack y.toward (λ b. tt)
        by false is false o = tt

    here : AckSo (on_ack k s from)
    here = cond_both (ack_counts s from) (counts_ack k (acked_by s from) from) (nothing k) AckSo (λ counts. counted) (λ not. tt)

  by_stand : (o : Option Branch) (q : Option KeptRow) → branch_at k to ≡ o → kept_row_at k to ≡ q → AckSo (ack_turn k from to (live_or o q))
  unfolding status_of
  by_stand (Some x) q live at = tt
  by_stand None None live at = (inr (inr (ap (λ (o : Option Branch). live_or o (kept_row_at k to)) live ∙ ap (live_or None) at, refl, refl)), tt)
  by_stand None (Some s) live at = here s at

  pub ack_so : AckSo (ack_turn k from to (status_of k to))
  unfolding status_of
  ack_so = by_stand (branch_at k to) (kept_row_at k to) refl refl
