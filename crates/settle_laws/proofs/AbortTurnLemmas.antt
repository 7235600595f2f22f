-- A calm turn in which an Abort comes: a branch that abandons its collect tells all whom it asked Rollback, and nobody becomes sealed.
use Rattle.std.proofs.Common.{◌≡◌, ◌≢◌, ℕ, Bool, true, false, List, [], map, Option, Some, None, refl, sym, ap, subst, ◌∙◌}
use Rattle.net_bag.specs.Net.{lost_at_once}
use Rattle.session_tree.specs.Live.{children_of}
use Rattle.node_rules.specs.Data.{BranchId, Kind, Live, Act, Vote, Msg}
use Rattle.node_rules.specs.Data.acts
use Rattle.node_rules.specs.Data.inputs
use Rattle.node_rules.specs.Data.kinds
use Rattle.node_rules.specs.Data.votes
use Rattle.node_rules.specs.NodeState.{NodeState, TurnDraft, live_id, post_one, to_one}
use Rattle.node_rules.specs.Words.{item_at}
use Rattle.node_rules.specs.Turn.{draft_of}
use Rattle.node_rules.specs.Prepare.{act_turn, with_prepare_sent}
use Rattle.node_rules.proofs.Steps as steps
use Rattle.node_rules.proofs.Steps.{Acting, Answers, Collects, vote_kind}
use Rattle.node_rules.proofs.StepLemmas.{acting_so}
use Rattle.tran_ids.proofs.ListedLemmas.{item_is}
use Rattle.run_rules.specs.Data.{Took, Turn}
use Rattle.run_rules.specs.Data.happenings
use Rattle.run_rules.specs.Facts.{Facts, place_at, taken, facts_after}
use Rattle.run_rules.specs.Lawful.{MayTurn, History, IsLawfulRun}
use Rattle.run_rules.proofs.ListLemmas.{map_after}
use Rattle.run_base_laws.specs.FreezeLaws.{was_asked}
use Rattle.run_base_laws.specs.InTurnLaws.{said_in}
use Rattle.tree_laws.proofs.AskStepLemmas.{peer, voted_peers}
use Rattle.tree_laws.proofs.WhyLemmas.{seal_act}
use Rattle.tree_laws.proofs.PrefixLemmas.{f_at}
use Rattle.commit_laws.proofs.ListLemmas.{IsIn}
use Rattle.settle_laws.specs.OverLaws.{is_rollback}
use Rattle.settle_laws.specs.Interval.{is_ask, is_point, is_decision, Obliged}
use Rattle.settle_laws.proofs.CalmTurn.{calm}
use Rattle.settle_laws.proofs.FlyLemmas.{in_behind, in_map}
use Rattle.settle_laws.proofs.AskTurnLemmas.{asked_child}
use Rattle.settle_laws.proofs.StayLemmas.{By_seal, By_act, By_rollback, By_ask}
use Rattle.settle_laws.proofs.QuietTurnLemmas as quiet
use Rattle.settle_laws.proofs.BesideTurnLemmas.{came_kind, drops_of, born_so}

module _ (m : Msg) (kind : m.kind ≡ kinds.Abort) where
  no_collects : {k : NodeState} {l : Live} {comment : List ℕ} {b : Bool} → Collects k (inputs.Message m) l comment b → ⊥
  no_collects (steps.By_commit n given call has code writer is) = absurd (cc (call))
  no_collects {comment = comment} (steps.By_prepare from b came working) = (let it : m.kind ≡ kinds.Prepare b comment = came_kind m came in absurd (cc (it, kind)))

  no_other : {l : Live} {from : BranchId} {v : Vote} {b : Bool} → Answers (inputs.Message m) l from v b → v ≢ votes.Abort → ⊥
  no_other {v = v} answers other = by v answers.kind answers.is_vote (came_kind m answers.came) other
    where
      by : (w : Vote) (x : Kind) → vote_kind w ≡ Some x → m.kind ≡ x → w ≢ votes.Abort → ⊥
      by votes.Prepared x is at no_abort = (let it : kinds.Prepared ≡ x = cc in absurd (cc (it, at, kind)))
      by votes.ReadOnly x is at no_abort = (let it : kinds.ReadOnly ≡ x = cc in absurd (cc (it, at, kind)))
      by votes.Ready x is at no_abort = (let it : kinds.Ready ≡ x = cc in absurd (cc (it, at, kind)))
      by votes.Abort x is at no_abort = no_abort refl
      by _ x is at no_abort = absurd cc

  -- who acts then abandons its collect
  pub abandons_so : {k : NodeState} {l : Live} {b : Bool} {a : Act} → Acting k (inputs.Message m) l b a → a ≡ acts.Abandon
  abandons_so (steps.Asks_down l comment b e es live begins has) = absurd (no_collects begins)
  abandons_so (steps.Has_no_children l comment b a live begins none collected) = absurd (no_collects begins)
  abandons_so (steps.Hears_abort l from b live answers) = refl
  abandons_so (steps.Waits_on l from v b live answers other some) = absurd (no_other answers other)
  abandons_so (steps.Hears_last l from v b a live answers other all collected) = absurd (no_other answers other)
  abandons_so (steps.At_point l from a live came ready pointed) = (let it : m.kind ≡ kinds.CommitPoint = came_kind m came in absurd (cc (it, kind)))

no_seal : (path : Option ℕ) → seal_act path ≡ acts.Abandon → ⊥
no_seal None is = absurd cc
no_seal (Some i) is = absurd cc

module _ (t : History) (s_lawful : IsLawfulRun t) (u : Turn) (k : NodeState) where
  abbrev pub f : Facts
  f = f_at t t.trace

  -- whom it asked is one of its children
  abbrev AskedSo : Live → Type 0
  AskedSo l = (z : BranchId) → was_asked (said_in f) l.me z ≡ true → IsIn z (children_of l)

  -- of a branch that acts
  pub asked_kids : MayTurn t.places f u k → (m : Msg) → {j : NodeState} {l : Live} {b : Bool} {a : Act} → Acting j (inputs.Message m) l b a → j.lives ≡ k.lives → (z : BranchId) → was_asked (said_in f) l.me z ≡ true → IsIn z (children_of l)
  asked_kids may m why lives =
      acting_so AskedSo
      (λ l comment b so z asked. subst (IsIn z) (sym (map_after peer with_prepare_sent peer (λ e. refl) l.edges)) (so z asked))
      (λ l from v so z asked. subst (IsIn z) (sym (voted_peers from v l.edges)) (so z asked))
      (λ b l live z asked.
      (let there : item_at live_id k.lives b ≡ Some l = ap (λ ls. item_at live_id ls b) (sym lives) ∙ live in
      asked_child t s_lawful u.node k may.up l (subst (λ c. item_at live_id k.lives c ≡ Some l) (sym (item_is live_id k.lives b l there)) there) z asked)) why

  module _ (may : MayTurn t.places f u k) (uncut : u.cut ≡ false) (none : lost_at_once (taken f.net u.took) u.sent ≡ []) (m : Msg) (it : u.input ≡ inputs.Message m) (y : Took) (took : u.took ≡ Some y)
      (no_decision : is_decision m.kind ≡ false) (no_ask : is_ask m.kind ≡ false) where
    abbrev d : TurnDraft
    d = draft_of (place_at t.places u.node) k (inputs.Message m)

    open calm t s_lawful u k may uncut none m it y took d (ap (draft_of (place_at t.places u.node) k) it) use {post_flies}

    abbrev Over : BranchId → BranchId → Type 0
    Over = quiet.Over t s_lawful u k may uncut none m it y took no_decision no_ask

    -- who abandons its collect tells its children Rollback
    pub abandon_over : (j : NodeState) (l : Live) (below : Bool) → d ≡ act_turn j l below acts.Abandon → (z : BranchId) → IsIn z (children_of l) → Over l.me z
    abandon_over j l below is z child =
        let said : IsIn (post_one l.me kinds.Rollback z) d.says
        = subst (λ (x : TurnDraft). IsIn (post_one l.me kinds.Rollback z) x.says) (sym is)
        (in_behind (post_one l.me kinds.Rollback z) (to_one l.me kinds.Abort l.parent) (map (post_one l.me kinds.Rollback) (children_of l)) (in_map (post_one l.me kinds.Rollback) z (children_of l) child)) in
        quiet.Rolls (post_flies is_rollback (post_one l.me kinds.Rollback z) said refl)

  -- an Abort leaves all so
  pub abort_obliged : MayTurn t.places f u k → u.cut ≡ false → lost_at_once (taken f.net u.took) u.sent ≡ [] → (m : Msg) → u.input ≡ inputs.Message m → (y : Took) → u.took ≡ Some y → m.kind ≡ kinds.Abort
      → (R : ℕ → Type 0) → Obliged R f → Obliged R (facts_after t.places t.commands f (happenings.Turn u))
  abort_obliged may uncut none m it y took kind R now =
      let no_decision : is_decision m.kind ≡ false = ap is_decision kind in
      let no_ask : is_ask m.kind ≡ false = ap is_ask kind in
      let no_point : is_point m.kind ≡ false = ap is_point kind in
      quiet.quiet_obliged t s_lawful u k may uncut none m it y took no_decision no_ask R now (record {
        over = λ b left z asked stays. elim left [
          | By_act j l below a lives why is me ↦ subst (λ c. quiet.Over t s_lawful u k may uncut none m it y took no_decision no_ask c z) me
              (abandon_over may uncut none m it y took no_decision no_ask j l below (subst (λ x. draft_of (place_at t.places u.node) k (inputs.Message m) ≡ act_turn j l below x) (abandons_so m kind why) is) z
              (asked_kids may m why lives z (subst (λ c. was_asked (said_in f) c z ≡ true) (sym me) asked)))
          | By_rollback l drops ↦ (let of : is_decision m.kind ≡ true = drops_of m drops in absurd (cc (of, no_decision)))
          | By_ask l from came ↦ (let of : is_ask m.kind ≡ true = ap is_ask (came_kind m came) in absurd (cc (of, no_ask)))
        ];
        seals = λ x seals. elim seals [ By_seal j l below path why is ↦ absurd (no_seal path (abandons_so m kind why)) ];
        points = λ is. absurd (cc (is, no_point));
        born = born_so t s_lawful u k may uncut none m it y took no_decision no_ask;
      })
