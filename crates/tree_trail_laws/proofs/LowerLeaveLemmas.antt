-- In every lawful run branches below roots seal and decide on what is told to have come to them.
use Rattle.std.proofs.Common.{◌≡◌, ◌≢◌, ◌⊎◌, List, ◌∷◌, ◌++◌, Some, None, inl, inr, sym, subst, ◌∙◌}
use Rattle.std.specs.Prelude.{IfSome}
use Rattle.tran_ids.proofs.ListedLemmas.{item_is}
use Rattle.node_rules.specs.Data.{BranchId, Live, RedoRecord}
use Rattle.node_rules.specs.Data.records
use Rattle.node_rules.specs.Words.{item_at}
use Rattle.node_rules.specs.NodeState.{NodeState, live_id, live_at}
use Rattle.run_rules.specs.Branches.{Seen, seen_at}
use Rattle.run_rules.specs.Data.{Turn, Happening}
use Rattle.run_rules.specs.Data.happenings
use Rattle.run_rules.specs.Facts.{first_facts, node_at}
use Rattle.run_claims.specs.Knowledge.{IsLastVote, IsPrepareToLeaf, IsCommitPoint}
use Rattle.run_rules.specs.Lawful.{History, IsLawfulRun}
use Rattle.run_base_laws.specs.NodeLaws.{EachFactFrom}
use Rattle.run_branch_laws.specs.PhaseLaws.{PhaseFits}
use Rattle.run_base_laws.proofs.OwnLemmas.{all_found}
use Rattle.run_branch_laws.proofs.PhaseLemmas.{phases_fit}
use Rattle.tree_laws.proofs.PrefixLemmas.{so_far, f_at}
use Rattle.book_laws.specs.LeaveLaws.{SealsOn, DecidesOn, LeavesOn, LeavesDuly}
use Rattle.book_laws.proofs.LeaveLemmas.{branches_leave_duly}
use Rattle.tree_laws.proofs.TimeLemmas.{part_lawful, fact_at}
use Rattle.tree_trail_laws.specs.LeaveLaws.{LeavesBelow, LeavesAsTraced, LowerLeaveAsTraced}
use Rattle.tree_trail_laws.specs.LowerLaws.{IsTracedLive}
use Rattle.tree_trail_laws.proofs.LeaveLemmas.{pointed, seals}
use Rattle.tree_trail_laws.proofs.LowerRunLemmas.{lower_at}
use Rattle.tree_trail_laws.proofs.MomentLemmas.{tr_at, by_moment}
use Rattle.tree_laws.proofs.AtTurn.{at_turn}
use Rattle.tree_trail_laws.proofs.AtTrail.{at_trail}

module _ (t : History) (whole : IsLawfulRun t) where
  module _ (hs : List Happening) (u : Turn) (rest : List Happening) (is : hs ++ happenings.Turn u ∷ rest ≡ t.trace) (k : NodeState) (up : node_at (f_at t hs) u.node ≡ Some k) where
    open at_turn t whole hs u rest is use {part as part0}
    open at_trail t hs u use {tr as tr0}

    leaves : IfSome u.wrote (LeavesOn k.lives u.input)
    leaves =
        let all : LeavesDuly (f_at t hs) (happenings.Turn u) = fact_at t.places t.commands LeavesDuly (first_facts t.places) hs (happenings.Turn u) rest
        (subst (EachFactFrom LeavesDuly t.places t.commands (first_facts t.places)) (sym is) (branches_leave_duly t whole)) in
        all k up

    phase_of : (b : BranchId) (l : Live) → live_at k b ≡ Some l → PhaseFits l.parent l.edges l.phase
    phase_of b l live = all_found (λ l. PhaseFits l.parent l.edges l.phase) live_id k.lives b l (phases_fit (so_far t hs) (part_lawful t whole hs part0) u.node k up) live

    -- the live branch of a record is the one that leaves
    one_live : (b : BranchId) (l x : Live) → live_at k b ≡ Some l → item_at live_id k.lives b ≡ Some x → x ≡ l
    one_live b l x live found = let both : Some x ≡ Some l = sym found ∙ live in let it : x ≡ l = cc in it

    module _ (b : BranchId) (l : Live) (live : live_at k b ≡ Some l) (below : l.parent ≢ None) where
      me : l.me ≡ b
      me = item_is live_id k.lives b l live

      told : (s : Seen) × (seen_at tr0 l.me ≡ Some s) × IsTracedLive l s
      told = lower_at t whole hs part0 u.node k up l (subst (λ c. live_at k c ≡ Some l) (sym me) live) below

      pub seals_below : SealsOn l u.input → IsLastVote tr0 b u.input ⊎ (IsPrepareToLeaf tr0 b u.input ⊎ IsCommitPoint tr0 b u.input)
      seals_below on = subst (λ c. IsLastVote tr0 c u.input ⊎ (IsPrepareToLeaf tr0 c u.input ⊎ IsCommitPoint tr0 c u.input)) me (seals tr0 l told.0 told.1 told.2 (phase_of b l live) u.input on)

      pub decides_below : DecidesOn l u.input → IsCommitPoint tr0 b u.input
      decides_below (inl point) = subst (λ c. IsCommitPoint tr0 c u.input) me (pointed tr0 l told.0 told.1 told.2 (phase_of b l live) u.input point)
      decides_below (inr (root, how)) = absurd (below root)

    by_record : (r : RedoRecord) → LeavesOn k.lives u.input r → LeavesBelow tr0 k u.input r
    by_record (records.Sealed r) on = λ l live below. seals_below r.me l live below (subst (λ x. SealsOn x u.input) (one_live r.me l on.0 live on.1) on.2)
    by_record (records.Decided r) on = λ l live below. decides_below r.me l live below (subst (λ x. DecidesOn x u.input) (one_live r.me l on.0 live on.1) on.2)
    by_record _ on = tt

    pub record_leaves : (r : RedoRecord) → u.wrote ≡ Some r → LeavesBelow tr0 k u.input r
    record_leaves r wrote = by_record r (subst (λ w. IfSome w (LeavesOn k.lives u.input)) wrote leaves)

  leaves_at : (hs : List Happening) (h : Happening) (rest : List Happening) → hs ++ h ∷ rest ≡ t.trace → LeavesAsTraced t.places (f_at t hs) (tr_at t hs) h
  leaves_at hs (happenings.Turn u) rest is = λ k up r wrote. record_leaves hs u rest is k up r wrote
  leaves_at hs _ rest is = tt

pub lower_leave_as_traced : LowerLeaveAsTraced
lower_leave_as_traced t lawful = by_moment t LeavesAsTraced (leaves_at t lawful)
