-- Where a transaction is decided, its plan is that of the tree that was told when the COMMIT came.
use Rattle.std.proofs.Common.{◌≡◌, List, ◌∷◌, ◌++◌, Some, None, sym, ap, subst, ◌∙◌}
use Rattle.node_rules.specs.Data.{BranchId, Live}
use Rattle.node_rules.specs.declared.session.PendingCall.TheVariants as pending
use Rattle.node_rules.specs.Data.stmts
use Rattle.node_rules.specs.Inputs.{IsSession}
use Rattle.node_rules.specs.NodeState.{NodeState, live_at}
use Rattle.node_rules.specs.Sessions.{session_at}
use Rattle.node_rules.proofs.StandLemmas.{live_so}
use Rattle.run_rules.specs.Data.{Happening}
use Rattle.run_rules.specs.Data.happenings
use Rattle.run_rules.specs.Facts.{Facts, first_facts, node_at, facts_after}
use Rattle.run_rules.specs.Branches.{Seen, Trail, no_trail, seen_at, root_at, plan_at}
use Rattle.run_rules.specs.Lawful.{MayHappen, MayTurn, History, IsLawfulRun}
use Rattle.run_rules.specs.Trail.{trail_after, trail_of}
use Rattle.run_rules.specs.Tree.{plan}
use Rattle.run_base_laws.proofs.LawfulLemmas.{turn_of_node}
use Rattle.run_base_laws.proofs.RootLemmas.{roots_are_of_sessions}
use Rattle.tree_laws.proofs.PrefixLemmas.{so_far, f_at}
use Rattle.tree_laws.proofs.FindLemmas.{WasFound}
use Rattle.tree_laws.proofs.TimeLemmas.{part_lawful, may_of}
use Rattle.tree_trail_laws.proofs.CallLemmas.{call_free, seen_root}
use Rattle.tree_trail_laws.proofs.FullLemmas.{Sees, SeesAll}
use Rattle.tree_trail_laws.proofs.MomentLemmas.{tr_at, trail_join, trail_keeps, at_moment}
use Rattle.tree_trail_laws.proofs.PlanLemmas.{plan_stays, plan_here}

module _ (t : History) (whole : IsLawfulRun t) (sees : SeesAll t) (r : BranchId) (found : WasFound t whole r t.trace) where
  open found use {before as hs0, turn as v, commit as at}

  abbrev f0 : Facts
  f0 = f_at t hs0

  abbrev tr0 : Trail
  tr0 = tr_at t hs0

  abbrev k : NodeState
  k = at.kept

  saw : Sees f0 tr0
  saw = at_moment t (λ places f tr h. Sees f tr) sees hs0 (happenings.Turn v) found.later found.is

  up : node_at f0 v.node ≡ Some k
  up = subst (λ i. node_at f0 i ≡ Some k) (sym at.node) at.up

  may : MayHappen t.places t.commands f0 (happenings.Turn v)
  may = may_of t whole hs0 (happenings.Turn v) found.later found.is

  may_k : MayTurn t.places f0 v k
  may_k = turn_of_node t.places f0 v k t.commands may up

  free : IsSession at.session × ((session_at k.sessions at.session).call ≡ pending.NoCall)
  free = call_free f0 k v.node v.input v.took at.session (Some (stmts.Commit at.given)) at.call may_k.comes

  top : (s : Seen) × (root_at tr0 v.node at.session ≡ Some s) × (s.me ≡ r) × ((l : Live) × (live_at k r ≡ Some l)) × (seen_at tr0 r ≡ Some s)
  top = seen_root tr0 k (root_at tr0 v.node at.session) (session_at k.sessions at.session).root r at.root (saw.roots v.node k up at.session free.0 free.1)

  abbrev l : Live
  l = at.branch.live

  l_found : live_at k l.me ≡ Some l
  l_found = live_so k l.me at.branch at.found

  root_alone : l.parent ≡ None
  root_alone = (roots_are_of_sessions (so_far t hs0) (part_lawful t whole hs0 (record { rest = happenings.Turn v ∷ found.later; is = found.is })) v.node k up at.session r at.root).1 l (subst (λ c. live_at k c ≡ Some l) at.is_me l_found)

  unplanned : plan_at tr0 top.0.me ≡ None
  unplanned = let it = saw.lives v.node k up l l_found in subst (λ c. plan_at tr0 c ≡ None) (at.is_me ∙ sym top.2) (it.2.unplanned root_alone at.working)

  -- its transaction is not READ ONLY
  writer : top.0.read_at ≡ None
  writer =
      let it = saw.lives v.node k up l l_found in
      let both : Some it.0 ≡ Some top.0 = sym it.1 ∙ (ap (λ c. seen_at tr0 c) at.is_me ∙ top.4) in
      let one : it.0 ≡ top.0 = cc in
      ap (λ (s : Seen). s.read_at) (sym one) ∙ (it.2.told.read_at ∙ at.writes)

  planned_then : plan_at (trail_after t.places f0 tr0 (happenings.Turn v)) r ≡ Some (plan t.places tr0 r)
  planned_then =
      subst (λ c. plan_at (trail_after t.places f0 tr0 (happenings.Turn v)) c ≡ Some (plan t.places tr0 c)) top.2
      (plan_here t.places f0 tr0 v k up at.session at.given at.call at.code top.0 top.1 writer unplanned)

  -- the plan at a later moment
  pub planned_after : (mid : List Happening) → plan_at (tr_at t (hs0 ++ happenings.Turn v ∷ mid)) r ≡ Some (plan t.places tr0 r)
  unfolding trail_of
  planned_after mid =
      subst (λ tr. plan_at tr r ≡ Some (plan t.places tr0 r)) (sym (trail_join t.places t.commands (first_facts t.places) no_trail hs0 (happenings.Turn v ∷ mid)))
      (trail_keeps t.places t.commands (λ tr. plan_at tr r ≡ Some (plan t.places tr0 r)) (λ f tr h now. plan_stays t.places f tr h r (plan t.places tr0 r) now)
      (facts_after t.places t.commands f0 (happenings.Turn v)) (trail_after t.places f0 tr0 (happenings.Turn v)) mid planned_then)
