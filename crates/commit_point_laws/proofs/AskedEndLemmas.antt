-- In every lawful run each branch of an undisturbed COMMIT that was asked to prepare is live no more when nothing is in flight:
-- Prepare came to it, its collect is over, and it is not Ready.
use Rattle.std.proofs.Common.{◌≡◌, true, Option, Some, None, inl, inr, refl, sym, subst, ◌∙◌}
use Rattle.agreement.specs.Events.{exit}
use Rattle.node_rules.specs.Data.{BranchId}
use Rattle.node_rules.specs.NodeState.{live_at}
use Rattle.run_rules.specs.Births.{Born, births_of}
use Rattle.run_base_laws.specs.BirthLaws.{Began}
use Rattle.run_rules.specs.Facts.{node_at}
use Rattle.run_base_laws.specs.FreezeLaws.{was_asked}
use Rattle.run_base_laws.specs.InTurnLaws.{said_in}
use Rattle.run_rules.specs.Lawful.{History, IsLawfulRun, facts_at}
use Rattle.run_base_laws.specs.RunEvents.{events_of}
use Rattle.tree_laws.specs.Forests.{asked_by}
use Rattle.tree_laws.proofs.ForestLemmas as trees
use Rattle.tree_laws.proofs.ForestRunLemmas.{run_known}
use Rattle.commit_laws.specs.DeliveryLaws.{IsBusy}
use Rattle.commit_laws.specs.StillLaws.{DroppedNone}
use Rattle.run_claims.specs.Undisturbed.{Commit, Undisturbed}
use Rattle.commit_laws.proofs.RootLemmas.{undisturbed_roots_leave}
use Rattle.commit_point_laws.specs.EndLaws.{UndisturbedAskedLeave}
use Rattle.commit_point_laws.proofs.CalmLemmas.{prepare_heard}
use Rattle.commit_point_laws.proofs.ReadyEndLemmas.{all, TreeLives, tree_lives, leave_ready}

module _ (t : History) (whole : IsLawfulRun t) (c : Commit t.places t.commands t.trace) (u : Undisturbed t.places t.commands t.trace c) (below : DroppedNone t c.root) where
  abbrev r : BranchId
  r = c.root

  known : trees.Known (births_of t) (said_in (facts_at t))
  known = run_known t whole

  module _ (x : Born) (began : Began (births_of t) x) (of : x.root ≡ r) (w : TreeLives t whole c u below x) where
    -- a root
    root_not : x.parent ≡ None → ⊥
    root_not top =
        let me : x.me ≡ r = sym (trees.stands_so (births_of t) (said_in (facts_at t)) known x None began top).0 ∙ of in
        let up : node_at (facts_at t) r.node ≡ Some w.kept = subst (λ i. node_at (facts_at t) i.node ≡ Some w.kept) me w.up in
        let none : live_at w.kept r ≡ None = undisturbed_roots_leave t whole c u below w.kept up in
        let some : live_at w.kept r ≡ Some w.live = subst (λ i. live_at w.kept i ≡ Some w.live) (w.is_me ∙ me) w.found in
        absurd (cc (none, some))

    -- one whose parent asked it
    kid_not : (q : BranchId) → x.parent ≡ Some q → was_asked (said_in (facts_at t)) q x.me ≡ true → ⊥
    kid_not q above asked = elim w.phase [
      | inr ready ↦ leave_ready t whole c u below x.me.node w.kept w.up w.live w.found w.of_root ready
      | inl working ↦ (let up = trees.below_of (births_of t) (said_in (facts_at t)) known x q began above in
          let busy : IsBusy (facts_at t) x.me
          = prepare_heard t whole c u (all t whole c u below) up.up up.began (up.is_root ∙ of) x.me (subst (λ i. was_asked (said_in (facts_at t)) i x.me ≡ true) (sym up.is_me) asked) in
          busy w.kept w.live w.up (subst (λ i. live_at w.kept i ≡ Some w.live) w.is_me w.found) working)
    ]

    not_live : asked_by (said_in (facts_at t)) x.me x.parent ≡ true → ⊥
    not_live asked = by x.parent refl asked
      where
        by : (o : Option BranchId) → x.parent ≡ o → asked_by (said_in (facts_at t)) x.me o ≡ true → ⊥
        by None is asked_it = root_not is
        by (Some q) is asked_it = kid_not q is asked_it

pub undisturbed_asked_leave : UndisturbedAskedLeave
undisturbed_asked_leave t whole c u below b member of none =
    let it : trees.Member (births_of t) (said_in (facts_at t)) (run_known t whole) b = trees.member_is (births_of t) (said_in (facts_at t)) (run_known t whole) b member in
    let its : it.born.root ≡ c.root = sym (trees.root_is (births_of t) (said_in (facts_at t)) (run_known t whole) it.born b it.began it.is_me) ∙ of in
    let still : exit (events_of t) it.born.me ≡ None = subst (λ i. exit (events_of t) i ≡ None) (sym it.is_me) none in
    not_live t whole c u below it.born it.began its (tree_lives t whole c u below it.born it.began its still) (subst (λ i. asked_by (said_in (facts_at t)) i it.born.parent ≡ true) (sym it.is_me) it.asked)
