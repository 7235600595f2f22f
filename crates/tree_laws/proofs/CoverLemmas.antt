-- Where a branch has decided, each branch of its tree that was asked has left without a rollback.
use Rattle.std.proofs.Common.{◌≡◌, ◌≢◌, ℕ, ◌⊎◌, true, Some, inl, inr, refl, sym, ap, subst, ◌∙◌}
use Rattle.agreement.specs.Events.{Forest, Exit, Sealed, Decided, Quiet, Dropped, exit, site_of, Lawful}
use Rattle.agreement.proofs.AgreementLaws.{covered}
use Rattle.agreement.proofs.InvariantKept.{inv}
use Rattle.node_rules.specs.Data.{BranchId}
use Rattle.run_rules.specs.Births.{Born, births_of}
use Rattle.run_base_laws.specs.BirthLaws.{Began}
use Rattle.run_rules.specs.Lawful.{History, IsLawfulRun, facts_at}
use Rattle.run_base_laws.specs.InTurnLaws.{said_in}
use Rattle.run_base_laws.specs.FreezeLaws.{was_asked}
use Rattle.run_base_laws.specs.RunEvents.{events_of}
use Rattle.run_branch_laws.proofs.JustLemmas.{just_runs_are_lawful}
use Rattle.run_branch_laws.proofs.TreeJustLemmas.{runs_by_trees_are_just}
use Rattle.tree_laws.specs.Forests.{asked_by, site_from, forest_of}
use Rattle.tree_laws.proofs.AgreeLemmas.{runs_go_by_forest}
use Rattle.tree_laws.proofs.ForestLemmas as trees
use Rattle.tree_laws.proofs.ForestRunLemmas.{runs_have_forests}
use Rattle.tree_laws.proofs.SettleRunLemmas.{known}
use Rattle.tree_laws.proofs.MemberLemmas.{IsIn}

module _ (t : History) (whole : IsLawfulRun t) where
  abbrev p : Forest
  p = forest_of t

  lawful_events : Lawful p (events_of t)
  lawful_events = just_runs_are_lawful t p (runs_by_trees_are_just t whole p (runs_go_by_forest t whole))

  module _ (b : BranchId) (n : ℕ) (decided : exit (events_of t) b ≡ Some (Decided n)) (r : BranchId) (inside : IsIn (births_of t) r b) where
    pub at_site : b ≡ site_of p b
    at_site = (inv p (events_of t) (runs_have_forests t whole) lawful_events).decided_at b n decided

    site_is : (x : Born) → Began (births_of t) x → x.root ≡ r → site_of p x.me ≡ b
    site_is x began root =
        trees.site_is (births_of t) (said_in (facts_at t)) (known t whole) x x.me began refl ∙
        (ap (site_from (births_of t) (said_in (facts_at t))) (root ∙ sym inside.3) ∙ (sym (trees.site_is (births_of t) (said_in (facts_at t)) (known t whole) inside.0 b inside.1 inside.2) ∙ sym at_site))

    -- no other branch of the tree decides
    pub one_decides : (c : BranchId) (m : ℕ) → exit (events_of t) c ≡ Some (Decided m) → IsIn (births_of t) r c → c ≡ b
    one_decides c m left here =
        (inv p (events_of t) (runs_have_forests t whole) lawful_events).decided_at c m left ∙ (ap (site_of p) (sym here.2) ∙ site_is here.0 here.1 here.3)

    -- it leaves as the decision covers it
    pub leaves_covered : (x : Born) → Began (births_of t) x → x.root ≡ r → asked_by (said_in (facts_at t)) x.me x.parent ≡ true
        → (x.me ≡ b) ⊎ (((m : ℕ) × (exit (events_of t) x.me ≡ Some (Sealed m))) ⊎ (exit (events_of t) x.me ≡ Some Quiet))
    leaves_covered x began root asked =
        let site : site_of p x.me ≡ b = site_is x began root in
        elim (covered p (events_of t) x.me n (runs_have_forests t whole) lawful_events (subst (λ c. exit (events_of t) c ≡ Some (Decided n)) (sym site) decided) (trees.member_of (births_of t) (said_in (facts_at t)) (known t whole) x x.me began refl asked)) [
          | inl here ↦ inl (here ∙ site)
          | inr so ↦ elim so.2 [ inl sealed ↦ inr (inl (sealed.0, sealed.1)) | inr quiet ↦ inr (inr quiet) ]
        ]

    -- without a rollback
    pub leaves_well : (x : Born) → Began (births_of t) x → x.root ≡ r → asked_by (said_in (facts_at t)) x.me x.parent ≡ true → (z : Exit) × (exit (events_of t) x.me ≡ Some z) × (z ≢ Dropped)
    leaves_well x began root asked = elim (leaves_covered x began root asked) [
      | inl here ↦ (Decided n, subst (λ c. exit (events_of t) c ≡ Some (Decided n)) (sym here) decided, (λ is. absurd cc))
      | inr other ↦ elim other [ inl sealed ↦ (Sealed sealed.0, sealed.1, (λ is. absurd cc)) | inr quiet ↦ (Quiet, quiet, (λ is. absurd cc)) ]
    ]

    -- of a child that was asked
    pub asked_well : (q c : BranchId) → was_asked (said_in (facts_at t)) q c ≡ true → IsIn (births_of t) r c → (z : Exit) × (exit (events_of t) c ≡ Some z) × (z ≢ Dropped)
    asked_well q c asked here =
        let kid = (known t whole).child q c asked in
        let one : kid.0 ≡ here.0 = trees.same_born (births_of t) (said_in (facts_at t)) (known t whole) kid.0 here.0 kid.1 here.1 (kid.2 ∙ sym here.2) in
        let parent : here.0.parent ≡ Some q = subst (λ (x : Born). x.parent ≡ Some q) one kid.3 in
        let heard : was_asked (said_in (facts_at t)) q here.0.me ≡ true = subst (λ d. was_asked (said_in (facts_at t)) q d ≡ true) (sym here.2) asked in
        let so = leaves_well here.0 here.1 here.3 (subst (λ o. asked_by (said_in (facts_at t)) here.0.me o ≡ true) (sym parent) heard) in
        (so.0, subst (λ d. exit (events_of t) d ≡ Some so.0) here.2 so.1, so.2)
