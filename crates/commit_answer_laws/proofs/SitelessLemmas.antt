-- In a plan without a site no branch has another way there than its parent.
use Rattle.std.proofs.Common.{◌≡◌, ℕ, zero, suc, Bool, true, false, if◌then◌else◌, find, is_none, List, [], ◌∷◌, map, slice_get, Option, Some, None, refl, sym, ap, subst, ◌∙◌}
use Rattle.std.specs.List.{AllByRecursion}
use Rattle.std.proofs.lemmas.Bool.{cond_both}
use Rattle.node_rules.specs.Data.{Answer, BranchId, Input, Place}
use Rattle.run_rules.specs.Branches.{CommitPlan, PlannedBranch, Seen, Trail, plan_at, is_plan_of, no_trail}
use Rattle.run_rules.specs.Data.{Happening}
use Rattle.run_rules.specs.Data.happenings
use Rattle.run_rules.specs.Facts.{Facts, first_facts, outcome_at}
use Rattle.run_rules.specs.Lawful.{History}
use Rattle.run_rules.specs.Trail.{commits, has_no_site, planned_by, called_root, trail_after, trail_of}
use Rattle.run_rules.specs.Runs.{answered_by}
use Rattle.run_rules.specs.Tree.{last_of, plan, planned, tree, walk}
use Rattle.run_rules.proofs.ListLemmas.{all_append}
use Rattle.tree_trail_laws.proofs.MomentLemmas.{tr_at, trail_keeps}
use Rattle.tree_trail_laws.proofs.SeenLemmas.{begun}

found_so : {A : Type 0} (P : A → Type 0) (q : A → Bool) (xs : List A) (y : A) → AllByRecursion P xs → find q xs ≡ Some y → P y
found_so P q [] y all is = absurd cc
found_so P q (x ∷ xs) y all is = by (q x) is (found_so P q xs y all.1)
  where
    by : (w : Bool) → (if w then Some x else find q xs) ≡ Some y → (find q xs ≡ Some y → P y) → P y
    by true is rest = subst P (let it : Some x ≡ Some y = is in cc) all.0
    by false is rest = rest is

mapped_so : {A B : Type 0} (g : A → B) (xs : List A) (i : ℕ) (y : B) → slice_get (map g xs) i ≡ Some y → (x : A) × (g x ≡ y)
mapped_so g [] i y is = absurd cc
mapped_so g (x ∷ xs) zero y is = (x, (let it : Some (g x) ≡ Some y = is in cc))
mapped_so g (x ∷ xs) (suc i) y is = mapped_so g xs i y is

no_walk : (bs : List BranchId) → last_of bs ≡ None → bs ≡ []
no_walk [] none = refl
no_walk (b ∷ []) none = absurd cc
no_walk (b ∷ c ∷ cs) none = absurd (let it : c ∷ cs ≡ [] = no_walk (c ∷ cs) none in cc)

-- without a site the way of each branch is to its parent
siteless_toward : (places : List Place) (tr : Trail) (b : BranchId) → (plan places tr b).site ≡ None → (i : ℕ) (x : PlannedBranch) → slice_get (plan places tr b).tree i ≡ Some x → x.toward ≡ x.parent
unfolding plan
siteless_toward places tr b none i x at =
    let it = mapped_so (planned places tr (walk places tr b)) (tree tr b) i x at in
    let nowhere : walk places tr b ≡ [] = no_walk (walk places tr b) none in
    subst (λ (y : PlannedBranch). y.toward ≡ y.parent) it.1 (subst (λ ws. (planned places tr ws it.0).toward ≡ (planned places tr ws it.0).parent) (sym nowhere) refl)

module _ (t : History) where
  -- a plan is that of a tree that was told
  abbrev pub WasPlanned : CommitPlan → Type 0
  WasPlanned p = (tr : Trail) × (b : BranchId) × (p ≡ plan t.places tr b)

  one_planned : (tr : Trail) (n : ℕ) (answer : Option Answer) (input : Input) (o : Option Seen) → AllByRecursion WasPlanned (planned_by t.places tr n answer input o)
  one_planned tr n answer input None = tt
  one_planned tr n answer input (Some s) = cond_both (commits n answer s input) (plan t.places tr s.me ∷ []) [] (AllByRecursion WasPlanned) (λ yes. ((tr, s.me, refl), tt)) (λ no. tt)

  pub plans_on : (f : Facts) (tr : Trail) (h : Happening) → AllByRecursion WasPlanned tr.plans → AllByRecursion WasPlanned (trail_after t.places f tr h).plans
  unfolding trail_after
  plans_on f tr (happenings.Turn u) all = all_append WasPlanned tr.plans _ all (one_planned (begun t.places f tr u) u.node (answered_by (outcome_at t.places f u)) u.input (called_root (begun t.places f tr u) u.node u.input))
  plans_on f tr _ all = all

  pub plans_were : (hs : List Happening) → AllByRecursion WasPlanned (tr_at t hs).plans
  unfolding trail_of
  plans_were hs = trail_keeps t.places t.commands (λ tr. AllByRecursion WasPlanned tr.plans) plans_on (first_facts t.places) no_trail hs tt

  pub siteless_way : (tr : Trail) → AllByRecursion WasPlanned tr.plans → (g : BranchId) (p : CommitPlan) → plan_at tr g ≡ Some p → has_no_site (Some p) ≡ true → (i : ℕ) (x : PlannedBranch) → slice_get p.tree i ≡ Some x → x.toward ≡ x.parent
  siteless_way tr all g p at siteless i x listed =
      let it : WasPlanned p = found_so WasPlanned (is_plan_of g) tr.plans p all at in
      siteless_toward t.places it.0 it.1 (no_one (plan t.places it.0 it.1).site (ap (λ (q : CommitPlan). is_none q.site) (sym it.2) ∙ siteless)) i x (subst (λ (q : CommitPlan). slice_get q.tree i ≡ Some x) it.2 listed)
    where
      no_one : (o : Option BranchId) → is_none o ≡ true → o ≡ None
      no_one None is = refl
      no_one (Some b) is = absurd cc
