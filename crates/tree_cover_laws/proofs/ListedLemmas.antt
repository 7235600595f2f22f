-- Which branches a trail has in the tree of a branch: those that children lead to.
use Rattle.std.proofs.Common.{◌≡◌, ℕ, zero, suc, ◌+◌, slice_get, List, [], ◌∷◌, ◌++◌, map, Some, refl, sym, ap, subst, arith}
use Rattle.std.specs.Prelude.{flat_map}
use Rattle.node_rules.specs.Data.{BranchId}
use Rattle.node_rules.specs.Words.{numbered}
use Rattle.run_rules.specs.Branches.{Trail, children_at}
use Rattle.run_rules.specs.Tree.{tree_in}

-- an item of a list, with its place
abbrev pub IsListed : {A : Type 0} → List A → A → Type 0
IsListed xs x = (place : ℕ) × (slice_get xs place ≡ Some x)

none_listed : {A : Type 0} (i : ℕ) (x : A) → slice_get [] i ≡ Some x → ⊥
none_listed zero x at = absurd cc
none_listed (suc i) x at = absurd cc

listed_left : {A : Type 0} (xs ys : List A) (x : A) → IsListed xs x → IsListed (xs ++ ys) x
listed_left [] ys x it = absurd (none_listed it.0 x it.1)
listed_left (z ∷ xs) ys x it = by it.0 it.1 (λ j at. listed_left xs ys x (j, at))
  where
    by : (i : ℕ) → slice_get (z ∷ xs) i ≡ Some x → ((j : ℕ) → slice_get xs j ≡ Some x → IsListed (xs ++ ys) x) → IsListed (z ∷ (xs ++ ys)) x
    by zero at further = (0, at)
    by (suc j) at further = (let more = further j at in (suc more.0, more.1))

listed_right : {A : Type 0} (xs ys : List A) (x : A) → IsListed ys x → IsListed (xs ++ ys) x
listed_right [] ys x it = it
listed_right (z ∷ xs) ys x it = let more = listed_right xs ys x it in (suc more.0, more.1)

pub listed_map : {A B : Type 0} (f : A → B) (xs : List A) (x : A) → IsListed xs x → IsListed (map f xs) (f x)
listed_map f [] x it = absurd (none_listed it.0 x it.1)
listed_map f (z ∷ xs) x it = by it.0 it.1 (λ j at. listed_map f xs x (j, at))
  where
    by : (i : ℕ) → slice_get (z ∷ xs) i ≡ Some x → ((j : ℕ) → slice_get xs j ≡ Some x → IsListed (map f xs) (f x)) → IsListed (f z ∷ map f xs) (f x)
    by zero at further = (0, (let same : Some z ≡ Some x = at in let it : z ≡ x = cc in ap (λ y. Some (f y)) it))
    by (suc j) at further = (let more = further j at in (suc more.0, more.1))

listed_flat : (g : BranchId → List BranchId) (cs : List BranchId) (i : ℕ) (e c : BranchId) → numbered cs i ≡ Some e → IsListed (g e) c → IsListed (flat_map g cs) c
listed_flat g [] zero e c at it = absurd cc
listed_flat g [] (suc i) e c at it = absurd (none_listed i e at)
listed_flat g (d ∷ cs) zero e c at it = absurd cc
listed_flat g (d ∷ cs) (suc zero) e c at it = (let same : Some d ≡ Some e = at in let one : d ≡ e = cc in listed_left (g d) (flat_map g cs) c (subst (λ b. IsListed (g b) c) (sym one) it))
listed_flat g (d ∷ cs) (suc (suc i)) e c at it = listed_right (g d) (flat_map g cs) c (listed_flat g cs (suc i) e c at it)

module _ (tr : Trail) where
  -- Children lead from a branch to another, through less than so many levels.
  pub data Reach : ℕ → BranchId → BranchId → Type 0 where
    Itself : (m : ℕ) (b : BranchId) → Reach (suc m) b b
    Further : (m i : ℕ) (b e c : BranchId) → numbered (children_at tr b) i ≡ Some e → Reach m e c → Reach (suc m) b c

  reach_more : (m : ℕ) (b c : BranchId) → Reach m b c → Reach (suc m) b c
  reach_more m b c (Itself n _) = Itself (suc n) b
  reach_more m b c (Further n i _ e _ at rest) = Further (suc n) i b e c at (reach_more n e c rest)

  pub reach_up : (k m : ℕ) (b c : BranchId) → Reach m b c → Reach (k + m) b c
  reach_up zero m b c it = (let same : m ≡ 0 + m = omega arith in subst (λ n. Reach n b c) same it)
  reach_up (suc k) m b c it = (let same : suc (k + m) ≡ suc k + m = omega arith in subst (λ n. Reach n b c) same (reach_more (k + m) b c (reach_up k m b c it)))

  pub reach_kid : (m i : ℕ) (b c d : BranchId) → Reach m b c → numbered (children_at tr c) i ≡ Some d → Reach (suc m) b d
  reach_kid m i b c d (Itself n _) at = Further (suc n) i b d d at (Itself n d)
  reach_kid m i b c d (Further n j _ e _ there rest) at = Further (suc n) j b e d there (reach_kid n i e c d rest at)

  pub reach_listed : (m : ℕ) (b c : BranchId) → Reach m b c → IsListed (tree_in m tr b) c
  reach_listed m b c (Itself n _) = (0, refl)
  reach_listed m b c (Further n i _ e _ at rest) = let it = listed_flat (tree_in n tr) (children_at tr b) i e c at (reach_listed n e c rest) in (suc it.0, it.1)
