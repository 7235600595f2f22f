-- A list in the order of its branches, with one more item: what holds of all items, sums over them, and the list of what is made
-- of each.
use Rattle.std.proofs.Common.{◌≡◌, ℕ, ◌+◌, Bool, true, false, if◌then◌else◌, List, [], ◌∷◌, map, refl, ap, arith}
use Rattle.std.specs.Prelude.{sum_by}
use Rattle.std.specs.List.{AllByRecursion}
use Rattle.std.proofs.lemmas.List.Sums.{sum_by-cons}
use Rattle.tran_ids.specs.Branch.{branch_below, put_by_branch}
use Rattle.tran_ids.specs.declared.branch.BranchId.{BranchId}

module _ {A : Type 0} (id : A → BranchId) where
  -- what holds of each item and of the new one
  pub all_placed : (P : A → Type 0) (xs : List A) (x : A) → AllByRecursion P xs → P x → AllByRecursion P (put_by_branch id xs x)
  all_placed P [] x all new = (new, tt)
  all_placed P (y ∷ ys) x all new = by (branch_below (id x) (id y)) (all_placed P ys x all.1 new)
    where
      by : (here : Bool) → AllByRecursion P (put_by_branch id ys x) → AllByRecursion P (if here then x ∷ y ∷ ys else y ∷ put_by_branch id ys x)
      by true rest = (new, all)
      by false rest = (all.0, rest)

  -- a sum over the items
  pub sum_placed : (f : A → ℕ) (xs : List A) (x : A) → sum_by f (put_by_branch id xs x) ≡ sum_by f xs + f x
  sum_placed f [] x =
      let one = sum_by-cons f x [] in
      let none : sum_by f [] ≡ 0 = refl in
      omega (arith, one, none)
  sum_placed f (y ∷ ys) x = by (branch_below (id x) (id y)) (sum_placed f ys x)
    where
      by : (here : Bool) → sum_by f (put_by_branch id ys x) ≡ sum_by f ys + f x → sum_by f (if here then x ∷ y ∷ ys else y ∷ put_by_branch id ys x) ≡ sum_by f (y ∷ ys) + f x
      by true rest =
          let new = sum_by-cons f x (y ∷ ys) in
          omega (arith, new)
      by false rest =
          let old = sum_by-cons f y ys in
          let first = sum_by-cons f y (put_by_branch id ys x) in
          omega (arith, old, first, rest)

  -- what is made of each item, where the branch stays
  pub map_placed : {B : Type 0} (make : B → A) (xs : List B) (x : B) → map make (put_by_branch (λ y. id (make y)) xs x) ≡ put_by_branch id (map make xs) (make x)
  map_placed make [] x = refl
  map_placed {B} make (y ∷ ys) x = by (branch_below (id (make x)) (id (make y))) (map_placed make ys x)
    where
      by : (here : Bool) → map make (put_by_branch (λ z. id (make z)) ys x) ≡ put_by_branch id (map make ys) (make x)
          → map make (if here then x ∷ y ∷ ys else y ∷ put_by_branch (λ z. id (make z)) ys x) ≡ (if here then make x ∷ make y ∷ map make ys else make y ∷ put_by_branch id (map make ys) (make x))
      by true rest = refl
      by false rest = ap (λ zs. make y ∷ zs) rest
