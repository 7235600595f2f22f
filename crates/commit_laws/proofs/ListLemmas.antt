-- What is so of all of a list, and of those that are in it.
use Rattle.std.proofs.Common.{◌≡◌, ◌⊎◌, List, [], ◌∷◌, ◌++◌, inl, inr, refl, subst}
use Rattle.std.specs.List.{AllByRecursion}

-- an item is in a list
abbrev pub IsIn : {A : Type 0} → A → List A → Type 0
IsIn a [] = ⊥
IsIn a (x ∷ xs) = (x ≡ a) ⊎ IsIn a xs

module _ {A : Type 0} (P : A → Type 0) where
  pub all_in : (xs : List A) → ((a : A) → IsIn a xs → P a) → AllByRecursion P xs
  all_in [] each = tt
  all_in (x ∷ xs) each = (each x (inl refl), all_in xs (λ a at. each a (inr at)))

  pub in_all : (xs : List A) (a : A) → AllByRecursion P xs → IsIn a xs → P a
  in_all [] a all at = absurd at
  in_all (x ∷ xs) a all (inl is) = subst P is all.0
  in_all (x ∷ xs) a all (inr at) = in_all xs a all.1 at

  -- what is so of all is so of the one in the middle
  pub all_at : (xs : List A) (x : A) (ys : List A) → AllByRecursion P (xs ++ x ∷ ys) → P x
  all_at [] x ys all = all.0
  all_at (z ∷ xs) x ys all = all_at xs x ys all.1
