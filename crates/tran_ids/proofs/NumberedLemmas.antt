-- Items by number, from 1: what is found after one was set.
use Rattle.std.proofs.Common.{◌≡◌, ◌≢◌, ◌⊎◌, inl, inr, ℕ, zero, suc, List, [], ◌∷◌, length, slice_get, slice_set, Some, refl, ap, length-set}
use Rattle.tran_ids.specs.Listed.{numbered, set_numbered}

module _ {A : Type 0} where
  slice_found : (xs : List A) (i : ℕ) (x y : A) → slice_get xs i ≡ Some x → slice_get (slice_set xs i y) i ≡ Some y
  slice_found [] i x y found = absurd cc
  slice_found (z ∷ zs) zero x y found = refl
  slice_found (z ∷ zs) (suc i) x y found = slice_found zs i x y found

  slice_or : (xs : List A) (i j : ℕ) (y : A) → (slice_get (slice_set xs i y) j ≡ slice_get xs j) ⊎ ((i ≡ j) × (slice_get (slice_set xs i y) j ≡ Some y))
  slice_or [] i j y = inl refl
  slice_or (x ∷ xs) zero zero y = inr (refl, refl)
  slice_or (x ∷ xs) zero (suc j) y = inl refl
  slice_or (x ∷ xs) (suc i) zero y = inl refl
  slice_or (x ∷ xs) (suc i) (suc j) y = elim (slice_or xs i j y) [ inl same ↦ inl same | inr new ↦ inr (ap suc new.0, new.1) ]

  -- there are as many as before
  pub set_length : (xs : List A) (n : ℕ) (y : A) → length (set_numbered xs n y) ≡ length xs
  set_length xs zero y = refl
  set_length xs (suc i) y = length-set xs i y

  -- an item that is set at a number in range is found
  pub set_found : (xs : List A) (n : ℕ) (x y : A) → numbered xs n ≡ Some x → numbered (set_numbered xs n y) n ≡ Some y
  set_found xs zero x y found = absurd cc
  set_found xs (suc i) x y found = slice_found xs i x y found

  -- what is found at any number is as before, or the item that was set
  pub set_or_before : (xs : List A) (n m : ℕ) (y : A) → (numbered (set_numbered xs n y) m ≡ numbered xs m) ⊎ ((n ≡ m) × (numbered (set_numbered xs n y) m ≡ Some y))
  set_or_before xs zero m y = inl refl
  set_or_before xs (suc i) zero y = inl refl
  set_or_before xs (suc i) (suc j) y = elim (slice_or xs i j y) [ inl same ↦ inl same | inr new ↦ inr (ap suc new.0, new.1) ]

  -- other numbers are as before
  pub set_leaves : (xs : List A) (n m : ℕ) (y : A) → n ≢ m → numbered (set_numbered xs n y) m ≡ numbered xs m
  set_leaves xs n m y other = elim (set_or_before xs n m y) [ inl same ↦ same | inr new ↦ absurd (other new.0) ]
