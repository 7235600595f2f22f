-- Parts of a run: up to one of its happenings, and between two of them.
use Rattle.std.proofs.Common.{◌≡◌, ℕ, zero, suc, ◌+◌, ◌<◌, ◌≤◌, List, [], ◌∷◌, ◌++◌, length, Some, refl, sym, ap, subst, ◌∙◌, arith}
use Rattle.std.specs.Prelude.{slice_get}
use Rattle.std.specs.List.{AllByRecursion}

module _ {A : Type 0} where
  -- a run up to one of its happenings
  pub split_at : (xs : List A) (i : ℕ) (h : A) → slice_get xs i ≡ Some h → (hs : List A) × (rest : List A) × (hs ++ h ∷ rest ≡ xs) × (length hs ≡ i)
  split_at [] zero h is = absurd cc
  split_at [] (suc i) h is = absurd cc
  split_at (x ∷ xs) zero h is = let it : Some x ≡ Some h = is in let one : h ≡ x = cc in ([], xs, ap (λ y. y ∷ xs) one, refl)
  split_at (x ∷ xs) (suc i) h is = let more = split_at xs i h is in (x ∷ more.0, more.1, ap (λ ys. x ∷ ys) more.2, ap suc more.3)

  -- of two first parts the shorter is one of the longer
  pub longer : (hs ms r1 r2 : List A) → hs ++ r1 ≡ ms ++ r2 → length hs ≤ length ms → (mid : List A) × (ms ≡ hs ++ mid)
  longer [] ms r1 r2 is low = (ms, refl)
  longer (x ∷ hs) [] r1 r2 is low = absurd (omega (arith, low))
  longer (x ∷ hs) (y ∷ ms) r1 r2 is low =
      let it : x ∷ (hs ++ r1) ≡ y ∷ (ms ++ r2) = is in
      let head : x ≡ y = cc in
      let tail : hs ++ r1 ≡ ms ++ r2 = cc in
      let more = longer hs ms r1 r2 tail (omega (arith, low)) in
      (more.0, ap (λ z. z ∷ ms) (sym head) ∙ ap (λ zs. x ∷ zs) more.1)

  module _ (P : A → Type 0) where
    -- what is so of each of the first
    pub first_so : (xs rest : List A) (i : ℕ) (y : A) → AllByRecursion P xs → i < length xs → slice_get (xs ++ rest) i ≡ Some y → P y
    first_so [] rest i y all low is = absurd (omega (arith, low))
    first_so (x ∷ xs) rest zero y all low is = let it : Some x ≡ Some y = is in let one : x ≡ y = cc in subst P one all.0
    first_so (x ∷ xs) rest (suc i) y all low is = first_so xs rest i y all.1 (omega (arith, low)) is

    -- what is so of each between the one after these and the rest
    pub between_so : (xs : List A) (x : A) (ys rest : List A) (i : ℕ) (y : A) → AllByRecursion P ys → length xs < i → i < length xs + 1 + length ys → slice_get (xs ++ x ∷ (ys ++ rest)) i ≡ Some y → P y
    between_so [] x ys rest zero y all high low is = absurd (omega (arith, high))
    between_so [] x ys rest (suc i) y all high low is = first_so ys rest i y all (omega (arith, low)) is
    between_so (z ∷ xs) x ys rest zero y all high low is = absurd (omega (arith, high))
    between_so (z ∷ xs) x ys rest (suc i) y all high low is = between_so xs x ys rest i y all (omega (arith, high)) (omega (arith, low)) is
