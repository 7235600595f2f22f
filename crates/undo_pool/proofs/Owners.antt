-- The extents of all owners and the free ones are all extents.
use Rattle.std.proofs.Common.{◌≡◌, ◌==◌, ◌+◌, ◌≤◌, ◌<◌, Bool, true, false, if◌then◌else◌, ℕ, zero, suc, List, [], ◌∷◌, length, refl, sym, ap, ◌∙◌, arith}
use Rattle.std.specs.Prelude.{sum_by}
use Rattle.std.proofs.lemmas.Bool.{eq-eqb, eqb-true}
use Rattle.std.proofs.lemmas.List.Sums.{sum_by-cons}
use Rattle.undo_pool.specs.Extents.{Held, stream_of, count_of, owners_of, ArePacked}
use Rattle.undo_pool.specs.Pool.{PoolState, all_extents, extents, extents_of}
use Rattle.undo_pool.proofs.Streams.{of_owner, of_other}
use Rattle.undo_pool.proofs.Packed.{counted}

-- how often a number stands in a list
abbrev times : List ℕ → ℕ → ℕ
times [] a = 0
times (o ∷ os) a = if a == o then 1 + times os a else times os a

has_some : (n : ℕ) → (n == 0) ≡ false → 0 < n
has_some zero differs = absurd (cc differs)
has_some (suc n) differs = omega arith

-- who has an extent stands once among the owners
abbrev StandsOnce : List Held → ℕ → Type 0
StandsOnce xs a = (times (owners_of xs) a ≤ 1) × (times (owners_of xs) a ≤ count_of xs a) × (0 < count_of xs a → times (owners_of xs) a ≡ 1)

stands_once : (xs : List Held) (a : ℕ) → StandsOnce xs a
stands_once [] a = (omega arith, omega arith, λ some. absurd (omega (arith, some)))
stands_once (x ∷ xs) a = one (a == x.owner) (count_of xs x.owner == 0) refl refl (stands_once xs a) where
  one : (b q : Bool) → (a == x.owner) ≡ b → (count_of xs x.owner == 0) ≡ q → StandsOnce xs a → StandsOnce (x ∷ xs) a
  one true true same none rest =
      let is : x.owner ≡ a = sym (eqb-true a x.owner same) in
      let zero : count_of xs a ≡ 0 = ap (count_of xs) (sym is) ∙ eqb-true (count_of xs x.owner) 0 none in
      let count = (of_owner x xs a is).1 in
      let here : times (owners_of (x ∷ xs)) a ≡ 1 + times (owners_of xs) a =
      ap (λ (q : Bool). times (if q then x.owner ∷ owners_of xs else owners_of xs) a) none ∙ ap (λ (b : Bool). if b then 1 + times (owners_of xs) a else times (owners_of xs) a) same in
      (omega (arith, here, count, zero, rest.0, rest.1), omega (arith, here, count, zero, rest.0, rest.1), λ some. omega (arith, here, count, zero, rest.0, rest.1))
  one true false same some rest =
      let is : x.owner ≡ a = sym (eqb-true a x.owner same) in
      let count = (of_owner x xs a is).1 in
      let here : times (owners_of (x ∷ xs)) a ≡ times (owners_of xs) a =
      ap (λ (q : Bool). times (if q then x.owner ∷ owners_of xs else owners_of xs) a) some in
      let has : 0 < count_of xs a = has_some (count_of xs a) (ap (λ (n : ℕ). count_of xs n == 0) (sym is) ∙ some) in
      (omega (arith, here, rest.0), omega (arith, here, count, rest.1), λ more. here ∙ rest.2 has)
  one false true differs none rest =
      let other : x.owner ≡ a → ⊥ = λ same. absurd (cc (eq-eqb a x.owner (sym same), differs)) in
      let count = (of_other x xs a other).1 in
      let here : times (owners_of (x ∷ xs)) a ≡ times (owners_of xs) a =
      ap (λ (q : Bool). times (if q then x.owner ∷ owners_of xs else owners_of xs) a) none ∙ ap (λ (b : Bool). if b then 1 + times (owners_of xs) a else times (owners_of xs) a) differs in
      (omega (arith, here, rest.0), omega (arith, here, count, rest.1), λ some. here ∙ rest.2 (omega (arith, some, count)))
  one false false differs some rest =
      let other : x.owner ≡ a → ⊥ = λ same. absurd (cc (eq-eqb a x.owner (sym same), differs)) in
      let count = (of_other x xs a other).1 in
      let here : times (owners_of (x ∷ xs)) a ≡ times (owners_of xs) a =
      ap (λ (q : Bool). times (if q then x.owner ∷ owners_of xs else owners_of xs) a) some in
      (omega (arith, here, rest.0), omega (arith, here, count, rest.1), λ has. here ∙ rest.2 (omega (arith, has, count)))

-- one more extent counts as often as its owner stands among those asked for
with_one : (x : Held) (xs : List Held) (os : List ℕ) → sum_by (count_of (x ∷ xs)) os ≡ sum_by (count_of xs) os + times os x.owner
with_one x xs [] = omega arith
with_one x xs (o ∷ os) = one (x.owner == o) refl (with_one x xs os) where
  one : (b : Bool) → (x.owner == o) ≡ b → sum_by (count_of (x ∷ xs)) os ≡ sum_by (count_of xs) os + times os x.owner
      → sum_by (count_of (x ∷ xs)) (o ∷ os) ≡ sum_by (count_of xs) (o ∷ os) + times (o ∷ os) x.owner
  one b is rest =
      let count : count_of (x ∷ xs) o ≡ (if b then 1 + count_of xs o else count_of xs o) = ap (λ (q : Bool). if q then 1 + count_of xs o else count_of xs o) is in
      let here : times (o ∷ os) x.owner ≡ (if b then 1 + times os x.owner else times os x.owner) = ap (λ (q : Bool). if q then 1 + times os x.owner else times os x.owner) is in
      add b count here rest
    where
      add : (b : Bool) → count_of (x ∷ xs) o ≡ (if b then 1 + count_of xs o else count_of xs o) → times (o ∷ os) x.owner ≡ (if b then 1 + times os x.owner else times os x.owner)
          → sum_by (count_of (x ∷ xs)) os ≡ sum_by (count_of xs) os + times os x.owner
          → sum_by (count_of (x ∷ xs)) (o ∷ os) ≡ sum_by (count_of xs) (o ∷ os) + times (o ∷ os) x.owner
      add true count here rest = omega (arith, count, here, rest, sum_by-cons (count_of (x ∷ xs)) o os, sum_by-cons (count_of xs) o os)
      add false count here rest = omega (arith, count, here, rest, sum_by-cons (count_of (x ∷ xs)) o os, sum_by-cons (count_of xs) o os)

-- all extents in use have an owner
all_counted : (xs : List Held) → sum_by (count_of xs) (owners_of xs) ≡ length xs
all_counted [] = refl
all_counted (x ∷ xs) = one (count_of xs x.owner == 0) refl (all_counted xs) where
  one : (q : Bool) → (count_of xs x.owner == 0) ≡ q → sum_by (count_of xs) (owners_of xs) ≡ length xs → sum_by (count_of (x ∷ xs)) (owners_of (x ∷ xs)) ≡ length (x ∷ xs)
  one true none rest =
      let zero : count_of xs x.owner ≡ 0 = eqb-true (count_of xs x.owner) 0 none in
      ap (λ (q : Bool). sum_by (count_of (x ∷ xs)) (if q then x.owner ∷ owners_of xs else owners_of xs)) none
      ∙ omega (arith, (of_owner x xs x.owner refl).1, zero, with_one x xs (owners_of xs), (stands_once xs x.owner).1, rest, sum_by-cons (count_of (x ∷ xs)) x.owner (owners_of xs))
  one false some rest =
      let has : 0 < count_of xs x.owner = has_some (count_of xs x.owner) some in
      ap (λ (q : Bool). sum_by (count_of (x ∷ xs)) (if q then x.owner ∷ owners_of xs else owners_of xs)) some
      ∙ omega (arith, with_one x xs (owners_of xs), (stands_once xs x.owner).2 has, rest)

same_sum : (xs : List Held) → ArePacked xs → (os : List ℕ) → sum_by (λ o. extents (length (stream_of xs o))) os ≡ sum_by (count_of xs) os
same_sum xs packed [] = refl
same_sum xs packed (o ∷ os) = omega (arith, counted xs packed o, same_sum xs packed os, sum_by-cons (λ o. extents (length (stream_of xs o))) o os, sum_by-cons (count_of xs) o os)

pub add_up : (p : PoolState) → ArePacked p.used → sum_by (λ o. extents_of p o) (owners_of p.used) + p.free ≡ all_extents p
add_up p packed = omega (arith, same_sum p.used packed (owners_of p.used), all_counted p.used)
