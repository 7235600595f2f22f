-- Places in a list: what is at a place, what comes before it, and what a test of a list finds.
use Rattle.std.proofs.Common.{◌≡◌, ℕ, zero, suc, ◌<◌, ◌||◌, Bool, true, false, true≢false, if◌then◌else◌, List, [], ◌∷◌, ◌++◌, filter, flat_map, take, Some, inl, inr, refl, sym, ap, subst, ◌∙◌, append-nil, append_assoc, arith}
use Rattle.std.specs.Prelude.{◌⊎◌}
use Rattle.std.specs.List.{list_any}
use Rattle.std.proofs.lemmas.Bool.{or_left, or_right}
use Rattle.run_rules.specs.Data.{Entry}
use Rattle.run_rules.specs.Book.{EachAgainst, At}

-- ---- one of a list

abbrev pub IsOne : {A : Type 0} → A → List A → Type 0
IsOne a [] = ⊥
IsOne a (x ∷ xs) = (x ≡ a) ⊎ IsOne a xs

-- what a test finds
pub found : {A : Type 0} (q : A → Bool) (xs : List A) → list_any q xs ≡ true → (a : A) × IsOne a xs × (q a ≡ true)
found q [] some = absurd (true≢false (sym some))
found {A} q (x ∷ xs) some = by (q x) refl some (found q xs)
  where
    by : (here : Bool) → q x ≡ here → (here || list_any q xs) ≡ true → (list_any q xs ≡ true → (a : A) × IsOne a xs × (q a ≡ true)) → (a : A) × IsOne a (x ∷ xs) × (q a ≡ true)
    by true is some rest = (x, inl refl, is)
    by false is some rest = let there = rest some in (there.0, inr there.1, there.2)

-- and that it finds what is there
pub finds : {A : Type 0} (q : A → Bool) (a : A) (xs : List A) → IsOne a xs → q a ≡ true → list_any q xs ≡ true
finds q a [] there is = absurd there
finds q a (x ∷ xs) (inl here) is = or_left (q x) (list_any q xs) (ap q here ∙ is)
finds q a (x ∷ xs) (inr there) is = or_right (q x) (list_any q xs) (finds q a xs there is)

-- two tests in either order
pub both_ways : {A B : Type 0} (q : A → B → Bool) (xs : List A) (ys : List B) → list_any (λ y. list_any (λ x. q x y) xs) ys ≡ true → list_any (λ x. list_any (q x) ys) xs ≡ true
both_ways q xs ys some =
    let y = found (λ y. list_any (λ x. q x y) xs) ys some in
    let x = found (λ x. q x y.0) xs y.2 in
    finds (λ a. list_any (q a) ys) x.0 xs x.1 (finds (q x.0) y.0 ys y.1 x.2)

-- what passes another test too
pub one_kept : {A : Type 0} (p : A → Bool) (a : A) (xs : List A) → IsOne a xs → p a ≡ true → IsOne a (filter p xs)
one_kept p a [] there is = absurd there
one_kept p a (x ∷ xs) (inl here) is = subst (λ q. IsOne a (if q then x ∷ filter p xs else filter p xs)) (sym (ap p here ∙ is)) (inl here)
one_kept p a (x ∷ xs) (inr there) is = by (p x) (one_kept p a xs there is)
  where
    by : (q : Bool) → IsOne a (filter p xs) → IsOne a (if q then x ∷ filter p xs else filter p xs)
    by true rest = inr rest
    by false rest = rest

one_unfiltered : {A : Type 0} (p : A → Bool) (a : A) (xs : List A) → IsOne a (filter p xs) → IsOne a xs
one_unfiltered p a [] there = absurd there
one_unfiltered p a (x ∷ xs) there = by (p x) there (one_unfiltered p a xs)
  where
    by : (q : Bool) → IsOne a (if q then x ∷ filter p xs else filter p xs) → (IsOne a (filter p xs) → IsOne a xs) → IsOne a (x ∷ xs)
    by true (inl here) rest = inl here
    by true (inr there) rest = inr (rest there)
    by false there rest = inr (rest there)

-- what a test finds in part of a list, it finds in all of it
pub any_unfiltered : {A : Type 0} (q p : A → Bool) (xs : List A) → list_any q (filter p xs) ≡ true → list_any q xs ≡ true
any_unfiltered q p xs some = let there = found q (filter p xs) some in finds q there.0 xs (one_unfiltered p there.0 xs there.1) there.2

one_right : {A : Type 0} (a : A) (xs ys : List A) → IsOne a (xs ++ ys) → IsOne a xs ⊎ IsOne a ys
one_right a [] ys there = inr there
one_right a (x ∷ xs) ys (inl here) = inl (inl here)
one_right a (x ∷ xs) ys (inr there) = elim (one_right a xs ys there) [ inl before ↦ inl (inr before) | inr after ↦ inr after ]

-- what is in one of many lists
pub one_of_flat : {A B : Type 0} (f : A → List B) (b : B) (xs : List A) → IsOne b (flat_map f xs) → (a : A) × IsOne a xs × IsOne b (f a)
one_of_flat f b [] there = absurd there
one_of_flat f b (x ∷ xs) there = elim (one_right b (f x) (flat_map f xs) there) [
  | inl here ↦ (x, inl refl, here)
  | inr later ↦ (let rest = one_of_flat f b xs later in (rest.0, inr rest.1, rest.2))
]

-- ---- places

-- an item has a place
pub place_of : (e : Entry) (es : List Entry) → IsOne e es → (k : ℕ) × At es k e
place_of e [] there = absurd there
place_of e (x ∷ xs) (inl here) = (zero, ap Some here)
place_of e (x ∷ xs) (inr there) = let rest = place_of e xs there in (suc rest.0, rest.1)

pub one_at : (e : Entry) (es : List Entry) (k : ℕ) → At es k e → IsOne e es
one_at e [] k at = absurd cc
one_at e (x ∷ xs) zero at = inl (cc at)
one_at e (x ∷ xs) (suc k) at = inr (one_at e xs k at)

-- what is before a later place
pub one_before : (e : Entry) (es : List Entry) (k n : ℕ) → At es k e → k < n → IsOne e (take n es)
one_before e es k zero at less = absurd (omega (arith, less))
one_before e [] k (suc n) at less = absurd cc
one_before e (x ∷ xs) zero (suc n) at less = inl (cc at)
one_before e (x ∷ xs) (suc k) (suc n) at less = inr (one_before e xs k n at (omega (arith, less)))

-- and where it is
pub place_before : (e : Entry) (es : List Entry) (n : ℕ) → IsOne e (take n es) → (k : ℕ) × (k < n) × At es k e
place_before e es zero there = absurd there
place_before e [] (suc n) there = absurd there
place_before e (x ∷ xs) (suc n) (inl here) = (zero, omega arith, ap Some here)
place_before e (x ∷ xs) (suc n) (inr there) = let rest = place_before e xs n there in (suc rest.0, omega (arith, rest.1), rest.2)

-- a list is what comes before a place, what is there and the rest
pub parted : (e : Entry) (es : List Entry) (k : ℕ) → At es k e → (later : List Entry) × (es ≡ take k es ++ e ∷ later)
parted e [] k at = absurd cc
parted e (x ∷ xs) zero at = (xs, ap (λ z. z ∷ xs) (cc at))
parted e (x ∷ xs) (suc k) at = let rest = parted e xs k at in (rest.0, ap (λ zs. x ∷ zs) rest.1)

-- a law of each entry, at a place
pub at_place : (P : List Entry → Entry → Type 0) (older es : List Entry) (k : ℕ) (e : Entry) → EachAgainst P older es → At es k e → P (older ++ take k es) e
at_place P older [] k e all at = absurd cc
at_place P older (x ∷ xs) zero e all at = let here : x ≡ e = cc at in subst (λ os. P os e) (sym (append-nil older)) (subst (P older) here all.0)
at_place P older (x ∷ xs) (suc k) e all at = subst (λ os. P os e) (append_assoc older (x ∷ []) (take k xs)) (at_place P (older ++ x ∷ []) xs k e all.1 at)
