-- Pairs of two lists, where one ends.
use Rattle.std.proofs.Common.{◌≡◌, ℕ, ◌+◌, ◌<◌, ◌≤◌, zero, suc, List, [], ◌∷◌, Option, None, Some, slice_get, get_or, length, drop, zip, refl, sym, ap, ◌∙◌, arith}
use Rattle.std.proofs.lemmas.List.{drop_all, drop_more}
use Rattle.std.proofs.lemmas.Option.{slice_get_within, get_or_from_slice_get}

zip_nil : {A B : Type 0} (xs : List A) → zip {K = A} {X = B} xs [] ≡ []
zip_nil [] = refl
zip_nil (x ∷ xs) = refl

-- no pair is left behind the end of the second list
pub zip-past : {A B : Type 0} (xs : List A) (ys : List B) (i : ℕ) → length ys ≤ i → zip (drop i xs) (drop i ys) ≡ []
zip-past {A} {B} xs ys i h = ap (λ (zs : List B). zip (drop i xs) zs) (drop_all i ys h) ∙ zip_nil (drop i xs)

-- what is left from a place on, where an item stands there and where none does
drop-at : {A : Type 0} (xs : List A) (i : ℕ) (x : A) → slice_get xs i ≡ Some x → drop i xs ≡ x ∷ drop (i + 1) xs
drop-at xs i x e = drop_more xs i x (slice_get_within xs i x e) ∙ ap (λ y. y ∷ drop (i + 1) xs) (get_or_from_slice_get xs i x x e)

past : {A : Type 0} (xs : List A) (i : ℕ) → slice_get xs i ≡ None → length xs ≤ i
past [] i e = omega arith
past (y ∷ ys) zero e = absurd cc
past (y ∷ ys) (suc i) e = let rest : length ys ≤ i = past ys i e in omega arith

pub drop-none : {A : Type 0} (xs : List A) (i : ℕ) → slice_get xs i ≡ None → drop i xs ≡ []
drop-none xs i e = drop_all i xs (past xs i e)

-- the pairs from a place on, where both lists have an item there
pub zip-at : {A B : Type 0} (xs : List A) (ys : List B) (i : ℕ) (x : A) (y : B) → slice_get xs i ≡ Some x → i < length ys → y ≡ get_or ys i y
    → zip (drop i xs) (drop i ys) ≡ (x, y) ∷ zip (drop (i + 1) xs) (drop (i + 1) ys)
zip-at {A} {B} xs ys i x y e h is =
    ap (λ (zs : List A). zip zs (drop i ys)) (drop-at xs i x e)
    ∙ ap (λ (zs : List B). zip (x ∷ drop (i + 1) xs) zs) (drop_more ys i y h ∙ ap (λ z. z ∷ drop (i + 1) ys) (sym is))

pub ruleset zip_ends = (zip-past, drop-none)
