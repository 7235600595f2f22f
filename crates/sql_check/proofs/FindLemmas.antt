-- The first that passes, in two lists joined and in what the items of a list give.
use Rattle.std.proofs.Common.{◌≡◌, ℕ, ◌+◌, ◌<◌, Bool, List, [], ◌∷◌, ◌++◌, Option, Some, None, find, flat_map, drop, length, get_or, refl, sym, ap, ◌∙◌, arith}
use Rattle.std.proofs.lemmas.List.{drop_more}

abbrev pub or_else_of : {A : Type 0} → Option A → Option A → Option A
or_else_of (Some x) other = Some x
or_else_of None other = other

pub find-append : {A : Type 0} (p : A → Bool) (xs ys : List A) → find p (xs ++ ys) ≡ or_else_of (find p xs) (find p ys)
find-append p [] ys = refl
find-append p (x ∷ xs) ys = grind (arith, find-append p xs ys)

pub ruleset finds = (find-append)

-- the first that passes in what the items from i on give
pub find-step : {A B : Type 0} (p : B → Bool) (f : A → List B) (xs : List A) (i : ℕ) (x : A) → i < length xs → x ≡ get_or xs i x
    → find p (flat_map f (drop i xs)) ≡ or_else_of (find p (f x)) (find p (flat_map f (drop (i + 1) xs)))
find-step p f xs i x h is =
    ap (λ ys. find p (flat_map f ys)) (drop_more xs i x h) ∙ ap (λ y. find p (f y ++ flat_map f (drop (i + 1) xs))) (sym is)
    ∙ find-append p (f x) (flat_map f (drop (i + 1) xs))
