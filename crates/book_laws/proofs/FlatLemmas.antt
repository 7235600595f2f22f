-- Lists that are joined to one, the last entry of a book, and what a test finds there.
use Rattle.std.proofs.Common.{◌≡◌, ◌||◌, Bool, true, false, true≢false, if◌then◌else◌, List, [], ◌∷◌, ◌++◌, filter, flat_map, inl, inr, refl, sym, ap, ◌∙◌, append-nil}
use Rattle.std.specs.Prelude.{◌⊎◌}
use Rattle.std.specs.List.{list_any}
use Rattle.std.proofs.lemmas.Grind.{flat_map-append}
use Rattle.std.proofs.lemmas.List.Elements.{filter-append}
use Rattle.std.proofs.lemmas.List.Folds.{list_any-append}
use Rattle.book_laws.proofs.PlaceLemmas.{IsOne}
use Rattle.tree_laws.proofs.BeyondLemmas.{or_none as neither}

-- ---- joined lists

-- equal where each part is
pub same_flat : {A B : Type 0} (f g : A → List B) (xs : List A) → ((x : A) → IsOne x xs → f x ≡ g x) → flat_map f xs ≡ flat_map g xs
same_flat f g [] same = refl
same_flat f g (x ∷ xs) same = ap (λ ys. ys ++ flat_map f xs) (same x (inl refl)) ∙ ap (λ ys. g x ++ ys) (same_flat f g xs (λ y there. same y (inr there)))

-- empty where each part is
pub none_flat : {A B : Type 0} (f : A → List B) (xs : List A) → ((x : A) → IsOne x xs → f x ≡ []) → flat_map f xs ≡ []
none_flat f [] none = refl
none_flat f (x ∷ xs) none = ap (λ ys. ys ++ flat_map f xs) (none x (inl refl)) ∙ none_flat f xs (λ y there. none y (inr there))

empty_left : {B : Type 0} (xs ys : List B) → xs ++ ys ≡ [] → xs ≡ []
empty_left [] ys none = refl
empty_left (x ∷ xs) ys none = absurd cc

empty_right : {B : Type 0} (xs ys : List B) → xs ++ ys ≡ [] → ys ≡ []
empty_right [] ys none = none
empty_right (x ∷ xs) ys none = absurd cc

-- and each part is empty where the whole is
pub none_in_flat : {A B : Type 0} (f : A → List B) (xs : List A) (x : A) → flat_map f xs ≡ [] → IsOne x xs → f x ≡ []
none_in_flat f [] x none there = absurd there
none_in_flat f (y ∷ xs) x none (inl here) = sym (ap f here) ∙ empty_left (f y) (flat_map f xs) none
none_in_flat f (y ∷ xs) x none (inr there) = none_in_flat f xs x (empty_right (f y) (flat_map f xs) none) there

-- what passes a test is joined from what passes it of each part
pub filter_flat : {A B : Type 0} (p : B → Bool) (f : A → List B) (xs : List A) → filter p (flat_map f xs) ≡ flat_map (λ x. filter p (f x)) xs
filter_flat p f [] = refl
filter_flat p f (x ∷ xs) = filter-append p (f x) (flat_map f xs) ∙ ap (λ ys. filter p (f x) ++ ys) (filter_flat p f xs)

-- where only what passes a test has a part, the others may be left out
pub flat_filter : {A B : Type 0} (p : A → Bool) (f : A → List B) (xs : List A) → ((x : A) → p x ≡ false → f x ≡ []) → flat_map f (filter p xs) ≡ flat_map f xs
flat_filter p f [] none = refl
flat_filter p f (x ∷ xs) none = by (p x) refl (flat_filter p f xs none)
  where
    by : (q : Bool) → p x ≡ q → flat_map f (filter p xs) ≡ flat_map f xs → flat_map f (if q then x ∷ filter p xs else filter p xs) ≡ f x ++ flat_map f xs
    by true is rest = ap (λ ys. f x ++ ys) rest
    by false is rest = rest ∙ ap (λ ys. ys ++ flat_map f xs) (sym (none x is))

-- with one more part
pub flat_last : {A B : Type 0} (f : A → List B) (xs : List A) (x : A) → flat_map f (xs ++ x ∷ []) ≡ flat_map f xs ++ f x
flat_last f xs x = flat_map-append f xs (x ∷ []) ∙ ap (λ ys. flat_map f xs ++ ys) (append-nil (f x))

-- a choice between changes and none
pub none_if : {B : Type 0} (q : Bool) (xs : List B) → xs ≡ [] → (if q then xs else []) ≡ []
none_if true xs none = none
none_if false xs none = refl

-- ---- one more item

pub one_before : {A : Type 0} (a : A) (xs : List A) (x : A) → IsOne a xs → IsOne a (xs ++ x ∷ [])
one_before a [] x there = absurd there
one_before a (y ∷ xs) x (inl here) = inl here
one_before a (y ∷ xs) x (inr there) = inr (one_before a xs x there)

pub one_now : {A : Type 0} (xs : List A) (x : A) → IsOne x (xs ++ x ∷ [])
one_now [] x = inl refl
one_now (y ∷ xs) x = inr (one_now xs x)

pub one_of_more : {A : Type 0} (a : A) (xs : List A) (x : A) → IsOne a (xs ++ x ∷ []) → IsOne a xs ⊎ (x ≡ a)
one_of_more a [] x (inl here) = inr here
one_of_more a [] x (inr none) = absurd none
one_of_more a (y ∷ xs) x (inl here) = inl (inl here)
one_of_more a (y ∷ xs) x (inr there) = elim (one_of_more a xs x there) [ inl before ↦ inl (inr before) | inr now ↦ inr now ]

pub or_none : (q : Bool) → (q || false) ≡ q
or_none true = refl
or_none false = refl

-- what a test finds with one more item
pub any_more : {A : Type 0} (p : A → Bool) (xs : List A) (x : A) → list_any p (xs ++ x ∷ []) ≡ (list_any p xs || p x)
any_more p xs x = list_any-append p xs (x ∷ []) ∙ ap (λ q. list_any p xs || q) (or_none (p x))

-- nothing more where it does not pass
pub any_same : {A : Type 0} (p : A → Bool) (xs : List A) (x : A) → p x ≡ false → list_any p (xs ++ x ∷ []) ≡ list_any p xs
any_same p xs x none = any_more p xs x ∙ (ap (λ q. list_any p xs || q) none ∙ or_none (list_any p xs))

-- still there
pub any_before : {A : Type 0} (p : A → Bool) (xs : List A) (x : A) → list_any p xs ≡ true → list_any p (xs ++ x ∷ []) ≡ true
any_before p xs x some = any_more p xs x ∙ ap (λ q. q || p x) some

-- found now
pub any_now : {A : Type 0} (p : A → Bool) (xs : List A) (x : A) → p x ≡ true → list_any p (xs ++ x ∷ []) ≡ true
any_now p xs x is = any_more p xs x ∙ by (list_any p xs) (p x) is
  where
    by : (q r : Bool) → r ≡ true → (q || r) ≡ true
    by true r is = refl
    by false r is = is

-- where nothing is found, no item passes
pub none_passes : {A : Type 0} (p : A → Bool) (a : A) (xs : List A) → list_any p xs ≡ false → IsOne a xs → p a ≡ false
none_passes p a [] none there = absurd there
none_passes p a (x ∷ xs) none (inl here) = sym (ap p here) ∙ by (p x) (list_any p xs) none
  where
    by : (q r : Bool) → (q || r) ≡ false → q ≡ false
    by true r none = absurd (true≢false none)
    by false r none = refl
none_passes p a (x ∷ xs) none (inr there) = none_passes p a xs (by (p x) (list_any p xs) none) there
  where
    by : (q r : Bool) → (q || r) ≡ false → r ≡ false
    by true r none = absurd (true≢false none)
    by false r none = none

-- what a test finds in no joined list, it finds in no part
pub none_in_part : {A B : Type 0} (p : B → Bool) (f : A → List B) (xs : List A) (x : A) → list_any p (flat_map f xs) ≡ false → IsOne x xs → list_any p (f x) ≡ false
none_in_part p f [] x none there = absurd there
none_in_part p f (y ∷ xs) x none (inl here) = sym (ap (λ z. list_any p (f z)) here) ∙ (neither (list_any p (f y)) (list_any p (flat_map f xs)) (sym (list_any-append p (f y) (flat_map f xs)) ∙ none)).0
none_in_part p f (y ∷ xs) x none (inr there) = none_in_part p f xs x (neither (list_any p (f y)) (list_any p (flat_map f xs)) (sym (list_any-append p (f y) (flat_map f xs)) ∙ none)).1 there
