-- Lists: what holds of each item, whether an item passes, maps, and two lists that are set at one number.
use Rattle.std.proofs.Common.{◌≡◌, ℕ, zero, suc, ◌||◌, not, Bool, true, false, List, [], ◌∷◌, ◌++◌, map, length, filter, find, Some, inl, inr, refl, sym, ap, ◌∙◌, arith}
use Rattle.std.proofs.lemmas.Bool.{cond_both, or_right}
use Rattle.std.proofs.lemmas.List.Folds.{list_any-append}
use Rattle.std.proofs.lemmas.Map.Views.{any-filter_same}
use Rattle.std.specs.Prelude.{◌⊎◌}
use Rattle.std.specs.List.{AllByRecursion, list_any}
use Rattle.tran_ids.specs.Branch.{same, branch_below, put_by_branch}
use Rattle.tran_ids.specs.Listed.{is_item_of, item_at, put_item, drop_item, numbered, set_numbered}
use Rattle.tran_ids.specs.declared.branch.BranchId.{BranchId}
use Rattle.tran_ids.proofs.BranchLemmas.{equal_from_same, same_from_equal}
use Rattle.tran_ids.proofs.ListedLemmas.{item_is, map_put}

-- ---- what holds of each item

module _ {A : Type 0} (P : A → Type 0) where
  pub all_weaker : (Q : A → Type 0) → ((x : A) → P x → Q x) → (xs : List A) → AllByRecursion P xs → AllByRecursion Q xs
  all_weaker Q f [] all = tt
  all_weaker Q f (x ∷ xs) all = (f x all.0, all_weaker Q f xs all.1)

  -- it holds of each item that passes a test
  pub all_filter : (Q : A → Type 0) (p : A → Bool) → ((x : A) → p x ≡ true → P x → Q x) → (xs : List A) → AllByRecursion P xs → AllByRecursion Q (filter p xs)
  all_filter Q p f [] all = tt
  all_filter Q p f (x ∷ xs) all =
      cond_both (p x) _ _ (AllByRecursion Q) (λ passes. (f x passes all.0, all_filter Q p f xs all.1)) (λ fails. all_filter Q p f xs all.1)

  pub all_append : (xs ys : List A) → AllByRecursion P xs → AllByRecursion P ys → AllByRecursion P (xs ++ ys)
  all_append [] ys first second = second
  all_append (x ∷ xs) ys first second = (first.0, all_append xs ys first.1 second)

  pub all_map : {B : Type 0} (f : B → A) (xs : List B) → AllByRecursion (λ x. P (f x)) xs → AllByRecursion P (map f xs)
  all_map f [] all = tt
  all_map f (x ∷ xs) all = (all.0, all_map f xs all.1)

  pub all_each : {B : Type 0} (f : B → A) (xs : List B) → ((x : B) → P (f x)) → AllByRecursion P (map f xs)
  all_each f [] each = tt
  all_each f (x ∷ xs) each = (each x, all_each f xs each)

  pub all_put : (id : A → BranchId) (xs : List A) (x : A) → AllByRecursion P xs → P x → AllByRecursion P (put_by_branch id xs x)
  all_put id [] x all here = (here, tt)
  all_put id (y ∷ ys) x all here = cond_both (branch_below (id x) (id y)) _ _ (AllByRecursion P) (λ first. (here, all)) (λ later. (all.0, all_put id ys x all.1 here))

-- ---- whether an item passes

-- one that is found passes
pub any_found : {A : Type 0} (p : A → Bool) (xs : List A) (y : A) → find p xs ≡ Some y → list_any p xs ≡ true
any_found p [] y is = absurd cc
any_found p (x ∷ xs) y is = grind (arith, any_found p xs y)

-- each item is one of its list
pub all_there : {A : Type 0} (id : A → BranchId) (xs : List A) → AllByRecursion (λ x. list_any (is_item_of id (id x)) xs ≡ true) xs
all_there id [] = tt
all_there id (x ∷ xs) = (
  ap (λ here. here || list_any (is_item_of id (id x)) xs) (same_from_equal (id x) (id x) refl),
  all_weaker _ _ (λ y is. or_right (same (id x) (id y)) (list_any (is_item_of id (id y)) xs) is) xs (all_there id xs),
)

module _ {A : Type 0} (id : A → BranchId) (xs : List A) (c : BranchId) where
  -- with one more item
  pub any_more : (x : A) → list_any (is_item_of id c) xs ≡ true → list_any (is_item_of id c) (xs ++ x ∷ []) ≡ true
  any_more x is = list_any-append (is_item_of id c) xs (x ∷ []) ∙ ap (λ there. there || list_any (is_item_of id c) (x ∷ [])) is

  pub any_last : (x : A) → id x ≡ c → list_any (is_item_of id c) (xs ++ x ∷ []) ≡ true
  any_last x is =
      list_any-append (is_item_of id c) xs (x ∷ []) ∙ or_right (list_any (is_item_of id c) xs) (list_any (is_item_of id c) (x ∷ [])) (ap (λ here. here || false) (same_from_equal (id x) c is))

  -- without those of another branch
  pub any_dropped : (b : BranchId) → same c b ≡ false → list_any (is_item_of id c) (drop_item id xs b) ≡ list_any (is_item_of id c) xs
  any_dropped b other = any-filter_same (is_item_of id c) (λ x. not (same (id x) b)) true (λ x is. ap (λ m. not (same m b)) (equal_from_same (id x) c is) ∙ ap not other) xs

-- ---- maps

-- one map after another
pub map_after : {A B C : Type 0} (f : B → C) (h : A → B) (g : A → C) → ((x : A) → f (h x) ≡ g x) → (xs : List A) → map f (map h xs) ≡ map g xs
map_after f h g each [] = refl
map_after f h g each (x ∷ xs) = ap (λ y. y ∷ map f (map h xs)) (each x) ∙ ap (λ ys. g x ∷ ys) (map_after f h g each xs)

module _ {A B : Type 0} (f : A → B) where
  -- what is done to the items, and what is done to what they map to
  pub map_same : (h : A → A) (g : B → B) → ((x : A) → f (h x) ≡ g (f x)) → (xs : List A) → map f (map h xs) ≡ map g (map f xs)
  map_same h g each xs = map_after f h (λ x. g (f x)) each xs ∙ sym (map_after g f (λ x. g (f x)) (λ x. refl) xs)

  pub filter_same : (p : B → Bool) (xs : List A) → map f (filter (λ x. p (f x)) xs) ≡ filter p (map f xs)
  filter_same p [] = refl
  filter_same p (x ∷ xs) = grind (arith, filter_same p xs)

  pub put_same : (id : B → BranchId) (xs : List A) (x : A) → map f (put_by_branch (λ y. id (f y)) xs x) ≡ put_by_branch id (map f xs) (f x)
  put_same id [] x = refl
  put_same id (y ∷ ys) x = grind (arith, put_same id ys x)

-- ---- an item in the place of another

module _ {A : Type 0} (id : A → BranchId) where
  -- an item in the place of one of its branch leaves the ids
  pub put_ids : (xs : List A) (x y : A) → item_at id xs (id x) ≡ Some y → map id (put_item id xs x) ≡ map id xs
  put_ids xs x y found = map_put id id xs x y found (sym (item_is id xs (id x) y found))

  module _ (b : BranchId) where
    any_ids : (xs : List A) → list_any (is_item_of id b) xs ≡ list_any (λ m. same m b) (map id xs)
    any_ids [] = refl
    any_ids (x ∷ xs) = ap (λ more. is_item_of id b x || more) (any_ids xs)

    -- so a branch is there where its item is replaced
    pub any_put : (xs : List A) (x y : A) → item_at id xs (id x) ≡ Some y → list_any (is_item_of id b) (put_item id xs x) ≡ list_any (is_item_of id b) xs
    any_put xs x y found = any_ids (put_item id xs x) ∙ (ap (list_any (λ m. same m b)) (put_ids xs x y found) ∙ sym (any_ids xs))

-- ---- items by number

-- what is found at a number in two lists of one length that were both set at a number
pub set_both : {A B : Type 0} (xs : List A) (ys : List B) (n m : ℕ) (x : A) (y : B) → length xs ≡ length ys
    → ((numbered (set_numbered xs n x) m ≡ numbered xs m) × (numbered (set_numbered ys n y) m ≡ numbered ys m)) ⊎ ((n ≡ m) × (numbered (set_numbered xs n x) m ≡ Some x) × (numbered (set_numbered ys n y) m ≡ Some y))
set_both xs ys zero m x y even = inl (refl, refl)
set_both xs ys (suc i) zero x y even = inl (refl, refl)
set_both [] [] (suc i) (suc j) x y even = inl (refl, refl)
set_both [] (b ∷ ys) (suc i) (suc j) x y even = absurd (omega arith)
set_both (a ∷ xs) [] (suc i) (suc j) x y even = absurd (omega arith)
set_both (a ∷ xs) (b ∷ ys) (suc zero) (suc zero) x y even = inr (refl, refl, refl)
set_both (a ∷ xs) (b ∷ ys) (suc zero) (suc (suc j)) x y even = inl (refl, refl)
set_both (a ∷ xs) (b ∷ ys) (suc (suc i)) (suc zero) x y even = inl (refl, refl)
set_both (a ∷ xs) (b ∷ ys) (suc (suc i)) (suc (suc j)) x y even = elim (set_both xs ys (suc i) (suc j) x y (omega arith)) [ inl still ↦ inl still | inr new ↦ inr (ap suc new.0, new.1, new.2) ]
