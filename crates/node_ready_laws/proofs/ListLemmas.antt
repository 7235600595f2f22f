-- What each item of a list has, and the first item that passes a test.
use Rattle.std.proofs.Common.{◌≡◌, ◌||◌, not, Bool, true, false, if◌then◌else◌, List, [], ◌∷◌, ◌++◌, find, filter, Option, Some, None, refl, ap, subst, ◌∙◌}
use Rattle.std.specs.List.{AllByRecursion, list_any}
use Rattle.std.proofs.lemmas.Bool.{cond_both}
use Rattle.tran_ids.specs.declared.branch.BranchId.{BranchId}
use Rattle.tran_ids.specs.Branch.{same, branch_below, put_by_branch}
use Rattle.tran_ids.specs.Listed.{is_item_of, item_at, put_item, drop_item}
use Rattle.tran_ids.proofs.ListedLemmas.{item_is}
use Rattle.redo_record.specs.Lists.{change_where}

module _ {A : Type 0} (P : A → Type 0) where
  pub all_append : (xs ys : List A) → AllByRecursion P xs → AllByRecursion P ys → AllByRecursion P (xs ++ ys)
  all_append [] ys first second = second
  all_append (x ∷ xs) ys first second = (first.0, all_append xs ys first.1 second)

  pub all_last : (xs : List A) (x : A) → AllByRecursion P xs → P x → AllByRecursion P (xs ++ x ∷ [])
  all_last xs x first last = all_append xs (x ∷ []) first (last, tt)

  pub all_weaker : (Q : A → Type 0) → ((x : A) → P x → Q x) → (xs : List A) → AllByRecursion P xs → AllByRecursion Q xs
  all_weaker Q f [] all = tt
  all_weaker Q f (x ∷ xs) all = (f x all.0, all_weaker Q f xs all.1)

  pub all_both : (Q R : A → Type 0) → ((x : A) → P x → Q x → R x) → (xs : List A) → AllByRecursion P xs → AllByRecursion Q xs → AllByRecursion R xs
  all_both Q R f [] all more = tt
  all_both Q R f (x ∷ xs) all more = (f x all.0 more.0, all_both Q R f xs all.1 more.1)

  -- what is found is such
  pub all_found : (p : A → Bool) (xs : List A) (y : A) → AllByRecursion P xs → find p xs ≡ Some y → P y
  all_found p [] y all found = absurd cc
  all_found p (x ∷ xs) y all found = by (p x) found (all_found p xs y all.1)
    where
      by : (here : Bool) → (if here then Some x else find p xs) ≡ Some y → (find p xs ≡ Some y → P y) → P y
      by true is later = subst P (let it : Some x ≡ Some y = is in cc) all.0
      by false is later = later is

  -- with another item in the place of a branch's
  pub all_put : (id : A → BranchId) (xs : List A) (x : A) → AllByRecursion P xs → P x → AllByRecursion P (put_item id xs x)
  all_put id [] x all new = (new, tt)
  all_put id (y ∷ ys) x all new = by (same (id y) (id x)) (all_put id ys x all.1 new)
    where
      by : (here : Bool) → AllByRecursion P (put_item id ys x) → AllByRecursion P (if here then x ∷ ys else y ∷ put_item id ys x)
      by true rest = (new, all.1)
      by false rest = (all.0, rest)

  -- without a branch's
  pub all_dropped : (id : A → BranchId) (xs : List A) (b : BranchId) → AllByRecursion P xs → AllByRecursion P (drop_item id xs b)
  all_dropped id [] b all = tt
  all_dropped id (x ∷ xs) b all = by (not (same (id x) b)) (all_dropped id xs b all.1)
    where
      by : (stays : Bool) → AllByRecursion P (drop_item id xs b) → AllByRecursion P (if stays then x ∷ drop_item id xs b else drop_item id xs b)
      by true rest = (all.0, rest)
      by false rest = rest

  -- without some items
  pub all_filtered : (p : A → Bool) (xs : List A) → AllByRecursion P xs → AllByRecursion P (filter p xs)
  all_filtered p [] all = tt
  all_filtered p (x ∷ xs) all = by (p x) (all_filtered p xs all.1)
    where
      by : (stays : Bool) → AllByRecursion P (filter p xs) → AllByRecursion P (if stays then x ∷ filter p xs else filter p xs)
      by true rest = (all.0, rest)
      by false rest = rest

  -- without a branch's, the items are of other branches
  pub all_left : (id : A → BranchId) (xs : List A) (b : BranchId) → AllByRecursion P xs → AllByRecursion (λ x. P x × (same (id x) b ≡ false)) (drop_item id xs b)
  all_left id [] b all = tt
  all_left id (x ∷ xs) b all = by (same (id x) b) refl (all_left id xs b all.1)
    where
      by : (here : Bool) → same (id x) b ≡ here → AllByRecursion (λ y. P y × (same (id y) b ≡ false)) (drop_item id xs b)
          → AllByRecursion (λ y. P y × (same (id y) b ≡ false)) (if not here then x ∷ drop_item id xs b else drop_item id xs b)
      by true is rest = rest
      by false is rest = ((all.0, is), rest)

  -- with some items changed
  pub all_changed : (p : A → Bool) (f : A → A) → ((x : A) → P x → P (f x)) → (xs : List A) → AllByRecursion P xs → AllByRecursion P (change_where p f xs)
  all_changed p f each [] all = tt
  all_changed p f each (x ∷ xs) all = (cond_both (p x) (f x) x P (λ here. each x all.0) (λ other. all.0), all_changed p f each xs all.1)

  -- with one more item at its place in the order of branches
  pub all_placed : (id : A → BranchId) (xs : List A) (x : A) → AllByRecursion P xs → P x → AllByRecursion P (put_by_branch id xs x)
  all_placed id [] x all new = (new, tt)
  all_placed id (y ∷ ys) x all new = by (branch_below (id x) (id y)) (all_placed id ys x all.1 new)
    where
      by : (here : Bool) → AllByRecursion P (put_by_branch id ys x) → AllByRecursion P (if here then x ∷ y ∷ ys else y ∷ put_by_branch id ys x)
      by true rest = (new, all)
      by false rest = (all.0, rest)

module _ {A : Type 0} (id : A → BranchId) (b : BranchId) where
  -- no item is of this branch
  abbrev pub NoneOf : List A → Type 0
  NoneOf xs = AllByRecursion (λ x. same (id x) b ≡ false) xs

  pub none_of : (xs : List A) → item_at id xs b ≡ None → NoneOf xs
  none_of [] none = tt
  none_of (x ∷ xs) none = by (same (id x) b) refl none (none_of xs)
    where
      by : (here : Bool) → same (id x) b ≡ here → (if here then Some x else item_at id xs b) ≡ None → (item_at id xs b ≡ None → NoneOf xs) → (same (id x) b ≡ false) × NoneOf xs
      by true is gone later = absurd cc
      by false is gone later = (is, later gone)

  pub not_found : (xs : List A) → NoneOf xs → item_at id xs b ≡ None
  not_found [] none = refl
  not_found (x ∷ xs) none = ap (λ here. if here then Some x else item_at id xs b) none.0 ∙ not_found xs none.1

  -- nor is there one where the ids of all items are so, and this one is not
  pub new_id : (P : BranchId → Type 0) (xs : List A) → AllByRecursion (λ x. P (id x)) xs → (P b → ⊥) → item_at id xs b ≡ None
  new_id P xs all new = by (item_at id xs b) refl
    where
      by : (o : Option A) → item_at id xs b ≡ o → o ≡ None
      by None is = refl
      by (Some x) is = absurd (new (subst P (item_is id xs b x is) (all_found (λ y. P (id y)) (is_item_of id b) xs x all is)))

module _ {A : Type 0} (p : A → Bool) where
  -- what is found passes the test
  pub found_passes : (xs : List A) (y : A) → find p xs ≡ Some y → p y ≡ true
  found_passes [] y found = absurd cc
  found_passes (x ∷ xs) y found = by (p x) refl found (found_passes xs y)
    where
      by : (here : Bool) → p x ≡ here → (if here then Some x else find p xs) ≡ Some y → (find p xs ≡ Some y → p y ≡ true) → p y ≡ true
      by true is found later = subst (λ z. p z ≡ true) (let it : Some x ≡ Some y = found in cc) is
      by false is found later = later found

  -- what is found is found with more behind
  pub found_in_more : (xs ys : List A) (y : A) → find p xs ≡ Some y → find p (xs ++ ys) ≡ Some y
  found_in_more [] ys y found = absurd cc
  found_in_more (x ∷ xs) ys y found = by (p x) found (found_in_more xs ys y)
    where
      by : (here : Bool) → (if here then Some x else find p xs) ≡ Some y → (find p xs ≡ Some y → find p (xs ++ ys) ≡ Some y) → (if here then Some x else find p (xs ++ ys)) ≡ Some y
      by true is later = is
      by false is later = later is

  -- nothing is found where none passes
  pub none_found : (xs ys : List A) → list_any p xs ≡ false → find p (xs ++ ys) ≡ find p ys
  none_found [] ys none = refl
  none_found (x ∷ xs) ys none = by (p x) none (none_found xs ys)
    where
      by : (here : Bool) → (here || list_any p xs) ≡ false → (list_any p xs ≡ false → find p (xs ++ ys) ≡ find p ys) → (if here then Some x else find p (xs ++ ys)) ≡ find p ys
      by true is later = absurd cc
      by false is later = later is
