-- What is found in a list with one item for each branch, after an item was put or a branch was left out.
use Rattle.std.proofs.Common.{◌≡◌, ◌+◌, ◌<◌, ◌≤◌, suc, length, get_or, ◌⊎◌, inl, inr, Bool, true, false, not, if◌then◌else◌, cond, List, [], ◌∷◌, ◌++◌, map, slice_set, Some, None, refl, sym, ap, subst, ◌∙◌, arith}
use Rattle.std.proofs.lemmas.List.Folds.{find_at}
use Rattle.std.proofs.lemmas.Option.{slice_get-get_or, slice_get_past}
use Rattle.std.specs.List.{position_or_len}
use Rattle.tran_ids.specs.Branch.{same}
use Rattle.tran_ids.specs.Listed.{is_item_of, item_at, put_item, drop_item}
use Rattle.tran_ids.specs.declared.branch.BranchId.{BranchId}
use Rattle.tran_ids.proofs.BranchLemmas.{equal_from_same, same_from_equal}

module _ {A : Type 0} (id : A → BranchId) where
  item_is_if : (b : BranchId) (y x : A) (ys : List A) (here : Bool) → same (id y) b ≡ here → (if here then Some y else item_at id ys b) ≡ Some x → (item_at id ys b ≡ Some x → id x ≡ b) → id x ≡ b
  item_is_if b y x ys true is found later = subst (λ z. id z ≡ b) (let it : Some y ≡ Some x = found in cc) (equal_from_same (id y) b is)
  item_is_if b y x ys false is found later = later found

  -- the item that is found is of the branch that was asked for
  pub item_is : (xs : List A) (b : BranchId) (x : A) → item_at id xs b ≡ Some x → id x ≡ b
  item_is [] b x found = absurd cc
  item_is (y ∷ ys) b x found = item_is_if b y x ys (same (id y) b) refl found (item_is ys b x)

  put_found_if : (y x : A) (ys : List A) (here : Bool) → same (id y) (id x) ≡ here → item_at id (put_item id ys x) (id x) ≡ Some x → item_at id (if here then x ∷ ys else y ∷ put_item id ys x) (id x) ≡ Some x
  put_found_if y x ys true is later = ap (λ here. if here then Some x else item_at id ys (id x)) (same_from_equal (id x) (id x) refl)
  put_found_if y x ys false is later = ap (λ here. if here then Some y else item_at id (put_item id ys x) (id x)) is ∙ later

  -- an item that was put is found
  pub put_found : (xs : List A) (x : A) → item_at id (put_item id xs x) (id x) ≡ Some x
  put_found [] x = ap (λ here. if here then Some x else None) (same_from_equal (id x) (id x) refl)
  put_found (y ∷ ys) x = put_found_if y x ys (same (id y) (id x)) refl (put_found ys x)

  put_leaves_if : (y x : A) (ys : List A) (b : BranchId) (here : Bool) → same (id y) (id x) ≡ here → same (id x) b ≡ false → item_at id (put_item id ys x) b ≡ item_at id ys b
      → item_at id (if here then x ∷ ys else y ∷ put_item id ys x) b ≡ (if same (id y) b then Some y else item_at id ys b)
  put_leaves_if y x ys b true is other later =
      let too : same (id y) b ≡ false = ap (λ m. same m b) (equal_from_same (id y) (id x) is) ∙ other in
      ap (λ here. if here then Some x else item_at id ys b) other ∙ sym (ap (λ here. if here then Some y else item_at id ys b) too)
  put_leaves_if y x ys b false is other later = ap (λ o. if same (id y) b then Some y else o) later

  -- the items of other branches are as before
  pub put_leaves : (xs : List A) (x : A) (b : BranchId) → same (id x) b ≡ false → item_at id (put_item id xs x) b ≡ item_at id xs b
  put_leaves [] x b other = ap (λ here. if here then Some x else None) other
  put_leaves (y ∷ ys) x b other = put_leaves_if y x ys b (same (id y) (id x)) refl other (put_leaves ys x b other)

  put_or_if : (xs : List A) (x : A) (b : BranchId) (here : Bool) → same (id x) b ≡ here → (item_at id (put_item id xs x) b ≡ item_at id xs b) ⊎ ((id x ≡ b) × (item_at id (put_item id xs x) b ≡ Some x))
  put_or_if xs x b true is = let me : id x ≡ b = equal_from_same (id x) b is in inr (me, subst (λ m. item_at id (put_item id xs x) m ≡ Some x) me (put_found xs x))
  put_or_if xs x b false is = inl (put_leaves xs x b is)

  -- what is found of any branch is as before, or the item that was put
  pub put_or_before : (xs : List A) (x : A) (b : BranchId) → (item_at id (put_item id xs x) b ≡ item_at id xs b) ⊎ ((id x ≡ b) × (item_at id (put_item id xs x) b ≡ Some x))
  put_or_before xs x b = put_or_if xs x b (same (id x) b) refl

  drop_gone_if : (b : BranchId) (y : A) (ys : List A) (here : Bool) → same (id y) b ≡ here → item_at id (drop_item id ys b) b ≡ None → item_at id (cond (not here) (y ∷ drop_item id ys b) (drop_item id ys b)) b ≡ None
  drop_gone_if b y ys true is later = later
  drop_gone_if b y ys false is later = ap (λ here. if here then Some y else item_at id (drop_item id ys b) b) is ∙ later

  -- a branch that was left out is not found
  pub drop_gone : (xs : List A) (b : BranchId) → item_at id (drop_item id xs b) b ≡ None
  drop_gone [] b = refl
  drop_gone (y ∷ ys) b = drop_gone_if b y ys (same (id y) b) refl (drop_gone ys b)

  drop_leaves_if : (b c : BranchId) (y : A) (ys : List A) (here : Bool) → same (id y) b ≡ here → same b c ≡ false → item_at id (drop_item id ys b) c ≡ item_at id ys c
      → item_at id (cond (not here) (y ∷ drop_item id ys b) (drop_item id ys b)) c ≡ (if same (id y) c then Some y else item_at id ys c)
  drop_leaves_if b c y ys true is other later =
      let too : same (id y) c ≡ false = ap (λ m. same m c) (equal_from_same (id y) b is) ∙ other in
      later ∙ sym (ap (λ here. if here then Some y else item_at id ys c) too)
  drop_leaves_if b c y ys false is other later = ap (λ o. if same (id y) c then Some y else o) later

  -- the items of other branches are as before
  pub drop_leaves : (xs : List A) (b c : BranchId) → same b c ≡ false → item_at id (drop_item id xs b) c ≡ item_at id xs c
  drop_leaves [] b c other = refl
  drop_leaves (y ∷ ys) b c other = drop_leaves_if b c y ys (same (id y) b) refl other (drop_leaves ys b c other)

  map_put_if : {B : Type 0} (f : A → B) (y z x : A) (ys : List A) (here : Bool) → (if here then Some y else item_at id ys (id x)) ≡ Some z → f x ≡ f z → (item_at id ys (id x) ≡ Some z → map f (put_item id ys x) ≡ map f ys)
      → map f (if here then x ∷ ys else y ∷ put_item id ys x) ≡ f y ∷ map f ys
  map_put_if f y z x ys true found alike later = ap (λ w. w ∷ map f ys) (alike ∙ ap f (let it : Some y ≡ Some z = found in cc))
  map_put_if f y z x ys false found alike later = ap (λ ws. f y ∷ ws) (later found)

  -- a list is the same, up to f, where the item that was put is like the one in whose place it stands
  pub map_put : {B : Type 0} (f : A → B) (xs : List A) (x y : A) → item_at id xs (id x) ≡ Some y → f x ≡ f y → map f (put_item id xs x) ≡ map f xs
  map_put f [] x y found alike = absurd cc
  map_put f (z ∷ zs) x y found alike = map_put_if f z y x zs (same (id z) (id x)) found alike (λ rest. map_put f zs x y rest alike)

  put_set_if : (y z x : A) (ys : List A) (here : Bool) → (if here then Some y else item_at id ys (id x)) ≡ Some z
      → (item_at id ys (id x) ≡ Some z → put_item id ys x ≡ slice_set ys (position_or_len (is_item_of id (id x)) ys) x)
      → (if here then x ∷ ys else y ∷ put_item id ys x) ≡ slice_set (y ∷ ys) (if not here then 1 + position_or_len (is_item_of id (id x)) ys else 0) x
  put_set_if y z x ys true found later = refl
  put_set_if y z x ys false found later = let one_more : 1 + position_or_len (is_item_of id (id x)) ys ≡ suc (position_or_len (is_item_of id (id x)) ys) = omega arith in rw one_more (ap (λ zs. y ∷ zs) (later found))

  -- where its branch has an item, an item is put in the first place of its branch
  pub put_is_set : (xs : List A) (x y : A) → item_at id xs (id x) ≡ Some y → put_item id xs x ≡ slice_set xs (position_or_len (is_item_of id (id x)) xs) x
  put_is_set [] x y found = absurd cc
  put_is_set (z ∷ zs) x y found = put_set_if z y x zs (same (id z) (id x)) found (put_is_set zs x y)

  put_push_if : (y x : A) (ys : List A) (here : Bool) → (if here then Some y else item_at id ys (id x)) ≡ None → (item_at id ys (id x) ≡ None → put_item id ys x ≡ ys ++ x ∷ [])
      → (if here then x ∷ ys else y ∷ put_item id ys x) ≡ y ∷ (ys ++ x ∷ [])
  put_push_if y x ys true none later = absurd cc
  put_push_if y x ys false none later = ap (λ zs. y ∷ zs) (later none)

  -- where its branch has none, it is put at the end
  pub put_is_push : (xs : List A) (x : A) → item_at id xs (id x) ≡ None → put_item id xs x ≡ xs ++ x ∷ []
  put_is_push [] x none = refl
  put_is_push (y ∷ ys) x none = put_push_if y x ys (same (id y) (id x)) none (put_is_push ys x)

  -- the same by a place within the list
  pub put_within : (xs : List A) (x : A) → position_or_len (is_item_of id (id x)) xs < length xs → put_item id xs x ≡ slice_set xs (position_or_len (is_item_of id (id x)) xs) x
  put_within xs x lt =
      put_is_set xs x (get_or xs (position_or_len (is_item_of id (id x)) xs) x) (find_at (is_item_of id (id x)) xs ∙ slice_get-get_or xs (position_or_len (is_item_of id (id x)) xs) x lt)

  -- and by the place after it
  pub put_behind : (xs : List A) (x : A) → length xs ≤ position_or_len (is_item_of id (id x)) xs → put_item id xs x ≡ xs ++ x ∷ []
  put_behind xs x le = put_is_push xs x (find_at (is_item_of id (id x)) xs ∙ slice_get_past xs (position_or_len (is_item_of id (id x)) xs) le)
