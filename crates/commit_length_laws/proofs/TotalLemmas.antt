-- Sums over lists: where an item is put, left out, changed or set.
use Rattle.std.proofs.Common.{◌≡◌, ℕ, zero, suc, ◌+◌, ◌≤◌, not, Bool, true, false, if◌then◌else◌, cond, List, [], ◌∷◌, ◌++◌, map, slice_get, slice_set, Some, refl, sym, ap, arith}
use Rattle.tran_ids.specs.Branch.{branch_below, put_by_branch}
use Rattle.redo_record.specs.Lists.{change_where}
use Rattle.node_rules.specs.Data.{BranchId}
use Rattle.tran_ids.proofs.BranchLemmas.{equal_from_same}
use Rattle.run_base_laws.specs.NodeLaws.{count_of}
use Rattle.node_rules.specs.Words.{same, is_item_of, item_at, put_item, drop_item, numbered, set_numbered}
use Rattle.commit_length_laws.specs.Worth.{total}

module _ {A : Type 0} (f : A → ℕ) where
  pub total_append : (xs ys : List A) → total f (xs ++ ys) ≡ total f xs + total f ys
  total_append [] ys = omega arith
  total_append (x ∷ xs) ys = (let rest = total_append xs ys in omega (arith, rest))

  pub total_low : (g : A → ℕ) → ((x : A) → f x ≤ g x) → (xs : List A) → total f xs ≤ total g xs
  total_low g low [] = omega arith
  total_low g low (x ∷ xs) = (let here = low x in let rest = total_low g low xs in omega (arith, here, rest))

  -- ---- items of branches

  module _ (id : A → BranchId) where
    less_one : (b : BranchId) (xs : List A) → total f (drop_item id xs b) ≤ total f xs
    less_one b [] = omega arith
    less_one b (y ∷ ys) = by (same (id y) b) (less_one b ys)
      where
        by : (q : Bool) → total f (drop_item id ys b) ≤ total f ys → total f (cond (not q) (y ∷ drop_item id ys b) (drop_item id ys b)) ≤ f y + total f ys
        by true rest = omega (arith, rest)
        by false rest = omega (arith, rest)

    pub drop_total : (b : BranchId) (xs : List A) (x : A) → item_at id xs b ≡ Some x → total f (drop_item id xs b) + f x ≤ total f xs
    drop_total b [] x found = absurd cc
    drop_total b (y ∷ ys) x found = by (same (id y) b) found (less_one b ys) (drop_total b ys x)
      where
        by : (q : Bool) → (if q then Some y else item_at id ys b) ≡ Some x → total f (drop_item id ys b) ≤ total f ys → (item_at id ys b ≡ Some x → total f (drop_item id ys b) + f x ≤ total f ys)
            → total f (cond (not q) (y ∷ drop_item id ys b) (drop_item id ys b)) + f x ≤ f y + total f ys
        by true at less rest = (let it : y ≡ x = cc in let same_f : f y ≡ f x = ap f it in omega (arith, less, same_f))
        by false at less rest = (let low = rest at in omega (arith, low))

    pub put_total : (xs : List A) (y x : A) → item_at id xs (id y) ≡ Some x → total f (put_item id xs y) + f x ≡ total f xs + f y
    put_total [] y x found = absurd cc
    put_total (z ∷ zs) y x found = by (same (id z) (id y)) found (put_total zs y x)
      where
        by : (q : Bool) → (if q then Some z else item_at id zs (id y)) ≡ Some x → (item_at id zs (id y) ≡ Some x → total f (put_item id zs y) + f x ≡ total f zs + f y)
            → total f (if q then y ∷ zs else z ∷ put_item id zs y) + f x ≡ (f z + total f zs) + f y
        by true at rest = (let it : z ≡ x = cc in let same_f : f z ≡ f x = ap f it in omega (arith, same_f))
        by false at rest = (let is = rest at in omega (arith, is))

    pub insert_total : (xs : List A) (y : A) → total f (put_by_branch id xs y) ≡ total f xs + f y
    insert_total [] y = omega arith
    insert_total (z ∷ zs) y = by (branch_below (id y) (id z)) (insert_total zs y)
      where
        by : (q : Bool) → total f (put_by_branch id zs y) ≡ total f zs + f y → total f (if q then y ∷ z ∷ zs else z ∷ put_by_branch id zs y) ≡ (f z + total f zs) + f y
        by true rest = omega arith
        by false rest = omega (arith, rest)

    -- ---- changes of the items of a branch

    module _ (b : BranchId) (h : A → A) (low : (x : A) → f (h x) ≤ f x) where
      pub change_low : (xs : List A) → total f (change_where (is_item_of id b) h xs) ≤ total f xs
      change_low [] = omega arith
      change_low (y ∷ ys) = by (same (id y) b) (change_low ys)
        where
          by : (q : Bool) → total f (change_where (is_item_of id b) h ys) ≤ total f ys → f (if q then h y else y) + total f (change_where (is_item_of id b) h ys) ≤ f y + total f ys
          by true rest = (let here = low y in omega (arith, here, rest))
          by false rest = omega (arith, rest)

      pub change_total : (xs : List A) (x : A) → item_at id xs b ≡ Some x → total f (change_where (is_item_of id b) h xs) + f x ≤ total f xs + f (h x)
      change_total [] x found = absurd cc
      change_total (y ∷ ys) x found = by (same (id y) b) found (change_low ys) (change_total ys x)
        where
          by : (q : Bool) → (if q then Some y else item_at id ys b) ≡ Some x → total f (change_where (is_item_of id b) h ys) ≤ total f ys → (item_at id ys b ≡ Some x → total f (change_where (is_item_of id b) h ys) + f x ≤ total f ys + f (h x))
              → (f (if q then h y else y) + total f (change_where (is_item_of id b) h ys)) + f x ≤ (f y + total f ys) + f (h x)
          by true at less rest = (let it : y ≡ x = cc in let one : f y ≡ f x = ap f it in let two : f (h y) ≡ f (h x) = ap (λ z. f (h z)) it in omega (arith, less, one, two))
          by false at less rest = (let is = rest at in omega (arith, is))

    -- where no branch has two items
    module _ (b : BranchId) (h : A → A) where
      change_none : (xs : List A) → count_of id b xs ≡ 0 → total f (change_where (is_item_of id b) h xs) ≡ total f xs
      change_none [] none = refl
      change_none (y ∷ ys) none = by (same (id y) b) none (change_none ys)
        where
          by : (q : Bool) → (if q then 1 + count_of id b ys else count_of id b ys) ≡ 0 → (count_of id b ys ≡ 0 → total f (change_where (is_item_of id b) h ys) ≡ total f ys) → f (if q then h y else y) + total f (change_where (is_item_of id b) h ys) ≡ f y + total f ys
          by true is rest = absurd (omega (arith, is))
          by false is rest = (let same_rest = rest is in omega (arith, same_rest))

      pub change_once : (xs : List A) (x : A) → item_at id xs b ≡ Some x → count_of id b xs ≤ 1 → total f (change_where (is_item_of id b) h xs) + f x ≡ total f xs + f (h x)
      change_once [] x found one = absurd cc
      change_once (y ∷ ys) x found one = by (same (id y) b) found one (change_none ys) (change_once ys x)
        where
          by : (q : Bool) → (if q then Some y else item_at id ys b) ≡ Some x → (if q then 1 + count_of id b ys else count_of id b ys) ≤ 1 → (count_of id b ys ≡ 0 → total f (change_where (is_item_of id b) h ys) ≡ total f ys)
              → (item_at id ys b ≡ Some x → count_of id b ys ≤ 1 → total f (change_where (is_item_of id b) h ys) + f x ≡ total f ys + f (h x))
              → (f (if q then h y else y) + total f (change_where (is_item_of id b) h ys)) + f x ≡ (f y + total f ys) + f (h x)
          by true at low none rest = (let it : y ≡ x = cc in let alike : f y ≡ f x = ap f it in let changed : f (h y) ≡ f (h x) = ap (λ z. f (h z)) it in let same_rest = none (omega (arith, low)) in omega (arith, alike, changed, same_rest))
          by false at low none rest = (let is = rest at low in omega (arith, is))

  -- ---- items of numbers

  slice_total : (xs : List A) (i : ℕ) (x y : A) → slice_get xs i ≡ Some x → total f (slice_set xs i y) + f x ≡ total f xs + f y
  slice_total [] i x y at = absurd cc
  slice_total (z ∷ zs) zero x y at = (let it : z ≡ x = cc in let same_f : f z ≡ f x = ap f it in omega (arith, same_f))
  slice_total (z ∷ zs) (suc i) x y at = (let is = slice_total zs i x y at in omega (arith, is))

  pub set_total : (xs : List A) (n : ℕ) (x y : A) → numbered xs n ≡ Some x → total f (set_numbered xs n y) + f x ≡ total f xs + f y
  set_total xs zero x y at = absurd cc
  set_total xs (suc i) x y at = slice_total xs i x y at

-- an item that is put in the place of another of its branch is no item more
pub put_count : {A : Type 0} (id : A → BranchId) (b : BranchId) (xs : List A) (y x : A) → item_at id xs (id y) ≡ Some x → count_of id b (put_item id xs y) ≡ count_of id b xs
put_count id b [] y x found = absurd cc
put_count id b (z ∷ zs) y x found = by (same (id z) (id y)) refl found (put_count id b zs y x)
  where
    by : (q : Bool) → same (id z) (id y) ≡ q → (if q then Some z else item_at id zs (id y)) ≡ Some x → (item_at id zs (id y) ≡ Some x → count_of id b (put_item id zs y) ≡ count_of id b zs)
        → count_of id b (if q then y ∷ zs else z ∷ put_item id zs y) ≡ (if same (id z) b then 1 + count_of id b zs else count_of id b zs)
    by true is at rest = ap (λ (i : BranchId). if same i b then 1 + count_of id b zs else count_of id b zs) (sym (equal_from_same (id z) (id y) is))
    by false is at rest = ap (λ n. if same (id z) b then 1 + n else n) (rest at)

pub total_map : {A B : Type 0} (f : B → ℕ) (h : A → B) (xs : List A) → total f (map h xs) ≡ total (λ x. f (h x)) xs
total_map f h [] = refl
total_map f h (x ∷ xs) = (let rest = total_map f h xs in omega (arith, rest))
