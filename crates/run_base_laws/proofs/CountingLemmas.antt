-- How many items of a list are of a branch.
use Rattle.std.proofs.Common.{◌≡◌, ℕ, ◌+◌, ◌≤◌, not, Bool, true, false, if◌then◌else◌, List, [], ◌∷◌, ◌++◌, map, filter, Some, refl, sym, ap, subst, ◌∙◌, arith}
use Rattle.std.proofs.lemmas.Bool.{cond_both}
use Rattle.tran_ids.specs.Branch.{same, branch_below, put_by_branch}
use Rattle.tran_ids.specs.Listed.{is_item_of, item_at, put_item, drop_item}
use Rattle.tran_ids.specs.declared.branch.BranchId.{BranchId}
use Rattle.tran_ids.proofs.BranchLemmas.{equal_from_same}
use Rattle.run_rules.proofs.ListLemmas.{put_ids}
use Rattle.run_base_laws.specs.NodeLaws.{count_of}

-- two items count alike in either order
two_counts : (c d : Bool) (n : ℕ) → (if c then 1 + (if d then 1 + n else n) else (if d then 1 + n else n)) ≡ (if d then 1 + (if c then 1 + n else n) else (if c then 1 + n else n))
two_counts true true n = refl
two_counts true false n = refl
two_counts false true n = refl
two_counts false false n = refl

module _ {A : Type 0} (id : A → BranchId) where
  module _ (b : BranchId) where
    count_ids : (xs : List A) → count_of id b xs ≡ count_of (λ m. m) b (map id xs)
    count_ids [] = refl
    count_ids (x ∷ xs) = ap (λ n. if is_item_of id b x then 1 + n else n) (count_ids xs)

    -- so a branch is there as often where its item is replaced
    pub count_put : (xs : List A) (x y : A) → item_at id xs (id x) ≡ Some y → count_of id b (put_item id xs x) ≡ count_of id b xs
    count_put xs x y found = count_ids (put_item id xs x) ∙ (ap (count_of (λ m. m) b) (put_ids id xs x y found) ∙ sym (count_ids xs))

    pub count_map : (f : A → A) → ((x : A) → id (f x) ≡ id x) → (xs : List A) → count_of id b (map f xs) ≡ count_of id b xs
    count_map f each [] = refl
    count_map f each (x ∷ xs) =
        ap (λ m. if same m b then 1 + count_of id b (map f xs) else count_of id b (map f xs)) (each x) ∙ ap (λ n. if is_item_of id b x then 1 + n else n) (count_map f each xs)

    pub count_filter : (p : A → Bool) (xs : List A) → count_of id b (filter p xs) ≤ count_of id b xs
    count_filter p [] = omega arith
    count_filter p (x ∷ xs) = grind (arith, count_filter p xs)

    pub count_last : (xs : List A) (x : A) → count_of id b (xs ++ x ∷ []) ≡ count_of id b (x ∷ xs)
    count_last [] x = refl
    count_last (y ∷ ys) x = grind (arith, count_last ys x)

    pub count_put_in : (xs : List A) (x : A) → count_of id b (put_by_branch id xs x) ≡ count_of id b (x ∷ xs)
    count_put_in [] x = refl
    count_put_in (y ∷ ys) x =
        cond_both (branch_below (id x) (id y)) _ _ (λ zs. count_of id b zs ≡ count_of id b (x ∷ y ∷ ys)) (λ first. refl)
        (λ later. ap (λ n. if is_item_of id b y then 1 + n else n) (count_put_in ys x) ∙ two_counts (is_item_of id b y) (is_item_of id b x) (count_of id b ys))

    -- one that is found counts
    count_found : (xs : List A) (x : A) → item_at id xs b ≡ Some x → 1 ≤ count_of id b xs
    count_found [] x found = absurd cc
    count_found (y ∷ ys) x found = grind (arith, count_found ys x)

    -- and one that is dropped does not
    count_dropped : (xs : List A) → count_of id b (drop_item id xs b) ≡ 0
    count_dropped [] = refl
    count_dropped (x ∷ xs) = grind (arith, count_dropped xs)

    -- so one that is there may go elsewhere
    pub count_moved : (xs : List A) (m : BranchId) (x : A) → item_at id xs m ≡ Some x → (if same m b then 1 else 0) + count_of id b (drop_item id xs m) ≤ count_of id b xs
    count_moved xs m x found = moved (same m b) refl
      where
        moved : (here : Bool) → same m b ≡ here → (if here then 1 else 0) + count_of id b (drop_item id xs m) ≤ count_of id b xs
        moved true is =
            let it : m ≡ b = equal_from_same m b is in
            let gone : count_of id b (drop_item id xs m) ≡ 0 = subst (λ c. count_of id b (drop_item id xs c) ≡ 0) (sym it) (count_dropped xs) in
            omega (arith, gone, count_found xs x (subst (λ c. item_at id xs c ≡ Some x) it found))
        moved false is = omega (arith, count_filter (λ y. not (same (id y) m)) xs)
