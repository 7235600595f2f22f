-- Items that are put one after the other at their places stand in the order of their branches, each branch once.
use Rattle.std.proofs.Common.{◌≡◌, ◌≢◌, ℕ, ◌+◌, ◌≤◌, ◌||◌, Bool, true, false, if◌then◌else◌, List, [], ◌∷◌, ◌++◌, map, filter, flat_map, Some, inl, inr, refl, sym, ap, subst, ◌∙◌, arith}
use Rattle.std.specs.Prelude.{◌⊎◌, fold}
use Rattle.std.specs.List.{AllByRecursion}
use Rattle.std.proofs.lemmas.Bool.{or_left, or_right}
use Rattle.std.proofs.lemmas.Bool.Decides.{nat_tests}
use Rattle.tran_ids.specs.Branch.{branch_below, put_by_branch}
use Rattle.tran_ids.proofs.BranchLemmas.{same_from_equal}
use Rattle.redo_record.specs.Order.{NoneBefore, AreInOrder}
use Rattle.node_rules.specs.Data.{BranchId, KeptRow}
use Rattle.node_rules.specs.NodeState.{kept_row_id}
use Rattle.node_rules.specs.Words.{same, item_at}
use Rattle.run_rules.specs.Branches.{is_among}
use Rattle.run_base_laws.specs.NodeLaws.{count_of}
use Rattle.run_rules.proofs.ListLemmas.{all_weaker, all_put}
use Rattle.view_laws.specs.ViewLaws.{AreAscending, AreRowsOf}
use Rattle.view_laws.proofs.RowLemmas.{same_turned}

below_far : (a b c : BranchId) → branch_below a b ≡ true → branch_below b c ≡ true → branch_below a c ≡ true
below_far a b c ab bc = grind (arith, nat_tests, ab, bc)

below_other : (a b : BranchId) → a.node ≡ b.node → branch_below a b ≡ false → same a b ≡ false → branch_below b a ≡ true
below_other a b node below apart = grind (arith, nat_tests, node, below, apart)

module _ {A : Type 0} (id : A → BranchId) where
  all_ids_put : (P : BranchId → Type 0) (xs : List A) (x : A) → AllByRecursion P (map id xs) → P (id x) → AllByRecursion P (map id (put_by_branch id xs x))
  all_ids_put P [] x all new = (new, tt)
  all_ids_put P (y ∷ ys) x all new = by (branch_below (id x) (id y)) (all_ids_put P ys x all.1 new)
    where
      by : (q : Bool) → AllByRecursion P (map id (put_by_branch id ys x)) → AllByRecursion P (map id (if q then x ∷ y ∷ ys else y ∷ put_by_branch id ys x))
      by true rest = (new, all)
      by false rest = (all.0, rest)

  -- of the same node, and of other branches
  abbrev pub Others : A → List A → Type 0
  Others x xs = AllByRecursion (λ y. ((id x).node ≡ (id y).node) × (same (id x) (id y) ≡ false)) xs

  put_up : (xs : List A) (x : A) → AreAscending (map id xs) → Others x xs → AreAscending (map id (put_by_branch id xs x))
  put_up [] x up others = (tt, tt)
  put_up (y ∷ ys) x up others = by (branch_below (id x) (id y)) refl (put_up ys x up.1 others.1)
    where
      by : (q : Bool) → branch_below (id x) (id y) ≡ q → AreAscending (map id (put_by_branch id ys x)) → AreAscending (map id (if q then x ∷ y ∷ ys else y ∷ put_by_branch id ys x))
      by true below rest = ((below, all_weaker (λ c. branch_below (id y) c ≡ true) (λ c. branch_below (id x) c ≡ true) (λ c so. below_far (id x) (id y) c below so) (map id ys) up.0), up)
      by false below rest = (all_ids_put (λ c. branch_below (id y) c ≡ true) ys x up.0 (below_other (id x) (id y) others.0.0 below others.0.1), rest)

  -- each is of the same node as all behind it, and of another branch
  abbrev pub AreApart : List A → Type 0
  AreApart [] = Unit {0}
  AreApart (x ∷ xs) = Others x xs × AreApart xs

  fold_up : (xs acc : List A) → AreAscending (map id acc) → AreApart xs → AllByRecursion (λ x. Others x acc) xs → AreAscending (map id (fold (put_by_branch id) acc xs))
  fold_up [] acc up apart news = up
  fold_up (x ∷ xs) acc up apart news =
      fold_up xs (put_by_branch id acc x) (put_up acc x up news.0) apart.1 (by xs apart.0 news.1)
    where
      by : (ys : List A) → Others x ys → AllByRecursion (λ y. Others y acc) ys → AllByRecursion (λ y. Others y (put_by_branch id acc x)) ys
      by [] others news = tt
      by (y ∷ ys) others news = (all_put (λ z. ((id y).node ≡ (id z).node) × (same (id y) (id z) ≡ false)) id acc x news.0 (sym others.0.0, same_turned (id x) (id y) others.0.1), by ys others.1 news.1)

  fold_all : (P : A → Type 0) (xs acc : List A) → AllByRecursion P acc → AllByRecursion P xs → AllByRecursion P (fold (put_by_branch id) acc xs)
  fold_all P [] acc old new = old
  fold_all P (x ∷ xs) acc old new = fold_all P xs (put_by_branch id acc x) (all_put P id acc x old new.0) new.1

  put_among : (b : BranchId) (xs : List A) (x : A) → is_among b (map id (x ∷ xs)) ≡ true → is_among b (map id (put_by_branch id xs x)) ≡ true
  put_among b [] x is = is
  put_among b (y ∷ ys) x is = by (branch_below (id x) (id y)) (same (id y) b) refl (put_among b ys x)
    where
      by : (q : Bool) (here : Bool) → same (id y) b ≡ here → (is_among b (map id (x ∷ ys)) ≡ true → is_among b (map id (put_by_branch id ys x)) ≡ true)
          → is_among b (map id (if q then x ∷ y ∷ ys else y ∷ put_by_branch id ys x)) ≡ true
      by true here at later = is
      by false true at later = or_left (same (id y) b) (is_among b (map id (put_by_branch id ys x))) at
      by false false at later = or_right (same (id y) b) (is_among b (map id (put_by_branch id ys x))) (later (move (same (id x) b) (is_among b (map id ys)) (sym (ap (λ q. same (id x) b || (q || is_among b (map id ys))) at) ∙ is)))
        where
          move : (p q : Bool) → (p || (false || q)) ≡ true → (p || q) ≡ true
          move true q is = refl
          move false q is = is

  fold_among : (b : BranchId) (xs acc : List A) → (is_among b (map id acc) ≡ true) ⊎ (is_among b (map id xs) ≡ true) → is_among b (map id (fold (put_by_branch id) acc xs)) ≡ true
  fold_among b [] acc (inl is) = is
  fold_among b [] acc (inr is) = absurd cc
  fold_among b (x ∷ xs) acc (inl is) = fold_among b xs (put_by_branch id acc x) (inl (put_among b acc x (or_right (same (id x) b) (is_among b (map id acc)) is)))
  fold_among b (x ∷ xs) acc (inr is) = by (same (id x) b) refl (λ so. fold_among b xs (put_by_branch id acc x) so)
    where
      by : (q : Bool) → same (id x) b ≡ q → ((is_among b (map id (put_by_branch id acc x)) ≡ true) ⊎ (is_among b (map id xs) ≡ true) → is_among b (map id (fold (put_by_branch id) (put_by_branch id acc x) xs)) ≡ true) → is_among b (map id (fold (put_by_branch id) (put_by_branch id acc x) xs)) ≡ true
      by true here go = go (inl (put_among b acc x (or_left (same (id x) b) (is_among b (map id acc)) here)))
      by false other go = go (inr (sym (ap (λ q. q || is_among b (map id xs)) other) ∙ is))

  -- items of one branch each
  pub rows_flat : {B : Type 0} (g : BranchId → List B) (h : A → List B) (xs : List A) → AllByRecursion (λ x. g (id x) ≡ h x) xs → flat_map h xs ≡ flat_map g (map id xs)
  rows_flat g h [] all = refl
  rows_flat g h (x ∷ xs) all = λ i. sym all.0 i ++ rows_flat g h xs all.1 i

  self_flat : (xs : List A) → flat_map (λ x. x ∷ []) xs ≡ xs
  self_flat [] = refl
  self_flat (x ∷ xs) = ap (λ ys. x ∷ ys) (self_flat xs)

  -- what is sorted has the rows of all its branches
  pub sorted_rows : (g : BranchId → List A) (xs : List A) → AreApart xs → AllByRecursion (λ x. g (id x) ≡ x ∷ []) xs → ((b : BranchId) → g b ≢ [] → is_among b (map id xs) ≡ true) → AreRowsOf g (fold (put_by_branch id) [] xs)
  sorted_rows g xs apart each all = record {
    branches = map id (fold (put_by_branch id) [] xs);
    order = fold_up xs [] tt apart (all_unit xs);
    all = λ b some. fold_among b xs [] (inr (all b some));
    are = sym (self_flat (fold (put_by_branch id) [] xs)) ∙ rows_flat g (λ x. x ∷ []) (fold (put_by_branch id) [] xs) (fold_all (λ x. g (id x) ≡ x ∷ []) xs [] tt each);
  }
    where
      all_unit : (ys : List A) → AllByRecursion (λ y. Others y []) ys
      all_unit [] = tt
      all_unit (y ∷ ys) = (tt, all_unit ys)

  -- ---- by counts

  none_of : (b : BranchId) (node : ℕ) (xs : List A) → count_of id b xs ≤ 0 → b.node ≡ node → AllByRecursion (λ x. (id x).node ≡ node) xs → AllByRecursion (λ y. (b.node ≡ (id y).node) × (same b (id y) ≡ false)) xs
  none_of b node [] none at all = tt
  none_of b node (x ∷ xs) none at all = by (same (id x) b) refl none (λ less. none_of b node xs less at all.1)
    where
      by : (q : Bool) → same (id x) b ≡ q → (if q then 1 + count_of id b xs else count_of id b xs) ≤ 0 → (count_of id b xs ≤ 0 → AllByRecursion (λ y. (b.node ≡ (id y).node) × (same b (id y) ≡ false)) xs) → AllByRecursion (λ y. (b.node ≡ (id y).node) × (same b (id y) ≡ false)) (x ∷ xs)
      by true is some later = absurd (omega (arith, some))
      by false is less later = ((at ∙ sym all.0, same_turned (id x) b is), later less)

  count_self : (x : A) (xs : List A) → count_of id (id x) (x ∷ xs) ≡ 1 + count_of id (id x) xs
  count_self x xs = ap (λ q. if q then 1 + count_of id (id x) xs else count_of id (id x) xs) (same_from_equal (id x) (id x) refl)

  count_less : (b : BranchId) (x : A) (xs : List A) → count_of id b xs ≤ count_of id b (x ∷ xs)
  count_less b x xs = by (same (id x) b)
    where
      by : (q : Bool) → count_of id b xs ≤ (if q then 1 + count_of id b xs else count_of id b xs)
      by true = omega arith
      by false = omega arith

  -- items of one node, of each branch one at most
  pub apart_by : (node : ℕ) (xs : List A) → ((b : BranchId) → count_of id b xs ≤ 1) → AllByRecursion (λ x. (id x).node ≡ node) xs → AreApart xs
  apart_by node [] one all = tt
  apart_by node (x ∷ xs) one all = (
    none_of (id x) node xs (omega (arith, one (id x), count_self x xs)) all.0 all.1,
    apart_by node xs (λ b. omega (arith, one b, count_less b x xs)) all.1,
  )

  -- each is found by its branch
  pub found_each : (xs : List A) → ((b : BranchId) → count_of id b xs ≤ 1) → AllByRecursion (λ x. item_at id xs (id x) ≡ Some x) xs
  found_each [] one = tt
  found_each (x ∷ xs) one = (
    ap (λ q. if q then Some x else item_at id xs (id x)) (same_from_equal (id x) (id x) refl),
    go xs (omega (arith, one (id x), count_self x xs)) (found_each xs (λ b. omega (arith, one b, count_less b x xs))),
  )
    where
      go : (ys : List A) → count_of id (id x) ys ≤ 0 → AllByRecursion (λ y. item_at id xs (id y) ≡ Some y) ys → AllByRecursion (λ y. item_at id (x ∷ xs) (id y) ≡ Some y) ys
      go [] none all = tt
      go (y ∷ ys) none all = by (same (id y) (id x)) refl none (λ less. go ys less all.1)
        where
          by : (q : Bool) → same (id y) (id x) ≡ q → (if q then 1 + count_of id (id x) ys else count_of id (id x) ys) ≤ 0 → (count_of id (id x) ys ≤ 0 → AllByRecursion (λ z. item_at id (x ∷ xs) (id z) ≡ Some z) ys) → AllByRecursion (λ y. item_at id (x ∷ xs) (id y) ≡ Some y) (y ∷ ys)
          by true is some later = absurd (omega (arith, some))
          by false is less later = (ap (λ q. if q then Some x else item_at id xs (id y)) (same_turned (id y) (id x) is) ∙ all.0, later less)

module _ {A B : Type 0} (id : A → BranchId) (own : B → BranchId) (g : A → B) (keeps : (x : A) → own (g x) ≡ id x) where
  pub count_mapped : (b : BranchId) (xs : List A) → count_of own b (map g xs) ≡ count_of id b xs
  count_mapped b [] = refl
  count_mapped b (x ∷ xs) = λ i. if same (keeps x i) b then 1 + count_mapped b xs i else count_mapped b xs i

  -- an item that is found and passes is among those that pass
  pub found_among : (p : A → Bool) (b : BranchId) (xs : List A) (x : A) → item_at id xs b ≡ Some x → p x ≡ true → is_among b (map own (map g (filter p xs))) ≡ true
  found_among p b [] x found passes = absurd cc
  found_among p b (y ∷ ys) x found passes = by (same (id y) b) refl found (p y) refl (λ later. found_among p b ys x later passes)
    where
      by : (here : Bool) → same (id y) b ≡ here → (if here then Some y else item_at id ys b) ≡ Some x → (q : Bool) → p y ≡ q → (item_at id ys b ≡ Some x → is_among b (map own (map g (filter p ys))) ≡ true)
          → is_among b (map own (map g (if q then y ∷ filter p ys else filter p ys))) ≡ true
      by true is found true pass later = or_left (same (own (g y)) b) (is_among b (map own (map g (filter p ys)))) (ap (λ m. same m b) (keeps y) ∙ is)
      by true is found false pass later = (let it : y ≡ x = cc in let no : p x ≡ false = subst (λ z. p z ≡ false) it pass in absurd (cc (no, passes)))
      by false is found true pass later = or_right (same (own (g y)) b) (is_among b (map own (map g (filter p ys)))) (later found)
      by false is found false pass later = later found

pub count_joined : {A : Type 0} (id : A → BranchId) (b : BranchId) (xs ys : List A) → count_of id b (xs ++ ys) ≡ count_of id b xs + count_of id b ys
count_joined id b [] ys = omega arith
count_joined id b (x ∷ xs) ys = by (same (id x) b) (count_joined id b xs ys)
  where
    by : (q : Bool) → count_of id b (xs ++ ys) ≡ count_of id b xs + count_of id b ys → (if q then 1 + count_of id b (xs ++ ys) else count_of id b (xs ++ ys)) ≡ (if q then 1 + count_of id b xs else count_of id b xs) + count_of id b ys
    by true so = omega (arith, so)
    by false so = so

-- rows of a node that are in order, each branch once, ascend
pub strict : (ks : List KeptRow) → AreInOrder ks → AreApart kept_row_id ks → AreAscending (map kept_row_id ks)
strict [] order apart = tt
strict (s ∷ ks) order apart = (by ks order.0 apart.0, strict ks order.1 apart.1)
  where
    by : (xs : List KeptRow) → NoneBefore s.me xs → Others kept_row_id s xs → AllByRecursion (λ c. branch_below s.me c ≡ true) (map kept_row_id xs)
    by [] none others = tt
    by (x ∷ xs) none others = (below_other x.me s.me (sym others.0.0) none.0 (same_turned s.me x.me others.0.1), by xs none.1 others.1)

ids_filter : (P : BranchId → Type 0) (p : KeptRow → Bool) (ks : List KeptRow) → AllByRecursion P (map kept_row_id ks) → AllByRecursion P (map kept_row_id (filter p ks))
ids_filter P p [] all = tt
ids_filter P p (s ∷ ks) all = by (p s) (ids_filter P p ks all.1)
  where
    by : (q : Bool) → AllByRecursion P (map kept_row_id (filter p ks)) → AllByRecursion P (map kept_row_id (if q then s ∷ filter p ks else filter p ks))
    by true rest = (all.0, rest)
    by false rest = rest

pub ascend_filter : (p : KeptRow → Bool) (ks : List KeptRow) → AreAscending (map kept_row_id ks) → AreAscending (map kept_row_id (filter p ks))
ascend_filter p [] up = tt
ascend_filter p (s ∷ ks) up = by (p s) (ascend_filter p ks up.1)
  where
    by : (q : Bool) → AreAscending (map kept_row_id (filter p ks)) → AreAscending (map kept_row_id (if q then s ∷ filter p ks else filter p ks))
    by true rest = (ids_filter (λ c. branch_below s.me c ≡ true) p ks up.0, rest)
    by false rest = rest
