-- The first key with a holder, in the order of keys, does not hang on the other keys that it stands among.
use Rattle.std.proofs.Common.{◌≡◌, ◌⊎◌, ◌||◌, Bool, true, false, true≢false, if◌then◌else◌, List, [], ◌∷◌, ◌++◌, fold, map, Option, Some, None, inl, inr, refl, sym, ap, subst, ◌∙◌}
use Rattle.std.specs.declared.cmp.Ordering.TheVariants.{Less}
use Rattle.std.specs.Ordering.{is_eq}
use Rattle.std.specs.List.{list_any, AllByRecursion}
use Rattle.dtx_values.specs.Order.{same_value, value_below, value_cmp}
use Rattle.dtx_values.proofs.RowLookups.{values_total}
use Rattle.dtx_values.proofs.ValueOrder.{apart_less, below_less, equal_from_same, same_from_equal}
use Rattle.sql_check.specs.Words.{first_some}
use Rattle.sql_eval.specs.Meaning.{examined_by, fixed_key}
use Rattle.sql_eval.specs.Rows.{keys_of, put_key}
use Rattle.node_rules.specs.Data.{Value, Stmt, Table, BranchId, Keyed}
use Rattle.node_rules.specs.Meaning.{examined}
use Rattle.refusal_laws.proofs.CauseLemmas.{any_behind, order_any}

-- ---- keys in order

abbrev Below : Value → List Value → Type 0
Below p ks = AllByRecursion (λ q. value_cmp p q ≡ Less) ks

abbrev Rises : List Value → Type 0
Rises [] = Unit {0}
Rises (k ∷ ks) = Below k ks × Rises ks

below_further : (k p : Value) (ks : List Value) → value_cmp k p ≡ Less → Below p ks → Below k ks
below_further k p [] less all = tt
below_further k p (q ∷ ks) less all = (values_total.trans k p q less all.0, below_further k p ks less all.1)

below_put : (p k : Value) (ks : List Value) → value_cmp p k ≡ Less → Below p ks → Below p (put_key ks k)
below_put p k [] less all = (less, tt)
below_put p k (q ∷ ks) less all = by (same_value q k) (value_below k q) (below_put p k ks less all.1)
  where
    by : (same below : Bool) → Below p (put_key ks k) → Below p (if same then q ∷ ks else (if below then k ∷ q ∷ ks else q ∷ put_key ks k))
    by true below rest = all
    by false true rest = (less, all)
    by false false rest = (all.0, rest)

put_rises : (k : Value) (ks : List Value) → Rises ks → Rises (put_key ks k)
put_rises k [] rises = (tt, tt)
put_rises k (q ∷ ks) rises = by (same_value q k) (value_below k q) refl refl (put_rises k ks rises.1)
  where
    by : (same below : Bool) → same_value q k ≡ same → value_below k q ≡ below → Rises (put_key ks k) → Rises (if same then q ∷ ks else (if below then k ∷ q ∷ ks else q ∷ put_key ks k))
    by true below same is rest = rises
    by false true same is rest = (let less = below_less k q is in ((less, below_further k q ks less rises.0), rises))
    by false false same is rest = (below_put q k ks (apart_less q k same is) rises.0, rest)

order_rises : (ordered ks : List Value) → Rises ordered → Rises (fold put_key ordered ks)
order_rises ordered [] rises = rises
order_rises ordered (k ∷ ks) rises = order_rises (put_key ordered k) ks (put_rises k ordered rises)

-- ---- the first with a holder

module _ (f : Value → Option BranchId) where
  -- A key with a holder, below each other such key of these.
  record First (ks : List Value) (b : BranchId) : Type 0 where
    key : Value
    held : f key ≡ Some b
    there : list_any (same_value key) ks ≡ true
    least : (w : Value) (c : BranchId) → f w ≡ Some c → list_any (same_value w) ks ≡ true → (w ≡ key) ⊎ (value_cmp key w ≡ Less)

  below_so : (p w : Value) (ks : List Value) → Below p ks → list_any (same_value w) ks ≡ true → value_cmp p w ≡ Less
  below_so p w [] all is = absurd cc
  below_so p w (q ∷ ks) all is = by (same_value w q) refl is (below_so p w ks all.1)
    where
      by : (same : Bool) → same_value w q ≡ same → (same || list_any (same_value w) ks) ≡ true → (list_any (same_value w) ks ≡ true → value_cmp p w ≡ Less) → value_cmp p w ≡ Less
      by true alike is later = subst (λ z. value_cmp p z ≡ Less) (sym (equal_from_same w q alike)) all.0
      by false alike is later = later is

  first_is : (ks : List Value) (b : BranchId) → Rises ks → first_some (map f ks) ≡ Some b → First ks b
  first_is [] b rises is = absurd cc
  first_is (k ∷ ks) b rises is = by (f k) refl is (first_is ks b rises.1)
    where
      itself : (same_value k k || list_any (same_value k) ks) ≡ true
      itself = ap (λ q. q || list_any (same_value k) ks) (same_from_equal k k refl)

      more : (q r : Bool) → r ≡ true → (q || r) ≡ true
      more true r is = refl
      more false r is = is

      by : (o : Option BranchId) → f k ≡ o → first_some (o ∷ map f ks) ≡ Some b → (first_some (map f ks) ≡ Some b → First ks b) → First (k ∷ ks) b
      by (Some c) at is later = record { key = k; held = at ∙ is; there = itself; least = λ w d held among. either w (same_value w k) refl among }
        where
          either : (w : Value) (q : Bool) → same_value w k ≡ q → (q || list_any (same_value w) ks) ≡ true → (w ≡ k) ⊎ (value_cmp k w ≡ Less)
          either w true alike among = inl (equal_from_same w k alike)
          either w false alike among = inr (below_so k w ks rises.0 among)
      by None at is later = (let it = later is in record { key = it.key; held = it.held; there = more (same_value it.key k) (list_any (same_value it.key) ks) it.there; least = λ w d held among. other it w d held (same_value w k) refl among })
        where
          other : (it : First ks b) (w : Value) (d : BranchId) → f w ≡ Some d → (q : Bool) → same_value w k ≡ q → (q || list_any (same_value w) ks) ≡ true → (w ≡ it.key) ⊎ (value_cmp it.key w ≡ Less)
          other it w d held true alike among = (let gone : f w ≡ None = ap f (equal_from_same w k alike) ∙ at in absurd (cc (gone, held)))
          other it w d held false alike among = it.least w d held among

  none_is : (ks : List Value) → first_some (map f ks) ≡ None → (w : Value) (c : BranchId) → f w ≡ Some c → list_any (same_value w) ks ≡ true → ⊥
  none_is [] is w c held among = absurd cc
  none_is (k ∷ ks) is w c held among = by (f k) refl is (none_is ks)
    where
      by : (o : Option BranchId) → f k ≡ o → first_some (o ∷ map f ks) ≡ None → (first_some (map f ks) ≡ None → (v : Value) (d : BranchId) → f v ≡ Some d → list_any (same_value v) ks ≡ true → ⊥) → ⊥
      by (Some d) at is later = absurd cc
      by None at is later = either (same_value w k) refl among
        where
          either : (q : Bool) → same_value w k ≡ q → (q || list_any (same_value w) ks) ≡ true → ⊥
          either true alike among = (let gone : f w ≡ None = ap f (equal_from_same w k alike) ∙ at in absurd (cc (gone, held)))
          either false alike among = later is w c held among

  not_both : (v w : Value) → value_cmp v w ≡ Less → value_cmp w v ≡ Less → ⊥
  not_both v w one two =
      let less : value_cmp v v ≡ Less = values_total.trans v w v one two in
      let equal : is_eq (value_cmp v v) ≡ true = same_from_equal v v refl in
      let unequal : is_eq (value_cmp v v) ≡ false = ap is_eq less in
      true≢false (sym equal ∙ unequal)

  -- lists in order that both have each key with a holder have the same first one
  module _ (xs ys : List Value) (x_rises : Rises xs) (y_rises : Rises ys) (in_x : (w : Value) (c : BranchId) → f w ≡ Some c → list_any (same_value w) xs ≡ true) (in_y : (w : Value) (c : BranchId) → f w ≡ Some c → list_any (same_value w) ys ≡ true) where
    first_same : first_some (map f xs) ≡ first_some (map f ys)
    first_same = by (first_some (map f xs)) (first_some (map f ys)) refl refl
      where
        by : (o p : Option BranchId) → first_some (map f xs) ≡ o → first_some (map f ys) ≡ p → o ≡ p
        by None None one two = refl
        by None (Some b) one two = (let it = first_is ys b y_rises two in absurd (none_is xs one it.key b it.held (in_x it.key b it.held)))
        by (Some a) None one two = (let it = first_is xs a x_rises one in absurd (none_is ys two it.key a it.held (in_y it.key a it.held)))
        by (Some a) (Some b) one two =
            let v = first_is xs a x_rises one in
            let w = first_is ys b y_rises two in
            both v w (v.least w.key b w.held (in_x w.key b w.held)) (w.least v.key a v.held (in_y v.key a v.held))
          where
            alike : (v : First xs a) (w : First ys b) → w.key ≡ v.key → Some a ≡ Some b
            alike v w one = sym v.held ∙ (ap f (sym one) ∙ w.held)

            both : (v : First xs a) (w : First ys b) → (w.key ≡ v.key) ⊎ (value_cmp v.key w.key ≡ Less) → (v.key ≡ w.key) ⊎ (value_cmp w.key v.key ≡ Less) → Some a ≡ Some b
            both v w (inl one) second = alike v w one
            both v w (inr less) (inl two) = alike v w (sym two)
            both v w (inr less) (inr more) = absurd (not_both v.key w.key less more)

  -- so a statement that examines each key with a holder, or one that it fixes, examines the same first one
  pub first_examined : (s : Stmt) (t : Table) (view more : List Keyed) (locked others : List Value) → ((w : Value) (c : BranchId) → f w ≡ Some c → list_any (same_value w) locked ≡ true)
      → ((w : Value) (c : BranchId) → f w ≡ Some c → list_any (same_value w) others ≡ true) → first_some (map f (examined s t view locked)) ≡ first_some (map f (examined s t more others))
  unfolding examined
  first_examined s t view more locked others in_locked in_others = by (fixed_key s t)
    where
      by : (o : Option Value) → first_some (map f (examined_by view locked o)) ≡ first_some (map f (examined_by more others o))
      by (Some key) = refl
      by None = first_same (fold put_key [] (keys_of view ++ locked)) (fold put_key [] (keys_of more ++ others)) (order_rises [] (keys_of view ++ locked) tt) (order_rises [] (keys_of more ++ others) tt)
          (λ w c held. order_any (same_value w) [] (keys_of view ++ locked) (any_behind (same_value w) (keys_of view) locked (in_locked w c held)))
          (λ w c held. order_any (same_value w) [] (keys_of more ++ others) (any_behind (same_value w) (keys_of more) others (in_others w c held)))
