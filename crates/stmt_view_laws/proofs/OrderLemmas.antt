-- Rows in the order of their keys: changes keep the order, and two such lists that have the same row at each
-- key are one list.
use Rattle.std.proofs.Common.{◌≡◌, Bool, true, false, cond, not, List, [], ◌∷◌, Option, None, Some, refl, sym, ap, subst, ◌∙◌}
use Rattle.std.specs.declared.cmp.Ordering.{Ordering}
use Rattle.std.specs.declared.cmp.Ordering.TheVariants.{Less, Equal, Greater}
use Rattle.std.specs.Ordering.{is_eq, ordering_reverse}
use Rattle.std.specs.List.{AllByRecursion}
use Rattle.std.specs.List.Sorted.{IsStrictlySortedBy}
use Rattle.dtx_values.specs.declared.value.Value.{Value}
use Rattle.dtx_values.specs.declared.row.Row.{Row}
use Rattle.dtx_values.specs.declared.row.Change.{Change}
use Rattle.dtx_values.specs.Order.{value_cmp, value_below, same_value}
use Rattle.dtx_values.proofs.RowLookups.{values_total, values_exact}
use Rattle.dtx_values.proofs.ValueOrder.{same_is, same_from_equal, equal_from_same, below_less, apart_less}
use Rattle.sql_check.specs.Words.{same_text}
use Rattle.sql_eval.specs.declared.keyed.Keyed.{Keyed}
use Rattle.sql_eval.specs.Rows.{get, put, without, set_to, change_one, keys_of}
use Rattle.stmt_view_laws.specs.Views.{AreInKeyOrder}
use Rattle.stmt_view_laws.specs.ViewLaws.{ChangesKeepOrder}

-- a key is below those of all these rows
abbrev IsBelow : Value → List Keyed → Type 0
IsBelow k rows = AllByRecursion (λ q. value_cmp k q ≡ Less) (keys_of rows)

below_further : (k p : Value) (rows : List Keyed) → value_cmp k p ≡ Less → IsBelow p rows → IsBelow k rows
below_further k p [] less all = tt
below_further k p (r ∷ rs) less all = (values_total.trans k p r.key less all.0, below_further k p rs less all.1)

-- ---- changes keep the order

module _ (p : Value) where
  below_kept : (kept : Bool) (r : Keyed) (more : List Keyed) → value_cmp p r.key ≡ Less → IsBelow p more → IsBelow p (cond kept (r ∷ more) more)
  below_kept true r more less rest = (less, rest)
  below_kept false r more less rest = rest

  below_without : (k : Value) (rows : List Keyed) → IsBelow p rows → IsBelow p (without rows k)
  below_without k [] all = tt
  below_without k (r ∷ rs) all = below_kept (not (same_value r.key k)) r (without rs k) all.0 (below_without k rs all.1)

  below_put : (k : Value) (row : Row) (rows : List Keyed) → value_cmp p k ≡ Less → IsBelow p rows → IsBelow p (put rows k row)
  below_put k row [] less all = (less, tt)
  below_put k row (r ∷ rs) less all = by (same_value r.key k) (value_below k r.key) (below_put k row rs less all.1)
    where
      by : (same below : Bool) → IsBelow p (put rs k row) → IsBelow p (cond same (record { key = k; row = row } ∷ rs) (cond below (record { key = k; row = row } ∷ r ∷ rs) (r ∷ put rs k row)))
      by true below rest = (less, all.1)
      by false true rest = (less, all)
      by false false rest = (all.0, rest)

ordered_kept : (kept : Bool) (r : Keyed) (more : List Keyed) → IsBelow r.key more → AreInKeyOrder more → AreInKeyOrder (cond kept (r ∷ more) more)
unfolding IsStrictlySortedBy
ordered_kept true r more below rest = (below, rest)
ordered_kept false r more below rest = rest

ordered_without : (k : Value) (rows : List Keyed) → AreInKeyOrder rows → AreInKeyOrder (without rows k)
unfolding IsStrictlySortedBy
ordered_without k [] order = tt
ordered_without k (r ∷ rs) order = ordered_kept (not (same_value r.key k)) r (without rs k) (below_without r.key k rs order.0) (ordered_without k rs order.1)

ordered_put : (k : Value) (row : Row) (rows : List Keyed) → AreInKeyOrder rows → AreInKeyOrder (put rows k row)
unfolding IsStrictlySortedBy
ordered_put k row [] order = (tt, tt)
ordered_put k row (r ∷ rs) order = by (same_value r.key k) (value_below k r.key) refl refl (ordered_put k row rs order.1)
  where
    by : (same below : Bool) → same_value r.key k ≡ same → value_below k r.key ≡ below → AreInKeyOrder (put rs k row)
        → AreInKeyOrder (cond same (record { key = k; row = row } ∷ rs) (cond below (record { key = k; row = row } ∷ r ∷ rs) (r ∷ put rs k row)))
    by true below same is rest = (subst (λ (q : Value). IsBelow q rs) (equal_from_same r.key k same) order.0, order.1)
    by false true same is rest =
        let less = below_less k r.key is in
        ((less, below_further k r.key rs less order.0), order)
    by false false same is rest = (below_put r.key k row rs (apart_less r.key k same is) order.0, rest)

ordered_set : (k : Value) (after : Option Row) (rows : List Keyed) → AreInKeyOrder rows → AreInKeyOrder (set_to rows k after)
ordered_set k None rows order = ordered_without k rows order
ordered_set k (Some row) rows order = ordered_put k row rows order

ordered_if : (here : Bool) (c : Change) (rows : List Keyed) → AreInKeyOrder rows → AreInKeyOrder (cond here (set_to rows c.key c.after) rows)
ordered_if true c rows order = ordered_set c.key c.after rows order
ordered_if false c rows order = order

pub changes_keep_order : ChangesKeepOrder
changes_keep_order table [] rows order = order
changes_keep_order table (c ∷ cs) rows order =
    changes_keep_order table cs (change_one table rows c) (ordered_if (same_text c.table table) c rows order)

-- ---- what stands at a key

none_below : (k : Value) (rows : List Keyed) → IsBelow k rows → get rows k ≡ None
none_below k [] all = refl
none_below k (r ∷ rs) all = ap (λ (b : Bool). cond b (Some r.row) (get rs k)) (sym (same_is r.key k) ∙ ap is_eq all.0) ∙ none_below k rs all.1

first_found : (r : Keyed) (rs : List Keyed) → get (r ∷ rs) r.key ≡ Some r.row
first_found r rs = ap (λ (b : Bool). cond b (Some r.row) (get rs r.key)) (same_from_equal r.key r.key refl)

row_is : (r q : Keyed) → r.key ≡ q.key → r.row ≡ q.row → r ≡ q
row_is r q key row i = record { key = key i; row = row i }

-- ---- two lists that have the same row at each key

abbrev HaveSame : List Keyed → List Keyed → Type 0
HaveSame rows more = (key : Value) → get rows key ≡ get more key

-- the first row of one is not below the other
lacking : (r : Keyed) (rs more : List Keyed) → IsBelow r.key more → HaveSame (r ∷ rs) more → ⊥
lacking r rs more below same =
    let none : Some r.row ≡ None = sym (first_found r rs) ∙ same r.key ∙ none_below r.key more below in absurd cc

module _ (r q : Keyed) (rs qs : List Keyed) (key : r.key ≡ q.key) (below : IsBelow r.key rs) (under : IsBelow q.key qs) (same : HaveSame (r ∷ rs) (q ∷ qs)) where
  first_same : r ≡ q
  first_same =
      let found : Some r.row ≡ Some q.row = sym (first_found r rs) ∙ same r.key ∙ ap (get (q ∷ qs)) key ∙ first_found q qs in
      row_is r q key cc

  behind_by : (k : Value) (b : Bool) → same_value r.key k ≡ b → cond b (Some r.row) (get rs k) ≡ cond b (Some q.row) (get qs k) → get rs k ≡ get qs k
  behind_by k true at is =
      let here = equal_from_same r.key k at in
      none_below k rs (subst (λ (p : Value). IsBelow p rs) here below) ∙ sym (none_below k qs (subst (λ (p : Value). IsBelow p qs) (sym key ∙ here) under))
  behind_by k false at is = is

  behind_same : HaveSame rs qs
  behind_same k = behind_by k (same_value r.key k) refl (same k ∙ ap (λ (p : Value). cond (same_value p k) (Some q.row) (get qs k)) (sym key))

pub same_rows : (rows more : List Keyed) → AreInKeyOrder rows → AreInKeyOrder more → HaveSame rows more → rows ≡ more
unfolding IsStrictlySortedBy
same_rows [] [] first second same = refl
same_rows [] (q ∷ qs) first second same = absurd (lacking q qs [] tt (λ k. sym (same k)))
same_rows (r ∷ rs) [] first second same = absurd (lacking r rs [] tt same)
same_rows (r ∷ rs) (q ∷ qs) first second same = by (value_cmp r.key q.key) refl (same_rows rs qs first.1 second.1)
  where
    by : (o : Ordering) → value_cmp r.key q.key ≡ o → (HaveSame rs qs → rs ≡ qs) → r ∷ rs ≡ q ∷ qs
    by Less is rest = absurd (lacking r rs (q ∷ qs) (is, below_further r.key q.key qs is second.0) same)
    by Greater is rest =
        let less : value_cmp q.key r.key ≡ Less = values_total.antisymm q.key r.key ∙ ap ordering_reverse is in
        absurd (lacking q qs (r ∷ rs) (less, below_further q.key r.key rs less first.0) (λ k. sym (same k)))
    by Equal is rest =
        let key = values_exact r.key q.key is in
        ap (λ (x : Keyed). x ∷ rs) (first_same r q rs qs key first.0 second.0 same) ∙ ap (λ (xs : List Keyed). q ∷ xs) (rest (behind_same r q rs qs key first.0 second.0 same))
