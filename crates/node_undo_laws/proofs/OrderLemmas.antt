-- A statement writes different keys of a view in key order, and changes leave the rows of all tables in key order.
use Rattle.std.proofs.Common.{◌≡◌, ℕ, Bool, true, false, if◌then◌else◌, List, [], ◌∷◌, filter, ap}
use Rattle.std.specs.declared.cmp.Ordering.TheVariants.{Less}
use Rattle.std.specs.Ordering.{is_eq}
use Rattle.std.specs.List.{AllByRecursion}
use Rattle.std.specs.List.Sorted.{IsStrictlySortedBy}
use Rattle.dtx_values.specs.Order.{value_cmp}
use Rattle.sql_eval.specs.Meaning.{satisfies, written}
use Rattle.row_store.specs.Undone.{RowsAreInOrder}
use Rattle.stmt_view_laws.specs.Views.{AreInKeyOrder}
use Rattle.stmt_view_laws.proofs.OrderLemmas.{changes_keep_order}
use Rattle.node_rules.specs.Data.{Value, Change, Table, Stmt, Keyed}
use Rattle.node_rules.specs.Data.stmts
use Rattle.node_rules.specs.Words.{same_text}
use Rattle.node_rules.specs.Rows.{TableRows, same_value, keys_of, apply_all, with_table, rows_of_table}
use Rattle.node_ready_laws.proofs.ListLemmas.{all_last}
use Rattle.node_undo_laws.proofs.UndoLemmas.{AreDifferent}

-- ---- keys that are written

module _ (test : Keyed → Bool) where
  others : (k : Value) (rows : List Keyed) → AllByRecursion (λ q. value_cmp k q ≡ Less) (keys_of rows) → AllByRecursion (λ q. same_value k q ≡ false) (keys_of (filter test rows))
  others k [] below = tt
  others k (r ∷ rs) below = by (test r) (others k rs below.1)
    where
      by : (passes : Bool) → AllByRecursion (λ q. same_value k q ≡ false) (keys_of (filter test rs)) → AllByRecursion (λ q. same_value k q ≡ false) (keys_of (if passes then r ∷ filter test rs else filter test rs))
      by true rest = (ap is_eq below.0, rest)
      by false rest = rest

  -- rows that are found in rows in key order have different keys
  found_differ : (rows : List Keyed) → AreInKeyOrder rows → AreDifferent (keys_of (filter test rows))
  unfolding IsStrictlySortedBy
  found_differ [] ordered = tt
  found_differ (r ∷ rs) ordered = by (test r) (others r.key rs ordered.0) (found_differ rs ordered.1)
    where
      by : (passes : Bool) → AllByRecursion (λ q. same_value r.key q ≡ false) (keys_of (filter test rs)) → AreDifferent (keys_of (filter test rs))
          → AreDifferent (keys_of (if passes then r ∷ filter test rs else filter test rs))
      by true apart rest = (apart, rest)
      by false apart rest = rest

pub written_differ : (s : Stmt) (t : Table) (view : List Keyed) → AreInKeyOrder view → AreDifferent (written s t view)
unfolding written
written_differ (stmts.Insert table columns given) t view ordered = (tt, tt)
written_differ (stmts.Update table sets cs) t view ordered = found_differ (satisfies t cs) view ordered
written_differ (stmts.Delete table cs) t view ordered = found_differ (satisfies t cs) view ordered
written_differ (stmts.Select list table cs true) t view ordered = found_differ (satisfies t cs) view ordered
written_differ _ t view ordered = tt

-- ---- rows of all tables

pub order_stays : (cs : List Change) (rows : List TableRows) → RowsAreInOrder rows → RowsAreInOrder (apply_all rows cs)
order_stays cs [] ordered = tt
order_stays cs (t ∷ ts) ordered = (changes_keep_order t.table cs t.rows ordered.0, order_stays cs ts ordered.1)

pub order_with : (rows : List TableRows) (name : List ℕ) → RowsAreInOrder rows → RowsAreInOrder (with_table rows name)
unfolding IsStrictlySortedBy
order_with rows name ordered = all_last (λ t. AreInKeyOrder t.rows) rows (record { table = name; rows = [] }) ordered tt

-- the rows of one
pub order_of : (rows : List TableRows) (name : List ℕ) → RowsAreInOrder rows → AreInKeyOrder (rows_of_table rows name)
unfolding IsStrictlySortedBy
order_of [] name ordered = tt
order_of (t ∷ ts) name ordered = by (same_text t.table name) (order_of ts name ordered.1)
  where
    by : (here : Bool) → AreInKeyOrder (rows_of_table ts name) → AreInKeyOrder (if here then t.rows else rows_of_table ts name)
    by true rest = ordered.0
    by false rest = rest
