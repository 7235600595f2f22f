-- What undo is for: rows that changes were made to, and that their undo brings back.
use Rattle.std.specs.Prelude.{◌≡◌, false, List, [], ◌∷◌}
use Rattle.std.specs.List.{AllByRecursion}
use Rattle.std.specs.List.Sorted.{IsStrictlySortedBy}
use Rattle.dtx_values.specs.Order.{value_cmp}
use Rattle.sql_check.specs.Words.{same_text}
use Rattle.sql_eval.specs.Rows.{keys_of}
use Rattle.row_store.specs.Tables.{TableRows}

-- the keys of each table's rows rise
abbrev pub RowsAreInOrder : List TableRows → Type 0
RowsAreInOrder rows = AllByRecursion (λ t. IsStrictlySortedBy value_cmp (keys_of t.rows)) rows

-- no two tables have one name
abbrev pub AreNamedApart : List TableRows → Type 0
AreNamedApart [] = Unit {0}
AreNamedApart (t ∷ ts) = AllByRecursion (λ u. same_text u.table t.table ≡ false) ts × AreNamedApart ts
