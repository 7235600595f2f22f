-- Two views of one table that agree at each key that is not in doubt. (Database Administrator's Guide, "Distributed
-- Transactions Concepts": in-doubt transactions.)
use Rattle.std.specs.Prelude.{◌≡◌, true, false, List}
use Rattle.std.specs.List.{list_any, AllByRecursion}
use Rattle.std.specs.List.Sorted.{IsStrictlySortedBy}
use Rattle.dtx_values.specs.declared.value.Value.{Value}
use Rattle.dtx_values.specs.declared.table.Table.{Table}
use Rattle.dtx_values.specs.Order.{value_cmp, same_value}
use Rattle.sql_statement.specs.declared.statement.Stmt.{Stmt}
use Rattle.sql_eval.specs.declared.keyed.Keyed.{Keyed}
use Rattle.sql_eval.specs.Rows.{get, keys_of}
use Rattle.sql_eval.specs.Laws.{AreRowsOf, has_one_key}
use Rattle.sql_eval.specs.Meaning.{examined}

-- two lists of rows have the same row, or none, at each key but those in doubt
abbrev pub AgreeBut : List Value → List Keyed → List Keyed → Type 0
AgreeBut doubtful rows more = (key : Value) → list_any (same_value key) doubtful ≡ false → get rows key ≡ get more key

-- rows in the order of their keys, each key once
abbrev pub AreInKeyOrder : List Keyed → Type 0
AreInKeyOrder rows = IsStrictlySortedBy value_cmp (keys_of rows)

-- A view of a table: rows of the table in the order of their keys.
pub record IsView (t : Table) (rows : List Keyed) : Type 0 where
  pub order : AreInKeyOrder rows
  pub fit : AreRowsOf t rows

-- none of these keys is in doubt
abbrev pub AreCertain : List Value → List Value → Type 0
AreCertain doubtful keys = AllByRecursion (λ key. list_any (same_value key) doubtful ≡ false) keys

-- each key in doubt is among these
abbrev pub AreLocked : List Value → List Value → Type 0
AreLocked locked doubtful = AllByRecursion (λ key. list_any (same_value key) locked ≡ true) doubtful

-- Two views of a table that agree at each key but those in doubt. These are locked, and a statement examines none of them.
pub record SeesAlike (s : Stmt) (t : Table) (doubtful locked : List Value) (rows more : List Keyed) : Type 0 where
  pub one_key : has_one_key t ≡ true
  pub first : IsView t rows
  pub second : IsView t more
  pub agree : AgreeBut doubtful rows more
  pub locks : AreLocked locked doubtful
  pub avoids : AreCertain doubtful (examined s t rows locked)
