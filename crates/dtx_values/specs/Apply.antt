-- A table as a finite map from keys to rows, and what changes make of it.
use Rattle.std.specs.Prelude.{ℕ, List, [], ◌∷◌, Option, None, Some, filter}
use Rattle.std.specs.Str.{bytes_eq}
use Rattle.std.specs.FinMap.{FinMap, insert, remove}
use Rattle.dtx_values.specs.Order.{value_cmp}
use Rattle.dtx_values.specs.declared.value.Value.{Value}
use Rattle.dtx_values.specs.declared.row.Row.{Row}
use Rattle.dtx_values.specs.declared.row.Change.{Change}

-- a table's rows by their keys
abbrev pub Rows : Type 0
Rows = FinMap value_cmp Row

-- the rows with this one at the key, or with none there
abbrev pub with_row : Rows → Value → Option Row → Rows
with_row rows key None = remove rows key
with_row rows key (Some row) = insert rows key row

-- the rows after these changes, in order
abbrev pub apply : Rows → List Change → Rows
apply rows [] = rows
apply rows (change ∷ changes) = apply (with_row rows change.key change.after) changes

-- the changes of one table
abbrev pub at_table : List ℕ → List Change → List Change
at_table table changes = filter (λ change. bytes_eq change.table table) changes
