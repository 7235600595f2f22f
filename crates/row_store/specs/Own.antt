-- The last change at a key, what a branch sees of a table, and the undo of its changes.
use Rattle.std.specs.Int.{div_ceil}
use Rattle.std.specs.Prelude.{ℕ, ◌&&◌, Bool, if◌then◌else◌, List, [], ◌∷◌, sum_by, Option, Some}
use Rattle.dtx_values.specs.declared.value.Value.{Value}
use Rattle.dtx_values.specs.declared.row.Row.{Row}
use Rattle.dtx_values.specs.declared.row.Change.{Change}
use Rattle.sql_eval.specs.declared.keyed.Keyed.{Keyed}
use Rattle.dtx_values.specs.Limits.{extent_size}
use Rattle.sql_check.specs.Words.{same_text}
use Rattle.dtx_values.specs.Order.{same_value}
use Rattle.sql_eval.specs.Rows.{get, apply, change_length}
use Rattle.row_store.specs.Tables.{TableRows, rows_of_table}

-- the bytes of these changes
abbrev pub changes_length : List Change → ℕ
changes_length cs = sum_by change_length cs

-- whether a change is at this key
abbrev pub is_change_of : List ℕ → Value → Change → Bool
is_change_of table key c = same_text c.table table && same_value c.key key

-- what the last of these changes at a key leaves there, where one of them is at it
abbrev pub last_at : List Change → List ℕ → Value → Option (Option Row) → Option (Option Row)
last_at [] table key last = last
last_at (c ∷ cs) table key last = last_at cs table key (if is_change_of table key c then Some c.after else last)

-- what a branch sees of a table: its committed rows, with the branch's own changes
abbrev pub view_of : List TableRows → List Change → List ℕ → List Keyed
view_of tables own table = apply table (rows_of_table tables table) own

-- a change with the row from before it
abbrev pub before : List Keyed → Change → Change
before view c = record c { after = get view c.key }

-- the bytes of the undo of a statement's changes, over the rows that the branch saw before it: each change with the row
-- from before
abbrev pub undo_length : List Keyed → List Change → ℕ
undo_length view cs = sum_by (λ c. change_length (before view c)) cs

-- the extents that so many bytes of undo take: each is full but for the last
abbrev pub extents : ℕ → ℕ
extents bytes = div_ceil bytes extent_size
