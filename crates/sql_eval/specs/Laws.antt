-- A statement that fixes a key depends on what stands at that key alone, and each change of an accepted statement is one
-- of its table.
use Rattle.std.specs.Prelude.{◌≡◌, ◌==◌, ◌&&◌, ℕ, Bool, true, false, List, Some, None, IfSome, filter, length, map, position, count_by, unwrap_or}
use Rattle.std.specs.List.{All, AllByRecursion}
use Rattle.sql_statement.specs.Distinct.{are_distinct, column_name}
use Rattle.sql_statement.specs.Whole.{IsWholeTable}
use Rattle.sql_eval.specs.Data.{Value, Row, Change, Table, Keyed, Stmt, Done}
use Rattle.sql_eval.specs.Data.meants
use Rattle.sql_check.specs.Words.{first_some, same_text}
use Rattle.dtx_values.specs.Order.{is_null, same_value}
use Rattle.sql_eval.specs.Rows.{apply}
use Rattle.sql_check.specs.Columns.{is_key, key_of_row, place_of}
use Rattle.sql_check.specs.Checks.{checked, sets_key}
use Rattle.sql_eval.specs.Meaning.{conds_of, fixes, found, fixed_key, written, meant_over}

-- the place of the key column
abbrev pub key_place : Table → ℕ
key_place t = unwrap_or (position (λ c. c.key) t.columns) 0

-- a name is that of the key column exactly where it stands at the key's place, as in each table with one key column and
-- columns of different names (TablesHaveOneKey)
abbrev pub HasOneKey : Table → Type 0
HasOneKey t = (name : List ℕ) → (is_key t name ≡ true → place_of t name ≡ Some (key_place t)) × (place_of t name ≡ Some (key_place t) → is_key t name ≡ true)

-- one column is the key, and all have different names
abbrev pub has_one_key : Table → Bool
has_one_key t = (count_by (λ c. c.key) t.columns == 1) && are_distinct column_name t.columns

-- such a table has one key
abbrev pub TablesHaveOneKey : Type 0
TablesHaveOneKey = (t : Table) → has_one_key t ≡ true → HasOneKey t

-- each table that a text creates is of that kind
abbrev pub WholeTablesHaveOneKey : Type 0
WholeTablesHaveOneKey = (t : Table) → IsWholeTable t → has_one_key t ≡ true

-- each row has its key in the key column
abbrev pub AreKeyed : Table → List Keyed → Type 0
AreKeyed t rows = AllByRecursion (λ r. key_of_row t r.row.cells ≡ r.key) rows

-- the rows at a key
abbrev pub at_key : List Keyed → Value → List Keyed
at_key rows key = filter (λ r. same_value r.key key) rows

-- a WHERE that fixes a key finds only rows at it
abbrev pub FoundAtKey : Type 0
FoundAtKey = (s : Stmt) (t : Table) (rows : List Keyed) (key : Value) → HasOneKey t → AreKeyed t rows
    → first_some (map (fixes t) (conds_of s)) ≡ Some key → found s t rows ≡ found s t (at_key rows key)

-- a statement that fixes a key writes what it would write if there were no other rows
abbrev pub WrittenAtKey : Type 0
WrittenAtKey = (s : Stmt) (t : Table) (rows : List Keyed) (key : Value) → HasOneKey t → AreKeyed t rows
    → fixed_key s t ≡ Some key → written s t rows ≡ written s t (at_key rows key)

-- and means what it would mean
abbrev pub MeantAtKey : Type 0
MeantAtKey = (s : Stmt) (t : Table) (rows : List Keyed) (key : Value) → HasOneKey t → AreKeyed t rows
    → fixed_key s t ≡ Some key → meant_over s t rows ≡ meant_over s t (at_key rows key)

-- what changes of an accepted statement leave has its keys in the key column too
abbrev pub StaysKeyed : Type 0
StaysKeyed = (s : Stmt) (t : Table) (rows : List Keyed) (done : Done) (count : ℕ) (changes : List Change) → HasOneKey t → AreKeyed t rows
    → sets_key s t ≡ false → meant_over s t rows ≡ meants.Changes done count changes → AreKeyed t (apply t.name rows changes)

-- a row that stands at this key in the table: with a cell for each column, and the key, which is not NULL, in the key column
abbrev pub IsRowAt : Table → Value → Row → Type 0
IsRowAt t key row = (length row.cells ≡ length t.columns) × (key_of_row t row.cells ≡ key) × (is_null key ≡ false)

-- each row stands at its key
abbrev pub AreRowsOf : Table → List Keyed → Type 0
AreRowsOf t rows = AllByRecursion (λ r. IsRowAt t r.key r.row) rows

-- a change of the table: at a key that is not NULL, to a row that stands there or to none
abbrev pub IsChangeOf : Table → Change → Type 0
IsChangeOf t c = (c.table ≡ t.name) × (is_null c.key ≡ false) × IfSome c.after (IsRowAt t c.key)

-- changes of the table
abbrev pub AreChangesOf : Table → List Change → Type 0
AreChangesOf t changes = All (IsChangeOf t) changes

-- the changes of an accepted statement are of its table
abbrev pub ChangesAreOfTable : Type 0
ChangesAreOfTable = (s : Stmt) (t : Table) (rows : List Keyed) (done : Done) (count : ℕ) (changes : List Change) → has_one_key t ≡ true → AreRowsOf t rows
    → checked s t ≡ None → meant_over s t rows ≡ meants.Changes done count changes → AreChangesOf t changes

-- changes leave rows of the table, where those under its name are of the table
abbrev pub RowsStay : Type 0
RowsStay = (t : Table) (rows : List Keyed) (changes : List Change) → AreRowsOf t rows
    → All (λ c. same_text c.table t.name ≡ true → IsChangeOf t c) changes → AreRowsOf t (apply t.name rows changes)

-- rows of the table have their keys in the key column
abbrev pub RowsAreKeyed : Type 0
RowsAreKeyed = (t : Table) (rows : List Keyed) → AreRowsOf t rows → AreKeyed t rows

-- a statement tells how many changes it makes
abbrev pub CountIsLength : Type 0
CountIsLength = (s : Stmt) (t : Table) (rows : List Keyed) (done : Done) (count : ℕ) (changes : List Change)
    → meant_over s t rows ≡ meants.Changes done count changes → count ≡ length changes

-- a statement changes the keys that it writes, in their order
abbrev pub ChangesAreOfWritten : Type 0
ChangesAreOfWritten = (s : Stmt) (t : Table) (rows : List Keyed) (done : Done) (count : ℕ) (changes : List Change)
    → meant_over s t rows ≡ meants.Changes done count changes → map (λ c. c.key) changes ≡ written s t rows
