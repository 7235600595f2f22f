-- The rows of a table by their keys in key order, what changes do to them, and their bytes.
use Rattle.std.specs.Prelude.{ℕ, ◌+◌, not, if◌then◌else◌, List, [], ◌∷◌, map, filter, length, fold, sum_by, Option, Some, None}
use Rattle.dtx_values.specs.Order.{value_below, same_value}
use Rattle.sql_eval.specs.Data.{Value, Row, Change, Keyed}
use Rattle.sql_eval.specs.Data.values
use Rattle.sql_check.specs.Words.{same_text}

-- the row at a key
abbrev pub get : List Keyed → Value → Option Row
get [] key = None
get (r ∷ rs) key = if same_value r.key key then Some r.row else get rs key

-- with this row at the key, in key order
abbrev pub put : List Keyed → Value → Row → List Keyed
put [] key row = record { key = key; row = row } ∷ []
put (r ∷ rs) key row =
    if same_value r.key key then record { key = key; row = row } ∷ rs
    else (if value_below key r.key then record { key = key; row = row } ∷ r ∷ rs else r ∷ put rs key row)

-- with no row at the key
abbrev pub without : List Keyed → Value → List Keyed
without rows key = filter (λ r. not (same_value r.key key)) rows

-- a change sets the row at its key, or removes the key
abbrev pub set_to : List Keyed → Value → Option Row → List Keyed
set_to rows key None = without rows key
set_to rows key (Some row) = put rows key row

-- one change, where it is of this table
abbrev pub change_one : List ℕ → List Keyed → Change → List Keyed
change_one table rows c = if same_text c.table table then set_to rows c.key c.after else rows

-- the changes of this table, in order
abbrev pub apply : List ℕ → List Keyed → List Change → List Keyed
apply table rows [] = rows
apply table rows (c ∷ cs) = apply table (change_one table rows c) cs

-- the keys of rows
abbrev pub keys_of : List Keyed → List Value
keys_of rows = map (λ r. r.key) rows

-- a key among keys in order
abbrev pub put_key : List Value → Value → List Value
put_key [] key = key ∷ []
put_key (k ∷ ks) key = if same_value k key then k ∷ ks else (if value_below key k then key ∷ k ∷ ks else k ∷ put_key ks key)

-- these keys in order, each once
abbrev pub keys_in_order : List Value → List Value
keys_in_order ks = fold put_key [] ks

-- the bytes of a value
abbrev pub value_length : Value → ℕ
value_length values.Null = 1
value_length (values.Number n) = 9
value_length (values.Text t) = 3 + length t

-- the bytes of a row, or of no row
abbrev pub row_length : Option Row → ℕ
row_length None = 1
row_length (Some r) = 2 + sum_by value_length r.cells

-- the bytes of a change
abbrev pub change_length : Change → ℕ
change_length c = 1 + length c.table + value_length c.key + row_length c.after
