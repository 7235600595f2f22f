-- What one statement means over the rows of one table: what it tests, the keys that it examines and writes, the rows that
-- it gives and the changes that it makes. It knows no locks and no nodes.
use Rattle.std.specs.Prelude.{ℕ, ◌&&◌, not, Bool, true, if◌then◌else◌, List, [], ◌∷◌, ◌++◌, map, filter, length, unwrap_or, slice_set, codes, Option, Some, None, Result, Ok, Err, pos, ◌+ℤ◌}
use Rattle.std.specs.List.{list_all}
use Rattle.dtx_values.specs.Order.{is_null, value_below, same_value}
use Rattle.sql_check.specs.Words.{one, first_some}
use Rattle.sql_check.specs.Columns.{cell, column_of, is_key, key_of_row, place_of, same_bool}
use Rattle.sql_check.specs.Refusals.{dtx, ora}
use Rattle.sql_check.specs.Sums.{ranged, sum_value}
use Rattle.sql_check.specs.Inserted.{inserted_cells, cells_of}
use Rattle.sql_check.specs.Checks.{column_refusal, too_long, checked}
use Rattle.sql_eval.specs.Data.{Value, Row, Change, Column, Table, Set, Sign, Cond, Picked, Stmt, RowSet, Refusal, Done, Keyed, Meant}
use Rattle.sql_eval.specs.Data.values
use Rattle.sql_eval.specs.Data.signs
use Rattle.sql_eval.specs.Data.conds
use Rattle.sql_eval.specs.Data.picks
use Rattle.sql_eval.specs.Data.stmts
use Rattle.sql_eval.specs.Data.dones
use Rattle.sql_eval.specs.Data.meants
use Rattle.sql_eval.specs.Rows.{get, keys_of, keys_in_order}

-- what a sign says of two values, neither of which is NULL
abbrev pub compares : Sign → Value → Value → Bool
compares signs.Eq a b = same_value a b
compares signs.Ne a b = not (same_value a b)
compares signs.Lt a b = value_below a b
compares signs.Le a b = not (value_below b a)
compares signs.Gt a b = value_below b a
compares signs.Ge a b = not (value_below a b)

-- whether a condition is true of a row
abbrev pub holds : Table → Row → Cond → Bool
holds t row (conds.Compare column sign literal) = not (is_null (cell t row column)) && (not (is_null literal) && compares sign (cell t row column) literal)
holds t row (conds.IsNull column negated) = same_bool (is_null (cell t row column)) (not negated)

-- the conditions of a statement
abbrev pub conds_of : Stmt → List Cond
conds_of (stmts.Update table sets cs) = cs
conds_of (stmts.Delete table cs) = cs
conds_of (stmts.Select list table cs for_update) = cs
conds_of _ = []

-- whether all conditions are true of a row
abbrev pub satisfies : Table → List Cond → Keyed → Bool
satisfies t cs r = list_all (holds t r.row) cs

-- the rows of the table that satisfy the WHERE, in key order
abbrev pub found : Stmt → Table → List Keyed → List Keyed
found s t rows = filter (satisfies t (conds_of s)) rows

-- the key that one condition fixes: by a comparison for equality with a literal that is not NULL
abbrev pub fixes : Table → Cond → Option Value
fixes t (conds.Compare column signs.Eq literal) = if is_key t column && not (is_null literal) then Some literal else None
fixes t _ = None

-- the key that a statement fixes by itself
abbrev pub fixed_key : Stmt → Table → Option Value
fixed_key (stmts.Insert table columns given) t = Some (key_of_row t (cells_of (inserted_cells t columns given)))
fixed_key s t = first_some (map (fixes t) (conds_of s))

-- the keys that a statement examines: the one that it fixes, else every key in the view or locked
abbrev pub examined_by : List Keyed → List Value → Option Value → List Value
examined_by view locked (Some key) = one key
examined_by view locked None = keys_in_order (keys_of view ++ locked)

-- the keys that a statement examines, where these others are locked
unfoldable pub examined : Stmt → Table → List Keyed → List Value → List Value
examined s t view locked = examined_by view locked (fixed_key s t)

-- the keys that a statement writes
unfoldable pub written : Stmt → Table → List Keyed → List Value
written (stmts.Insert table columns given) t view = one (key_of_row t (cells_of (inserted_cells t columns given)))
written (stmts.Update table sets cs) t view = keys_of (found (stmts.Update table sets cs) t view)
written (stmts.Delete table cs) t view = keys_of (found (stmts.Delete table cs) t view)
written (stmts.Select list table cs true) t view = keys_of (found (stmts.Select list table cs true) t view)
written _ t view = []

-- a row, unless it is refused
abbrev pub row_unless : Option Refusal → Row → Result Row Refusal
row_unless (Some r) row = Err r
row_unless None row = Ok row

-- ORA-01407, then ORA-12899, else the row with this cell
abbrev pub set_cell : Table → Column → ℕ → Row → Value → Result Row Refusal
set_cell t c i after v =
    if is_null v && c.not_null then Err (column_refusal 1407 t c)
    else row_unless (too_long t c v) (record { cells = slice_set after.cells i v })

-- one column set to a value, or the refusal of that
abbrev pub set_value : Table → Option Column → ℕ → Row → Option Value → Result Row Refusal
set_value t c i after None = Err (dtx 9 [])
set_value t None i after (Some v) = Ok after
set_value t (Some c) i after (Some v) = set_cell t c i after v

-- one assignment of an UPDATE, over the row from before
abbrev pub set_one : Table → Row → Row → Set → Result Row Refusal
set_one t before after s = set_value t (column_of t s.column) (unwrap_or (place_of t s.column) 0) after (sum_value t before s.to)

-- all assignments, in the order of the text, up to the first refusal
abbrev pub set_all : Table → Row → Result Row Refusal → List Set → Result Row Refusal
set_all t before (Err r) ss = Err r
set_all t before (Ok after) [] = Ok after
set_all t before (Ok after) (s ∷ ss) = set_all t before (set_one t before after s) ss

-- the change of a row that is set to this
abbrev pub change_to : Table → Value → Result Row Refusal → Result Change Refusal
change_to t key (Err r) = Err r
change_to t key (Ok row) = Ok (record { table = t.name; key = key; after = Some row })

-- the change of one row, or the first refusal
abbrev pub update : Table → List Set → Keyed → Result Change Refusal
update t sets r = change_to t r.key (set_all t r.row (Ok r.row) sets)

-- one change and those behind it, or the first refusal
abbrev pub and_updated : Result Change Refusal → Result (List Change) Refusal → Result (List Change) Refusal
and_updated (Err r) rest = Err r
and_updated (Ok c) (Err r) = Err r
and_updated (Ok c) (Ok cs) = Ok (c ∷ cs)

-- rows in key order, and within a row the assignments in text order
abbrev pub updated : Table → List Set → List Keyed → Result (List Change) Refusal
updated t sets [] = Ok []
updated t sets (r ∷ rs) = and_updated (update t sets r) (updated t sets rs)

-- the change that removes a row
abbrev pub removal : Table → Keyed → Change
removal t r = record { table = t.name; key = r.key; after = None }

-- the changes of a DELETE
abbrev pub deleted : Table → List Keyed → List Change
deleted t rows = map (removal t) rows

-- the total with one value more
abbrev pub sum_with : Value → Value → Option Value
sum_with total values.Null = Some total
sum_with values.Null (values.Number n) = Some (values.Number n)
sum_with (values.Number m) (values.Number n) = ranged (m +ℤ n)
sum_with total _ = Some total

-- the sum of values, each partial sum in range
abbrev pub summed : List Value → Option Value → Option Value
summed vs None = None
summed [] (Some total) = Some total
summed (v ∷ vs) (Some total) = summed vs (sum_with total v)

-- a row of these cells
abbrev pub row_of : List Value → Row
row_of cells = record { cells = cells }

-- rows under heads
abbrev pub row_set : List (List ℕ) → List (List Value) → RowSet
row_set heads rows = record { heads = heads; rows = map row_of rows }

-- the one row of a SUM
abbrev pub summed_set : List ℕ → Option Value → Meant
summed_set name None = meants.Refused (dtx 9 [])
summed_set name (Some v) = meants.Gives (row_set (one (codes "SUM(" ++ name ++ codes ")")) (one (one v)))

-- what a SELECT gives of the rows that it found
abbrev pub picked : Picked → Table → List Keyed → Meant
picked picks.All t rows = meants.Gives (row_set (map (λ c. c.name) t.columns) (map (λ r. r.row.cells) rows))
picked picks.Count t rows = meants.Gives (row_set (one (codes "COUNT(*)")) (one (one (values.Number (pos (length rows))))))
picked (picks.Sum name) t rows = summed_set name (summed (map (λ r. cell t r.row name) rows) (Some values.Null))
picked (picks.Columns names) t rows = meants.Gives (row_set names (map (λ r. map (cell t r.row) names) rows))

-- changes and their number, or the refusal
abbrev pub changing : Done → Result (List Change) Refusal → Meant
changing d (Err r) = meants.Refused r
changing d (Ok cs) = meants.Changes d (length cs) cs

-- the change that puts a new row
abbrev pub insertion : Table → List Value → Change
insertion t cells = record { table = t.name; key = key_of_row t cells; after = Some (row_of cells) }

-- ORA-00001: the key is there already
abbrev pub inserting : Table → List Value → Option Row → Meant
inserting t cells (Some old) = meants.Refused (ora 1 (one t.name))
inserting t cells None = meants.Changes dones.Created 1 (one (insertion t cells))

-- after the checks
unfoldable pub meant_over : Stmt → Table → List Keyed → Meant
meant_over (stmts.Insert table columns given) t rows = inserting t (cells_of (inserted_cells t columns given)) (get rows (key_of_row t (cells_of (inserted_cells t columns given))))
meant_over (stmts.Update table sets cs) t rows = changing dones.Updated (updated t sets (found (stmts.Update table sets cs) t rows))
meant_over (stmts.Delete table cs) t rows = changing dones.Deleted (Ok (deleted t (found (stmts.Delete table cs) t rows)))
meant_over (stmts.Select list table cs for_update) t rows = picked list t (found (stmts.Select list table cs for_update) t rows)
meant_over _ t rows = meants.Refused (ora 900 [])

-- a refusal, or else the meaning
abbrev pub unless : Option Refusal → Meant → Meant
unless (Some r) m = meants.Refused r
unless None m = m

-- what a statement means over a table with these rows
unfoldable pub meant : Stmt → Table → List Keyed → Meant
meant s t rows = unless (checked s t) (meant_over s t rows)
