-- What an image may have: rows with a cell for each column of their table, in the order of their keys, and kept branches in
-- the order of their ids.
use Rattle.std.specs.Prelude.{ℕ, ◌==◌, ◌&&◌, not, Bool, true, false, List, [], ◌∷◌, length, position, slice_get, unwrap_or, Option, Some}
use Rattle.std.specs.List.{list_all}
use Rattle.dtx_values.specs.Order.{value_below}
use Rattle.dtx_values.specs.declared.value.Value.{Value}
use Rattle.dtx_values.specs.declared.row.Row.{Row}
use Rattle.dtx_values.specs.declared.table.Table.{Table}
use Rattle.tran_ids.specs.Branch.{branch_below}
use Rattle.redo_record.specs.declared.image.KeptItem.{KeptItem}

-- the first of these, if there is one, may stand behind this
abbrev pub goes_on : {A : Type 0} → (A → A → Bool) → A → List A → Bool
goes_on may x [] = true
goes_on may x (y ∷ ys) = may x y

-- each of these may stand behind the one before it
abbrev pub is_row_of : {A : Type 0} → (A → A → Bool) → List A → Bool
is_row_of may [] = true
is_row_of may (x ∷ xs) = goes_on may x xs && is_row_of may xs

-- whether one cell comes before another, where both are there
abbrev pub cell_below : Option Value → Option Value → Bool
cell_below (Some a) (Some b) = value_below a b
cell_below _ _ = false

-- whether a row comes before another, by their cells at this place
abbrev pub row_below : ℕ → Row → Row → Bool
row_below place a b = cell_below (slice_get a.cells place) (slice_get b.cells place)

-- where the key column of a table stands
abbrev pub key_place : Table → ℕ
key_place t = unwrap_or (position (λ c. c.key) t.columns) 0

-- rows of a table: one cell for each column, and the keys rise
abbrev pub are_rows : Table → List Row → Bool
are_rows t rows = list_all (λ r. length r.cells == length t.columns) rows && is_row_of (row_below (key_place t)) rows

-- rows of each table, in the order of the tables
abbrev pub are_rows_of : List Table → List (List Row) → Bool
are_rows_of [] lists = true
are_rows_of (t ∷ ts) [] = true
are_rows_of (t ∷ ts) (rows ∷ lists) = are_rows t rows && are_rows_of ts lists

-- a branch may stand behind another that does not come after it
abbrev pub may_follow : KeptItem → KeptItem → Bool
may_follow a b = not (branch_below b.me a.me)

-- kept branches stand in the order of their ids
abbrev pub are_in_order : List KeptItem → Bool
are_in_order items = is_row_of may_follow items
