-- The refusal of a statement before any row is seen, and its causes in their order.
use Rattle.std.specs.Prelude.{ℕ, ◌&&◌, ◌||◌, not, Bool, true, false, List, [], ◌∷◌, map, length, find, zip, is_some, is_none, unwrap_or, option_map, nat_lt, Option, Some, None}
use Rattle.std.specs.List.{list_any}
use Rattle.dtx_values.specs.Order.{is_null}
use Rattle.tran_ids.specs.Numbers.{decimal}
use Rattle.sql_check.specs.Data.{Value, Column, Table, Stmt, Refusal}
use Rattle.sql_check.specs.Data.values
use Rattle.sql_check.specs.Data.stmts
use Rattle.sql_check.specs.Words.{one, first_some}
use Rattle.sql_check.specs.Columns.{given_columns, is_key, named_columns, place_of, statement_fits}
use Rattle.sql_check.specs.Refusals.{dtx, else_refuse, ora, refuse_if}
use Rattle.sql_check.specs.Inserted.{cells_of, inserted_cells}

-- refusals that name a column
abbrev pub column_refusal : ℕ → Table → Column → Refusal
column_refusal code t c = ora code (t.name ∷ c.name ∷ [])

-- the bytes of a text
abbrev pub text_length : Value → ℕ
text_length (values.Text t) = length t
text_length _ = 0

-- ORA-12899: a text is longer than its column
abbrev pub too_long : Table → Column → Value → Option Refusal
too_long t c v =
    refuse_if (is_some c.text_max && nat_lt (unwrap_or c.text_max 0) (text_length v))
    (ora 12899 (t.name ∷ c.name ∷ decimal (text_length v) ∷ decimal (unwrap_or c.text_max 0) ∷ []))

-- ORA-00904: the first column in the text that the table has not
abbrev pub unknown_column : Stmt → Table → Option Refusal
unknown_column s t = option_map (λ name. ora 904 (one name)) (find (λ name. is_none (place_of t name)) (named_columns s))

-- whether an UPDATE sets the key column
abbrev pub sets_key : Stmt → Table → Bool
sets_key (stmts.Update table sets cs) t = list_any (λ s. is_key t s.column) sets
sets_key _ t = false

-- ORA-00947 and ORA-00913: an INSERT has fewer values than columns, or more
abbrev pub miscounted : Stmt → Table → Option Refusal
miscounted (stmts.Insert table columns given) t =
    else_refuse (refuse_if (nat_lt (length given) (length (given_columns t columns))) (ora 947 []))
    (refuse_if (nat_lt (length (given_columns t columns)) (length given)) (ora 913 []))
miscounted _ t = None

-- ORA-01400: a column that may not be NULL is NULL
abbrev pub cell_null : Table → Column × Value → Option Refusal
cell_null t p = refuse_if ((p.0.key || p.0.not_null) && is_null p.1) (column_refusal 1400 t p.0)

-- what is wrong with these cells of a new row
abbrev pub ill_cells : Table → List Value → Option Refusal
ill_cells t vs =
    else_refuse (first_some (map (cell_null t) (zip t.columns vs))) (first_some (map (λ p. too_long t p.0 p.1) (zip t.columns vs)))

-- what is wrong with the values of a new row
abbrev pub ill_values : Table → List (Option Value) → Option Refusal
ill_values t vs = else_refuse (refuse_if (list_any is_none vs) (dtx 9 [])) (ill_cells t (cells_of vs))

-- what is wrong with the values of an INSERT
abbrev pub ill_inserted : Stmt → Table → Option Refusal
ill_inserted (stmts.Insert table columns given) t = ill_values t (inserted_cells t columns given)
ill_inserted _ t = None

-- the refusal of a statement before any row is seen: its columns, its key column, its count of values, its types, its values
unfoldable pub checked : Stmt → Table → Option Refusal
checked s t =
    else_refuse (unknown_column s t)
    (else_refuse (refuse_if (sets_key s t) (dtx 15 []))
    (else_refuse (miscounted s t)
    (else_refuse (refuse_if (not (statement_fits t s)) (dtx 10 [])) (ill_inserted s t))))
