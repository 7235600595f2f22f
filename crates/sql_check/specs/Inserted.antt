-- The cells of the row that an INSERT gives.
use Rattle.std.specs.Prelude.{ℕ, if◌then◌else◌, List, [], ◌∷◌, map, zip, unwrap_or, Option, Some, None}
use Rattle.sql_check.specs.Data.{Value, Row, Table, Sum}
use Rattle.sql_check.specs.Data.values
use Rattle.sql_check.specs.Words.{same_text}
use Rattle.sql_check.specs.Columns.{given_columns}
use Rattle.sql_check.specs.Sums.{sum_value}

-- a row without cells, over which the values of an INSERT are worked
abbrev pub no_row : Row
no_row = record { cells = [] }

-- what an INSERT gives the column of this name
abbrev pub given_value : Table → List (List ℕ × Sum) → List ℕ → Option Value
given_value t [] name = Some values.Null
given_value t (p ∷ ps) name = if same_text p.0 name then sum_value t no_row p.1 else given_value t ps name

-- the cells of the new row, none where a sum is out of range
abbrev pub inserted_cells : Table → Option (List (List ℕ)) → List Sum → List (Option Value)
inserted_cells t columns given = map (λ c. given_value t (zip (given_columns t columns) given) c.name) t.columns

-- cells, with NULL in place of none
abbrev pub cells_of : List (Option Value) → List Value
cells_of vs = map (λ v. unwrap_or v values.Null) vs
