-- The columns that a statement names, and the types that it gives them.
use Rattle.std.specs.Prelude.{ℕ, ◌&&◌, not, Bool, true, false, List, [], ◌∷◌, ◌++◌, map, length, position, find, flat_map, zip, is_some, unwrap_or, slice_get, Option, Some, None}
use Rattle.std.specs.List.{list_all, list_any}
use Rattle.sql_check.specs.Data.{Value, Row, Column, Table, Term, Step, Sum, Cond, Picked, Stmt}
use Rattle.sql_check.specs.Data.values
use Rattle.sql_check.specs.Data.terms
use Rattle.sql_check.specs.Data.conds
use Rattle.sql_check.specs.Data.picks
use Rattle.sql_check.specs.Data.stmts
use Rattle.sql_check.specs.Words.{same_text, one}

-- a column of texts
abbrev pub is_text : Column → Bool
is_text c = is_some c.text_max

-- whether it is the column of this name
abbrev pub is_named : List ℕ → Column → Bool
is_named name c = same_text c.name name

-- the place of a column in its table, from 0
abbrev pub place_of : Table → List ℕ → Option ℕ
place_of t name = position (is_named name) t.columns

-- the column of this name
abbrev pub column_of : Table → List ℕ → Option Column
column_of t name = find (is_named name) t.columns

-- whether this is the name of the key column
abbrev pub is_key : Table → List ℕ → Bool
is_key t name = list_any (λ c. c.key && is_named name c) t.columns

-- what a row has in the key column
abbrev pub key_of_row : Table → List Value → Value
key_of_row t cells = unwrap_or (slice_get cells (unwrap_or (position (λ c. c.key) t.columns) 0)) values.Null

-- what a row has in the column of this name
abbrev pub cell : Table → Row → List ℕ → Value
cell t row name = unwrap_or (slice_get row.cells (unwrap_or (place_of t name) (length row.cells))) values.Null

-- the columns in one term
abbrev pub term_columns : Term → List (List ℕ)
term_columns (terms.Column name) = one name
term_columns (terms.Literal v) = []

-- the columns in a sum
abbrev pub sum_columns : Sum → List (List ℕ)
sum_columns s = term_columns s.first ++ flat_map (λ p. term_columns p.term) s.rest

-- the column of a condition
abbrev pub cond_column : Cond → List ℕ
cond_column (conds.Compare column sign literal) = column
cond_column (conds.IsNull column negated) = column

-- the columns in the list of a SELECT
abbrev pub picked_columns : Picked → List (List ℕ)
picked_columns picks.All = []
picked_columns picks.Count = []
picked_columns (picks.Sum name) = one name
picked_columns (picks.Columns names) = names

-- all columns that a statement names
abbrev pub named_columns : Stmt → List (List ℕ)
named_columns (stmts.Insert table (Some columns) given) = columns
named_columns (stmts.Update table sets cs) = flat_map (λ s. s.column ∷ sum_columns s.to) sets ++ map cond_column cs
named_columns (stmts.Delete table cs) = map cond_column cs
named_columns (stmts.Select list table cs for_update) = picked_columns list ++ map cond_column cs
named_columns _ = []

-- types: Null fits every column
abbrev pub fits : Column → Value → Bool
fits c values.Null = true
fits c (values.Number n) = not (is_text c)
fits c (values.Text t) = is_text c

-- both or neither
abbrev pub same_bool : Bool → Bool → Bool
same_bool true b = b
same_bool false b = not b

-- a column's values fit another column where both are of texts or both of numbers
abbrev pub fits_column : Column → Option Column → Bool
fits_column c None = false
fits_column c (Some d) = same_bool (is_text c) (is_text d)

-- a term fits a column
abbrev pub term_fits : Table → Column → Term → Bool
term_fits t c (terms.Literal v) = fits c v
term_fits t c (terms.Column name) = fits_column c (column_of t name)

-- a sum of one term is that term; a sum of several takes numbers and is one
abbrev pub sum_fits_by : Table → Column → Term → List Step → Bool
sum_fits_by t c first [] = term_fits t c first
sum_fits_by t c first (p ∷ ps) = not (is_text c) && (term_fits t c first && list_all (λ q. term_fits t c q.term) (p ∷ ps))

-- a sum fits a column
abbrev pub sum_fits : Table → Sum → Option Column → Bool
sum_fits t s None = false
sum_fits t s (Some c) = sum_fits_by t c s.first s.rest

-- a literal fits a column
abbrev pub literal_fits : Option Column → Value → Bool
literal_fits None v = false
literal_fits (Some c) v = fits c v

-- a condition compares its column with a literal that fits
abbrev pub cond_fits : Table → Cond → Bool
cond_fits t (conds.Compare column sign literal) = literal_fits (column_of t column) literal
cond_fits t (conds.IsNull column negated) = true

-- SUM is of numbers
abbrev pub picked_fits : Table → Picked → Bool
picked_fits t (picks.Sum name) = fits_column (record { name = []; text_max = None; not_null = false; key = false }) (column_of t name)
picked_fits t _ = true

-- the columns that an INSERT gives values
abbrev pub given_columns : Table → Option (List (List ℕ)) → List (List ℕ)
given_columns t None = map (λ c. c.name) t.columns
given_columns t (Some names) = names

-- every value, comparison, sum and SUM of a statement is of its column's type
abbrev pub statement_fits : Table → Stmt → Bool
statement_fits t (stmts.Insert table columns given) = list_all (λ p. sum_fits t p.1 (column_of t p.0)) (zip (given_columns t columns) given)
statement_fits t (stmts.Update table sets cs) = list_all (λ s. sum_fits t s.to (column_of t s.column)) sets && list_all (cond_fits t) cs
statement_fits t (stmts.Delete table cs) = list_all (cond_fits t) cs
statement_fits t (stmts.Select list table cs for_update) = picked_fits t list && list_all (cond_fits t) cs
statement_fits t _ = true
