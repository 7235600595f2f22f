-- The value of a sum over a row, where 64 bits hold each partial sum.
use Rattle.std.specs.Prelude.{◌-◌, ◌^◌, ◌&&◌, Bool, if◌then◌else◌, List, [], ◌∷◌, Option, Some, None, ℤ, pos, negsuc, ◌+ℤ◌, ◌-ℤ◌, int_le}
use Rattle.sql_check.specs.Data.{Value, Row, Table, Term, Step, Sum}
use Rattle.sql_check.specs.Data.values
use Rattle.sql_check.specs.Data.terms
use Rattle.sql_check.specs.Columns.{cell}

-- whether a number fits 64 bits
abbrev pub in_range : ℤ → Bool
in_range n = int_le (negsuc (2 ^ 63 - 1)) n && int_le n (pos (2 ^ 63 - 1))

-- the value of a term
abbrev pub term_value : Table → Row → Term → Value
term_value t row (terms.Column name) = cell t row name
term_value t row (terms.Literal v) = v

-- a number, where it is in range
abbrev pub ranged : ℤ → Option Value
ranged n = if in_range n then Some (values.Number n) else None

-- NULL from the first NULL on
abbrev pub step_value : Bool → Value → Value → Option Value
step_value minus (values.Number a) (values.Number b) = ranged (if minus then a -ℤ b else a +ℤ b)
step_value minus _ _ = Some values.Null

-- the value after further terms, from left to right
abbrev pub steps_value : Table → Row → Option Value → List Step → Option Value
steps_value t row None ps = None
steps_value t row (Some v) [] = Some v
steps_value t row (Some v) (p ∷ ps) = steps_value t row (step_value p.minus v (term_value t row p.term)) ps

-- the value of a sum over a row
abbrev pub sum_value : Table → Row → Sum → Option Value
sum_value t row s = steps_value t row (Some (term_value t row s.first)) s.rest
