use Rattle.std.proofs.Common.{◌≡◌, drop, zip}
use Rattle.sql_check.specs.Columns.{given_columns}
use Rattle.sql_check.specs.Inserted.{given_value as given_value_of}
use Rattle.sql_check.proofs.inserted.given_value.Given as goal

-- it is among those that are left
abbrev pub invariant-loop-place : goal.invariant-loop-place
invariant-loop-place l = given_value_of l.table (zip (given_columns l.table l.columns) l.values) l.column ≡ given_value_of l.table (zip (drop l.place (given_columns l.table l.columns)) (drop l.place l.values)) l.column
