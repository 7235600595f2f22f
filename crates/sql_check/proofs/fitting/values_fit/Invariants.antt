use Rattle.std.proofs.Common.{◌≡◌, drop, zip}
use Rattle.std.specs.List.{list_all}
use Rattle.sql_check.specs.Columns.{given_columns, sum_fits as sum_fits_of, column_of as column_in}
use Rattle.sql_check.proofs.fitting.values_fit.Given as goal

-- as many are left to fit
abbrev pub invariant-loop-place : goal.invariant-loop-place
invariant-loop-place l = list_all (λ p. sum_fits_of l.table p.1 (column_in l.table p.0)) (zip (given_columns l.table l.columns) l.values) ≡ list_all (λ p. sum_fits_of l.table p.1 (column_in l.table p.0)) (zip (drop l.place (given_columns l.table l.columns)) (drop l.place l.values))
