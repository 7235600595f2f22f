use Rattle.std.proofs.Common.{◌≡◌, drop, map, zip}
use Rattle.sql_check.specs.Words.{first_some}
use Rattle.sql_check.specs.Checks.{cell_null as cell_null_of}
use Rattle.sql_check.proofs.inserted.first_null.Given as goal

-- it is among those that are left
abbrev pub invariant-loop-place : goal.invariant-loop-place
invariant-loop-place l = first_some (map (cell_null_of l.table) (zip l.columns l.cells)) ≡ first_some (map (cell_null_of l.table) (zip (drop l.place l.columns) (drop l.place l.cells)))
