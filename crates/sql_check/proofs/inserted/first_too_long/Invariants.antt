use Rattle.std.proofs.Common.{◌≡◌, drop, map, zip}
use Rattle.sql_check.specs.Words.{first_some}
use Rattle.sql_check.specs.Checks.{too_long as too_long_of}
use Rattle.sql_check.proofs.inserted.first_too_long.Given as goal

-- it is among those that are left
abbrev pub invariant-loop-place : goal.invariant-loop-place
invariant-loop-place l = first_some (map (λ p. too_long_of l.table p.0 p.1) (zip l.columns l.cells)) ≡ first_some (map (λ p. too_long_of l.table p.0 p.1) (zip (drop l.place l.columns) (drop l.place l.cells)))
