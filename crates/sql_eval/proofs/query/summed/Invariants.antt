use Rattle.std.proofs.Common.{◌≡◌, drop, map, Some}
use Rattle.sql_eval.specs.Meaning.{summed as summed_of}
use Rattle.sql_check.specs.Columns.{cell as cell_of}
use Rattle.sql_eval.specs.Data.values
use Rattle.sql_eval.proofs.query.summed.Given as goal

-- the rows that are left go on from the total so far
abbrev pub invariant-loop-keyed : goal.invariant-loop-keyed
invariant-loop-keyed l = summed_of (map (λ r. cell_of l.table r.row l.name) l.rows) (Some values.Null) ≡ summed_of (map (λ r. cell_of l.table r.row l.name) (drop l.keyed-index l.rows)) (Some l.total)
