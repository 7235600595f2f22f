use Rattle.std.proofs.Common.{◌≡◌, map, take}
use Rattle.sql_eval.specs.Meaning.{row_of}
use Rattle.sql_check.specs.Columns.{cell as cell_of}
use Rattle.sql_eval.proofs.query.picked_rows.Given as goal

abbrev pub invariant-loop-keyed : goal.invariant-loop-keyed
invariant-loop-keyed l = l.picked.items ≡ map row_of (map (λ r. map (cell_of l.table r.row) l.names) (take l.keyed-index l.rows))
