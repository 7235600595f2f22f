use Rattle.std.proofs.Common.{◌≡◌, map, take}
use Rattle.sql_eval.specs.Meaning.{row_of}
use Rattle.sql_eval.proofs.query.whole_rows.Given as goal

abbrev pub invariant-loop-keyed : goal.invariant-loop-keyed
invariant-loop-keyed l = l.whole.items ≡ map row_of (map (λ r. r.row.cells) (take l.keyed-index l.rows))
