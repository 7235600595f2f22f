use Rattle.std.proofs.Common.{◌≡◌, map, take}
use Rattle.sql_eval.proofs.query.column_heads.Given as goal

abbrev pub invariant-loop-column : goal.invariant-loop-column
invariant-loop-column l = l.heads.items ≡ map (λ c. c.name) (take l.column-index l.table.columns)
