use Rattle.std.proofs.Common.{◌≡◌, take, map}
use Rattle.row_store.specs.Own.{before}
use Rattle.row_store.specs.Tables.{rows_of_table}
use Rattle.node_memory.proofs.versions.rows_before.Given as goal

-- those of the changes so far
abbrev pub invariant-loop-change : goal.invariant-loop-change
invariant-loop-change l = l.rows.items ≡ map (λ c. before (rows_of_table l.store.rows c.table) c) (take l.change-index l.changes)
