use Rattle.std.proofs.Common.{◌≡◌, ◌+◌, sum_by, drop}
use Rattle.sql_eval.specs.Rows.{value_length}
use Rattle.row_store.proofs.lengths.cells_len.Given as goal

abbrev pub invariant-loop-cell : goal.invariant-loop-cell
invariant-loop-cell l = l.bytes + sum_by value_length (drop l.cell-index l.cells) ≡ sum_by value_length l.cells
