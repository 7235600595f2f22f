use Rattle.std.proofs.Common.{◌≡◌, map, take}
use Rattle.sql_check.specs.Columns.{cell as cell_of}
use Rattle.sql_eval.proofs.query.picked_cells.Given as goal

abbrev pub invariant-loop-name : goal.invariant-loop-name
invariant-loop-name l = l.cells.items ≡ map (cell_of l.table l.row) (take l.name-index l.names)
