use Rattle.std.proofs.Common.{◌≡◌, map, take}
use Rattle.dtx_values.specs.Texts.{text_of_value}
use Rattle.report.proofs.rows.row_text.Given as goal

abbrev pub invariant-loop-cell : goal.invariant-loop-cell
invariant-loop-cell l = l.cells.items ≡ map text_of_value (take l.cell-index l.row.cells)
