use Rattle.std.proofs.Common.{◌≡◌, map, take}
use Rattle.report.specs.Rows.{row_text}
use Rattle.report.proofs.rows.rows_lines.Given as goal

abbrev pub invariant-loop-row : goal.invariant-loop-row
invariant-loop-row l = l.rows.items ≡ map row_text (take l.row-index l.found.rows)
