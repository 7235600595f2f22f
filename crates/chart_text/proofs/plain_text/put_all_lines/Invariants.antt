-- What was added, and what the rows to come still add, is what all rows add.
use Rattle.std.proofs.Common.{◌≡◌, ◌-◌, ◌++◌}
use Rattle.chart_text.specs.Plain.{lines_from}
use Rattle.chart_text.proofs.plain_text.put_all_lines.Given as goal

abbrev pub invariant-loop-row : goal.invariant-loop-row
invariant-loop-row l =
    l.out.items ++ lines_from l.window l.marks l.row (l.window.bottom - l.row)
    ≡ l.initial.out.items ++ lines_from l.window l.marks l.window.top (l.window.bottom - l.window.top)
