-- Where the cursor comes from here is where it comes from the start.
use Rattle.std.proofs.Common.{◌≡◌, drop}
use Rattle.chart_marks.specs.Rows.{start, cursor_behind}
use Rattle.chart_marks.proofs.cursor.rows.Given as goal

abbrev pub invariant-loop-happening : goal.invariant-loop-happening
invariant-loop-happening l = cursor_behind l.tale l.cursor (drop l.happening-index l.trace) ≡ cursor_behind l.tale start l.trace
