-- What the happenings so far gave, and what those to come add, is what all of them give.
use Rattle.std.proofs.Common.{◌≡◌, drop, []}
use Rattle.chart_marks.specs.Rows.{start, along}
use Rattle.chart_marks.proofs.walk.marks_of.Given as goal

abbrev pub invariant-loop-happening : goal.invariant-loop-happening
invariant-loop-happening g l = along g.M.Marked.after l.tale l.marks.items l.cursor (drop l.happening-index l.trace) ≡ along g.M.Marked.after l.tale [] start l.trace
