-- What the happenings so far gave, and what those to come add, is what all of them give.
use Rattle.std.proofs.Common.{◌≡◌, drop, []}
use Rattle.chart_marks.specs.Rows.{start, along}
use Rattle.chart_marks.specs.Marks.{bands_after}
use Rattle.chart_marks.proofs.bands.bands.Given as goal

abbrev pub invariant-loop-happening : goal.invariant-loop-happening
invariant-loop-happening l = along (bands_after l.tale) l.tale l.bands.items l.cursor (drop l.happening-index l.trace) ≡ along (bands_after l.tale) l.tale [] start l.trace
