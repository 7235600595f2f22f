-- Those so far are changed.
use Rattle.std.proofs.Common.{◌≡◌, ◌++◌, map, take, drop}
use Rattle.chart_marks.specs.Marks.{restarted}
use Rattle.chart_marks.proofs.doubts.restart_all.Given as goal

abbrev pub invariant-loop-outage : goal.invariant-loop-outage
invariant-loop-outage l = l.outage-items ≡ map (restarted l.node l.row) (take l.outage-index l.initial.outage-items) ++ drop l.outage-index l.initial.outage-items
