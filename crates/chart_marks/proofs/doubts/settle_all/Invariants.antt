-- Those so far are changed.
use Rattle.std.proofs.Common.{◌≡◌, ◌++◌, map, take, drop}
use Rattle.chart_marks.specs.Marks.{settled}
use Rattle.chart_marks.proofs.doubts.settle_all.Given as goal

abbrev pub invariant-loop-doubt : goal.invariant-loop-doubt
invariant-loop-doubt l = l.doubt-items ≡ map (settled l.me l.row) (take l.doubt-index l.initial.doubt-items) ++ drop l.doubt-index l.initial.doubt-items
