-- Those so far are shown, and those to come are shown below them.
use Rattle.std.proofs.Common.{◌≡◌, ◌++◌, drop}
use Rattle.chart_marks.specs.Marks.{shown_from}
use Rattle.chart_marks.proofs.arrows.shown.Given as goal

abbrev pub invariant-loop-arrow : goal.invariant-loop-arrow
invariant-loop-arrow l = l.shown.items ++ shown_from l.row (drop l.arrow-index l.arrows) ≡ shown_from l.initial.row l.arrows
