-- The messages so far are sent, and those to come are sent after them.
use Rattle.std.proofs.Common.{◌≡◌, drop}
use Rattle.chart_marks.specs.Marks.{with_sent}
use Rattle.chart_marks.proofs.arrows.send.Given as goal

abbrev pub invariant-loop-msg : goal.invariant-loop-msg
invariant-loop-msg l = with_sent l.arrows.items l.row (drop l.msg-index l.sent) ≡ with_sent l.initial.arrows.items l.row l.sent
