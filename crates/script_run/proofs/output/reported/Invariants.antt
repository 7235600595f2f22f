use Rattle.std.proofs.Common.{◌≡◌, take}
use Rattle.report.specs.Report.{report, printed}
use Rattle.script_run.proofs.output.reported.Given as goal

abbrev pub invariant-loop-answer : goal.invariant-loop-answer
invariant-loop-answer l = l.out.items ≡ printed (report (take l.answer-index l.answers))
