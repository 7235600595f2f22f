use Rattle.std.proofs.Common.{◌≡◌, take}
use Rattle.std.specs.List.{flat_map}
use Rattle.chart_captions.specs.Tale.{answer_if}
use Rattle.chart_captions.proofs.captions.answer.Given as goal

abbrev pub invariant-loop-answer : goal.invariant-loop-answer
invariant-loop-answer l = l.lines.items ≡ flat_map (answer_if l.command) (take l.answer-index l.answers)
