use Rattle.std.proofs.Common.{◌≡◌, ◌++◌, take}
use Rattle.std.specs.List.{flat_map}
use Rattle.chart_text.specs.Plain.{asked_line}
use Rattle.chart_text.proofs.plain_text.put_asked.Given as goal

abbrev pub invariant-loop-line : goal.invariant-loop-line
invariant-loop-line l = l.out.items ≡ l.initial.out.items ++ flat_map (asked_line l.command) (take l.line-index l.lines)
