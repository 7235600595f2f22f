use Rattle.std.proofs.Common.{◌≡◌, ◌++◌, take}
use Rattle.std.specs.List.{flat_map}
use Rattle.chart_text.specs.Plain.{repeat_in}
use Rattle.chart_text.proofs.plain_text.put_repeats.Given as goal

abbrev pub invariant-loop-repeat : goal.invariant-loop-repeat
invariant-loop-repeat l = l.out.items ≡ l.initial.out.items ++ flat_map (repeat_in l.names l.row) (take l.repeat-index l.repeats)
