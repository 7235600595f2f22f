use Rattle.std.proofs.Common.{◌≡◌, ◌++◌, take}
use Rattle.std.specs.List.{flat_map}
use Rattle.chart_text.specs.Plain.{arrow_in}
use Rattle.chart_text.proofs.plain_text.put_arrows.Given as goal

abbrev pub invariant-loop-arrow : goal.invariant-loop-arrow
invariant-loop-arrow l = l.out.items ≡ l.initial.out.items ++ flat_map (arrow_in l.names l.row) (take l.arrow-index l.arrows)
