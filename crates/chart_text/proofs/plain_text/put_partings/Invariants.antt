use Rattle.std.proofs.Common.{◌≡◌, ◌++◌, take}
use Rattle.std.specs.List.{flat_map}
use Rattle.chart_text.specs.Plain.{parting_in}
use Rattle.chart_text.proofs.plain_text.put_partings.Given as goal

abbrev pub invariant-loop-parting : goal.invariant-loop-parting
invariant-loop-parting l = l.out.items ≡ l.initial.out.items ++ flat_map (parting_in l.names l.row) (take l.parting-index l.partings)
