use Rattle.std.proofs.Common.{◌≡◌, ◌++◌, take}
use Rattle.std.specs.List.{flat_map}
use Rattle.chart_text.specs.Layout.{parting_label}
use Rattle.chart_text.proofs.notes.put_parting_labels.Given as goal

abbrev pub invariant-loop-parting : goal.invariant-loop-parting
invariant-loop-parting l = l.shapes.items ≡ l.initial.shapes.items ++ flat_map (parting_label l.window l.names) (take l.parting-index l.partings)
