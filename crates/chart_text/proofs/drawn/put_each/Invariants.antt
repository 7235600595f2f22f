use Rattle.std.proofs.Common.{◌≡◌, ◌++◌, take}
use Rattle.std.specs.List.{flat_map}
use Rattle.chart_text.proofs.drawn.put_each.Given as goal

abbrev pub invariant-loop-mark : goal.invariant-loop-mark
invariant-loop-mark g l = l.drawn.items ≡ l.initial.drawn.items ++ flat_map (g.D.Drawn.shapes l.window) (take l.mark-index l.marks)
