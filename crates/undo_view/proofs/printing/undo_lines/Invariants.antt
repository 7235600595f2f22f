use Rattle.std.proofs.Common.{◌≡◌, take}
use Rattle.std.specs.List.{flat_map}
use Rattle.undo_view.specs.Views.{held_lines}
use Rattle.undo_view.proofs.printing.undo_lines.Given as goal

abbrev pub invariant-loop-undo : goal.invariant-loop-undo
invariant-loop-undo l = l.lines.items ≡ flat_map held_lines (take l.undo-index l.undos)
