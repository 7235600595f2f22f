use Rattle.std.proofs.Common.{◌≡◌, map, take}
use Rattle.pending_view.specs.Views.{pending_text}
use Rattle.pending_view.proofs.printing.pending_texts.Given as goal

abbrev pub invariant-loop-row : goal.invariant-loop-row
invariant-loop-row l = l.texts.items ≡ map (pending_text l.names) (take l.row-index l.rows)
