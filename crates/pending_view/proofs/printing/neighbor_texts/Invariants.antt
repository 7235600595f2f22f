use Rattle.std.proofs.Common.{◌≡◌, map, take}
use Rattle.pending_view.specs.Views.{neighbor_text}
use Rattle.pending_view.proofs.printing.neighbor_texts.Given as goal

abbrev pub invariant-loop-row : goal.invariant-loop-row
invariant-loop-row l = l.texts.items ≡ map neighbor_text (take l.row-index l.rows)
