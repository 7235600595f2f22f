use Rattle.std.proofs.Common.{◌≡◌, ◌++◌, map, take}
use Rattle.pending_view.specs.Views.{in_view, pending_kept}
use Rattle.pending_view.proofs.views.add_kept.Given as goal

abbrev pub invariant-loop-row : goal.invariant-loop-row
invariant-loop-row l = l.rows.items ≡ l.initial.rows.items ++ map pending_kept (in_view (take l.row-index l.kept))
