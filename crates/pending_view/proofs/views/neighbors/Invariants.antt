use Rattle.std.proofs.Common.{◌≡◌, take}
use Rattle.std.specs.Prelude.{flat_map}
use Rattle.pending_view.specs.Views.{in_view, neighbors_of}
use Rattle.pending_view.proofs.views.neighbors.Given as goal

abbrev pub invariant-loop-branch : goal.invariant-loop-branch
invariant-loop-branch l = l.rows.items ≡ flat_map (neighbors_of l.names) (in_view (take l.branch-index l.kept))
