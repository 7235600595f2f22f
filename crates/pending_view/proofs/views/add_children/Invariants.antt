use Rattle.std.proofs.Common.{◌≡◌, ◌++◌, map, take}
use Rattle.pending_view.specs.Views.{out_row}
use Rattle.pending_view.proofs.views.add_children.Given as goal

abbrev pub invariant-loop-child : goal.invariant-loop-child
invariant-loop-child l = l.rows.items ≡ l.initial.rows.items ++ map (out_row l.branch) (take l.child-index l.children)
