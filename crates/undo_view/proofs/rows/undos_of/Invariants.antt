use Rattle.std.proofs.Common.{◌≡◌, filter, map, take}
use Rattle.row_store.specs.Store.{undo_held}
use Rattle.undo_view.specs.Views.{has_bytes, held}
use Rattle.undo_view.proofs.rows.undos_of.Given as goal

abbrev pub invariant-loop-branch : goal.invariant-loop-branch
invariant-loop-branch l = l.undos.items ≡ filter has_bytes (map (λ b. held b (undo_held l.store b)) (take l.branch-index l.branches))
