use Rattle.row_store.proofs.UndoHeld.{none_kept}
use Rattle.row_store.proofs.pending_changes.PendingChanges.new.Goals as goal

pub invariant_of-result : goal.invariant_of-result
invariant_of-result c = none_kept c.in_ok-undo.undo c.args.extents c.new-2.result.entries c.new-3.result.entries c.in_ok-undo.ensures c.new-2.ensures.empty c.new-3.ensures.empty
