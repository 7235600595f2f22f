use Rattle.std.proofs.Common.{sym, ap, ◌∙◌}
use Rattle.tran_ids.specs.Listed.{item_at}
use Rattle.row_store.specs.ByBranch.{PendingState}
use Rattle.row_store.specs.Store.{doubt_id, held_back}
use Rattle.row_store.proofs.UndoHeld.{no_doubt, held_there}
use Rattle.row_store.proofs.pending_changes.PendingChanges.held.Goals as goal

pub returns-in-Some : goal.returns-in-Some
returns-in-Some c =
    let s = c.self.inside in
    let b = c.args.branch.now in
    c.as_slice.ensures
    ∙ held_there s.undo b s.doubts.entries c.in-Some.held.now (sym c.in-Some.ensures.value)
    ∙ ap (λ (v : PendingState). held_back (item_at doubt_id v.doubts b)) c.self.view_is

pub returns-in-None : goal.returns-in-None
returns-in-None c =
    let s = c.self.inside in
    let b = c.args.branch.now in
    sym (ap held_back (no_doubt s.undo b s.doubts.entries (sym c.in-None.ensures.value)))
    ∙ ap (λ (v : PendingState). held_back (item_at doubt_id v.doubts b)) c.self.view_is
