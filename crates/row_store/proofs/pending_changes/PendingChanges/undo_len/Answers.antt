use Rattle.std.proofs.Common.{length, sym, ap, ◌∙◌}
use Rattle.undo_book.specs.Undo.{undo_text, undo_of as undo_at}
use Rattle.row_store.specs.Own.{changes_length}
use Rattle.row_store.specs.Pending.{undo_of}
use Rattle.row_store.specs.ByBranch.{PendingState}
use Rattle.row_store.specs.Store.{sets_of, sets_at}
use Rattle.row_store.proofs.UndoHeld.{bytes_there, no_own}
use Rattle.row_store.proofs.pending_changes.PendingChanges.undo_len.Goals as goal

pub returns-in-Some : goal.returns-in-Some
returns-in-Some c =
    let s = c.self.inside in
    let b = c.args.branch.now in
    c.len.ensures ∙ ap (λ n. length (undo_text (undo_at s.undo n))) c.owner.ensures
    ∙ bytes_there s.undo b s.owns.entries c.in-Some.sets.now (sym c.in-Some.ensures.value) c.self.invariant.cut
    ∙ ap (λ (v : PendingState). changes_length (undo_of (sets_at v.owns b))) c.self.view_is

pub returns-in-None : goal.returns-in-None
returns-in-None c =
    let s = c.self.inside in
    let b = c.args.branch.now in
    ap (λ o. changes_length (undo_of (sets_of o))) (sym (no_own s.undo b s.owns.entries (sym c.in-None.ensures.value)))
    ∙ ap (λ (v : PendingState). changes_length (undo_of (sets_at v.owns b))) c.self.view_is
