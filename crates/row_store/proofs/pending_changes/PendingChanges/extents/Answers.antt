use Rattle.std.proofs.Common.{sym, ap, ◌∙◌}
use Rattle.undo_book.specs.Undo.{undo_of as undo_at, undo_extents}
use Rattle.row_store.specs.Own.{changes_length, extents}
use Rattle.row_store.specs.ByBranch.{PendingState}
use Rattle.row_store.specs.Store.{undo_held_in}
use Rattle.row_store.proofs.ExtentLaws.{extents_are}
use Rattle.row_store.proofs.UndoHeld.{held_live, held_doubt, held_none}
use Rattle.row_store.proofs.pending_changes.PendingChanges.extents.Goals as goal

pub returns-in-Some : goal.returns-in-Some
returns-in-Some c =
    let s = c.self.inside in
    let b = c.args.branch.now in
    let x = c.in-Some.sets.now in
    c.extents.ensures ∙ ap (λ n. undo_extents (undo_at s.undo n)) c.owner.ensures ∙ extents_are (undo_at s.undo x.owner)
    ∙ ap (λ us. extents (changes_length us)) (held_live s.undo b s.owns.entries s.doubts.entries x (sym c.in-Some.ensures.value) c.self.invariant.cut)
    ∙ ap (λ (v : PendingState). extents (changes_length (undo_held_in v.owns v.doubts b))) c.self.view_is

pub returns-in-Some-get : goal.returns-in-Some-get
returns-in-Some-get c =
    let s = c.self.inside in
    let b = c.args.branch.now in
    let x = c.in-Some-get.held.now in
    c.extents-in-Some-get.ensures ∙ ap (λ n. undo_extents (undo_at s.undo n)) c.owner-in-Some-get.ensures ∙ extents_are (undo_at s.undo x.owner)
    ∙ ap (λ us. extents (changes_length us)) (held_doubt s.undo b s.owns.entries s.doubts.entries x (sym c.in_default.ensures.value) (sym c.in-Some-get.ensures.value))
    ∙ ap (λ (v : PendingState). extents (changes_length (undo_held_in v.owns v.doubts b))) c.self.view_is

pub returns-in-None : goal.returns-in-None
returns-in-None c =
    let s = c.self.inside in
    let b = c.args.branch.now in
    ap (λ us. extents (changes_length us)) (held_none s.undo b s.owns.entries s.doubts.entries (sym c.in_default.ensures.value) (sym c.in-None.ensures.value))
    ∙ ap (λ (v : PendingState). extents (changes_length (undo_held_in v.owns v.doubts b))) c.self.view_is
