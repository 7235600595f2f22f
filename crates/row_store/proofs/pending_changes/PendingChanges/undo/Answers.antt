use Rattle.std.proofs.Common.{◌≡◌, List, [], ℕ, sym, ap, subst, ◌∙◌}
use Rattle.std.specs.Prelude.{IfOk}
use Rattle.dtx_values.specs.declared.row.Change.{Change}
use Rattle.undo_book.specs.Undo.{undo_text, changes_in, undo_of as undo_at}
use Rattle.undo_book.proofs.UndoLaws.{say, nothing}
use Rattle.row_store.specs.ByBranch.{PendingState}
use Rattle.row_store.specs.Store.{undo_held_in}
use Rattle.row_store.proofs.UndoHeld.{held_live, held_doubt, held_none}
use Rattle.row_store.proofs.pending_changes.PendingChanges.undo.Goals as goal

pub returns-in-Some-clause-text : goal.returns-in-Some-clause-text
returns-in-Some-clause-text c =
    let s = c.self.inside in
    let b = c.args.branch.now in
    let held =
    ap (undo_at s.undo) c.owner.ensures
    ∙ held_live s.undo b s.owns.entries s.doubts.entries c.in-Some.sets.now (sym c.in-Some.ensures.value) c.self.invariant.cut
    ∙ ap (λ (v : PendingState). undo_held_in v.owns v.doubts b) c.self.view_is in
    subst (λ (text : List ℕ). IfOk c.bytes.result (λ bytes. bytes ≡ text)) (ap undo_text held) c.bytes.ensures.text

pub returns-in-Some-clause-said : goal.returns-in-Some-clause-said
returns-in-Some-clause-said c =
    let s = c.self.inside in
    let b = c.args.branch.now in
    let held =
    ap (undo_at s.undo) c.owner.ensures
    ∙ held_live s.undo b s.owns.entries s.doubts.entries c.in-Some.sets.now (sym c.in-Some.ensures.value) c.self.invariant.cut
    ∙ ap (λ (v : PendingState). undo_held_in v.owns v.doubts b) c.self.view_is in
    subst (λ (cs : List Change). IfOk c.bytes.result (λ bytes. changes_in bytes ≡ cs)) held c.bytes.ensures.said

pub returns-in-Some-get-clause-text : goal.returns-in-Some-get-clause-text
returns-in-Some-get-clause-text c =
    let s = c.self.inside in
    let b = c.args.branch.now in
    let held =
    ap (undo_at s.undo) c.owner-in-Some-get.ensures
    ∙ held_doubt s.undo b s.owns.entries s.doubts.entries c.in-Some-get.held.now (sym c.in_default.ensures.value) (sym c.in-Some-get.ensures.value)
    ∙ ap (λ (v : PendingState). undo_held_in v.owns v.doubts b) c.self.view_is in
    subst (λ (text : List ℕ). IfOk c.bytes-in-Some-get.result (λ bytes. bytes ≡ text)) (ap undo_text held) c.bytes-in-Some-get.ensures.text

pub returns-in-Some-get-clause-said : goal.returns-in-Some-get-clause-said
returns-in-Some-get-clause-said c =
    let s = c.self.inside in
    let b = c.args.branch.now in
    let held =
    ap (undo_at s.undo) c.owner-in-Some-get.ensures
    ∙ held_doubt s.undo b s.owns.entries s.doubts.entries c.in-Some-get.held.now (sym c.in_default.ensures.value) (sym c.in-Some-get.ensures.value)
    ∙ ap (λ (v : PendingState). undo_held_in v.owns v.doubts b) c.self.view_is in
    subst (λ (cs : List Change). IfOk c.bytes-in-Some-get.result (λ bytes. changes_in bytes ≡ cs)) held c.bytes-in-Some-get.ensures.said

pub returns-in-None-clause-text : goal.returns-in-None-clause-text
returns-in-None-clause-text c =
    let s = c.self.inside in
    let b = c.args.branch.now in
    let held =
    held_none s.undo b s.owns.entries s.doubts.entries (sym c.in_default.ensures.value) (sym c.in-None.ensures.value)
    ∙ ap (λ (v : PendingState). undo_held_in v.owns v.doubts b) c.self.view_is in
    c.new.ensures ∙ ap undo_text held

pub returns-in-None-clause-said : goal.returns-in-None-clause-said
returns-in-None-clause-said c =
    let s = c.self.inside in
    let b = c.args.branch.now in
    let held =
    held_none s.undo b s.owns.entries s.doubts.entries (sym c.in_default.ensures.value) (sym c.in-None.ensures.value)
    ∙ ap (λ (v : PendingState). undo_held_in v.owns v.doubts b) c.self.view_is in
    ap changes_in c.new.ensures ∙ say [] [] nothing ∙ held
