use Rattle.std.proofs.Common.{◌≡◌, Some, None, find, position, slice_get, sym, ap, subst, ◌∙◌}
use Rattle.redo_record.specs.declared.durable.KeptRow.{KeptRow}
use Rattle.redo_record.specs.Kept.{stands_at}
use Rattle.redo_record.proofs.Searched.{found_there, none_there}
use Rattle.redo_record.proofs.kept_rows.KeptRows.find.Goals as goal

pub returns-in-None : goal.returns-in-None
returns-in-None c =
    let p = stands_at c.args.branch.now in
    let ks = c.self.inside.rows.items in
    sym (ap (find p) (sym c.self.view_is) ∙ none_there p ks (ap (position p) (sym c.deref.ensures.value) ∙ sym c.position_of.ensures ∙ c.in-None.is))

pub returns-in-Some : goal.returns-in-Some
returns-in-Some c =
    let p = stands_at c.args.branch.now in
    let ks = c.self.inside.rows.items in
    c.row_at.ensures ∙ ap (λ rows. slice_get rows c.in-Some.place) c.deref-in-Some.ensures.value
    ∙ found_there p ks c.in-Some.place (ap (position p) (sym c.deref.ensures.value) ∙ sym c.position_of.ensures ∙ c.in-Some.is) ∙ ap (find p) c.self.view_is
