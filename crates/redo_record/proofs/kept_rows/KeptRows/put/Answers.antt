use Rattle.std.proofs.Common.{◌≡◌, List, Some, None, is_some, false, true, true≢false, position, find, refl, sym, ap, ◌∙◌}
use Rattle.tran_ids.specs.Listed.{put_item}
use Rattle.redo_record.specs.Data.{KeptRow}
use Rattle.redo_record.specs.Kept.{stands_at}
use Rattle.redo_record.specs.Leaving.{row_id}
use Rattle.redo_record.proofs.Searched.{none_there, set_is_put, still_in_order}
use Rattle.redo_record.proofs.kept_rows.KeptRows.put.Goals as goal

pub invariant_of-self : goal.invariant_of-self
invariant_of-self c =
    let b = c.args.row.me in
    let rows = c.self.inside.rows.items in
    let at : position (stands_at b) rows ≡ Some c.in-Some.place = ap (position (stands_at b)) (sym c.deref.ensures.value) ∙ sym c.position_of.ensures ∙ c.in-Some.is in
    still_in_order b rows c.in-Some.place at c.args.row refl c.self.invariant

pub returns-in-Some : goal.returns-in-Some
returns-in-Some c =
    let row = c.args.row in
    let rows = c.self.inside.rows.items in
    let at : position (stands_at row.me) rows ≡ Some c.in-Some.place = ap (position (stands_at row.me)) (sym c.deref.ensures.value) ∙ sym c.position_of.ensures ∙ c.in-Some.is in
    set_is_put row rows c.in-Some.place at ∙ ap (λ (ks : List KeptRow). put_item row_id ks row) c.self.view_is

pub returns-in_default : goal.returns-in_default
returns-in_default c =
    let p = stands_at c.args.row.me in
    let rows = c.self.inside.rows.items in
    let none : find p c.args.self.now ≡ None =
    ap (find p) (sym c.self.view_is) ∙ none_there p rows (ap (position p) (sym c.deref.ensures.value) ∙ sym c.position_of.ensures ∙ c.in_default.is) in
    absurd (true≢false (sym c.requires ∙ ap is_some none))
