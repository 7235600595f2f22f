use Rattle.std.proofs.Common.{◌≡◌, Some, None, not, filter, position, sym, ap, subst, ◌∙◌}
use Rattle.std.proofs.lemmas.List.Quantifiers.{position-Some}
use Rattle.redo_record.specs.Lists.{drop_where}
use Rattle.redo_record.specs.Leaving.{leaves}
use Rattle.redo_record.specs.Order.{AreInOrder}
use Rattle.redo_record.proofs.InOrder.{remove_in_order}
use Rattle.redo_record.proofs.Searched.{less_one, no_more}
use Rattle.redo_record.proofs.kept.drop_rows.Goals as goal

pub loop-place-preserved : goal.loop-place-preserved
loop-place-preserved c =
    let p = leaves c.args.leaving c.args.me.now in
    let rows = c.loop-place.kept.items in
    let place = c.in-Some.place in
    let at : position p rows ≡ Some place = ap (position p) (sym c.deref.ensures.value) ∙ sym c.position_of.ensures ∙ c.in-Some.is in
    let there = position-Some p rows place c.remove.result at in (
      ap (drop_where p) c.remove.ensures.items ∙ less_one p rows place c.remove.result there.0 there.1 ∙ c.loop-place.invariant.0,
      subst AreInOrder (sym c.remove.ensures.items) (remove_in_order rows place c.loop-place.invariant.1),
    )

pub returns : goal.returns
returns c =
    let p = leaves c.args.leaving c.args.me.now in
    let rows = c.loop-place.kept.items in
    let none : position p rows ≡ None = ap (position p) (sym c.deref.ensures.value) ∙ sym c.position_of.ensures ∙ c.in_default.is in
    sym (no_more p rows none) ∙ c.loop-place.invariant.0
