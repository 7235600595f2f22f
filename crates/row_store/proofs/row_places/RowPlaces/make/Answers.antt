use Rattle.std.proofs.Common.{◌||◌, None, ap, sym, ◌∙◌}
use Rattle.dtx_values.specs.Order.{same_value}
use Rattle.row_store.specs.Places.{rows_at, has_place}
use Rattle.row_store.proofs.PlaceLaws.{rising_is, put_by_map, none_by_map, has_by_map, rows_made, places_put, places_stay}
use Rattle.row_store.proofs.row_places.RowPlaces.make.Goals as goal

pub returns-in_ok-insert-clause-rows : goal.returns-in_ok-insert-clause-rows
returns-in_ok-insert-clause-rows c =
    let places = c.self.inside.rows.entries in
    let made = put_by_map places c.insert.new.self.entries c.in_ok-copy.field-0 c.args.key.now None c.in_ok-copy.ensures c.in_ok-insert.ensures.updates.0 in
    rows_made places c.insert.new.self.entries c.args.key.now c.self.invariant (rising_is c.insert.new.self.entries c.in_ok-insert.ensures.ordered)
    (none_by_map places c.args.key.now (sym c.contains_key.ensures ∙ c.if-not-contains_key.true)) made
    ∙ ap rows_at c.self.view_is

pub returns-in_ok-insert-clause-places : goal.returns-in_ok-insert-clause-places
returns-in_ok-insert-clause-places c =
    let places = c.self.inside.rows.entries in
    let made = put_by_map places c.insert.new.self.entries c.in_ok-copy.field-0 c.args.key.now None c.in_ok-copy.ensures c.in_ok-insert.ensures.updates.0 in
    λ q. places_put places c.insert.new.self.entries c.args.key.now None made q ∙ ap (λ ps. same_value c.args.key.now q || has_place ps q) c.self.view_is

pub returns-else-not-contains_key-clause-places : goal.returns-else-not-contains_key-clause-places
returns-else-not-contains_key-clause-places c =
    λ q. sym (places_stay c.args.self.now c.args.key.now q (ap (λ ps. has_place ps c.args.key.now) (sym c.self.view_is) ∙ has_by_map c.self.inside.rows.entries c.args.key.now (sym c.contains_key.ensures ∙ c.if-not-contains_key.false)))
