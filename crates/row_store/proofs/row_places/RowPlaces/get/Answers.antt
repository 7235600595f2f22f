use Rattle.std.proofs.Common.{None, unwrap_or, ap, sym, ◌∙◌}
use Rattle.sql_eval.specs.Rows.{get}
use Rattle.row_store.specs.Places.{rows_at}
use Rattle.row_store.proofs.PlaceLaws.{found_is, get_at}
use Rattle.row_store.proofs.row_places.RowPlaces.get.Goals as goal

pub returns-in-Some-clause-row : goal.returns-in-Some-clause-row
returns-in-Some-clause-row c =
    let places = c.self.inside.rows.entries in
    c.as_ref.ensures.value ∙ ap (λ o. unwrap_or o None) (c.in-Some.ensures.value ∙ found_is places c.args.key.now) ∙ sym (get_at places c.args.key.now c.self.invariant)
    ∙ ap (λ ps. get (rows_at ps) c.args.key.now) c.self.view_is

pub returns-in-None-clause-row : goal.returns-in-None-clause-row
returns-in-None-clause-row c =
    let places = c.self.inside.rows.entries in
    ap (λ o. unwrap_or o None) (c.in-None.ensures.value ∙ found_is places c.args.key.now) ∙ sym (get_at places c.args.key.now c.self.invariant)
    ∙ ap (λ ps. get (rows_at ps) c.args.key.now) c.self.view_is
