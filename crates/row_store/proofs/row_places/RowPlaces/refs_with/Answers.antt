use Rattle.std.proofs.Common.{◌≡◌, ap, sym, subst, ◌∙◌}
use Rattle.std.specs.Prelude.{IfOk}
use Rattle.row_store.specs.Places.{rows_at}
use Rattle.row_store.specs.TablePlaces.{left_by}
use Rattle.row_store.proofs.ScanLaws.{same_left, no_changes}
use Rattle.row_store.proofs.row_places.RowPlaces.refs_with.Goals as goal

pub returns-then-not-has_changes-clause-rows : goal.returns-then-not-has_changes-clause-rows
returns-then-not-has_changes-clause-rows c =
    let table = c.args.table.now in
    let ps = c.args.self.now in
    let none = no_changes c.args.own.now.changes (sym c.has_changes.ensures ∙ c.if-not-has_changes.true) in
    subst (λ all. IfOk c.refs.result (λ rows. rows.items ≡ all))
    (ap rows_at (same_left table ps) ∙ ap (λ cs. rows_at (left_by table cs ps)) (sym none)) c.refs.ensures.rows
