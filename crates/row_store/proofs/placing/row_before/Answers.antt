use Rattle.std.proofs.Common.{unwrap_or, ap, ◌∙◌}
use Rattle.sql_eval.specs.Rows.{get}
use Rattle.row_store.specs.Tables.{rows_of_table}
use Rattle.row_store.specs.TablePlaces.{rows_in}
use Rattle.row_store.proofs.UndoLaws.{got_after}
use Rattle.row_store.proofs.placing.row_before.Goals as goal

pub returns-in-Some : goal.returns-in-Some
returns-in-Some c =
    let rows = rows_in c.args.tables.now in
    let change = c.args.change.now in
    c.as_ref.ensures.value
    ∙ ap (λ last. unwrap_or last (get (rows_of_table rows change.table) change.key)) c.in-Some.ensures
    ∙ got_after change.table c.args.made.now rows change.key c.requires

pub returns-in-None : goal.returns-in-None
returns-in-None c =
    let rows = rows_in c.args.tables.now in
    let change = c.args.change.now in
    c.get.ensures.row
    ∙ ap (λ last. unwrap_or last (get (rows_of_table rows change.table) change.key)) c.in-None.ensures
    ∙ got_after change.table c.args.made.now rows change.key c.requires
