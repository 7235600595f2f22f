use Rattle.std.proofs.Common.{[], unwrap_or, sym, ap, subst, ◌∙◌}
use Rattle.std.specs.List.Sorted.{IsStrictlySortedBy}
use Rattle.sql_eval.specs.Rows.{get}
use Rattle.row_store.specs.Places.{rows_at}
use Rattle.row_store.specs.Tables.{rows_of_table}
use Rattle.row_store.specs.TablePlaces.{rows_in}
use Rattle.row_store.proofs.InOrder.{are_in_order}
use Rattle.row_store.proofs.TableLaws.{rows_there, rows_rise}
use Rattle.row_store.proofs.table_places.TablePlaces.get.Goals as goal

pub returns-in-Some-clause-row : goal.returns-in-Some-clause-row
returns-in-Some-clause-row c =
    let es = c.self.inside.tables.entries in
    c.get-in-Some.ensures.row ∙ ap (λ o. get (rows_at (unwrap_or o [])) c.args.key.now) c.in-Some.ensures.value
    ∙ ap (λ rows. get rows c.args.key.now) (sym (rows_there es c.args.table.now)) ∙ ap (λ s. get (rows_of_table (rows_in s) c.args.table.now) c.args.key.now) c.self.view_is

pub returns-in-None-clause-row : goal.returns-in-None-clause-row
returns-in-None-clause-row c =
    let es = c.self.inside.tables.entries in
    ap (λ o. get (rows_at (unwrap_or o [])) c.args.key.now) c.in-None.ensures.value
    ∙ ap (λ rows. get rows c.args.key.now) (sym (rows_there es c.args.table.now)) ∙ ap (λ s. get (rows_of_table (rows_in s) c.args.table.now) c.args.key.now) c.self.view_is

pub returns-in-Some-clause-ordered : goal.returns-in-Some-clause-ordered
returns-in-Some-clause-ordered c =
    subst (λ s. are_in_order (rows_of_table (rows_in s) c.args.table.now)) c.self.view_is
    (rows_rise c.self.inside.tables.entries c.args.table.now _ (ap (λ o. unwrap_or o []) (sym c.in-Some.ensures.value)) c.get-in-Some.ensures.rising)

pub returns-in-None-clause-ordered : goal.returns-in-None-clause-ordered
unfolding IsStrictlySortedBy
returns-in-None-clause-ordered c =
    subst (λ s. are_in_order (rows_of_table (rows_in s) c.args.table.now)) c.self.view_is
    (rows_rise c.self.inside.tables.entries c.args.table.now _ (ap (λ o. unwrap_or o []) (sym c.in-None.ensures.value)) tt)
