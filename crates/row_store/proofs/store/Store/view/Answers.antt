use Rattle.std.proofs.Common.{None, unwrap_or, sym, ap, subst, ◌∙◌}
use Rattle.sql_eval.specs.Rows.{get}
use Rattle.row_store.specs.Own.{last_at}
use Rattle.row_store.specs.Pending.{changes_of}
use Rattle.row_store.specs.Tables.{rows_of_table}
use Rattle.row_store.specs.TablePlaces.{rows_in}
use Rattle.row_store.specs.Store.{sets_at, seen_by}
use Rattle.row_store.proofs.InOrder.{are_in_order, apply_in_order}
use Rattle.row_store.proofs.Lookups.{get_applied}
use Rattle.row_store.proofs.store.Store.view.Goals as goal

pub returns-in-Some-clause-row : goal.returns-in-Some-clause-row
returns-in-Some-clause-row c =
    let b = c.args.branch.now in
    let table = c.args.table.now in
    let key = c.args.key.now in
    let rows = rows_of_table (rows_in c.self.inside.tables) table in
    c.as_ref.ensures.value
    ∙ ap (λ last. unwrap_or last (get rows key)) (c.in-Some.ensures ∙ ap (λ cs. last_at cs table key None) c.sets.ensures)
    ∙ sym (get_applied table key rows (changes_of (sets_at c.self.inside.pending.owns b))) ∙ ap (λ s. get (seen_by s b table) key) c.self.view_is

pub returns-in-None-clause-row : goal.returns-in-None-clause-row
returns-in-None-clause-row c =
    let b = c.args.branch.now in
    let table = c.args.table.now in
    let key = c.args.key.now in
    let rows = rows_of_table (rows_in c.self.inside.tables) table in
    c.get-committed.ensures.row
    ∙ ap (λ last. unwrap_or last (get rows key)) (c.in-None.ensures ∙ ap (λ cs. last_at cs table key None) c.sets.ensures)
    ∙ sym (get_applied table key rows (changes_of (sets_at c.self.inside.pending.owns b))) ∙ ap (λ s. get (seen_by s b table) key) c.self.view_is

pub returns-in-Some-clause-ordered : goal.returns-in-Some-clause-ordered
returns-in-Some-clause-ordered c =
    let b = c.args.branch.now in
    let table = c.args.table.now in
    let rows = rows_of_table (rows_in c.self.inside.tables) table in
    subst (λ s. are_in_order (seen_by s b table)) c.self.view_is (apply_in_order table rows (changes_of (sets_at c.self.inside.pending.owns b)) c.get-committed.ensures.ordered)

pub returns-in-None-clause-ordered : goal.returns-in-None-clause-ordered
returns-in-None-clause-ordered c =
    let b = c.args.branch.now in
    let table = c.args.table.now in
    let rows = rows_of_table (rows_in c.self.inside.tables) table in
    subst (λ s. are_in_order (seen_by s b table)) c.self.view_is (apply_in_order table rows (changes_of (sets_at c.self.inside.pending.owns b)) c.get-committed.ensures.ordered)
