-- The key that is fixed is the one examined key, and what is written and meant depends on the row there alone.
use Rattle.std.proofs.Common.{List, map, sym, ap, ◌∙◌}
use Rattle.dtx_values.specs.declared.value.Value.{Value}
use Rattle.sql_check.specs.Words.{first_some}
use Rattle.row_locks.specs.Held.{doubt_on}
use Rattle.row_locks.specs.Locks.{keys_held}
use Rattle.sql_eval.specs.Meaning.{examined, examined_by, meant_over, written}
use Rattle.sql_eval.proofs.KeyLaws.{meant_at_key, written_at_key}
use Rattle.sql_eval.proofs.RowLaws.{rows_are_keyed}
use Rattle.sql_eval.proofs.TableLaws.{tables_have_one_key}
use Rattle.stmt_store.specs.Stores.{view_of}
use Rattle.stmt_store.proofs.sight.Sight.of_key.Goals as goal

pub returns-clause-in_doubt : goal.returns-clause-in_doubt
unfolding examined
returns-clause-in_doubt c =
    let site = c.args.site.now in
    let name = site.table.now.name in
    c.first_in_doubt.ensures
    ∙ ap (λ (keys : List Value). first_some (map (doubt_on site.locks.now name) keys))
    (c.from_ref.ensures.value ∙ ap (examined_by (view_of site) (keys_held site.locks.now name)) (sym c.requires.fixed))

pub returns-clause-written : goal.returns-clause-written
returns-clause-written c =
    let s = c.args.statement.now in
    let t = c.args.site.now.table.now in
    let rows = view_of c.args.site.now in
    ap (written s t) c.in_ok-rows_at.ensures
    ∙ sym (written_at_key s t rows c.args.key.now (tables_have_one_key t c.requires.one_key) (rows_are_keyed t rows c.requires.rows) c.requires.fixed)

pub returns-clause-meant : goal.returns-clause-meant
returns-clause-meant c =
    let s = c.args.statement.now in
    let t = c.args.site.now.table.now in
    let rows = view_of c.args.site.now in
    ap (meant_over s t) c.in_ok-rows_at.ensures
    ∙ sym (meant_at_key s t rows c.args.key.now (tables_have_one_key t c.requires.one_key) (rows_are_keyed t rows c.requires.rows) c.requires.fixed)
