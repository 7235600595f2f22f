-- The changes of a statement that is not refused are of its table, and its keys are free or the branch's own.
use Rattle.std.proofs.Common.{◌≡◌, List, Option, None, sym, ap, subst, ◌∙◌}
use Rattle.std.specs.List.{All}
use Rattle.std.proofs.lemmas.List.Elements.{All-from_recursion}
use Rattle.dtx_values.specs.declared.value.Value.{Value}
use Rattle.tran_ids.specs.declared.branch.BranchId.{BranchId}
use Rattle.sql_check.specs.Refusals.{else_refuse}
use Rattle.sql_eval.specs.Meaning.{written}
use Rattle.sql_eval.proofs.TableLaws.{tables_have_one_key}
use Rattle.sql_eval.proofs.RowLaws.{rows_are_keyed}
use Rattle.stmt_run.specs.Run.{held_refusal, locked_refusal}
use Rattle.stmt_run.specs.Keys.{IsFree}
use Rattle.stmt_run.proofs.Free.{written_free}
use Rattle.stmt_store.specs.Stores.{ground_of, view_of}
use Rattle.stmt_store.proofs.ChangeLaws.{changes_only}
use Rattle.stmt_store.proofs.deciding.outcome_seeing.Goals as goal

pub returns-in-None-clause-changes : goal.returns-in-None-clause-changes
returns-in-None-clause-changes c =
    let site = c.args.site.now in
    changes_only c.args.statement.now site.table.now (view_of site) c.in_ok-outcome.outcome.meant c.requires.one_key c.requires.rows c.requires.passed
    (sym c.requires.meant ∙ sym c.in_ok-outcome.ensures.meant)

pub returns-in-None-clause-free : goal.returns-in-None-clause-free
returns-in-None-clause-free c =
    let site = c.args.site.now in
    let t = site.table.now in
    let g = ground_of site in
    let s = c.args.statement.now in
    let keys : c.in_ok-outcome.outcome.keys ≡ written s t (view_of site) = c.in_ok-outcome.ensures.keys ∙ c.requires.written in
    subst (λ (ks : List Value). All (IsFree g.locks g.me t.name) ks) (sym keys)
    (All-from_recursion (IsFree g.locks g.me t.name) (written s t (view_of site))
    (written_free g t s (tables_have_one_key t c.requires.one_key) (rows_are_keyed t (view_of site) c.requires.rows)
    ((λ i. else_refuse (held_refusal 1591 (sym c.requires.in_doubt i)) (locked_refusal g t (sym (c.as_slice.ensures ∙ keys) i)))
    ∙ sym c.in_ok-refusal.ensures ∙ c.in-None.is)))
