use Rattle.std.proofs.Common.{◌≡◌, List, [], ◌∷◌, ◌++◌, sym, ap, subst, ◌∙◌, append_assoc, rules}
use Rattle.std.specs.Vec.Iter.{into_iter_items}
use Rattle.dtx_values.specs.declared.row.Change.{Change}
use Rattle.row_store.specs.Pending.{undo_over}
use Rattle.row_store.specs.Tables.{apply_all}
use Rattle.row_store.specs.TablePlaces.{rows_in}
use Rattle.row_store.specs.Store.{AreOfTables}
use Rattle.row_store.proofs.UndoLaws.{undo_next, undo_none}
use Rattle.row_store.proofs.placing.made_over.Goals as goal

pub loop-change-init : goal.loop-change-init
loop-change-init c =
    let rows = rows_in c.args.tables.now in
    let rest = into_iter_items c.into_iter-change-iterator.result in
    let changes : c.new-made.result ++ rest ≡ c.args.changes = search rules in
    let all = sym (ap (λ (cs : List Change). cs ++ rest) c.new-made.ensures) ∙ changes in
    record {
      changes = changes;
      undo = undo_none rows c.new-made.result c.new-undo.result c.args.changes rest c.new-made.ensures c.new-undo.ensures all;
      tables = subst (AreOfTables rows) (sym all) c.requires;
    }

pub loop-change-preserved : goal.loop-change-preserved
loop-change-preserved c =
    let rows = rows_in c.args.tables.now in
    let old = c.loop-change.made in
    let us = c.loop-change.undo in
    let change = c.in-Some.change in
    let rest = into_iter_items c.next.new.self in
    let split = c.in-Some.ensures.steps.0 in
    record {
      changes =
          ap (λ (cs : List Change). cs ++ rest) c.in_ok-push.ensures.ok ∙ append_assoc old (change ∷ []) rest
          ∙ ap (λ (cs : List Change). old ++ cs) (sym split) ∙ c.loop-change.invariant.changes;
      undo =
          (λ i. c.in_ok-add_undo.ensures.ok i ++ undo_over (apply_all rows (c.in_ok-push.ensures.ok i)) rest)
          ∙ undo_next rows old us change _ rest c.row_before.ensures
          ∙ ap (λ (cs : List Change). us ++ undo_over (apply_all rows old) cs) (sym split) ∙ c.loop-change.invariant.undo;
      tables = (subst (AreOfTables rows) split c.loop-change.invariant.tables).1;
    }
