use Rattle.std.proofs.Common.{sym, ap, subst, ◌∙◌}
use Rattle.std.specs.Vec.Iter.{into_iter_items}
use Rattle.row_store.specs.Tables.{apply_all}
use Rattle.row_store.specs.TablePlaces.{rows_in}
use Rattle.row_store.specs.AllPlaced.{ArePlaced}
use Rattle.row_store.proofs.Named.{apply_next, apply_none}
use Rattle.row_store.proofs.StoreLaws.{placed_still, no_items}
use Rattle.row_store.proofs.placing.make_changes.Goals as goal

pub make_change-requires : goal.make_change-requires
make_change-requires c = record { place = (subst (ArePlaced c.loop-change.tables) c.in-Some.ensures.steps.0 c.loop-change.invariant.placed).0 }

pub loop-change-preserved : goal.loop-change-preserved
loop-change-preserved c =
    let rest = into_iter_items c.next.new.self in
    let old = c.loop-change.tables in
    let places = c.make_change.ensures.places in
    record {
      all =
          ap (λ rows. apply_all rows rest) c.make_change.ensures.rows ∙ apply_next c.in-Some.change rest (rows_in old)
          ∙ ap (apply_all (rows_in old)) (sym c.in-Some.ensures.steps.0) ∙ c.loop-change.invariant.all;
      placed =
          placed_still old c.make_change.new.tables (λ name key has. places name key ∙ has) rest
          (subst (ArePlaced old) c.in-Some.ensures.steps.0 c.loop-change.invariant.placed).1;
      places = λ name key. places name key ∙ c.loop-change.invariant.places name key;
    }

pub returns-clause-rows : goal.returns-clause-rows
returns-clause-rows c =
    sym (apply_none (rows_in c.loop-change.tables)) ∙ ap (apply_all (rows_in c.loop-change.tables)) (sym (no_items (into_iter_items c.loop-change.change-iterator) (sym c.loop-change.change-iterator.rest.ok.0 ∙ c.in-None.ensures.steps.0)))
    ∙ c.loop-change.invariant.all
