use Rattle.std.proofs.Common.{◌≡◌, [], ◌∷◌, ◌++◌, length, take, sym, ap, subst, ◌∙◌, arith}
use Rattle.std.proofs.lemmas.List.{take_more}
use Rattle.std.proofs.Math.Seq.{take-length}
use Rattle.dtx_values.specs.declared.row.Change.{Change}
use Rattle.row_store.specs.AllPlaced.{ArePlaced}
use Rattle.row_store.proofs.TableLaws.{table_is}
use Rattle.row_store.proofs.StoreLaws.{of_table_at, placed_still, placed_push}
use Rattle.row_store.proofs.placing.make_places.Goals as goal

pub make-requires : goal.make-requires
make-requires c = record {
  table =
      c.loop-change.invariant.tables c.change-item.result.table ∙ table_is c.args.tables.now c.change-item.result.table
      ∙ of_table_at _ c.args.changes.now c.loop-change.change-index c.change-item.result c.requires.tables c.loop-change-test.true c.change-item.is;
}

pub loop-change-preserved : goal.loop-change-preserved
loop-change-preserved c =
    let set = c.args.changes.now in
    let i = c.loop-change.change-index in
    let one = c.change-item.result in
    let made = c.in_ok-make.ensures in
    let front = placed_still c.loop-change.tables c.make.new.self made.places (take i set) c.loop-change.invariant.made in
    record {
      rows = made.rows ∙ c.loop-change.invariant.rows;
      tables = λ name. made.tables name ∙ c.loop-change.invariant.tables name;
      places = λ name key has. made.places name key (c.loop-change.invariant.places name key has);
      made =
          subst (ArePlaced c.make.new.self) (sym (take_more set i one c.loop-change-test.true ∙ ap (λ (o : Change). take i set ++ o ∷ []) (sym c.change-item.is)))
          (placed_push c.make.new.self (take i set) one front made.made);
    }

pub returns-clause-made : goal.returns-clause-made
returns-clause-made c =
    let set = c.args.changes.now in
    let end : c.loop-change.change-index ≡ length set = omega arith in
    subst (ArePlaced c.loop-change.tables) (ap (λ n. take n set) end ∙ take-length set) c.loop-change.invariant.made
