use Rattle.std.proofs.Common.{◌≡◌, ◌++◌}
use Rattle.std.specs.Vec.Iter.{into_iter_items}
use Rattle.row_store.specs.Pending.{undo_over}
use Rattle.row_store.specs.Tables.{apply_all}
use Rattle.row_store.specs.TablePlaces.{rows_in}
use Rattle.row_store.specs.Store.{AreOfTables}
use Rattle.row_store.proofs.placing.made_over.Given as goal

abbrev pub invariant-loop-change : goal.invariant-loop-change
invariant-loop-change l = record {
  changes : l.made ++ into_iter_items l.change-iterator ≡ l.fn.changes;
  undo : l.undo ++ undo_over (apply_all (rows_in l.tables) l.made) (into_iter_items l.change-iterator) ≡ undo_over (rows_in l.tables) l.fn.changes;
  tables : AreOfTables (rows_in l.tables) (into_iter_items l.change-iterator);
}
