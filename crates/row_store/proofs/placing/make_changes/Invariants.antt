use Rattle.std.proofs.Common.{◌≡◌, List, ℕ}
use Rattle.std.specs.Vec.Iter.{into_iter_items}
use Rattle.dtx_values.specs.declared.value.Value.{Value}
use Rattle.row_store.specs.Tables.{apply_all}
use Rattle.row_store.specs.TablePlaces.{rows_in, has_place_in}
use Rattle.row_store.specs.AllPlaced.{ArePlaced}
use Rattle.row_store.proofs.placing.make_changes.Given as goal

abbrev pub invariant-loop-change : goal.invariant-loop-change
invariant-loop-change l = record {
  all : apply_all (rows_in l.tables) (into_iter_items l.change-iterator) ≡ apply_all (rows_in l.fn.tables) l.fn.changes.items;
  placed : ArePlaced l.tables (into_iter_items l.change-iterator);
  places : (name : List ℕ) (key : Value) → has_place_in l.tables name key ≡ has_place_in l.fn.tables name key;
}
