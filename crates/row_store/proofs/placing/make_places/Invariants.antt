use Rattle.std.proofs.Common.{◌≡◌, true, List, ℕ, take}
use Rattle.dtx_values.specs.declared.value.Value.{Value}
use Rattle.row_store.specs.TablePlaces.{rows_in, has_place_in, is_table_in}
use Rattle.row_store.specs.AllPlaced.{ArePlaced}
use Rattle.row_store.proofs.placing.make_places.Given as goal

abbrev pub invariant-loop-change : goal.invariant-loop-change
invariant-loop-change l = record {
  rows : rows_in l.tables ≡ rows_in l.fn.tables;
  tables : (name : List ℕ) → is_table_in l.tables name ≡ is_table_in l.fn.tables name;
  places : (name : List ℕ) (key : Value) → has_place_in l.fn.tables name key ≡ true → has_place_in l.tables name key ≡ true;
  made : ArePlaced l.tables (take l.change-index l.changes);
}
