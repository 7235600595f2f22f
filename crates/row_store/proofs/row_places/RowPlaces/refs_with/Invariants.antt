use Rattle.std.proofs.Common.{◌≡◌, ◌++◌}
use Rattle.row_store.specs.Places.{rows_at}
use Rattle.row_store.specs.TablePlaces.{left_by}
use Rattle.row_store.proofs.row_places.RowPlaces.refs_with.Given as goal

abbrev pub invariant-loop-key : goal.invariant-loop-key
invariant-loop-key l = l.rows.items ++ rows_at (left_by l.table l.own.changes l.key-iterator) ≡ rows_at (left_by l.table l.own.changes l.self)
