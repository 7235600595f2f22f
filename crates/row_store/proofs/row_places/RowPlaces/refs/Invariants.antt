use Rattle.std.proofs.Common.{◌≡◌, ◌++◌}
use Rattle.row_store.specs.Places.{rows_at}
use Rattle.row_store.proofs.row_places.RowPlaces.refs.Given as goal

abbrev pub invariant-loop-key : goal.invariant-loop-key
invariant-loop-key l = l.rows.items ++ rows_at l.key-iterator ≡ rows_at l.self
