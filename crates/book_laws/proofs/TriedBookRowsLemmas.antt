-- The rows and the keys in doubt of the tried runs, by computation.
use Rattle.std.proofs.Common.{refl}
use Rattle.node_rules.specs.Force.{branch_to_force}
use Rattle.book_laws.specs.TriedBookRows.{TheTriedBookRows}
use Rattle.book_laws.specs.TriedForcedRows.{TheTriedForcedRows}
use Rattle.tree_laws.proofs.Trying.{trying}

pub the_tried_book_rows : TheTriedBookRows
unfolding trying
the_tried_book_rows = record { book_decided = refl; rows_decided = refl; doubts_decided = refl; keys_decided = refl; book_done = refl; rows_done = refl; doubts_done = refl; keys_done = refl }

pub the_tried_forced_rows : TheTriedForcedRows
unfolding trying branch_to_force
the_tried_forced_rows = record { met = refl; book_at_a = refl; rows_at_a = refl; book_at_b = refl; rows_at_b = refl; doubts_at_b = refl }
