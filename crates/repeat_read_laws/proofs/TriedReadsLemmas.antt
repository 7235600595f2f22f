-- The reads of the tried READ ONLY transaction, by computation.
use Rattle.std.proofs.Common.{refl}
use Rattle.read_only_tx.specs.Versions.{rows_at}
use Rattle.run_rules.specs.Book.{rows_until}
use Rattle.tree_laws.proofs.Trying.{trying, trying_trails}
use Rattle.repeat_read_laws.specs.TriedReads.{TheTriedReads}

pub the_tried_reads : TheTriedReads
unfolding trying trying_trails rows_at rows_until
the_tried_reads = record { reads_at = refl; reads = refl; again = refl; certain = refl; until_then = refl; stays = refl; newest = refl; above = refl; forced_above = refl; forced_below = refl }
