-- A branch that is dropped before the COMMIT stays in the plan with its weight, by computation.
use Rattle.std.proofs.Common.{refl}
use Rattle.net_bag.specs.Net.{stopped, started}
use Rattle.tree_cover_laws.specs.TriedDropped.{TheTriedDropped}
use Rattle.tree_laws.proofs.Trying.{trying, trying_trails}

pub the_tried_dropped : TheTriedDropped
unfolding trying trying_trails stopped started
the_tried_dropped = record { dropped = refl; unplanned = refl; sealed = refl; site = refl; branches = refl; toward = refl; named = refl }
