-- The neighbours in the plan of the tried run, by computation.
use Rattle.std.proofs.Common.{refl}
use Rattle.tree_cover_laws.specs.TriedNeighbors.{TheTriedNeighbors}
use Rattle.tree_laws.proofs.Trying.{trying, trying_trails}

pub the_tried_neighbors : TheTriedNeighbors
unfolding trying trying_trails
the_tried_neighbors = record { branches = refl; parents = refl; toward = refl; sealed = refl }
