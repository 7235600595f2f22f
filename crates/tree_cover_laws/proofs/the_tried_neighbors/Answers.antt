use Rattle.tree_cover_laws.proofs.TriedNeighborLemmas.{the_tried_neighbors}
use Rattle.tree_cover_laws.proofs.the_tried_neighbors.Goals as goal

pub returns : goal.returns
returns c = the_tried_neighbors
