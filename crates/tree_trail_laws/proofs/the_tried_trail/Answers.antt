use Rattle.tree_trail_laws.proofs.TriedTrailLemmas.{the_tried_trail}
use Rattle.tree_trail_laws.proofs.the_tried_trail.Goals as goal

pub returns : goal.returns
returns c = the_tried_trail
