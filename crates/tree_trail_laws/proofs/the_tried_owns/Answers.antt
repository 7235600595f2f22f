use Rattle.tree_trail_laws.proofs.TriedOwnsLemmas.{the_tried_owns}
use Rattle.tree_trail_laws.proofs.the_tried_owns.Goals as goal

pub returns : goal.returns
returns c = the_tried_owns
