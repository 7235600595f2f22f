use Rattle.tree_cover_laws.proofs.TriedDroppedLemmas.{the_tried_dropped}
use Rattle.tree_cover_laws.proofs.the_tried_dropped.Goals as goal

pub returns : goal.returns
returns c = the_tried_dropped
