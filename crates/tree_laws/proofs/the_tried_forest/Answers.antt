use Rattle.tree_laws.proofs.TriedForestLemmas.{the_tried_forest}
use Rattle.tree_laws.proofs.the_tried_forest.Goals as goal

pub returns : goal.returns
returns c = the_tried_forest
