use Rattle.node_undo_laws.proofs.TriedLemmas.{the_tried_undo}
use Rattle.node_undo_laws.proofs.the_tried_undo.Goals as goal

pub returns : goal.returns
returns c = the_tried_undo
