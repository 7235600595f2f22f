use Rattle.node_purge_laws.proofs.TriedPurgeLemmas.{the_tried_purge}
use Rattle.node_purge_laws.proofs.the_tried_purge.Goals as goal

pub returns : goal.returns
returns c = the_tried_purge
