use Rattle.start_laws.proofs.TriedStartLemmas.{the_tried_start}
use Rattle.start_laws.proofs.the_tried_start.Goals as goal

pub returns : goal.returns
returns c = the_tried_start
