use Rattle.back_laws.proofs.TriedBackLemmas.{the_tried_back}
use Rattle.back_laws.proofs.the_tried_back.Goals as goal

pub returns : goal.returns
returns c = the_tried_back
