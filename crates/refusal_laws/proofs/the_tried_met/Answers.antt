use Rattle.refusal_laws.proofs.TriedMetLemmas.{the_tried_met}
use Rattle.refusal_laws.proofs.the_tried_met.Goals as goal

pub returns : goal.returns
returns c = the_tried_met
