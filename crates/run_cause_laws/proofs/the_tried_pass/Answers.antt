use Rattle.run_cause_laws.proofs.TriedPassLemmas.{the_tried_pass}
use Rattle.run_cause_laws.proofs.the_tried_pass.Goals as goal

pub returns : goal.returns
returns c = the_tried_pass
