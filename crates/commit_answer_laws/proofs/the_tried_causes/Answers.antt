use Rattle.commit_answer_laws.proofs.TriedCausesLemmas.{the_tried_causes}
use Rattle.commit_answer_laws.proofs.the_tried_causes.Goals as goal

pub returns : goal.returns
returns c = the_tried_causes
