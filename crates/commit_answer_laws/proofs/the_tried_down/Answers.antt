use Rattle.commit_answer_laws.proofs.TriedDownLemmas.{the_tried_down}
use Rattle.commit_answer_laws.proofs.the_tried_down.Goals as goal

pub returns : goal.returns
returns c = the_tried_down
