use Rattle.answer_done_laws.proofs.TriedDoneLemmas.{the_tried_done}
use Rattle.answer_done_laws.proofs.the_tried_done.Goals as goal

pub returns : goal.returns
returns c = the_tried_done
