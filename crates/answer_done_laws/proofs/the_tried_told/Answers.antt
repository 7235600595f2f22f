use Rattle.answer_done_laws.proofs.TriedToldLemmas.{the_tried_told}
use Rattle.answer_done_laws.proofs.the_tried_told.Goals as goal

pub returns : goal.returns
returns c = the_tried_told
