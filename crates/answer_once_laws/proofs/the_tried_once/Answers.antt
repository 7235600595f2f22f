use Rattle.answer_once_laws.proofs.TriedOnceLemmas.{the_tried_once}
use Rattle.answer_once_laws.proofs.the_tried_once.Goals as goal

pub returns : goal.returns
returns c = the_tried_once
