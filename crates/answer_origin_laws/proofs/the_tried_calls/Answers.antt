use Rattle.answer_origin_laws.proofs.TriedCallLemmas.{the_tried_calls}
use Rattle.answer_origin_laws.proofs.the_tried_calls.Goals as goal

pub returns : goal.returns
returns c = the_tried_calls
