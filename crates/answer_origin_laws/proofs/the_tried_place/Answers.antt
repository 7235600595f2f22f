use Rattle.answer_origin_laws.proofs.TriedPlaceLemmas.{the_tried_place}
use Rattle.answer_origin_laws.proofs.the_tried_place.Goals as goal

pub returns : goal.returns
returns c = the_tried_place
