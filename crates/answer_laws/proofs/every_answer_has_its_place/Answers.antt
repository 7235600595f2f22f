use Rattle.answer_laws.proofs.AnswerPlaceLemmas.{every_answer_has_its_place}
use Rattle.answer_laws.proofs.every_answer_has_its_place.Goals as goal

pub returns : goal.returns
returns c = every_answer_has_its_place c.turns_find_calls_come.ensures
