use Rattle.answer_laws.proofs.TriedAnswersLemmas.{the_tried_answers}
use Rattle.answer_laws.proofs.the_tried_answers.Goals as goal

pub returns : goal.returns
returns c = the_tried_answers
