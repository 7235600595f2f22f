use Rattle.answer_origin_laws.proofs.CallTurnLemmas.{turns_find_calls_come}
use Rattle.answer_origin_laws.proofs.turns_find_calls_come.Goals as goal

pub returns : goal.returns
returns c = turns_find_calls_come
