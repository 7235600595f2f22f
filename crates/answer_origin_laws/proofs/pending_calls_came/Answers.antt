use Rattle.answer_origin_laws.proofs.CallTurnLemmas.{pending_calls_came}
use Rattle.answer_origin_laws.proofs.pending_calls_came.Goals as goal

pub returns : goal.returns
returns c = pending_calls_came
