use Rattle.answer_done_laws.proofs.StandLemmas.{records_come_from_calls}
use Rattle.answer_done_laws.proofs.records_come_from_calls.Goals as goal

pub returns : goal.returns
returns c = records_come_from_calls
