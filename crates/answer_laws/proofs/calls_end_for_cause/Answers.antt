use Rattle.answer_laws.proofs.EndRunLemmas.{calls_end_for_cause}
use Rattle.answer_laws.proofs.calls_end_for_cause.Goals as goal

pub returns : goal.returns
returns c = calls_end_for_cause
