use Rattle.answer_laws.proofs.EndRunLemmas.{statements_end_for_cause}
use Rattle.answer_laws.proofs.statements_end_for_cause.Goals as goal

pub returns : goal.returns
returns c = statements_end_for_cause
