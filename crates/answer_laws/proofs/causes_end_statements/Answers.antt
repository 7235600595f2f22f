use Rattle.answer_laws.proofs.EndRunLemmas.{causes_end_statements}
use Rattle.answer_laws.proofs.causes_end_statements.Goals as goal

pub returns : goal.returns
returns c = causes_end_statements
