use Rattle.answer_laws.proofs.TriedStatementEndsLemmas.{the_tried_statement_ends}
use Rattle.answer_laws.proofs.the_tried_statement_ends.Goals as goal

pub returns : goal.returns
returns c = the_tried_statement_ends
