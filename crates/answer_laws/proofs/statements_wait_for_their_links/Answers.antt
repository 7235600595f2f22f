use Rattle.answer_laws.proofs.LinkRunLemmas.{statements_wait_for_their_links}
use Rattle.answer_laws.proofs.statements_wait_for_their_links.Goals as goal

pub returns : goal.returns
returns c = statements_wait_for_their_links
