use Rattle.back_laws.proofs.GoesLemmas.{rollbacks_go_back}
use Rattle.back_laws.proofs.rollbacks_go_back.Goals as goal

pub returns : goal.returns
returns c = rollbacks_go_back
