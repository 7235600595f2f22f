use Rattle.back_laws.proofs.SavepointLemmas.{roots_return}
use Rattle.back_laws.proofs.roots_return.Goals as goal

pub returns : goal.returns
returns c = roots_return
