use Rattle.settle_laws.proofs.RootTurnLemmas.{roots_work_through}
use Rattle.settle_laws.proofs.roots_work_through.Goals as goal

pub returns : goal.returns
returns c = roots_work_through
