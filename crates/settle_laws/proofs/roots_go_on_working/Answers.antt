use Rattle.settle_laws.proofs.RootTurnLemmas.{roots_go_on_working}
use Rattle.settle_laws.proofs.roots_go_on_working.Goals as goal

pub returns : goal.returns
returns c = roots_go_on_working
