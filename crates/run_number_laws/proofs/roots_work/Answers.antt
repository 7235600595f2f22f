use Rattle.run_number_laws.proofs.RootWorkLemmas.{roots_work}
use Rattle.run_number_laws.proofs.roots_work.Goals as goal

pub returns : goal.returns
returns c = roots_work
