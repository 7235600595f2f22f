use Rattle.run_number_laws.proofs.RootWorkLemmas.{turns_find_work}
use Rattle.run_number_laws.proofs.turns_find_work.Goals as goal

pub returns : goal.returns
returns c = turns_find_work
