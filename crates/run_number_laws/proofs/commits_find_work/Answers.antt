use Rattle.run_number_laws.proofs.RootWorkLemmas.{commits_find_work}
use Rattle.run_number_laws.proofs.commits_find_work.Goals as goal

pub returns : goal.returns
returns c = commits_find_work
