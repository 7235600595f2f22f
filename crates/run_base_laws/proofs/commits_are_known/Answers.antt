use Rattle.run_base_laws.proofs.TellLemmas.{commits_are_known}
use Rattle.run_base_laws.proofs.commits_are_known.Goals as goal

pub returns : goal.returns
returns c = commits_are_known
