use Rattle.run_base_laws.proofs.KnownLemmas.{commits_are_recorded}
use Rattle.run_base_laws.proofs.commits_are_recorded.Goals as goal

pub returns : goal.returns
returns c = commits_are_recorded
