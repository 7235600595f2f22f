use Rattle.run_branch_laws.proofs.JustLemmas.{just_runs_agree as law}
use Rattle.run_branch_laws.proofs.just_runs_agree.Goals as goal

pub returns : goal.returns
returns c = law
