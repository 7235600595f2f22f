use Rattle.run_branch_laws.proofs.JustLemmas.{just_runs_are_lawful as law}
use Rattle.run_branch_laws.proofs.just_runs_are_lawful.Goals as goal

pub returns : goal.returns
returns c = law
