use Rattle.run_branch_laws.proofs.KeptRowLemmas.{sealed_are_kept as law}
use Rattle.run_branch_laws.proofs.sealed_are_kept.Goals as goal

pub returns : goal.returns
returns c = law
