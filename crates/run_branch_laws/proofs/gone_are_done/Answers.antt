use Rattle.run_branch_laws.proofs.GoneLemmas.{gone_are_done as law}
use Rattle.run_branch_laws.proofs.gone_are_done.Goals as goal

pub returns : goal.returns
returns c = law
