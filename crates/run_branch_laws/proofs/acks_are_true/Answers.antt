use Rattle.run_branch_laws.proofs.HeardStandLemmas.{acks_are_true}
use Rattle.run_branch_laws.proofs.acks_are_true.Goals as goal

pub returns : goal.returns
returns c = acks_are_true
