use Rattle.refusal_laws.proofs.LockLemmas.{locks_are_of_branches}
use Rattle.refusal_laws.proofs.locks_are_of_branches.Goals as goal

pub returns : goal.returns
returns c = locks_are_of_branches
