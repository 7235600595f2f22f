use Rattle.run_key_laws.proofs.LockLemmas.{holders_are_there}
use Rattle.run_key_laws.proofs.holders_are_there.Goals as goal

pub returns : goal.returns
returns c = holders_are_there
