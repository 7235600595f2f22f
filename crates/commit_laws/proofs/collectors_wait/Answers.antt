use Rattle.commit_laws.proofs.WaitLemmas.{collectors_wait}
use Rattle.commit_laws.proofs.collectors_wait.Goals as goal

pub returns : goal.returns
returns c = collectors_wait
