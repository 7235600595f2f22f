use Rattle.settle_laws.proofs.ObligeLemmas.{aborts_keep}
use Rattle.settle_laws.proofs.aborts_keep.Goals as goal

pub returns : goal.returns
returns c = aborts_keep
