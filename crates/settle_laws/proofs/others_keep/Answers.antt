use Rattle.settle_laws.proofs.ObligeLemmas.{others_keep}
use Rattle.settle_laws.proofs.others_keep.Goals as goal

pub returns : goal.returns
returns c = others_keep
