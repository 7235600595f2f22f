use Rattle.settle_laws.proofs.OweLemmas.{reco_owes}
use Rattle.settle_laws.proofs.reco_owes.Goals as goal

pub returns : goal.returns
returns c = reco_owes
