use Rattle.settle_laws.proofs.OweLemmas.{others_owe}
use Rattle.settle_laws.proofs.others_owe.Goals as goal

pub returns : goal.returns
returns c = others_owe
