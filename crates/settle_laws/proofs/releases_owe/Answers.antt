use Rattle.settle_laws.proofs.OweLemmas.{releases_owe}
use Rattle.settle_laws.proofs.releases_owe.Goals as goal

pub returns : goal.returns
returns c = releases_owe
