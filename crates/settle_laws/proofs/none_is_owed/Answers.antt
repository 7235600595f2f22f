use Rattle.settle_laws.proofs.OweLemmas.{none_is_owed}
use Rattle.settle_laws.proofs.none_is_owed.Goals as goal

pub returns : goal.returns
returns c = none_is_owed
