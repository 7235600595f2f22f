use Rattle.back_laws.proofs.HoldLemmas.{savepoints_hold}
use Rattle.back_laws.proofs.savepoints_hold.Goals as goal

pub returns : goal.returns
returns c = savepoints_hold
