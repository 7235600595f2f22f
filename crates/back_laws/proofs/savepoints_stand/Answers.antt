use Rattle.back_laws.proofs.SavepointLemmas.{savepoints_stand}
use Rattle.back_laws.proofs.savepoints_stand.Goals as goal

pub returns : goal.returns
returns c = savepoints_stand
