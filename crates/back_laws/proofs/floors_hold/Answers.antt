use Rattle.back_laws.proofs.FloorLemmas.{floors_hold}
use Rattle.back_laws.proofs.floors_hold.Goals as goal

pub returns : goal.returns
returns c = floors_hold
