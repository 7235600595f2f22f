use Rattle.back_laws.proofs.StayLemmas.{runs_stay}
use Rattle.back_laws.proofs.runs_stay.Goals as goal

pub returns : goal.returns
returns c = runs_stay
