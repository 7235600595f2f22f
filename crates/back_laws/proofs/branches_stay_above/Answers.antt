use Rattle.back_laws.proofs.AboveLemmas.{branches_stay_above}
use Rattle.back_laws.proofs.branches_stay_above.Goals as goal

pub returns : goal.returns
returns c = branches_stay_above
