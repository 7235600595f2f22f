use Rattle.settle_laws.proofs.OweEndLemmas.{owed_are_forgotten}
use Rattle.settle_laws.proofs.owed_are_forgotten.Goals as goal

pub returns : goal.returns
returns c = owed_are_forgotten
