use Rattle.back_laws.proofs.EarlyLemmas.{steps_are_taken}
use Rattle.back_laws.proofs.steps_are_taken.Goals as goal

pub returns : goal.returns
returns c = steps_are_taken
