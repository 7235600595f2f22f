use Rattle.run_cause_laws.proofs.KnowLemmas.{every_turn_knows}
use Rattle.run_cause_laws.proofs.every_turn_knows.Goals as goal

pub returns : goal.returns
returns c = every_turn_knows
