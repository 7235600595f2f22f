use Rattle.run_base_laws.proofs.PastLemmas.{past_on}
use Rattle.run_base_laws.proofs.past_goes_on.Goals as goal

pub returns : goal.returns
returns c = past_on
