use Rattle.run_base_laws.proofs.PastLemmas.{lawful_on}
use Rattle.run_base_laws.proofs.lawful_goes_on.Goals as goal

pub returns : goal.returns
returns c = lawful_on
