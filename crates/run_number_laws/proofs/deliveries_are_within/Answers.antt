use Rattle.run_number_laws.proofs.CountLemmas.{deliveries_are_within}
use Rattle.run_number_laws.proofs.deliveries_are_within.Goals as goal

pub returns : goal.returns
returns c = deliveries_are_within
