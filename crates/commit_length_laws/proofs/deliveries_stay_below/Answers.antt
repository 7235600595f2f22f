use Rattle.commit_length_laws.proofs.FewLemmas.{deliveries_stay_below}
use Rattle.commit_length_laws.proofs.deliveries_stay_below.Goals as goal

pub returns : goal.returns
returns c = deliveries_stay_below
