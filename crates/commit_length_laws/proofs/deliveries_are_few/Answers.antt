use Rattle.commit_length_laws.proofs.FewLemmas.{deliveries_are_few}
use Rattle.commit_length_laws.proofs.deliveries_are_few.Goals as goal

pub returns : goal.returns
returns c = deliveries_are_few
