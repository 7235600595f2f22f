use Rattle.commit_length_laws.proofs.FewLemmas.{deliveries_lessen}
use Rattle.commit_length_laws.proofs.deliveries_lessen.Goals as goal

pub returns : goal.returns
returns c = deliveries_lessen
