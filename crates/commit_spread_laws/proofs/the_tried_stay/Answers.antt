use Rattle.commit_spread_laws.proofs.TriedStayLemmas.{the_tried_stay}
use Rattle.commit_spread_laws.proofs.the_tried_stay.Goals as goal

pub returns : goal.returns
returns c = the_tried_stay
