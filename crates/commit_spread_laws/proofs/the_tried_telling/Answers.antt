use Rattle.commit_spread_laws.proofs.TriedTellingLemmas.{the_tried_telling}
use Rattle.commit_spread_laws.proofs.the_tried_telling.Goals as goal

pub returns : goal.returns
returns c = the_tried_telling
