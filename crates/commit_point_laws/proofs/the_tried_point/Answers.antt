use Rattle.commit_point_laws.proofs.TriedPointLemmas.{the_tried_point}
use Rattle.commit_point_laws.proofs.the_tried_point.Goals as goal

pub returns : goal.returns
returns c = the_tried_point
