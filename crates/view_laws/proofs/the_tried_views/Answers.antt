use Rattle.view_laws.proofs.TriedViewLemmas.{the_tried_views}
use Rattle.view_laws.proofs.the_tried_views.Goals as goal

pub returns : goal.returns
returns c = the_tried_views
