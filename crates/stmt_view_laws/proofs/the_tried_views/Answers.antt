use Rattle.stmt_view_laws.proofs.TriedLemmas.{the_tried_views}
use Rattle.stmt_view_laws.proofs.the_tried_views.Goals as goal

pub returns : goal.returns
returns c = the_tried_views
