use Rattle.commit_leave_laws.proofs.TriedStrayLemmas.{the_tried_stray}
use Rattle.commit_leave_laws.proofs.the_tried_stray.Goals as goal

pub returns : goal.returns
returns c = the_tried_stray
