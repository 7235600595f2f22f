use Rattle.commit_obey_laws.proofs.TriedRowStayLemmas.{the_tried_row_stay}
use Rattle.commit_obey_laws.proofs.the_tried_row_stay.Goals as goal

pub returns : goal.returns
returns c = the_tried_row_stay
