use Rattle.commit_obey_laws.proofs.TriedObeyLemmas.{the_tried_obey}
use Rattle.commit_obey_laws.proofs.the_tried_obey.Goals as goal

pub returns : goal.returns
returns c = the_tried_obey
