use Rattle.run_branch_laws.proofs.TriedRunLemmas.{the_tried_run}
use Rattle.run_branch_laws.proofs.the_tried_run.Goals as goal

pub returns : goal.returns
returns c = the_tried_run
