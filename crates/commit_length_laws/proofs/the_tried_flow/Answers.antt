use Rattle.commit_length_laws.proofs.TriedFlowLemmas.{the_tried_flow}
use Rattle.commit_length_laws.proofs.the_tried_flow.Goals as goal

pub returns : goal.returns
returns c = the_tried_flow
