use Rattle.run_number_laws.proofs.TargetLemmas.{messages_go_to_nodes}
use Rattle.run_number_laws.proofs.messages_go_to_nodes.Goals as goal

pub returns : goal.returns
returns c = messages_go_to_nodes
