use Rattle.run_number_laws.proofs.DueUpLemmas.{due_messages_are_there, due_nodes_are_there, due_nodes_are_up}
use Rattle.run_number_laws.proofs.due_is_there.Goals as goal

pub returns-clause-messages : goal.returns-clause-messages
returns-clause-messages c = due_messages_are_there

pub returns-clause-nodes : goal.returns-clause-nodes
returns-clause-nodes c = due_nodes_are_there c.the_run_is_lawful.ensures c.messages_go_to_nodes.ensures

pub returns-clause-up : goal.returns-clause-up
returns-clause-up c = due_nodes_are_up c.the_run_is_lawful.ensures c.messages_go_to_nodes.ensures
