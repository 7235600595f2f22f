use Rattle.node_ready_laws.proofs.GiveLemmas.{children_are_few, next_calls_are_within}
use Rattle.node_ready_laws.proofs.ready_nodes_have_few.Goals as goal

pub returns-clause-children : goal.returns-clause-children
returns-clause-children c = children_are_few

pub returns-clause-calls : goal.returns-clause-calls
returns-clause-calls c = next_calls_are_within
