-- A statement may come to any branch of a node that can take a turn.
use Rattle.node_core.proofs.AbleLaws.{statements_come}
use Rattle.node_core.proofs.able.takes_statements.Goals as goal

pub returns : goal.returns
returns c = statements_come c.ready_nodes_take_calls.ensures.statements c.args.memory.now c.requires
