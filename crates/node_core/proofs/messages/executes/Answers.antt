-- So may that of an Exec to its branch.
use Rattle.node_core.proofs.messages.executes.Goals as goal

pub exec_turn-requires : goal.exec_turn-requires
exec_turn-requires c = c.takes_statements.ensures c.args.to.now
