-- So may that of a client to any root.
use Rattle.node_core.proofs.calls.table_call.Goals as goal

pub statement_call-requires-clause-takes : goal.statement_call-requires-clause-takes
statement_call-requires-clause-takes c = λ root. c.takes_statements.ensures root c.args.statement.now
