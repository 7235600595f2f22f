-- By what ready nodes have few of, their names, and their ids.
use Rattle.node_calls.proofs.ReadyLaws.{branches_may_open, opened_may_come, replies_may_come, statements_may_come, transactions_may_begin}
use Rattle.node_calls.proofs.laws.ready_nodes_take_calls.Goals as goal

pub returns-clause-statements : goal.returns-clause-statements
returns-clause-statements c = statements_may_come c.ready_nodes_have_few.ensures.children c.ready_nodes_have_few.ensures.calls c.names_stay.ensures.empty c.ids_stay_apart.ensures.new

pub returns-clause-transactions : goal.returns-clause-transactions
returns-clause-transactions c = transactions_may_begin c.ready_nodes_have_few.ensures.children c.ready_nodes_have_few.ensures.calls c.names_stay.ensures.empty c.ids_stay_apart.ensures.new

pub returns-clause-opens : goal.returns-clause-opens
returns-clause-opens c = branches_may_open c.ready_nodes_have_few.ensures.children c.ready_nodes_have_few.ensures.calls c.names_stay.ensures.empty c.ids_stay_apart.ensures.new

pub returns-clause-opened : goal.returns-clause-opened
returns-clause-opened c = opened_may_come c.ready_nodes_have_few.ensures.children c.ready_nodes_have_few.ensures.calls c.names_stay.ensures.empty c.ids_stay_apart.ensures.new

pub returns-clause-replies : goal.returns-clause-replies
returns-clause-replies c = replies_may_come c.ready_nodes_have_few.ensures.children c.ready_nodes_have_few.ensures.calls c.names_stay.ensures.empty c.ids_stay_apart.ensures.new
