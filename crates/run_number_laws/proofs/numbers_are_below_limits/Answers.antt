use Rattle.run_number_laws.proofs.LimitLemmas.{numbers_are_below, messages_are_below}
use Rattle.run_number_laws.proofs.numbers_are_below_limits.Goals as goal

pub returns-clause-nodes : goal.returns-clause-nodes
returns-clause-nodes c = numbers_are_below c.the_run_is_lawful.ensures c.numbers_are_within.ensures.nodes

pub returns-clause-messages : goal.returns-clause-messages
returns-clause-messages c = messages_are_below c.the_run_is_lawful.ensures c.numbers_are_within.ensures.messages
