use Rattle.run_number_laws.proofs.DueTurnLemmas.{what_is_due_may_happen, due_turns_find_able}
use Rattle.run_number_laws.proofs.due_turns_find_able.Goals as goal

pub returns-clause-may : goal.returns-clause-may
returns-clause-may c = what_is_due_may_happen c.the_run_is_lawful.ensures

pub returns-clause-able : goal.returns-clause-able
returns-clause-able c = due_turns_find_able c.the_run_is_lawful.ensures c.due_is_there.ensures.up c.nodes_are_ready.ensures.ready c.nodes_keep_undo.ensures.nodes c.numbers_are_below_limits.ensures.nodes c.numbers_are_below_limits.ensures.messages
