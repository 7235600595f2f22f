use Rattle.run_number_laws.proofs.NumberRunLemmas.{numbers_are_within, messages_are_within, disks_are_within}
use Rattle.run_number_laws.proofs.numbers_are_within.Goals as goal

pub returns-clause-nodes : goal.returns-clause-nodes
returns-clause-nodes c = numbers_are_within c.turns_stay_ready.ensures.numbers c.commits_are_recorded.ensures

pub returns-clause-messages : goal.returns-clause-messages
returns-clause-messages c = messages_are_within c.turns_stay_ready.ensures.numbers c.commits_are_recorded.ensures

pub returns-clause-disks : goal.returns-clause-disks
returns-clause-disks c = disks_are_within c.turns_stay_ready.ensures.numbers c.commits_are_recorded.ensures
