use Rattle.node_ready_laws.proofs.ReadyLemmas.{turns_stay_ready, numbers_stay_within}
use Rattle.node_ready_laws.proofs.turns_stay_ready.Goals as goal

pub returns-clause-ready : goal.returns-clause-ready
returns-clause-ready c = turns_stay_ready

pub returns-clause-numbers : goal.returns-clause-numbers
returns-clause-numbers c = numbers_stay_within
