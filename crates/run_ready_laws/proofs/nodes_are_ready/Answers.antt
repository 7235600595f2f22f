use Rattle.run_ready_laws.proofs.ReadyRunLemmas.{nodes_are_ready, inputs_are_expected}
use Rattle.run_ready_laws.proofs.nodes_are_ready.Goals as goal

pub returns-clause-ready : goal.returns-clause-ready
returns-clause-ready c = nodes_are_ready c.turns_stay_ready.ensures.ready c.starts_are_ready.ensures c.records_follow.ensures.acks

pub returns-clause-inputs : goal.returns-clause-inputs
returns-clause-inputs c = inputs_are_expected c.turns_stay_ready.ensures.ready c.starts_are_ready.ensures c.records_follow.ensures.acks
