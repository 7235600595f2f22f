use Rattle.run_ready_laws.proofs.CountRunLemmas.{counts_are_few}
use Rattle.run_ready_laws.proofs.ComerLemmas.{comers_are_expected}
use Rattle.run_ready_laws.proofs.nodes_are_always_ready.Goals as goal

pub returns-clause-ready : goal.returns-clause-ready
returns-clause-ready c = λ t lawful. c.nodes_are_ready.ensures.ready t lawful (counts_are_few t lawful)

pub returns-clause-inputs : goal.returns-clause-inputs
returns-clause-inputs c = λ t lawful. c.nodes_are_ready.ensures.inputs t lawful (counts_are_few t lawful)

pub returns-clause-comers : goal.returns-clause-comers
returns-clause-comers c = comers_are_expected
