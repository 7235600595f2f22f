use Rattle.run_base_laws.proofs.EventsStandLemmas.{nodes_are_as_events as law}
use Rattle.run_base_laws.proofs.nodes_are_as_events.Goals as goal

pub returns : goal.returns
returns c = law
