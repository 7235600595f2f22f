use Rattle.node_ready_laws.proofs.StartLemmas.{starts_are_ready}
use Rattle.node_ready_laws.proofs.starts_are_ready.Goals as goal

pub returns : goal.returns
returns c = starts_are_ready
