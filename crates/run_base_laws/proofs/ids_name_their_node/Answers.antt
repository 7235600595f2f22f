use Rattle.run_base_laws.proofs.EventsStandLemmas.{ids_name_their_node as law}
use Rattle.run_base_laws.proofs.ids_name_their_node.Goals as goal

pub returns : goal.returns
returns c = law
