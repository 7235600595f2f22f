use Rattle.node_ready_laws.proofs.IdStepLemmas.{ids_stay, no_ids_at_first, lives_are_free, new_ids_are_new}
use Rattle.node_ready_laws.proofs.ids_stay_apart.Goals as goal

pub returns-clause-made : goal.returns-clause-made
returns-clause-made c = no_ids_at_first

pub returns-clause-turns : goal.returns-clause-turns
returns-clause-turns c = ids_stay

pub returns-clause-free : goal.returns-clause-free
returns-clause-free c = lives_are_free

pub returns-clause-new : goal.returns-clause-new
returns-clause-new c = new_ids_are_new
