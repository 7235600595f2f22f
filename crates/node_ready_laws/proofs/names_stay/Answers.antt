use Rattle.node_ready_laws.proofs.NameLemmas.{names_stay, empty_name_is_free}
use Rattle.node_ready_laws.proofs.names_stay.Goals as goal

pub returns-clause-turns : goal.returns-clause-turns
returns-clause-turns c = names_stay

pub returns-clause-empty : goal.returns-clause-empty
returns-clause-empty c = empty_name_is_free
