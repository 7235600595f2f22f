use Rattle.tree_cover_laws.proofs.NeighborLemmas.{seals_name_toward}
use Rattle.tree_cover_laws.proofs.seals_name_toward.Goals as goal

pub returns : goal.returns
returns c = seals_name_toward
