use Rattle.tree_trail_laws.proofs.SeenRunLemmas.{decisions_cover}
use Rattle.tree_trail_laws.proofs.decisions_cover.Goals as goal

pub returns : goal.returns
returns c = decisions_cover
