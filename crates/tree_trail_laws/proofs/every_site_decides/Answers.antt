use Rattle.tree_trail_laws.proofs.SeenRunLemmas.{every_site_decides}
use Rattle.tree_trail_laws.proofs.every_site_decides.Goals as goal

pub returns : goal.returns
returns c = every_site_decides
