use Rattle.tree_trail_laws.proofs.SeenRunLemmas.{every_run_is_meant}
use Rattle.tree_trail_laws.proofs.every_run_is_meant.Goals as goal

pub returns : goal.returns
returns c = every_run_is_meant
