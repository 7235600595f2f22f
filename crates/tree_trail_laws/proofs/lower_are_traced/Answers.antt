use Rattle.tree_trail_laws.proofs.LowerRunLemmas.{lower_are_traced}
use Rattle.tree_trail_laws.proofs.lower_are_traced.Goals as goal

pub returns : goal.returns
returns c = lower_are_traced
