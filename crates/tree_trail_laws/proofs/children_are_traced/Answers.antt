use Rattle.tree_trail_laws.proofs.ChildRunLemmas.{children_are_traced}
use Rattle.tree_trail_laws.proofs.children_are_traced.Goals as goal

pub returns : goal.returns
returns c = children_are_traced
