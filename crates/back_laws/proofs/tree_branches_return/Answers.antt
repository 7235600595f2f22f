use Rattle.back_laws.proofs.TreeReturnLemmas.{tree_branches_return}
use Rattle.back_laws.proofs.tree_branches_return.Goals as goal

pub returns : goal.returns
returns c = tree_branches_return
