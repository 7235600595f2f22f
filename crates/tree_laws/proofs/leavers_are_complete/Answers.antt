use Rattle.tree_laws.proofs.LeaveLemmas.{leavers_are_complete}
use Rattle.tree_laws.proofs.leavers_are_complete.Goals as goal

pub returns : goal.returns
returns c = leavers_are_complete
