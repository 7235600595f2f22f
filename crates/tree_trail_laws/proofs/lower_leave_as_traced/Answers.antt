use Rattle.tree_trail_laws.proofs.LowerLeaveLemmas.{lower_leave_as_traced}
use Rattle.tree_trail_laws.proofs.lower_leave_as_traced.Goals as goal

pub returns : goal.returns
returns c = lower_leave_as_traced
