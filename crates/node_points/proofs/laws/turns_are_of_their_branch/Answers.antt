-- A turn passes places of the branch that its input is about.
use Rattle.node_points.proofs.BranchLemmas.{turns_are_of_their_branch}
use Rattle.node_points.proofs.laws.turns_are_of_their_branch.Goals as goal

pub returns : goal.returns
returns c = turns_are_of_their_branch
