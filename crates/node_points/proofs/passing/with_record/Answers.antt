-- The points of a branch that becomes sealed need nothing that the node keeps.
use Rattle.node_points.proofs.passing.with_record.Goals as goal

pub returns-in-Sealed : goal.returns-in-Sealed
returns-in-Sealed c = λ k knows. rw c.in-Sealed.is (c.sealed_points.ensures k)
