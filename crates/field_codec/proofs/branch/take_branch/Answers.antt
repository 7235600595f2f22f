-- What was read of a branch is at the front of the bytes.
use Rattle.std.proofs.Common.{arith}
use Rattle.field_codec.proofs.FieldLaws.{branch_exact}
use Rattle.field_codec.proofs.branch.take_branch.Goals as goal

-- the branch that was read stands at the front
pub returns-in-Ok-clause-found : goal.returns-in-Ok-clause-found
returns-in-Ok-clause-found c =
    branch_exact.takes c.args.bytes.now (c.in-Ok.front.0, c.in-Ok.front.1.now) (λ i. omega (arith, c.type_inv.bytes i)) c.in-Ok.ensures
