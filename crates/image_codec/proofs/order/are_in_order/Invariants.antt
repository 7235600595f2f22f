use Rattle.std.proofs.Common.{◌≡◌, length}
use Rattle.image_codec.specs.Order.{are_in_order}
use Rattle.image_codec.proofs.order.are_in_order.Given as goal

-- the branches that are left stand in order as all do
abbrev pub invariant-loop-rest : goal.invariant-loop-rest
invariant-loop-rest l = are_in_order l.rest ≡ are_in_order l.items

abbrev pub decreases-loop-rest : goal.decreases-loop-rest
decreases-loop-rest l = length l.rest
