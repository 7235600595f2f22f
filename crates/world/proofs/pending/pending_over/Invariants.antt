use Rattle.std.proofs.Common.{◌≡◌, ◌≤◌, ◌*◌, ◌^◌, take}
use Rattle.std.specs.Prelude.{sum_by}
use Rattle.world.specs.Pending.{pending_at}
use Rattle.world.proofs.pending.pending_over.Given as goal

-- the rows of the nodes so far were counted
abbrev pub invariant-loop-slot : goal.invariant-loop-slot
invariant-loop-slot l = (l.count ≡ sum_by pending_at (take l.slot-index l.slots)) × (l.count ≤ l.slot-index * 2 ^ 64)
