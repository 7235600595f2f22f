use Rattle.std.proofs.Common.{◌≡◌}
use Rattle.world_parts.proofs.messages.losses_of.Given as goal

-- the numbers so far stand there in order
abbrev pub invariant-loop-number : goal.invariant-loop-number
invariant-loop-number l = l.losses.items ≡ l.yielded
