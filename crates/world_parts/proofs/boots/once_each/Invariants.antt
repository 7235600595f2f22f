use Rattle.std.proofs.Common.{◌≡◌, replicate}
use Rattle.world_parts.proofs.boots.once_each.Given as goal

-- so many nodes so far, each of which has started once
abbrev pub invariant-loop : goal.invariant-loop
invariant-loop l = l.boots.items ≡ replicate l.counter 1
