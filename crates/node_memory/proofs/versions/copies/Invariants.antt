use Rattle.std.proofs.Common.{◌≡◌, take}
use Rattle.node_memory.proofs.versions.copies.Given as goal

-- those of the changes so far
abbrev pub invariant-loop-change : goal.invariant-loop-change
invariant-loop-change l = l.copies.items ≡ take l.change-index l.changes
