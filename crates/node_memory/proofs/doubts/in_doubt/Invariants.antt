use Rattle.std.proofs.Common.{◌≡◌, take, map}
use Rattle.node_memory.specs.Doubts.{in_doubt_by}
use Rattle.node_memory.proofs.doubts.in_doubt.Given as goal

abbrev pub invariant-loop-item : goal.invariant-loop-item
invariant-loop-item l = map (λ r. r.now) l.doubts.items ≡ in_doubt_by (take l.item-index l.records)
