use Rattle.std.proofs.Common.{◌≡◌, take}
use Rattle.std.specs.Prelude.{fold}
use Rattle.node_memory.specs.Doubts.{with_keys_of}
use Rattle.node_memory.proofs.doubts.hold_all.Given as goal

abbrev pub invariant-loop-sealed : goal.invariant-loop-sealed
invariant-loop-sealed l = l.locks ≡ fold (λ held r. with_keys_of held r.now) l.initial.locks (take l.sealed-index l.doubts)
