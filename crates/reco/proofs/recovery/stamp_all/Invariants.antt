use Rattle.std.proofs.Common.{◌≡◌, map}
use Rattle.std.specs.Prelude.{flat_map}
use Rattle.reco.specs.Asks.{stamped}
use Rattle.reco.proofs.recovery.stamp_all.Given as goal

abbrev pub invariant-loop-asking : goal.invariant-loop-asking
invariant-loop-asking l = l.msgs.items ≡ map (stamped l.scn) (flat_map (λ a. a.says) l.yielded)
