use Rattle.std.proofs.Common.{◌≡◌, ◌++◌, map}
use Rattle.reco.specs.Asks.{stamped}
use Rattle.reco.proofs.recovery.stamp_into.Given as goal

abbrev pub invariant-loop-post : goal.invariant-loop-post
invariant-loop-post l = l.msgs.items ≡ l.initial.msgs.items ++ map (stamped l.scn) l.yielded
