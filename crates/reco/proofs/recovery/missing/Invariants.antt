use Rattle.std.proofs.Common.{◌≡◌, take}
use Rattle.reco.specs.Asks.{missing}
use Rattle.reco.proofs.recovery.missing.Given as goal

abbrev pub invariant-loop-neighbor : goal.invariant-loop-neighbor
invariant-loop-neighbor l = l.posts.items ≡ missing l.me l.scn (take l.neighbor-index l.beyond)
