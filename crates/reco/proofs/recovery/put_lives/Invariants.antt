use Rattle.std.proofs.Common.{◌≡◌, map, fold, take}
use Rattle.reco.specs.Asks.{asks_live, put_asking}
use Rattle.reco.proofs.recovery.put_lives.Given as goal

abbrev pub invariant-loop-live : goal.invariant-loop-live
invariant-loop-live l = l.askings.items ≡ fold put_asking l.initial.askings.items (map asks_live (take l.live-index l.lives))
