use Rattle.std.proofs.Common.{◌≡◌, map, fold, take}
use Rattle.reco.specs.Asks.{asks_kept, put_asking}
use Rattle.reco.proofs.recovery.put_rows.Given as goal

abbrev pub invariant-loop-row : goal.invariant-loop-row
invariant-loop-row l = l.askings.items ≡ fold put_asking l.initial.askings.items (map asks_kept (take l.row-index l.kept))
