use Rattle.std.proofs.Common.{◌≡◌, take}
use Rattle.redo_record.specs.Durable.{durable}
use Rattle.redo_record.proofs.durable.Durable.of.Given as goal

abbrev pub invariant-loop-item : goal.invariant-loop-item
invariant-loop-item l = l.left ≡ durable (take l.item-index l.records)
