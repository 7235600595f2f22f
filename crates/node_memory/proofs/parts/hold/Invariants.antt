use Rattle.std.proofs.Common.{◌≡◌, take}
use Rattle.std.specs.Prelude.{fold}
use Rattle.node_rules.specs.Records.{take_changed}
use Rattle.node_memory.proofs.parts.hold.Given as goal

abbrev pub invariant-loop-change : goal.invariant-loop-change
invariant-loop-change l = l.locks ≡ fold (take_changed l.branch) l.initial.locks (take l.change-index l.changes)
