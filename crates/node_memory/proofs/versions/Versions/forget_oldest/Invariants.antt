use Rattle.std.proofs.Common.{◌≡◌, length}
use Rattle.read_only_tx.specs.Versions.{newest}
use Rattle.node_memory.specs.Versions.{versions_as}
use Rattle.node_memory.proofs.versions.Versions.forget_oldest.Given as goal

-- the oldest that are too many may be gone already
abbrev pub invariant-loop-self : goal.invariant-loop-self
invariant-loop-self l = newest (versions_as l.self).kept (versions_as l.self).floor ≡ newest (versions_as l.initial.self).kept (versions_as l.initial.self).floor

abbrev pub decreases-loop-self : goal.decreases-loop-self
decreases-loop-self l = length l.self.kept.items
