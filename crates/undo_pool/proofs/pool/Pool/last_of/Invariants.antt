use Rattle.std.proofs.Common.{◌≡◌, ◌≤◌, length, drop}
use Rattle.undo_pool.specs.Extents.{count_of}
use Rattle.undo_pool.proofs.pool.Pool.last_of.Given as goal

abbrev pub invariant-loop-place : goal.invariant-loop-place
invariant-loop-place l = record { within : l.place ≤ length l.self.used; none : count_of (drop l.place l.self.used) l.owner ≡ 0 }

abbrev pub decreases-loop-place : goal.decreases-loop-place
decreases-loop-place l = l.place
