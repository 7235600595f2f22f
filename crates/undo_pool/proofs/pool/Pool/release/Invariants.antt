use Rattle.std.proofs.Common.{◌≡◌, ◌+◌, length}
use Rattle.undo_pool.specs.Extents.{count_of, OthersKeep}
use Rattle.undo_pool.specs.Pool.{all_extents}
use Rattle.undo_pool.proofs.pool.Pool.release.Given as goal

abbrev pub invariant-loop-place : goal.invariant-loop-place
invariant-loop-place l = record {
  free : l.self.free + count_of l.self.used l.owner ≡ l.fn.self.free + count_of l.fn.self.used l.owner;
  all : all_extents l.self ≡ all_extents l.fn.self;
  others : OthersKeep l.fn.self.used l.self.used l.owner;
}

abbrev pub decreases-loop-place : goal.decreases-loop-place
decreases-loop-place l = length l.self.used
