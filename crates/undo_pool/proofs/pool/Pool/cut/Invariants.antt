use Rattle.std.proofs.Common.{◌≡◌, ◌+◌, length, take}
use Rattle.undo_pool.specs.Extents.{stream_of, count_of, OthersKeep}
use Rattle.undo_pool.specs.Pool.{all_extents}
use Rattle.undo_pool.proofs.pool.Pool.cut.Given as goal

abbrev pub invariant-loop-more : goal.invariant-loop-more
invariant-loop-more l = record {
  many : length (stream_of l.self.used l.owner) ≡ l.keep + l.more;
  bytes : take l.keep (stream_of l.self.used l.owner) ≡ take l.keep (stream_of l.fn.self.used l.owner);
  free : l.self.free + count_of l.self.used l.owner ≡ l.fn.self.free + count_of l.fn.self.used l.owner;
  all : all_extents l.self ≡ all_extents l.fn.self;
  others : OthersKeep l.fn.self.used l.self.used l.owner;
}

abbrev pub decreases-loop-more : goal.decreases-loop-more
decreases-loop-more l = l.more + length l.self.used
