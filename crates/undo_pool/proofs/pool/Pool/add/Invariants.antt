use Rattle.std.proofs.Common.{◌≡◌, ◌+◌, ◌*◌, ◌≤◌, ◌<◌, ◌++◌, length}
use Rattle.undo_pool.specs.Extents.{extent_size, stream_of, count_of, room_of, OthersKeep}
use Rattle.undo_pool.specs.Pool.{all_extents}
use Rattle.undo_pool.proofs.pool.Pool.add.Given as goal

abbrev pub invariant-loop-rest : goal.invariant-loop-rest
invariant-loop-rest l = record {
  fits : length l.rest ≤ extent_size * l.self.free;
  full : 0 < length l.rest → room_of l.self.used l.owner ≡ 0;
  bytes : stream_of l.self.used l.owner ++ l.rest ≡ stream_of l.fn.self.used l.owner ++ l.fn.bytes;
  count : l.self.free + count_of l.self.used l.owner ≡ l.fn.self.free + count_of l.fn.self.used l.owner;
  all : all_extents l.self ≡ all_extents l.fn.self;
  others : OthersKeep l.fn.self.used l.self.used l.owner;
}

abbrev pub decreases-loop-rest : goal.decreases-loop-rest
decreases-loop-rest l = length l.rest
