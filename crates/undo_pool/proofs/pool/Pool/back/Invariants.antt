use Rattle.std.proofs.Common.{◌≡◌, ◌-◌, ◌≤◌, ◌++◌, length, take, drop}
use Rattle.undo_pool.specs.Extents.{stream_of}
use Rattle.undo_pool.proofs.pool.Pool.back.Given as goal

abbrev pub invariant-loop-extent : goal.invariant-loop-extent
invariant-loop-extent l = record {
  same : length l.out ≡ length l.fn.out;
  within : l.filled ≤ length l.out;
  bytes : take l.filled l.out ++ take (length l.out - l.filled) (drop l.skip (stream_of (drop l.extent-index l.self.used) l.owner)) ≡ take (length l.out) (drop l.at (stream_of l.self.used l.owner));
}
