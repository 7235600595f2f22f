use Rattle.std.proofs.Common.{◌≡◌, ◌+◌, ◌*◌, ◌≤◌, length, drop}
use Rattle.undo_pool.specs.Extents.{stream_of}
use Rattle.undo_pool.proofs.pool.Pool.held.Given as goal

abbrev pub invariant-loop-extent : goal.invariant-loop-extent
invariant-loop-extent l = record {
  sum : l.held + length (stream_of (drop l.extent-index l.self.used) l.owner) ≡ length (stream_of l.self.used l.owner);
  fits : l.held ≤ 4096 * l.extent-index;
}
