-- Between two reads: what was read is kept, no read has failed, and there is less room each time.
use Rattle.std.proofs.Common.{◌≡◌, ◌≤◌, ◌-◌, vec_len}
use Rattle.std.specs.Io.KnownBytes.{Consumes}
use Rattle.dtx_ports.proofs.source.read_whole.Given as goal

-- what was read so far is within the limit
abbrev pub invariant-loop-bytes : goal.invariant-loop-bytes
invariant-loop-bytes g l = record {
  consumed : Consumes (g.S.Source.left l.initial.source) (g.S.Source.left l.source) l.bytes.items;
  steady : g.S.Source.faults l.source ≡ g.S.Source.faults l.initial.source;
  within : vec_len l.bytes ≤ l.limit;
}

abbrev pub decreases-loop-bytes : goal.decreases-loop-bytes
decreases-loop-bytes g l = l.limit - vec_len l.bytes
