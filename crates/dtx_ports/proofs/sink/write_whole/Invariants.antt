-- Between two writes: a front of the bytes is written, no write has failed, and the rest gets shorter.
use Rattle.std.proofs.Common.{◌≡◌, ◌≤◌, ◌-◌, length, take}
use Rattle.std.specs.Io.KnownBytes.{Appends}
use Rattle.dtx_ports.proofs.sink.write_whole.Given as goal

-- the front of the bytes was written
abbrev pub invariant-loop-done : goal.invariant-loop-done
invariant-loop-done g l = record {
  within : l.done ≤ length l.bytes;
  front : Appends (g.K.Sink.written l.initial.sink) (g.K.Sink.written l.sink) (take l.done l.bytes);
  steady : g.K.Sink.faults l.sink ≡ g.K.Sink.faults l.initial.sink;
}

abbrev pub decreases-loop-done : goal.decreases-loop-done
decreases-loop-done g l = length l.bytes - l.done
