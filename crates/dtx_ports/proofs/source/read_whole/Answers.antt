-- What was consumed, where the reading stops short of the end: what was kept, and then the last read.
use Rattle.std.proofs.Common.{ℕ, arith, length-append}
use Rattle.std.proofs.lemmas.List.{length-take}
use Rattle.std.proofs.KnownBytes.{Consumes-trans}
use Rattle.dtx_ports.proofs.source.read_whole.Goals as goal

pub returns-then-count-room-clause-too_long : goal.returns-then-count-room-clause-too_long
returns-then-count-room-clause-too_long g c = λ _.
    let read = c.in_ok-count.ensures in
    (_, Consumes-trans _ _ _ _ _ c.loop-bytes.invariant.consumed read.bytes.0, omega (arith, length-append {A = ℕ}, length-take {A = ℕ}, read.bound))

pub returns-in_err-extend_from_slice-clause-no_memory_within : goal.returns-in_err-extend_from_slice-clause-no_memory_within
returns-in_err-extend_from_slice-clause-no_memory_within g c = λ _.
    let read = c.in_ok-count.ensures in
    (_, Consumes-trans _ _ _ _ _ c.loop-bytes.invariant.consumed read.bytes.0, omega (arith, length-append {A = ℕ}, length-take {A = ℕ}, read.bound))
