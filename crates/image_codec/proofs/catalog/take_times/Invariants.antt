use Rattle.std.proofs.Common.{◌≡◌, ◌-◌}
use Rattle.byte_format.specs.Several.{times_at}
use Rattle.byte_format.proofs.Loop.{with_front}
use Rattle.image_codec.proofs.catalog.take_times.Given as goal

abbrev pub invariant-loop : goal.invariant-loop
invariant-loop g l = with_front l.items.items (times_at (l.count - l.counter) g.F.Field.format.read l.rest) ≡ times_at l.count g.F.Field.format.read l.bytes
