-- The words so far, and those that are still taken, are all words.
use Rattle.std.proofs.Common.{◌≡◌, ◌-◌, map}
use Rattle.std.specs.String.{string_bytes}
use Rattle.byte_format.specs.Several.{times_at}
use Rattle.byte_format.proofs.Loop.{with_front}
use Rattle.run_scripts.specs.Jobs.{bytes_format}
use Rattle.run_scripts.proofs.jobs.take_words.Given as goal

abbrev pub invariant-loop : goal.invariant-loop
invariant-loop l = with_front (map string_bytes l.words.items) (times_at (l.count - l.counter) bytes_format.read l.rest) ≡ times_at l.count bytes_format.read l.list
