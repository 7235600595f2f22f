-- The calls so far.
use Rattle.std.proofs.Common.{◌≡◌, map}
use Rattle.node_disk.specs.Effects.{call_of}
use Rattle.node_disk.proofs.finished.finish.Given as goal

abbrev pub invariant-loop-call : goal.invariant-loop-call
invariant-loop-call l = map call_of l.ends.items ≡ l.yielded
