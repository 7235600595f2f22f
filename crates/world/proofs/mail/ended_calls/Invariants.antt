use Rattle.std.proofs.Common.{◌≡◌, map}
use Rattle.node_disk.specs.Effects.{call_of}
use Rattle.world.proofs.mail.ended_calls.Given as goal

-- the calls so far are there, in order
abbrev pub invariant-loop-call : goal.invariant-loop-call
invariant-loop-call l = l.calls.items ≡ map call_of l.yielded
