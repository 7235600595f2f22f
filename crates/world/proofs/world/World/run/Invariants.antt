use Rattle.std.proofs.Common.{◌-◌, length}
use Rattle.run_trace.specs.Recorded.{Extends, happening_limit}
use Rattle.world.specs.Linked.{IsLinked}
use Rattle.world.specs.Orders.{OrdersAre}
use Rattle.world.proofs.world.World.run.Given as goal

-- the world is linked, and the trace goes on
abbrev pub invariant-steps : goal.invariant-steps
invariant-steps l = IsLinked l.self × OrdersAre l.self × Extends l.initial.self.trace l.self.trace

-- each step makes the trace longer, and a trace has at most 2^31 happenings
abbrev pub decreases-steps : goal.decreases-steps
decreases-steps l = happening_limit - length l.self.trace.happenings
