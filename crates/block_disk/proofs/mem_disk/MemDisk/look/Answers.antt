-- The plan after a call that succeeds.
use Rattle.std.proofs.Common.{Some, sym, ap, ◌∙◌}
use Rattle.block_disk.specs.Plan.{FaultPlan}
use Rattle.block_disk.specs.Orders.{plan_of}
use Rattle.block_disk.specs.declared.faults.DiskFaults.{DiskFaults}
use Rattle.block_disk.proofs.Planned.{plan_after_look}
use Rattle.block_disk.proofs.mem_disk.MemDisk.look.Goals as goal

pub returns-else-strike_call-clause-plan : goal.returns-else-strike_call-clause-plan
returns-else-strike_call-clause-plan c =
    rw (← c.self.view_is)
    (ap (λ (orders : DiskFaults). Some (plan_of orders)) c.strike_call.ensures.after ∙ ap (λ (plan : FaultPlan). Some plan) (plan_after_look c.self.inside.orders), sym c.strike_call.ensures.strikes ∙ c.if-strike_call.false)
