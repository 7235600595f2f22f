-- The plan after a write.
use Rattle.std.proofs.Common.{Some, sym, ap, ◌∙◌}
use Rattle.block_disk.specs.Plan.{FaultPlan}
use Rattle.block_disk.specs.Orders.{plan_of}
use Rattle.block_disk.specs.declared.faults.DiskFaults.{DiskFaults}
use Rattle.block_disk.proofs.Planned.{plan_after_write, spared}
use Rattle.block_disk.proofs.mem_disk.MemDiskDisk.write_at.Goals as goal

pub returns-in-Spares-clause-plan : goal.returns-in-Spares-clause-plan
returns-in-Spares-clause-plan c =
    rw (← c.self.view_is)
    (ap (λ (orders : DiskFaults). Some (plan_of orders)) c.strike_write.ensures.after ∙ ap (λ (plan : FaultPlan). Some plan) (plan_after_write c.self.inside.orders), spared c.self.inside.orders (sym c.strike_write.ensures.strikes ∙ c.in-Spares.is))
