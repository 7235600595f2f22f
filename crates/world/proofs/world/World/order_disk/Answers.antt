use Rattle.std.proofs.Common.{sym, subst}
use Rattle.run_rules.specs.Data.{Command}
use Rattle.world.specs.Orders.{OrderedBy}
use Rattle.world.proofs.ArmLemmas.{crash_ordered, fault_ordered}
use Rattle.world.proofs.world.World.order_disk.Goals as goal

pub returns-in_ok-how-in-Crash-clause-orders : goal.returns-in_ok-how-in-Crash-clause-orders
returns-in_ok-how-in-Crash-clause-orders c =
    subst (λ (x : Command). OrderedBy x c.args.self.now.slots.items c.arm.new.self.slots.items) (sym c.in-Crash.is)
    (crash_ordered _ _ _ c.in_ok-how-in-Crash.how _ _ c.in_ok-how-in-Crash.ensures c.arm.ensures.armed)

pub returns-in-Fault-clause-orders : goal.returns-in-Fault-clause-orders
returns-in-Fault-clause-orders c =
    subst (λ (x : Command). OrderedBy x c.args.self.now.slots.items c.arm-in-Fault.new.self.slots.items) (sym c.in-Fault.is) (fault_ordered _ _ _ _ c.arm-in-Fault.ensures.armed)
