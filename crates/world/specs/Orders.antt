-- The disks of the world have the orders that the run so far leaves them.
use Rattle.std.specs.Prelude.{◌≡◌, ◌≢◌, ◌==◌, ℕ, List, if◌then◌else◌, Some}
use Rattle.block_disk.specs.declared.fault.DiskFault.{DiskFault}
use Rattle.script_read.specs.Sound.{IsInRange}
use Rattle.node_rules.specs.Words.{numbered}
use Rattle.run_rules.specs.Data.{Command}
use Rattle.run_rules.specs.Disks.{DiskOrders}
use Rattle.run_rules.specs.RunReport.{orders_at}
use Rattle.run_trace.specs.Recorded.{past_of}
use Rattle.world_parts.specs.Orders.{HasOrders, IsToCome, armed, ordered_at}
use Rattle.world.specs.declared.slot.NodeSlot.{NodeSlot}
use Rattle.world.specs.declared.world.World.{World}
use Rattle.world.specs.NodeSlot.{site_disk}

-- all disks but this node's have the orders of theirs
abbrev pub OtherOrdersAre : ℕ → World → Type 0
OtherOrdersAre m w = (n : ℕ) (slot : NodeSlot) → m ≢ n → numbered w.slots.items n ≡ Some slot → HasOrders (orders_at (past_of w.trace).run_report n) (site_disk slot)

-- each disk has the orders of its node
abbrev pub OrdersAre : World → Type 0
OrdersAre w = (n : ℕ) (slot : NodeSlot) → numbered w.slots.items n ≡ Some slot → HasOrders (orders_at (past_of w.trace).run_report n) (site_disk slot)

-- each disk has the orders that the begin of a command leaves, where its numbers are in their ranges
abbrev pub OrderedBy : Command → List NodeSlot → List NodeSlot → Type 0
OrderedBy command before after = IsInRange command → (m : ℕ) (slot now : NodeSlot) (d : DiskOrders) → numbered before m ≡ Some slot → numbered after m ≡ Some now → HasOrders d (site_disk slot) → HasOrders (ordered_at command m d) (site_disk now)

-- one disk has an order more, and the others have theirs
abbrev pub ArmedAt : ℕ → DiskFault → List NodeSlot → List NodeSlot → Type 0
ArmedAt n order before after = IsToCome order → (m : ℕ) (slot now : NodeSlot) (d : DiskOrders) → numbered before m ≡ Some slot → numbered after m ≡ Some now → HasOrders d (site_disk slot)
    → HasOrders (if n == m then armed order d else d) (site_disk now)
