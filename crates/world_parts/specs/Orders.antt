-- The orders of a node's disk, as the definitions of a run have them.
use Rattle.std.specs.Prelude.{◌≡◌, ◌≤◌, ◌==◌, ℕ, Bool, true, false, if◌then◌else◌, option_map, Option, Some, None, IfSome}
use Rattle.block_disk.specs.MemDisk.{DiskState}
use Rattle.block_disk.specs.declared.fault.How.{How}
use Rattle.block_disk.specs.declared.fault.How.TheVariants.{Keep, Leave}
use Rattle.block_disk.specs.declared.fault.DiskFault.{DiskFault}
use Rattle.block_disk.specs.declared.fault.DiskFault.TheVariants as orders
use Rattle.block_disk.specs.declared.fault.Stop.{Stop}
use Rattle.block_disk.specs.declared.faults.DiskFaults.{DiskFaults}
use Rattle.run_rules.specs.Data.{Command, How as HowByRules}
use Rattle.run_rules.specs.Data.commands
use Rattle.run_rules.specs.Data.hows
use Rattle.run_rules.specs.Cuts.{Cut_by, By_nothing, By_point, By_strike}
use Rattle.run_rules.specs.Disks.{DiskOrders, Stop_order, Strike, after_append, opens_gate}

-- what a stop leaves
abbrev pub how_as : How → HowByRules
how_as (Keep count) = hows.Keep count
how_as (Leave bytes) = hows.Leave bytes.items

-- a stop
abbrev pub stop_as : Stop → Stop_order
stop_as stop = record { write = stop.write; opens = opens_gate (how_as stop.how) }

-- the orders
abbrev pub orders_as : DiskFaults → DiskOrders
orders_as orders = record { stop = option_map stop_as orders.stop; fault = orders.fault }

-- DiskFaults that are these, each for a write or a call to come.
pub record OrdersLeft (d : DiskOrders) (orders : DiskFaults) : Type 0 where
  pub are : orders_as orders ≡ d
  pub write : IfSome orders.stop (λ s. 1 ≤ s.write)
  pub call : IfSome orders.fault (λ c. 1 ≤ c)

-- A disk that is not stopped and has these orders.
pub record HasOrders (d : DiskOrders) (disk : DiskState) : Type 0 where
  pub running : disk.orders.stopped ≡ false
  pub left : OrdersLeft d disk.orders

-- the orders after a turn that makes an append, or none
abbrev pub orders_if : Bool → DiskOrders → DiskOrders
orders_if appends d = if appends then after_append 0 d else d

-- the orders after a turn that writes a record, or does not, and that this cuts
abbrev pub cut_orders : Bool → Cut_by → DiskOrders → DiskOrders
cut_orders writes By_nothing d = orders_if writes d
cut_orders writes (By_strike stands) d = orders_if writes d
cut_orders writes (By_point root numbers stands) d = orders_if stands d

-- whether the record of an append stands: no order strikes it, or one that strikes behind it
abbrev pub stands_in : Option Strike → Bool
stands_in None = true
stands_in (Some s) = s.stands

-- the orders of a disk with one more, in place of an earlier one of its kind
abbrev pub armed : DiskFault → DiskOrders → DiskOrders
armed (orders.Stop stop) d = record d { stop = Some (stop_as stop) }
armed (orders.Fault call) d = record d { fault = Some call }

-- an order for a write or a call to come
abbrev pub IsToCome : DiskFault → Type 0
IsToCome (orders.Stop stop) = 1 ≤ stop.write
IsToCome (orders.Fault call) = 1 ≤ call

-- the orders of the disk of node m as a command begins
abbrev pub ordered_at : Command → ℕ → DiskOrders → DiskOrders
ordered_at (commands.Crash n write how) m d = if n == m then record d { stop = Some (record { write = write; opens = opens_gate how }) } else d
ordered_at (commands.Fault n call) m d = if n == m then record d { fault = Some call } else d
ordered_at _ m d = d
