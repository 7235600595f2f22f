-- The orders of a disk in memory, and what a write leaves that they strike.
use Rattle.std.specs.Prelude.{ℕ, ◌==◌, Bool, true, false, if◌then◌else◌, List, [], Option, Some, None}
use Rattle.block_disk.specs.Plan.{FaultPlan, is_next, counted_down, write_of, stop_counted_down, left_of}
use Rattle.block_disk.specs.declared.fault.DiskFault.{DiskFault}
use Rattle.block_disk.specs.declared.fault.DiskFault.TheVariants as orders
use Rattle.block_disk.specs.declared.fault.Stop.{Stop}
use Rattle.block_disk.specs.declared.faults.DiskFaults.{DiskFaults}
use Rattle.block_disk.specs.declared.faults.Strike.{Strike}
use Rattle.block_disk.specs.declared.faults.Strike.TheVariants.{Spares, Fails, Stops}

-- the plan with a new order, which takes the place of an earlier one of its kind
abbrev pub with_order : FaultPlan → DiskFault → FaultPlan
with_order plan (orders.Stop stop) = record plan { stop = Some stop }
with_order plan (orders.Fault call) = record plan { fault = Some call }

-- the plan with a new order, where the disk shows its plan
abbrev pub ordered : Option FaultPlan → DiskFault → Option FaultPlan
ordered None order = None
ordered (Some plan) order = Some (with_order plan order)

-- these orders as a plan
abbrev pub plan_of : DiskFaults → FaultPlan
plan_of orders = record { stopped = orders.stopped; stop = orders.stop; fault = orders.fault }

-- these orders and a new one, which takes the place of an earlier one of its kind
abbrev pub after_order : DiskFaults → DiskFault → DiskFaults
after_order before (orders.Stop stop) = record before { stop = Some stop }
after_order before (orders.Fault call) = record before { fault = Some call }

-- these orders once the power is on again
abbrev pub powered : DiskFaults → DiskFaults
powered orders = record orders { stopped = false }

-- the orders after the next call: only writes count for a stop, and a stopped disk counts nothing
abbrev pub after_orders : DiskFaults → Bool → DiskFaults
after_orders orders true =
    if orders.stopped then orders
    else (record { stopped = is_next (write_of orders.stop); stop = stop_counted_down orders.stop; fault = counted_down orders.fault })
after_orders orders false = if orders.stopped then orders else record orders { fault = counted_down orders.fault }

-- what comes of a write that no stop strikes
abbrev pub fault_strike : Option ℕ → Strike
fault_strike fault = if is_next fault then Fails else Spares

-- what comes of a write while the disk is not stopped: where both orders strike it, the stop counts
abbrev pub strike_by : Option Stop → Option ℕ → Strike
strike_by None fault = fault_strike fault
strike_by (Some stop) fault = if stop.write == 1 then Stops stop.how else fault_strike fault

-- what comes of the next write
abbrev pub strike_of : DiskFaults → Strike
strike_of orders = if orders.stopped then Fails else strike_by orders.stop orders.fault

-- what a write of these bytes leaves at its place
abbrev pub left_by : Strike → List ℕ → List ℕ
left_by Spares bytes = bytes
left_by Fails bytes = []
left_by (Stops how) bytes = left_of how bytes
