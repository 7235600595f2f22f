-- A disk in memory as its callers see it, and what its calls do to it.
use Rattle.std.specs.Prelude.{ℕ, List, [], Bool, true, false, None}
use Rattle.dtx_ports.specs.Causes.{risen}
use Rattle.block_disk.specs.Images.{MayBeTorn}
use Rattle.block_disk.specs.Counts.{next_count}
use Rattle.block_disk.specs.Spare.{Spare, no_spare, with_room, spent_on}
use Rattle.block_disk.specs.Plan.{strikes}
use Rattle.block_disk.specs.Happenings.{Happening, wrote, synced}
use Rattle.block_disk.specs.declared.fault.DiskFault.{DiskFault}
use Rattle.block_disk.specs.declared.faults.DiskFaults.{DiskFaults}
use Rattle.block_disk.specs.Orders.{plan_of, after_order, powered, after_orders, strike_of, left_by}

-- A disk in memory.
pub record DiskState : Type 0 where
  pub happenings : List Happening  -- its writes and syncs, newest first
  pub spare : Spare  -- what may still be written without more memory
  pub faults : ℕ  -- how many calls failed, at most 2^64 - 1
  pub calls : ℕ  -- how many counted calls were made, modulo 2^64
  pub writes : ℕ  -- how many of them were writes, modulo 2^64
  pub orders : DiskFaults  -- whether it is stopped, and the orders that have not struck

-- an empty disk that was not called yet, with no order
abbrev pub blank : DiskState
blank = record { happenings = []; spare = no_spare; faults = 0; calls = 0; writes = 0; orders = record { stopped = false; stop = None; fault = None } }

-- the count of faults after a call that an order strikes, or not
abbrev pub faults_after : ℕ → Bool → ℕ
faults_after faults true = risen faults
faults_after faults false = faults

-- after a fault
abbrev pub after_fault : DiskState → DiskState
after_fault disk = record disk { faults = risen disk.faults }

-- after a counted call that writes nothing
abbrev pub after_look : DiskState → DiskState
after_look disk = record disk {
  faults = faults_after disk.faults (strikes (plan_of disk.orders) false);
  calls = next_count disk.calls;
  orders = after_orders disk.orders false;
}

-- with room for this many bytes in this many writes
abbrev pub after_room : DiskState → ℕ → ℕ → DiskState
after_room disk bytes writes = record disk { spare = with_room bytes writes disk.spare }

-- after a write
abbrev pub after_write : DiskState → ℕ → List ℕ → DiskState
after_write disk at bytes = record {
  happenings = wrote at (left_by (strike_of disk.orders) bytes) disk.happenings;
  spare = spent_on (left_by (strike_of disk.orders) bytes) disk.spare;
  faults = faults_after disk.faults (strikes (plan_of disk.orders) true);
  calls = next_count disk.calls;
  writes = next_count disk.writes;
  orders = after_orders disk.orders true;
}

-- after a sync that succeeds
abbrev pub after_sync : DiskState → DiskState
after_sync disk = record (after_look disk) { happenings = synced disk.happenings }

-- with a new order
abbrev pub after_arm : DiskState → DiskFault → DiskState
after_arm disk order = record disk { orders = after_order disk.orders order }

-- with the power on again
abbrev pub after_power_on : DiskState → DiskState
after_power_on disk = record disk { orders = powered disk.orders }

-- each image from before a write, torn within the write's range, is an image after it
abbrev pub RisksEach : ℕ → ℕ → (List ℕ → Type 0) → (List ℕ → Type 0) → Type 0
RisksEach at count images_before images_after = (before image : List ℕ) → images_before before → MayBeTorn at count before image → images_after image
