-- A site whose node has stopped, and the sites with it.
use Rattle.std.specs.Prelude.{◌≡◌, ◌≢◌, ℕ, List, length, Some, None}
use Rattle.block_disk.specs.Orders.{powered}
use Rattle.node_rules.specs.Words.{numbered}
use Rattle.node_disk.specs.Starts.{CanBeStarted}
use Rattle.world.specs.declared.slot.NodeSlot.{NodeSlot}
use Rattle.world.specs.NodeSlot.{site_kept, site_disk, bytes_of, images_of}

-- A site that stopped: its node keeps nothing, and its disk is left.
pub record HasStopped (before after : NodeSlot) : Type 0 where
  pub kept : site_kept after ≡ None
  pub bytes : bytes_of (site_disk after) ≡ bytes_of (site_disk before)
  pub starts : (undo : ℕ) → CanBeStarted undo bytes_of images_of (site_disk before) → CanBeStarted undo bytes_of images_of (site_disk after)

-- A disk whose power is on again, with the orders that have not struck.
pub record IsPowered (before after : NodeSlot) : Type 0 where
  pub orders : (site_disk after).orders ≡ powered (site_disk before).orders

-- One site has stopped, and the others are as they were.
pub record StopsAt (n : ℕ) (before after : List NodeSlot) : Type 0 where
  pub count : length after ≡ length before
  pub others : (m : ℕ) → n ≢ m → numbered after m ≡ numbered before m
  pub own : (slot now : NodeSlot) → numbered before n ≡ Some slot → numbered after n ≡ Some now → HasStopped slot now × IsPowered slot now
