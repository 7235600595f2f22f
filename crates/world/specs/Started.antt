-- What a start of a node leaves of its site, where an order may strike its disk.
use Rattle.std.specs.Prelude.{◌≡◌, ◌≢◌, ◌+◌, ◌<◌, ◌≤◌, ◌^◌, ◌∷◌, ◌++◌, [], ℕ, if◌then◌else◌, List, length, is_none, Some, None}
use Rattle.record_log.specs.Held.{HoldRecords, with_record_if}
use Rattle.node_rules.specs.Data.{RedoRecord, Place}
use Rattle.node_rules.specs.Turn.{start_of}
use Rattle.node_rules.specs.Words.{numbered}
use Rattle.node_disk.specs.Starts.{CanBeStarted, last_boot, next_boot}
use Rattle.run_rules.specs.Disks.{DiskOrders, struck, after_append}
use Rattle.world.specs.declared.slot.NodeSlot.{NodeSlot}
use Rattle.world_parts.specs.Orders.{HasOrders, stands_in}
use Rattle.world.specs.NodeSlot.{site_kept, site_disk, bytes_of, images_of, RunsAt}

-- A node of this place that is down, and that can be started from its disk.
pub record CanStart (place : Place) (slot : NodeSlot) : Type 0 where
  pub undo : place.undo ≤ 1024
  pub down : site_kept slot ≡ None
  pub starts : CanBeStarted place.undo bytes_of images_of (site_disk slot)
  pub boots : (rs : List RedoRecord) → HoldRecords rs (bytes_of (site_disk slot)) → last_boot rs + 1 < 2 ^ 32

-- A start of a node of this place was tried, whose disk had these orders and held these records: the node is up where no order struck.
pub record StartIsTried (place : Place) (d : DiskOrders) (rs : List RedoRecord) (slot : NodeSlot) : Type 0 where
  pub kept : site_kept slot ≡ (if is_none (struck 3 d) then Some (start_of (rs ++ next_boot rs ∷ [])) else None)
  pub runs : RunsAt place slot
  pub holds : HoldRecords (with_record_if (stands_in (struck 3 d)) rs (next_boot rs)) (bytes_of (site_disk slot))
  pub starts : CanBeStarted place.undo bytes_of images_of (site_disk slot)
  pub orders : HasOrders (after_append 3 d) (site_disk slot)

-- the start of a site was tried, whatever orders its disk had
abbrev pub TriedFrom : Place → NodeSlot → NodeSlot → Type 0
TriedFrom place before after = (d : DiskOrders) (rs : List RedoRecord) → HasOrders d (site_disk before) → HoldRecords rs (bytes_of (site_disk before)) → StartIsTried place d rs after

-- One site was tried to start, and the others are as they were.
pub record TriesAt (place : Place) (n : ℕ) (before after : List NodeSlot) : Type 0 where
  pub count : length after ≡ length before
  pub others : (m : ℕ) → n ≢ m → numbered after m ≡ numbered before m
  pub own : (slot now : NodeSlot) → numbered before n ≡ Some slot → numbered after n ≡ Some now → TriedFrom place slot now
