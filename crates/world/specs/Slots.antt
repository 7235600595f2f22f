-- The nodes of a run, by their numbers.
use Rattle.std.specs.Prelude.{◌≡◌, ◌==◌, ◌∷◌, ℕ, if◌then◌else◌, List, [], Option, Some, None}
use Rattle.record_log.specs.Held.{HoldRecords}
use Rattle.node_rules.specs.Data.{Place}
use Rattle.node_rules.specs.Data.records
use Rattle.node_rules.specs.Words.{numbered}
use Rattle.node_rules.specs.NodeState.{NodeState}
use Rattle.node_rules.specs.Turn.{made}
use Rattle.node_disk.specs.Starts.{CanBeStarted}
use Rattle.run_rules.specs.Data.{Command}
use Rattle.run_rules.specs.Data.commands
use Rattle.run_rules.specs.Shown.{shown_disk}
use Rattle.world.specs.declared.slot.NodeSlot.{NodeSlot}
use Rattle.world_parts.specs.Shown.{Shown, shown_at}
use Rattle.run_rules.specs.Disks.{no_orders}
use Rattle.world_parts.specs.Orders.{HasOrders}
use Rattle.world.specs.NodeSlot.{site_kept, site_disk, bytes_of, images_of, RunsAt}

-- what the node of a site keeps, where there is one and it is up
abbrev pub kept_in_site : Option NodeSlot → Option NodeState
kept_in_site None = None
kept_in_site (Some slot) = site_kept slot

-- what the node of a number keeps, where it is up
abbrev pub kept_at : List NodeSlot → ℕ → Option NodeState
kept_at slots n = kept_in_site (numbered slots n)

-- A node of this place that was just made.
pub record IsMade (place : Place) (slot : NodeSlot) : Type 0 where
  pub kept : site_kept slot ≡ Some made
  pub runs : RunsAt place slot
  pub holds : HoldRecords (records.Boot 1 ∷ []) (bytes_of (site_disk slot))
  pub starts : CanBeStarted place.undo bytes_of images_of (site_disk slot)
  pub orders : HasOrders no_orders (site_disk slot)

-- each is made, in its place
abbrev pub AreMade : List Place → List NodeSlot → Type 0
AreMade [] [] = Unit {0}
AreMade (p ∷ ps) (s ∷ ss) = IsMade p s × AreMade ps ss
AreMade _ _ = ⊥

-- the bytes of the disk of a site, where there is one
abbrev pub bytes_in_site : Option NodeSlot → List ℕ
bytes_in_site None = []
bytes_in_site (Some slot) = bytes_of (site_disk slot)

-- the bytes of the disk of the node of a number
abbrev pub disk_at : List NodeSlot → ℕ → List ℕ
disk_at slots n = bytes_in_site (numbered slots n)

-- the node whose disk a command shows
abbrev pub shows_of : Command → Option ℕ
shows_of (commands.ShowDisk n) = Some n
shows_of _ = None

-- what was shown, with the bytes of this node's disk
abbrev pub ShowsAfter : (ℕ → List ℕ) → ℕ → Option ℕ → Shown → Shown → Type 0
ShowsAfter bytes number None before after = after ≡ before
ShowsAfter bytes number (Some n) before after = (command : ℕ) → shown_at after command ≡ (if number == command then Some (shown_disk (bytes n)) else shown_at before command)

-- SHOW DISK shows the bytes of its node's disk, and no other command shows a disk
abbrev pub MayShow : (ℕ → List ℕ) → ℕ → Command → Shown → Shown → Type 0
MayShow bytes number command before after = ShowsAfter bytes number (shows_of command) before after
