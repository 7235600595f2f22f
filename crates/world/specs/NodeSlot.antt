-- A node of a run, up or down, by its parts, and held against the facts of the run.
use Rattle.std.specs.Prelude.{◌≡◌, ◌≢◌, ◌==◌, if◌then◌else◌, ℕ, Bool, false, List, Option, Some, None}
use Rattle.block_disk.specs.Happenings.{content_of, IsImage}
use Rattle.block_disk.specs.MemDisk.{DiskState}
use Rattle.record_log.specs.Held.{HoldRecords}
use Rattle.node_rules.specs.Data.{Place}
use Rattle.node_rules.specs.Words.{numbered}
use Rattle.node_rules.specs.NodeState.{NodeState}
use Rattle.node_disk.specs.Starts.{CanBeStarted}
use Rattle.node_disk.specs.OnDisk.{disk_of, kept_of, place_of, IsRunning}
use Rattle.run_rules.specs.Facts.{node_at, place_at, records_at}
use Rattle.run_rules.specs.RunReport.{Past}
use Rattle.world.specs.declared.slot.NodeSlot.{NodeSlot}
use Rattle.world.specs.declared.slot.NodeSlot.TheVariants.{Up, Down}

-- what the node keeps, where it is up
abbrev pub site_kept : NodeSlot → Option NodeState
site_kept (Up node) = Some (kept_of node)
site_kept (Down disk) = None

-- its disk
abbrev pub site_disk : NodeSlot → DiskState
site_disk (Up node) = disk_of node
site_disk (Down disk) = disk

-- the bytes of a disk
abbrev pub bytes_of : DiskState → List ℕ
bytes_of disk = content_of disk.happenings

-- what a crash may leave of it
abbrev pub images_of : DiskState → List ℕ → Type 0
images_of disk = IsImage disk.happenings

-- a node of this place that can take turns, where it is up
abbrev pub RunsAt : Place → NodeSlot → Type 0
RunsAt place (Up node) = IsRunning bytes_of images_of node × (place_of node ≡ place)
RunsAt place (Down disk) = Unit {0}

-- whether this is the node that an order struck in its start, and that has to stop
abbrev pub has_to_fall : Option ℕ → ℕ → Bool
has_to_fall None n = false
has_to_fall (Some m) n = m == n

-- what a node keeps in memory: nothing, where an order struck its start
abbrev pub up_at : Past → ℕ → Option NodeState
up_at p n = if has_to_fall p.run_report.start_to_stop n then None else node_at p.facts n

-- A site is as a run so far leaves it: the node keeps what the rules say, its disk holds its records, and it can be started from.
pub record SiteIs (places : List Place) (p : Past) (n : ℕ) (slot : NodeSlot) : Type 0 where
  pub kept : site_kept slot ≡ up_at p n
  pub runs : RunsAt (place_at places n) slot
  pub holds : HoldRecords (records_at p.facts n) (bytes_of (site_disk slot))
  pub starts : CanBeStarted (place_at places n).undo bytes_of images_of (site_disk slot)

-- each site is
abbrev pub SitesAre : List Place → Past → List NodeSlot → Type 0
SitesAre places p slots = (n : ℕ) (slot : NodeSlot) → numbered slots n ≡ Some slot → SiteIs places p n slot

-- all but this one are
abbrev pub OtherSitesAre : ℕ → List Place → Past → List NodeSlot → Type 0
OtherSitesAre m places p slots = (n : ℕ) (slot : NodeSlot) → m ≢ n → numbered slots n ≡ Some slot → SiteIs places p n slot
