-- The world, part by part, held against the run so far.
use Rattle.std.specs.Prelude.{◌≡◌, ◌≢◌, ◌⊎◌, false, ℕ, length, map, None, Some}
use Rattle.node_rules.specs.Data.{Place}
use Rattle.run_rules.specs.RunReport.{Past}
use Rattle.run_rules.specs.Lawful.{boots}
use Rattle.run_trace.specs.Recorded.{past_of}
use Rattle.world.specs.Needs.{IsOfScript}
use Rattle.node_rules.specs.Words.{numbered}
use Rattle.node_disk.specs.Starts.{CanBeStarted}
use Rattle.world.specs.declared.slot.NodeSlot.{NodeSlot}
use Rattle.world.specs.NodeSlot.{has_to_fall, site_kept, site_disk, bytes_of, images_of, RunsAt, SitesAre}
use Rattle.world_parts.specs.Shown.{ShowDisks}
use Rattle.world.specs.declared.world.World.{World}

-- Each part of the world but its sites is that part of the run so far.
pub record PartsAre (p : Past) (w : World) : Type 0 where
  pub running : w.running ≡ p.facts.command
  pub net : w.net ≡ p.facts.net
  pub losses : w.losses.items ≡ p.facts.losses_to_report
  pub to_stop : w.to_stop ≡ p.facts.node_to_stop
  pub boots : w.boots.items ≡ map boots p.facts.records
  pub run_report : w.run_report ≡ p.run_report

-- There are as many nodes, records and sites as places.
pub record CountsAgree (w : World) : Type 0 where
  pub slots : length w.slots.items ≡ length w.trace.places
  pub nodes : length (past_of w.trace).facts.nodes ≡ length w.trace.places
  pub records : length (past_of w.trace).facts.records ≡ length w.trace.places

-- The world is that of the run so far, also between a start that an order struck and the stop that follows it.
pub record HoldsRun (w : World) : Type 0 where
  pub script : IsOfScript w.trace
  pub parts : PartsAre (past_of w.trace) w
  pub counted : CountsAgree w
  pub slots : SitesAre w.trace.places (past_of w.trace) w.slots.items
  pub shown : ShowDisks w.trace w.shown

-- The world is that of the run so far, and each node that is up by the facts keeps its memory.
pub record IsLinked (w : World) : Type 0 where
  pub held : HoldsRun w
  pub upright : (past_of w.trace).run_report.start_to_stop ≡ None

-- An order to a disk changes neither what its node keeps nor its bytes.
pub record IsOrdered (before after : NodeSlot) : Type 0 where
  pub kept : site_kept after ≡ site_kept before
  pub runs : (place : Place) → RunsAt place before → RunsAt place after
  pub bytes : bytes_of (site_disk after) ≡ bytes_of (site_disk before)
  pub starts : (undo : ℕ) → CanBeStarted undo bytes_of images_of (site_disk before) → CanBeStarted undo bytes_of images_of (site_disk after)

-- after orders to disks each site is as it was but for them
pub record OrdersStand (before after : World) : Type 0 where
  pub count : length after.slots.items ≡ length before.slots.items
  pub each : (n : ℕ) (slot now : NodeSlot) → numbered before.slots.items n ≡ Some slot → numbered after.slots.items n ≡ Some now → (now ≡ slot) ⊎ IsOrdered slot now

-- no other node has to stop since an order struck its start
abbrev pub OnlyFalls : Past → ℕ → Type 0
OnlyFalls p n = (m : ℕ) → n ≢ m → has_to_fall p.run_report.start_to_stop m ≡ false
