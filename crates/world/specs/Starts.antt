-- A start of a node that was tried, before the trace has it.
use Rattle.std.specs.Prelude.{◌≡◌, ◌+◌, ◌<◌, ◌^◌, ℕ, length, is_none, if◌then◌else◌, Some, None}
use Rattle.record_log.specs.Held.{HoldRecords}
use Rattle.node_rules.specs.Words.{numbered}
use Rattle.node_rules.specs.Turn.{start_of}
use Rattle.node_disk.specs.Starts.{CanBeStarted}
use Rattle.run_rules.specs.Data.happenings
use Rattle.run_rules.specs.Disks.{after_append, struck}
use Rattle.run_rules.specs.Facts.{place_at, records_at, with_boot}
use Rattle.run_rules.specs.Lawful.{IsNode, boots}
use Rattle.run_rules.specs.Past.{next}
use Rattle.run_rules.specs.RunReport.{orders_at}
use Rattle.run_trace.specs.Recorded.{IsDueNext, past_of}
use Rattle.world.specs.declared.slot.NodeSlot.{NodeSlot}
use Rattle.world.specs.declared.world.World.{World}
use Rattle.world.specs.Needs.{IsOfScript}
use Rattle.world.specs.Linked.{CountsAgree, PartsAre}
use Rattle.world_parts.specs.Orders.{HasOrders}
use Rattle.world.specs.Orders.{OrdersAre, OtherOrdersAre}
use Rattle.world.specs.Steps.{StepsTo}
use Rattle.world_parts.specs.Shown.{ShowDisks}
use Rattle.world.specs.NodeSlot.{site_kept, site_disk, bytes_of, images_of, RunsAt, OtherSitesAre}
use Rattle.world.specs.Started.{TriesAt}

-- the number of the start
abbrev pub boot_at : World → ℕ → ℕ
boot_at w n = boots (records_at (past_of w.trace).facts n) + 1

-- The start of a node was tried from this world: all of it is as before but the node's site.
pub record IsTriedAt (n : ℕ) (before after : World) : Type 0 where
  pub slots : TriesAt (place_at before.trace.places n) n before.slots.items after.slots.items
  pub same : after ≡ record before { slots = after.slots }

-- The site of a node whose start has its record: the node is up, unless an order struck the start behind the record.
pub record HasBoot (w : World) (n : ℕ) (slot : NodeSlot) : Type 0 where
  pub kept : site_kept slot ≡ (if is_none (struck 3 (orders_at (past_of w.trace).run_report n)) then Some (start_of (with_boot (past_of w.trace).facts n (boot_at w n))) else None)
  pub runs : RunsAt (place_at w.trace.places n) slot
  pub holds : HoldRecords (with_boot (past_of w.trace).facts n (boot_at w n)) (bytes_of (site_disk slot))
  pub starts : CanBeStarted (place_at w.trace.places n).undo bytes_of images_of (site_disk slot)
  pub orders : HasOrders (after_append 3 (orders_at (past_of w.trace).run_report n)) (site_disk slot)

-- The start of a node is due, and its record stands; all other parts of the world are as before.
pub record IsStarting (n : ℕ) (w : World) : Type 0 where
  pub script : IsOfScript w.trace
  pub parts : PartsAre (past_of w.trace) w
  pub upright : (past_of w.trace).run_report.start_to_stop ≡ None
  pub counted : CountsAgree w
  pub others : OtherSitesAre n w.trace.places (past_of w.trace) w.slots.items
  pub other_orders : OtherOrdersAre n w
  pub shown : ShowDisks w.trace w.shown
  pub there : IsNode (length w.trace.places) n
  pub few : boot_at w n < 2 ^ 32
  pub next : IsDueNext w.trace (happenings.Started n (boot_at w n))
  pub slot : (slot : NodeSlot) → numbered w.slots.items n ≡ Some slot → HasBoot w n slot

-- A node has started: its record is in the trace, and a stop follows where an order struck behind it.
pub record HasBooted (n : ℕ) (before after : World) : Type 0 where
  pub steps : StepsTo before after
  pub places : after.trace.places ≡ before.trace.places
  pub asked : after.trace.asked ≡ before.trace.asked
  pub past : past_of after.trace ≡ next before.trace.places before.trace.asked (past_of before.trace) (happenings.Started n (boot_at before n))
  pub orders : OrdersAre after
