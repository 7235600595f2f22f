-- A node of a test stays one: over a turn, a turn that is cut, and an order to its disk. Its disk can be started from once the
-- power is on again.
use Rattle.std.proofs.Common.{◌≡◌, ℕ, Bool, true, false, sym, subst}
use Rattle.block_disk.specs.MemDisk.{DiskState, after_power_on}
use Rattle.node_disk.specs.OnDisk.{disk_of, kept_of, place_of, IsRunning}
use Rattle.node_disk.specs.Starts.{CanBeStarted}
use Rattle.node_disk.specs.declared.node.Node.{Node}
use Rattle.lone_node.specs.Played.{undo_extents, bytes_of, images_of, IsKeptWithin, IsAlone, IsInPlay}
use Rattle.node_rules.specs.Data.{Place}
use Rattle.node_rules.specs.NodeState.{NodeState}

pub up_at : (up : Bool) (bound : ℕ) (node : Node DiskState) → IsAlone bound node → IsInPlay up bound node
up_at up bound node alone = record { alone = λ is. alone; starts = alone.starts }

pub down_at : (bound : ℕ) (node : Node DiskState) → CanBeStarted undo_extents bytes_of images_of (disk_of node) → IsInPlay false bound node
down_at bound node starts = record { alone = λ is. absurd cc; starts = starts }

pub alone_up : (up : Bool) (bound : ℕ) (node : Node DiskState) → IsInPlay up bound node → up ≡ true → IsAlone bound node
alone_up up bound node plays is = plays.alone is

alone_armed : (bound : ℕ) (before after : Node DiskState) → IsAlone bound before → kept_of after ≡ kept_of before → place_of after ≡ place_of before
    → (IsRunning bytes_of images_of before → IsRunning bytes_of images_of after)
    → ((undo : ℕ) → CanBeStarted undo bytes_of images_of (disk_of before) → CanBeStarted undo bytes_of images_of (disk_of after)) → IsAlone bound after
alone_armed bound before after alone kept place running starts = record {
  running = running alone.running;
  kept = subst (λ (p : Place). IsKeptWithin bound p (kept_of after)) (sym place) (subst (λ (k : NodeState). IsKeptWithin bound (place_of before) k) (sym kept) alone.kept);
  starts = starts undo_extents alone.starts;
}

pub armed : (up : Bool) (bound : ℕ) (before after : Node DiskState) → IsInPlay up bound before → kept_of after ≡ kept_of before → place_of after ≡ place_of before
    → (IsRunning bytes_of images_of before → IsRunning bytes_of images_of after)
    → ((undo : ℕ) → CanBeStarted undo bytes_of images_of (disk_of before) → CanBeStarted undo bytes_of images_of (disk_of after)) → IsInPlay up bound after
armed up bound before after plays kept place running starts = record {
  alone = λ is. alone_armed bound before after (plays.alone is) kept place running starts;
  starts = starts undo_extents plays.starts;
}

pub powered : (before after : DiskState) → after ≡ after_power_on before → CanBeStarted undo_extents bytes_of images_of before → CanBeStarted undo_extents bytes_of images_of after
powered before after is starts = subst (λ (d : DiskState). CanBeStarted undo_extents bytes_of images_of d) (sym is) (record { now = starts.now; crashed = starts.crashed })
