-- How many rows DBA_2PC_PENDING has over all nodes of a run.
use Rattle.std.specs.Prelude.{ℕ, length, sum_by, Option, Some, None}
use Rattle.pending_view.specs.Views.{pending_rows}
use Rattle.node_rules.specs.NodeState.{NodeState}
use Rattle.run_rules.specs.Facts.{Facts}
use Rattle.world.specs.declared.slot.NodeSlot.{NodeSlot}
use Rattle.world.specs.NodeSlot.{site_kept}

-- at a node: none where it is down
abbrev pub pending_of : Option NodeState → ℕ
pending_of None = 0
pending_of (Some k) = length (pending_rows k.stored.durable.kept k.lives)

-- at a node of the world
abbrev pub pending_at : NodeSlot → ℕ
pending_at slot = pending_of (site_kept slot)

-- at all nodes, by the facts
abbrev pub pending_in : Facts → ℕ
pending_in f = sum_by pending_of f.nodes
