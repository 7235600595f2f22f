-- Which branches each node of a lawful run marks as changed.
pub use Rattle.node_undo_laws.specs.Changed.{changes_at, has_changes, IsMarked, ChangesAreOfLives}
use Rattle.run_base_laws.specs.NodeLaws.{OfEachNode}

-- at each node changes are kept of live branches alone, and a live branch is marked as changed exactly where it has changes
abbrev pub ChangesAreOfLive : Type 0
ChangesAreOfLive = OfEachNode (λ p rs k. ChangesAreOfLives k.lives k.owns)
