-- Who holds the keys of each node of a lawful run. (Database Administrator's Guide, "Distributed Transactions Concepts": locks of
-- in-doubt transactions.)
pub use Rattle.node_undo_laws.specs.Keys.{passes, is_written_by, is_doubted_by, is_held, AreHeld, KeysHeld}
use Rattle.run_base_laws.specs.NodeLaws.{OfEachNode}

-- at each node live branches hold the keys that they have changed, and branches in doubt those of their changes
abbrev pub KeysAreHeld : Type 0
KeysAreHeld = OfEachNode (λ p rs k. KeysHeld k.locks k.owns k.stored.doubts)
