-- Which record may stand next beside the branches in doubt: it changes no key that one of them holds, and after it their undo fits
-- the node's extents. (Database Administrator's Guide, "Distributed Transactions Concepts": in-doubt transactions.)
use Rattle.std.specs.Prelude.{ℕ, ◌≤◌, List, [], ◌∷◌}
use Rattle.row_store.specs.Store.{doubt_extents}
use Rattle.node_rules.specs.Data.{RedoRecord}
use Rattle.node_rules.specs.NodeState.{Stored}
use Rattle.node_rules.specs.Records.{doubts_after, applied}
use Rattle.node_undo_laws.specs.Keys.{ChangesFreeKeys}

-- One record, at a node of so many undo extents.
pub record FitsDoubts (undo : ℕ) (s : Stored) (r : RedoRecord) : Type 0 where
  pub free : ChangesFreeKeys s.doubts r
  pub room : doubt_extents (doubts_after s.rows s.doubts r) ≤ undo

-- records, one after the other
unfoldable pub AllFitDoubts : ℕ → Stored → List RedoRecord → Type 0
AllFitDoubts undo s [] = Unit {0}
AllFitDoubts undo s (r ∷ rs) = FitsDoubts undo s r × AllFitDoubts undo (applied s r) rs
