-- What a node keeps of undo between turns: for each live branch and each branch in doubt the rows from before its changes, within
-- the node's undo extents. (Database Administrator's Guide, "Managing Undo".)
use Rattle.std.specs.Prelude.{◌≡◌, ℕ, ◌≤◌, List, length}
use Rattle.std.specs.List.{AllByRecursion}
use Rattle.row_store.specs.Store.{used_extents}
use Rattle.row_store.specs.Undone.{RowsAreInOrder}
use Rattle.node_rules.specs.Data.{BranchId, ChangeSet, Owned, Doubt, Place}
use Rattle.node_rules.specs.Rows.{TableRows, changes_of, undo_of, undo_over}
use Rattle.node_rules.specs.NodeState.{NodeState, sets_at}
use Rattle.node_undo_laws.specs.Changed.{ChangesAreOfLives}
use Rattle.node_undo_laws.specs.Keys.{KeysHeld}

-- the undo of a branch's statements is the rows from before all their changes
abbrev pub UndoIsOf : List TableRows → List ChangeSet → Type 0
UndoIsOf rows sets = undo_of sets ≡ undo_over rows (changes_of sets)

-- a set has the row from before each of its changes
abbrev pub IsEven : ChangeSet → Type 0
IsEven s = length s.undo ≡ length s.changes

-- and so is that of a branch in doubt
abbrev pub UndoIsHeld : List TableRows → Doubt → Type 0
UndoIsHeld rows d = d.undo ≡ undo_over rows d.changes

-- Rows in the order of their keys, the undo of live branches and of branches in doubt, which is that of their changes over these rows,
-- and no more of it than there are extents for.
pub record UndoStands (undo : ℕ) (rows : List TableRows) (owns : List Owned) (doubts : List Doubt) : Type 0 where
  pub ordered : RowsAreInOrder rows
  pub own : (b : BranchId) → UndoIsOf rows (sets_at owns b)
  pub held_back : AllByRecursion (UndoIsHeld rows) doubts
  pub room : used_extents owns doubts ≤ undo

-- A node that keeps its undo: changes are of live branches and of branches in doubt, each of which holds the keys that it changed, and
-- the undo of these changes stands within the node's extents; and each statement has its own undo, which goes where the statement is taken back.
pub record HasUndo (p : Place) (k : NodeState) : Type 0 where
  pub lives : ChangesAreOfLives k.lives k.owns
  pub keys : KeysHeld k.locks k.owns k.stored.doubts
  pub stands : UndoStands p.undo k.stored.rows k.owns k.stored.doubts
  pub even : (b : BranchId) → AllByRecursion IsEven (sets_at k.owns b)
