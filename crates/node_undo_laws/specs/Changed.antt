-- What a node keeps of changes that are not committed, and which branches it marks as changed.
use Rattle.std.specs.Prelude.{◌≡◌, Bool, List, length, nat_lt, Some, None}
use Rattle.node_rules.specs.Data.{BranchId, Change, Live, Owned}
use Rattle.node_rules.specs.Words.{item_at}
use Rattle.node_rules.specs.Rows.{changes_of}
use Rattle.node_rules.specs.NodeState.{live_id, own_id, sets_at}

-- the changes of a branch
abbrev pub changes_at : List Owned → BranchId → List Change
changes_at owns b = changes_of (sets_at owns b)

-- whether there is one
abbrev pub has_changes : List Change → Bool
has_changes cs = nat_lt 0 (length cs)

-- a live branch is marked as changed exactly where it has changes
abbrev pub IsMarked : List Owned → Live → Type 0
IsMarked owns l = l.changed ≡ has_changes (changes_at owns l.me)

-- Changes are kept of live branches alone, and each live branch is marked so.
pub record ChangesAreOfLives (lives : List Live) (owns : List Owned) : Type 0 where
  pub live : (b : BranchId) → item_at live_id lives b ≡ None → item_at own_id owns b ≡ None
  pub marked : (b : BranchId) (l : Live) → item_at live_id lives b ≡ Some l → IsMarked owns l
