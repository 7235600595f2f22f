-- What holds of each live branch with its calls.
use Rattle.std.specs.Prelude.{◌≡◌, List, Some, None}
use Rattle.node_rules.specs.Data.{BranchId, Live, Work}
use Rattle.node_rules.specs.Words.{item_at}
use Rattle.node_rules.specs.NodeState.{live_id, work_id, work_or}

-- the calls of a branch
abbrev pub works_of : List Work → BranchId → Work
works_of ws b = work_or b (item_at work_id ws b)

-- There are calls of live branches alone, and each live branch is so with its calls.
pub record EachLive (P : Live → Work → Type 0) (ls : List Live) (ws : List Work) : Type 0 where
  pub there : (b : BranchId) → item_at live_id ls b ≡ None → item_at work_id ws b ≡ None
  pub each : (b : BranchId) (l : Live) → item_at live_id ls b ≡ Some l → P l (works_of ws b)
