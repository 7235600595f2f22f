-- What a ready node gives the calls of this crate: each of their conditions.
use Rattle.std.specs.Prelude.{◌≡◌, ℕ, ◌+◌, ◌<◌, ◌≤◌, ◌^◌, length, Option, None}
use Rattle.dtx_values.specs.Limits.{link_limit, node_limit}
use Rattle.tran_ids.specs.declared.branch.BranchId.{BranchId}
use Rattle.tran_ids.specs.Listed.{item_at}
use Rattle.node_rules.specs.Data.{Stmt}
use Rattle.node_rules.specs.NodeState.{live_id}
use Rattle.node_rules.specs.Inputs.{IsSession}
use Rattle.node_rules.specs.Sessions.{session_at}
use Rattle.node_rules.specs.Calls.{next_child}
use Rattle.node_rules.specs.Client.{new_root}
use Rattle.node_ready_laws.specs.Shapes.{count_limit}
use Rattle.node_ready_laws.specs.Ready.{IsReady, IsWithin}
use Rattle.node_memory.specs.declared.memory.Memory.{Memory}
use Rattle.node_memory.specs.Parts.{kept_in}
use Rattle.node_calls.specs.Handled.{HasFewWith, EdgesHaveNumbers, BranchHasRoom, TakesStatement}

-- A node of few nodes and links that is ready for its next turn, and the numbers that it has given out are no greater than this
-- one, and fit.
pub record IsReadyUpTo (n : ℕ) (m : Memory) : Type 0 where
  pub ready : IsReady m.place (kept_in m)
  pub within : IsWithin n (kept_in m)
  pub low : n + 65 < 2 ^ 32
  pub links : m.place.links ≤ link_limit
  pub nodes : length m.place.names ≤ node_limit

-- a statement may come to any branch of it
abbrev pub StatementsMayCome : Type 0
StatementsMayCome = (n : ℕ) (m : Memory) → IsReadyUpTo n m → (b : BranchId) (s : Stmt) → TakesStatement m b s

-- a transaction may begin in any session
abbrev pub TransactionsMayBegin : Type 0
TransactionsMayBegin = (n : ℕ) (m : Memory) → IsReadyUpTo n m → (session : ℕ) → IsSession session
    → ((session_at m.sessions session).seq + 1 < 2 ^ 32) × (item_at live_id m.lives (new_root m.place (kept_in m) session) ≡ None)

-- a branch may be opened
abbrev pub BranchesMayOpen : Type 0
BranchesMayOpen = (n : ℕ) (m : Memory) → IsReadyUpTo n m → (65 + length m.opens < 2 ^ 32) × (item_at live_id m.lives (next_child m.place (kept_in m)) ≡ None)

-- an Opened may come to any branch
abbrev pub OpenedMayCome : Type 0
OpenedMayCome = (n : ℕ) (m : Memory) → IsReadyUpTo n m → (b : BranchId) → BranchHasRoom m b × EdgesHaveNumbers m b

-- so may a Reply that tells of few branches
abbrev pub RepliesMayCome : Type 0
RepliesMayCome = (n : ℕ) (m : Memory) → IsReadyUpTo n m → (b : BranchId) (weight : Option ℕ) (told : ℕ) → told ≤ count_limit → HasFewWith m b weight told
