-- What comes to a node, as laws speak of it: a message from a branch to a branch, a call of a session, a decision.
use Rattle.std.specs.Prelude.{◌≡◌, ℕ, ◌≤◌, Some}
use Rattle.node_rules.specs.Data.{Stmt, BranchId, Decision, Kind, Input}
use Rattle.node_rules.specs.Data.decisions
use Rattle.node_rules.specs.Data.inputs
use Rattle.node_rules.specs.Data.kinds

-- client sessions are 1 to 64
abbrev pub IsSession : ℕ → Type 0
IsSession n = (1 ≤ n) × (n ≤ 64)

-- a call is of one of the sessions
abbrev pub IsFit : Input → Type 0
IsFit (inputs.Call n s) = IsSession n
IsFit _ = Unit {0}

-- A message came from a branch to a branch.
pub record Came (input : Input) (from to : BranchId) (kind : Kind) : Type 0 where
  pub scn : ℕ
  pub is : input ≡ inputs.Message (record { from = from; to = to; scn = scn; kind = kind })

-- a call of this session came
abbrev pub IsCall : Input → ℕ → Stmt → Type 0
IsCall input n s = input ≡ inputs.Call n (Some s)

-- A message that brings a decision to a branch.
pub data Brings (input : Input) (from to : BranchId) : Decision → Type 0 where
  Commit_came : (n : ℕ) → Came input from to (kinds.Committed n) → Brings input from to (decisions.Commit n)
  Rollback_came : Came input from to kinds.Rollback → Brings input from to decisions.Rollback
  Rolled_back_came : Came input from to kinds.RolledBack → Brings input from to decisions.Rollback
