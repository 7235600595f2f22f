-- What live branches of a session tree know of one another while no statement is under way: each child weighs what its parent holds
-- of it.
use Rattle.std.specs.Prelude.{◌≡◌, ℕ, ◌+◌, ◌≤◌, List, length, Option, Some, None}
use Rattle.dtx_values.specs.Limits.{depth_limit}
use Rattle.session_tree.specs.Tree.{weight}
use Rattle.node_rules.specs.Data.{BranchId, Edge}
use Rattle.node_rules.specs.Words.{numbered}
use Rattle.node_rules.specs.NodeState.{NodeState, Branch, branch_at}
use Rattle.run_rules.specs.Facts.{node_at}
use Rattle.run_rules.specs.Births.{Born, births_of}
use Rattle.run_rules.specs.Lawful.{History, IsLawfulRun, facts_at}
use Rattle.run_base_laws.specs.BirthLaws.{Began}
use Rattle.run_base_laws.specs.InTurnLaws.{said_in, newest_exec, call_at, NeedsNoRollback}

-- In every lawful run a live branch has called each of its children.
abbrev pub EdgesWereCalled : Type 0
EdgesWereCalled = (t : History) → IsLawfulRun t → (n : ℕ) (k : NodeState) → node_at (facts_at t) n ≡ Some k → (x : Branch) → branch_at k x.live.me ≡ Some x
    → (i : ℕ) (e : Edge) → numbered x.live.edges i ≡ Some e → 1 ≤ call_at x.work i

-- A live child weighs what its parent holds of it, waits for nothing, and took the last call.
pub record ChildRests (t : History) (x : Branch) (e : Edge) (y : Branch) : Type 0 where
  pub weighs : e.weight ≡ weight y.live
  pub waits : y.work.going ≡ None
  pub last : newest_exec (said_in (facts_at t)) x.live.me y.live.me ≡ y.work.came.last_call

-- In every lawful run each live child does so of a live branch that waits for nothing, unless that is a root that can only roll back.
abbrev pub ChildrenWeigh : Type 0
ChildrenWeigh = (t : History) → IsLawfulRun t → (n : ℕ) (k : NodeState) → node_at (facts_at t) n ≡ Some k → (x : Branch) → branch_at k x.live.me ≡ Some x → NeedsNoRollback k x.live → x.work.going ≡ None
    → (i : ℕ) (e : Edge) → numbered x.live.edges i ≡ Some e → (m : ℕ) (j : NodeState) → node_at (facts_at t) m ≡ Some j → (y : Branch) → branch_at j y.live.me ≡ Some y → y.live.me ≡ e.peer
    → ChildRests t x e y

-- In every lawful run a live branch with a child stands above the greatest depth of a tree.
abbrev pub ParentsAreShallow : Type 0
ParentsAreShallow = (t : History) → IsLawfulRun t → (n : ℕ) (k : NodeState) → node_at (facts_at t) n ≡ Some k → (x : Branch) → branch_at k x.live.me ≡ Some x → 1 ≤ length x.live.edges → x.live.depth + 1 ≤ depth_limit

-- A branch began with this commit point strength, and where its transaction is READ ONLY with this SCN.
pub record BeganWith (bs : List Born) (b : BranchId) (strength : ℕ) (read_at : Option ℕ) : Type 0 where
  pub born : Born
  pub began : Began bs born
  pub is_me : born.me ≡ b
  pub is_strength : born.strength ≡ strength
  pub is_read_at : born.read_at ≡ read_at

-- In every lawful run a live branch has the commit point strength that its node had as it began, and reads at the SCN of its transaction.
abbrev pub LivesHaveStrength : Type 0
LivesHaveStrength = (t : History) → IsLawfulRun t → (n : ℕ) (k : NodeState) → node_at (facts_at t) n ≡ Some k → (x : Branch) → branch_at k x.live.me ≡ Some x
    → BeganWith (births_of t) x.live.me x.live.strength x.live.read_at
