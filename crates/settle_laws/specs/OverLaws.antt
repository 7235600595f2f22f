-- Who tells a rollback is live no more, and whom a row names off toward is beyond. (Database Administrator's Guide,
-- "Distributed Transactions Concepts": commit phase.)
use Rattle.std.specs.Prelude.{◌≡◌, ◌≢◌, ℕ, true, false, Bool, Some, None}
use Rattle.std.specs.List.{AllByRecursion}
use Rattle.commit_forget.specs.Beyond.{is_neighbor}
use Rattle.session_tree.specs.Live.{is_branch}
use Rattle.agreement.specs.Events.{Beyond, exit}
use Rattle.node_rules.specs.Data.{BranchId, Kind}
use Rattle.node_rules.specs.Data.kinds
use Rattle.node_rules.specs.NodeState.{NodeState}
use Rattle.run_rules.specs.Facts.{node_at}
use Rattle.run_rules.specs.Lawful.{History, IsLawfulRun, facts_at}
use Rattle.run_base_laws.specs.RunEvents.{events_of}
use Rattle.tree_laws.specs.Forests.{forest_of}

-- whether a message tells a rollback
abbrev pub is_rollback : Kind → Bool
is_rollback kinds.Rollback = true
is_rollback kinds.RolledBack = true
is_rollback _ = false

-- In every lawful run each branch that told a rollback, to its parent, a child or one that asked, has left.
abbrev pub RollersHaveLeft : Type 0
RollersHaveLeft = (t : History) → IsLawfulRun t → AllByRecursion (λ x. is_rollback x.msg.kind ≡ true → exit (events_of t) x.msg.from ≢ None) (facts_at t).net.packets

-- In every lawful run each neighbour that a row names off toward is beyond, by the forest of the run.
abbrev pub NamedOffAreBeyond : Type 0
NamedOffAreBeyond = (t : History) → IsLawfulRun t → (n : ℕ) (k : NodeState) → node_at (facts_at t) n ≡ Some k
    → AllByRecursion (λ s. (z : BranchId) → is_neighbor s z ≡ true → is_branch z s.toward ≡ false → Beyond (forest_of t) z s.me) k.stored.durable.kept
