-- What Committed has done that was delivered: the sealed branch to which its neighbour on the way to the commit point site
-- sent it has learned the commit, and is in doubt no more. (Database Administrator's Guide, "Distributed Transactions
-- Concepts": commit phase.)
use Rattle.std.specs.Prelude.{◌≡◌, ◌≢◌, ℕ, ◌⊎◌, Some, None}
use Rattle.std.specs.List.{AllByRecursion}
use Rattle.agreement.specs.Events.{Sealed, exit, learned}
use Rattle.node_rules.specs.Data.{BranchId, Kind, KeptRow}
use Rattle.node_rules.specs.Data.decisions
use Rattle.node_rules.specs.Data.kinds
use Rattle.node_rules.specs.NodeState.{NodeState, kept_row_at}
use Rattle.run_rules.specs.Data.fates
use Rattle.run_rules.specs.Facts.{node_at}
use Rattle.run_rules.specs.Lawful.{History, IsLawfulRun, facts_at}
use Rattle.run_base_laws.specs.RunEvents.{events_of}
use Rattle.tree_laws.specs.Forests.{forest_of}
use Rattle.commit_laws.specs.WaitLaws.{NodeHasStopped}

-- a sealed branch to which toward told a commit has learned it, or its node has stopped since it began
abbrev pub HasHeard : History → BranchId → BranchId → Kind → Type 0
HasHeard t from to (kinds.Committed n) = (forest_of t).toward to ≡ from → (m : ℕ) → exit (events_of t) to ≡ Some (Sealed m)
    → (learned (events_of t) to ≡ Some (decisions.Commit n)) ⊎ NodeHasStopped (facts_at t) to
HasHeard t from to _ = Unit {0}

-- In every lawful run it is so of each Committed that was delivered.
abbrev pub CommitsAreHeard : Type 0
CommitsAreHeard = (t : History) → IsLawfulRun t → AllByRecursion (λ x. x.fate ≡ fates.Delivered → HasHeard t x.msg.from x.msg.to x.msg.kind) (facts_at t).net.packets

-- a branch whose row has the sender as toward knows its decision by that row, or its node has stopped since it began
abbrev pub RowHasHeard : History → BranchId → BranchId → Kind → Type 0
RowHasHeard t from to (kinds.Committed n) = (k : NodeState) (s : KeptRow) → node_at (facts_at t) to.node ≡ Some k → kept_row_at k to ≡ Some s → s.toward ≡ Some from
    → (s.decision ≢ None) ⊎ NodeHasStopped (facts_at t) to
RowHasHeard t from to _ = Unit {0}

-- So in every lawful run it is so of each row.
abbrev pub RowsHaveHeard : Type 0
RowsHaveHeard = (t : History) → IsLawfulRun t → AllByRecursion (λ x. x.fate ≡ fates.Delivered → RowHasHeard t x.msg.from x.msg.to x.msg.kind) (facts_at t).net.packets
