-- Whose ids a node deals with: its live branches, its rows, the branches that were opened there and the branches of its
-- records are its own.
use Rattle.std.specs.Prelude.{◌≡◌, ℕ, List, Some}
use Rattle.std.specs.List.{AllByRecursion}
use Rattle.node_rules.specs.Data.{BranchId, RedoRecord}
use Rattle.node_rules.specs.Data.records
use Rattle.node_rules.specs.NodeState.{NodeState}
use Rattle.run_rules.specs.Facts.{node_at, records_at}
use Rattle.run_rules.specs.Lawful.{History, IsLawfulRun, facts_at}

-- a record of a branch is of one that is so
abbrev pub IsRecordOf : (BranchId → Type 0) → RedoRecord → Type 0
IsRecordOf P (records.Sealed r) = P r.me
IsRecordOf P (records.Decided r) = P r.me
IsRecordOf P (records.Ended b d) = P b
IsRecordOf P (records.Forced b d given) = P b
IsRecordOf P (records.Met b d mixed) = P b
IsRecordOf P (records.Forgot b) = P b
IsRecordOf P (records.Hidden b) = P b
IsRecordOf P _ = Unit {0}

-- What a node keeps is of its own branches.
pub record AreOwn (n : ℕ) (rs : List RedoRecord) (k : NodeState) : Type 0 where
  pub lives : AllByRecursion (λ l. l.me.node ≡ n) k.lives
  pub rows : AllByRecursion (λ s. s.me.node ≡ n) k.stored.durable.kept
  pub opens : AllByRecursion (λ o. o.child.node ≡ n) k.opens
  pub records : AllByRecursion (IsRecordOf (λ b. b.node ≡ n)) rs

-- In every lawful run the branches of a node name it.
abbrev pub IdsNameTheirNode : Type 0
IdsNameTheirNode = (t : History) → IsLawfulRun t → (n : ℕ) (k : NodeState) → node_at (facts_at t) n ≡ Some k → AreOwn n (records_at (facts_at t) n) k
