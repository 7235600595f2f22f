-- How long a node keeps the row of a sealed branch: from its seal on, whether it is hidden or not, until the branch ends with a
-- rollback, or meets one or forgets; a mixed one stays. (Database Administrator's Guide, "Managing Distributed Transactions": pending
-- transactions, mixed outcomes; PL/SQL Packages and Types Reference: DBMS_TRANSACTION.)
use Rattle.std.specs.Prelude.{◌≡◌, ℕ, ◌&&◌, ◌||◌, not, Bool, true, false, Some}
use Rattle.std.specs.List.{list_any}
use Rattle.redo_record.specs.Kept.{stands_at}
use Rattle.node_rules.specs.Data.{BranchId, RedoRecord}
use Rattle.node_rules.specs.Data.decisions
use Rattle.node_rules.specs.Data.records
use Rattle.node_rules.specs.NodeState.{NodeState}
use Rattle.node_rules.specs.Words.{same}
use Rattle.run_rules.specs.Book.{is_sealed_of, stands}
use Rattle.run_rules.specs.Data.{Entry}
use Rattle.run_rules.specs.Data.entries
use Rattle.run_rules.specs.Each.{facts_upto}
use Rattle.run_rules.specs.Facts.{Facts, node_at, records_at}
use Rattle.run_rules.specs.Lawful.{History, IsLawfulRun}

-- whether by this entry a branch ended with a rollback
abbrev pub is_rollback_end_of : BranchId → Entry → Bool
is_rollback_end_of b (entries.Ended c decisions.Rollback) = same c b
is_rollback_end_of b _ = false

-- whether by this entry a forced branch met a rollback
abbrev pub is_met_rollback_of : BranchId → Entry → Bool
is_met_rollback_of b (entries.Met c decisions.Rollback mixed) = same c b
is_met_rollback_of b _ = false

-- whether by this entry its outcome is mixed
abbrev pub is_mixed_of : BranchId → Entry → Bool
is_mixed_of b (entries.Met c d mixed) = same c b && mixed
is_mixed_of b _ = false

-- whether a record says that a branch forgot
abbrev pub is_forgotten_of : BranchId → RedoRecord → Bool
is_forgotten_of b (records.Forgot c) = same c b
is_forgotten_of b _ = false

-- The row of a sealed branch may go once the branch has ended with a rollback; or, unless its outcome is mixed, once it has met one
-- or has forgotten.
abbrev pub row_may_go : Facts → BranchId → Bool
row_may_go f b =
    stands (is_rollback_end_of b) f.book || (not (stands (is_mixed_of b) f.book) && (stands (is_met_rollback_of b) f.book || list_any (is_forgotten_of b) (records_at f b.node)))

-- whether a node keeps a row of a branch, hidden or not
abbrev pub keeps_row : NodeState → BranchId → Bool
keeps_row k b = list_any (stands_at b) k.stored.durable.kept

-- At each moment at which its node is up, a sealed branch has a row there exactly as long as the row may not go.
abbrev pub SealedRowsStay : History → Type 0
SealedRowsStay t = (i : ℕ) (b : BranchId) (k : NodeState) → node_at (facts_upto t i) b.node ≡ Some k → stands (is_sealed_of b) (facts_upto t i).book ≡ true
    → keeps_row k b ≡ not (row_may_go (facts_upto t i) b)

-- In every lawful run it is so.
abbrev pub EverySealedRowStays : Type 0
EverySealedRowStays = (t : History) → IsLawfulRun t → SealedRowsStay t
