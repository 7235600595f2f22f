-- Commit SCNs are in order at each key of a node.
use Rattle.std.specs.Prelude.{◌≡◌, ℕ, ◌<◌, Some, None}
use Rattle.agreement.specs.Events.{Decided, exit, forced, site_of}
use Rattle.node_rules.specs.Data.{BranchId}
use Rattle.run_rules.specs.Facts.{records_at}
use Rattle.run_rules.specs.Lawful.{History, IsLawfulRun, facts_at}
use Rattle.run_base_laws.specs.RunEvents.{events_of}
use Rattle.run_key_laws.specs.CommitOrderLaws.{LeavesAfter}
use Rattle.tree_laws.specs.Forests.{forest_of}

-- The transaction of a branch that was never forced has a lower SCN than that of a branch that left after it on one of its keys, where
-- both were committed.
abbrev pub EveryCommitComesInOrder : Type 0
EveryCommitComesInOrder = (t : History) → IsLawfulRun t → (n : ℕ) (first second : BranchId) (k m : ℕ) → LeavesAfter (records_at (facts_at t) n) first second
    → forced (events_of t) first ≡ None → exit (events_of t) (site_of (forest_of t) first) ≡ Some (Decided k)
    → exit (events_of t) (site_of (forest_of t) second) ≡ Some (Decided m) → k < m
