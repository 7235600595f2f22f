-- What an undisturbed COMMIT does to no branch of its transaction: none below the root is dropped, and none says Abort. So its collect
-- is over when nothing is in flight, and its root is live no more. (Database Administrator's Guide, "Distributed Transactions
-- Concepts": prepare phase, prepared and unprepared responses.)
use Rattle.std.specs.Prelude.{◌≡◌, ◌≢◌, ℕ, Bool, Some, None}
use Rattle.node_rules.specs.Data.{Live}
use Rattle.node_rules.specs.Data.phases
use Rattle.node_rules.specs.NodeState.{NodeState, live_at}
use Rattle.run_rules.specs.Facts.{node_at}
use Rattle.run_rules.specs.Lawful.{History, IsLawfulRun, facts_at}
use Rattle.commit_laws.specs.StillLaws.{DroppedNone, AbortsNone}
use Rattle.run_claims.specs.Undisturbed.{Commit, Undisturbed}

-- In every lawful run no branch below the root of an undisturbed COMMIT was dropped.
abbrev pub UndisturbedDropsNone : Type 0
UndisturbedDropsNone = (t : History) → IsLawfulRun t → (c : Commit t.places t.commands t.trace) → Undisturbed t.places t.commands t.trace c → DroppedNone t c.root

-- Nor did any branch of its transaction say Abort.
abbrev pub UndisturbedAbortsNone : Type 0
UndisturbedAbortsNone = (t : History) → IsLawfulRun t → (c : Commit t.places t.commands t.trace) → Undisturbed t.places t.commands t.trace c → AbortsNone t c.root

-- So none of its branches collects any more.
abbrev pub UndisturbedCollectsAreOver : Type 0
UndisturbedCollectsAreOver = (t : History) → IsLawfulRun t → (c : Commit t.places t.commands t.trace) → Undisturbed t.places t.commands t.trace c
    → (n : ℕ) (k : NodeState) → node_at (facts_at t) n ≡ Some k → (l : Live) → live_at k l.me ≡ Some l → l.root ≡ c.root → (below : Bool) → l.phase ≢ phases.Collecting below

-- And its root is live no more.
abbrev pub UndisturbedRootsAreGone : Type 0
UndisturbedRootsAreGone = (t : History) → IsLawfulRun t → (c : Commit t.places t.commands t.trace) → Undisturbed t.places t.commands t.trace c
    → (k : NodeState) → node_at (facts_at t) c.root.node ≡ Some k → live_at k c.root ≡ None
