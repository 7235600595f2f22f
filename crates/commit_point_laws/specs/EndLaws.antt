-- Where the walk of an undisturbed COMMIT has come to when nothing is in flight: no branch is Ready any more, each sealed
-- branch has as its neighbour on the way to the commit point site one that is sealed too, or the site, which has decided;
-- or no branch had changes. (Database Administrator's Guide, "Distributed Transactions Concepts": commit point site,
-- commit phase, read-only optimization.)
use Rattle.std.specs.Prelude.{◌≡◌, ◌≢◌, ◌⊎◌, ℕ, true, List, Some, None}
use Rattle.std.specs.List.{AllByRecursion}
use Rattle.agreement.specs.Events.{Forest, Event, Sealed, Decided, Quiet, Dropped, exit}
use Rattle.node_rules.specs.Data.{BranchId, Change, Live}
use Rattle.node_rules.specs.Data.phases
use Rattle.node_rules.specs.NodeState.{NodeState, live_at}
use Rattle.run_rules.specs.Book.{At}
use Rattle.run_rules.specs.Data.{Entry}
use Rattle.run_rules.specs.Data.entries
use Rattle.run_rules.specs.Facts.{node_at}
use Rattle.run_rules.specs.Lawful.{History, IsLawfulRun, facts_at}
use Rattle.run_base_laws.specs.RunEvents.{events_of}
use Rattle.tree_laws.specs.Forests.{forest_of}
use Rattle.commit_laws.specs.StillLaws.{DroppedNone}
use Rattle.run_claims.specs.Undisturbed.{Commit, Undisturbed}

-- In every lawful run no branch of an undisturbed COMMIT is Ready, where none below its root was dropped.
abbrev pub UndisturbedLeaveReady : Type 0
UndisturbedLeaveReady = (t : History) → IsLawfulRun t → (c : Commit t.places t.commands t.trace) → Undisturbed t.places t.commands t.trace c → DroppedNone t c.root
    → (n : ℕ) (k : NodeState) → node_at (facts_at t) n ≡ Some k → (l : Live) → live_at k l.me ≡ Some l → l.root ≡ c.root → l.phase ≢ phases.Ready

-- So each neighbour on the way to the site of a sealed branch is sealed or has decided.
abbrev pub UndisturbedTowardsLeave : Type 0
UndisturbedTowardsLeave = (t : History) → IsLawfulRun t → (c : Commit t.places t.commands t.trace) → Undisturbed t.places t.commands t.trace c → DroppedNone t c.root
    → (b : BranchId) (n : ℕ) → exit (events_of t) b ≡ Some (Sealed n) → (forest_of t).root b ≡ c.root
    → ((m : ℕ) × (exit (events_of t) ((forest_of t).toward b) ≡ Some (Sealed m))) ⊎ ((m : ℕ) × (exit (events_of t) ((forest_of t).toward b) ≡ Some (Decided m)))

-- The site of a transaction, which is a branch of it, has decided; or its root is gone, and each other branch that was asked is gone without changes.
pub data WalkEnd (t : History) (root : BranchId) : Type 0 where
  Has_decided : (m : ℕ) → exit (events_of t) ((forest_of t).site root) ≡ Some (Decided m) → (forest_of t).root ((forest_of t).site root) ≡ root → WalkEnd t root
  Has_no_changes : exit (events_of t) root ≡ Some Dropped → ((b : BranchId) → (forest_of t).member b ≡ true → (forest_of t).root b ≡ root → b ≢ root → exit (events_of t) b ≡ Some Quiet) → WalkEnd t root

-- So the walk of an undisturbed COMMIT has ended.
abbrev pub UndisturbedWalksEnd : Type 0
UndisturbedWalksEnd = (t : History) → IsLawfulRun t → (c : Commit t.places t.commands t.trace) → Undisturbed t.places t.commands t.trace c → DroppedNone t c.root → WalkEnd t c.root

-- And each branch of its tree that was asked to prepare is live no more.
abbrev pub UndisturbedAskedLeave : Type 0
UndisturbedAskedLeave = (t : History) → IsLawfulRun t → (c : Commit t.places t.commands t.trace) → Undisturbed t.places t.commands t.trace c → DroppedNone t c.root
    → (b : BranchId) → (forest_of t).member b ≡ true → (forest_of t).root b ≡ c.root → exit (events_of t) b ≢ None

-- ---- in the book

-- a seal in the book, and a decision, are of a branch that left so, of that transaction
abbrev pub EntryIs : Forest → List Event → Entry → Type 0
EntryIs p e (entries.Sealed b g cs scn) = (exit e b ≡ Some (Sealed scn)) × (p.root b ≡ g)
EntryIs p e (entries.Decided b g cs scn) = (exit e b ≡ Some (Decided scn)) × (p.root b ≡ g)
EntryIs p e _ = Unit {0}

-- In every lawful run they are.
abbrev pub EntriesAreExits : Type 0
EntriesAreExits = (t : History) → IsLawfulRun t → AllByRecursion (EntryIs (forest_of t) (events_of t)) (facts_at t).book

-- So where a branch of an undisturbed COMMIT is sealed by the book, the book has the decision of its transaction.
abbrev pub UndisturbedSealsAreDecided : Type 0
UndisturbedSealsAreDecided = (t : History) → IsLawfulRun t → (c : Commit t.places t.commands t.trace) → Undisturbed t.places t.commands t.trace c → DroppedNone t c.root
    → (b : BranchId) (cs : List Change) (scn i : ℕ) → At (facts_at t).book i (entries.Sealed b c.root cs scn)
    → (d : BranchId) × (ds : List Change) × (n j : ℕ) × At (facts_at t).book j (entries.Decided d c.root ds n)
