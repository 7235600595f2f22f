-- What an undisturbed COMMIT has come to when nothing is in flight: all its messages came, and its collect is over.
use Rattle.std.specs.Prelude.{◌≡◌, ◌≢◌, ℕ, Bool, Some, None}
use Rattle.std.specs.List.{AllByRecursion}
use Rattle.agreement.specs.Events.{Dropped, exit}
use Rattle.node_rules.specs.Data.{BranchId, Live}
use Rattle.node_rules.specs.Data.kinds
use Rattle.node_rules.specs.Data.phases
use Rattle.node_rules.specs.NodeState.{NodeState, live_at}
use Rattle.run_rules.specs.Births.{Born, births_of}
use Rattle.run_base_laws.specs.BirthLaws.{Began}
use Rattle.run_rules.specs.Data.fates
use Rattle.run_rules.specs.Facts.{node_at}
use Rattle.run_rules.specs.Lawful.{History, IsLawfulRun, facts_at}
use Rattle.run_base_laws.specs.RunEvents.{events_of}
use Rattle.run_claims.specs.Undisturbed.{Commit, Undisturbed}

-- In every lawful run each message of the transaction of an undisturbed COMMIT was delivered.
abbrev pub UndisturbedMessagesCome : Type 0
UndisturbedMessagesCome = (t : History) → IsLawfulRun t → (c : Commit t.places t.commands t.trace) → Undisturbed t.places t.commands t.trace c
    → AllByRecursion (λ x. (b : Born) → Began (births_of t) b → b.me ≡ x.msg.from → b.root ≡ c.root → x.fate ≡ fates.Delivered) (facts_at t).net.packets

-- no branch of a transaction below its root was dropped
abbrev pub DroppedNone : History → BranchId → Type 0
DroppedNone t root = (b : Born) → Began (births_of t) b → b.root ≡ root → b.parent ≢ None → exit (events_of t) b.me ≢ Some Dropped

-- no branch of a transaction said Abort
abbrev pub AbortsNone : History → BranchId → Type 0
AbortsNone t root = AllByRecursion (λ x. (b : Born) → Began (births_of t) b → b.me ≡ x.msg.from → b.root ≡ root → x.msg.kind ≢ kinds.Abort) (facts_at t).net.packets

-- So none of its branches collects any more, where none below the root was dropped.
abbrev pub UndisturbedCollectsEnd : Type 0
UndisturbedCollectsEnd = (t : History) → IsLawfulRun t → (c : Commit t.places t.commands t.trace) → Undisturbed t.places t.commands t.trace c → DroppedNone t c.root
    → (n : ℕ) (k : NodeState) → node_at (facts_at t) n ≡ Some k → (l : Live) → live_at k l.me ≡ Some l → l.root ≡ c.root → (below : Bool) → l.phase ≢ phases.Collecting below

-- And its root is live no more, where none below it was dropped.
abbrev pub UndisturbedRootsLeave : Type 0
UndisturbedRootsLeave = (t : History) → IsLawfulRun t → (c : Commit t.places t.commands t.trace) → Undisturbed t.places t.commands t.trace c → DroppedNone t c.root
    → (k : NodeState) → node_at (facts_at t) c.root.node ≡ Some k → live_at k c.root ≡ None
