-- No branch of an undisturbed COMMIT's transaction is a stray: each that began over a link was opened once, is a child of its
-- parent, and was asked to prepare. (Database Administrator's Guide, "Distributed Transactions Concepts": session trees,
-- prepare phase.)
use Rattle.std.specs.Prelude.{◌≡◌, ◌≢◌, ℕ, ◌+◌, ◌≤◌, ◌==◌, ◌&&◌, Bool, true, false, if◌then◌else◌, List, [], ◌∷◌, Some}
use Rattle.node_rules.specs.Data.{BranchId, Kind, Live, Post}
use Rattle.node_rules.specs.Data.kinds
use Rattle.node_rules.specs.Data.phases
use Rattle.node_rules.specs.NodeState.{NodeState, live_at}
use Rattle.node_rules.specs.Words.{same}
use Rattle.run_rules.specs.Births.{Born, births_of}
use Rattle.run_base_laws.specs.BirthLaws.{Began}
use Rattle.run_rules.specs.Facts.{node_at}
use Rattle.run_base_laws.specs.FreezeLaws.{was_asked}
use Rattle.run_base_laws.specs.InTurnLaws.{said_in}
use Rattle.run_rules.specs.Lawful.{History, IsLawfulRun, facts_at}
use Rattle.commit_laws.specs.StillLaws.{DroppedNone}
use Rattle.run_claims.specs.Undisturbed.{Commit, Undisturbed, HasNotStopped}

-- whether a message is the Open of an edge
abbrev pub is_open_of : ℕ → Kind → Bool
is_open_of i (kinds.Open edge root depth read_at) = edge == i
is_open_of i _ = false

-- how many Opens of an edge a branch sent
abbrev pub count_opens : List Post → BranchId → ℕ → ℕ
count_opens [] p i = 0
count_opens (m ∷ ms) p i = if same m.from p && is_open_of i m.kind then 1 + count_opens ms p i else count_opens ms p i

-- In every lawful run a branch sent the Open of an edge once at most. Edges are numbered from 1.
abbrev pub OpensAreSentOnce : Type 0
OpensAreSentOnce = (t : History) → IsLawfulRun t → (p : BranchId) (i : ℕ) → (count_opens (said_in (facts_at t)) p i ≤ 1) × (count_opens (said_in (facts_at t)) p 0 ≡ 0)

-- In every lawful run two branches that began over one edge of a parent are one, where the node of neither has stopped since.
abbrev pub EdgesHaveOneChild : Type 0
EdgesHaveOneChild = (t : History) → IsLawfulRun t → (x y : Born) → Began (births_of t) x → Began (births_of t) y → (p : BranchId) → x.parent ≡ Some p → y.parent ≡ Some p → x.edge ≡ y.edge
    → HasNotStopped (facts_at t) x.me → HasNotStopped (facts_at t) y.me → x.me ≡ y.me

-- In every lawful run each branch of the transaction of an undisturbed COMMIT was asked by its parent, where none below the
-- root was dropped.
abbrev pub UndisturbedBranchesAreAsked : Type 0
UndisturbedBranchesAreAsked = (t : History) → IsLawfulRun t → (c : Commit t.places t.commands t.trace) → Undisturbed t.places t.commands t.trace c → DroppedNone t c.root
    → (x : Born) → Began (births_of t) x → x.root ≡ c.root → (p : BranchId) → x.parent ≡ Some p → was_asked (said_in (facts_at t)) p x.me ≡ true

-- So none of them is live any more, where none is Ready.
abbrev pub UndisturbedBranchesLeave : Type 0
UndisturbedBranchesLeave = (t : History) → IsLawfulRun t → (c : Commit t.places t.commands t.trace) → Undisturbed t.places t.commands t.trace c → DroppedNone t c.root
    → ((n : ℕ) (k : NodeState) → node_at (facts_at t) n ≡ Some k → (l : Live) → live_at k l.me ≡ Some l → l.root ≡ c.root → l.phase ≢ phases.Ready)
    → (n : ℕ) (k : NodeState) → node_at (facts_at t) n ≡ Some k → (l : Live) → live_at k l.me ≡ Some l → l.root ≢ c.root
