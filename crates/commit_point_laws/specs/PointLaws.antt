-- The walk to the commit point site by CommitPoint: it goes to a branch that said Ready and has a weight, which then seals
-- or decides; and a branch that becomes sealed on the walk passes it on. (Database Administrator's Guide, "Distributed
-- Transactions Concepts": commit point site, commit phase.)
use Rattle.std.specs.Prelude.{◌≡◌, ◌≢◌, ◌⊎◌, ℕ, Bool, true, false, Some, None}
use Rattle.std.specs.List.{AllByRecursion}
use Rattle.session_tree.specs.Tree.{weight}
use Rattle.agreement.specs.Events.{Sealed, Quiet, exit}
use Rattle.node_rules.specs.Data.{BranchId, Kind, Live}
use Rattle.node_rules.specs.Data.kinds
use Rattle.node_rules.specs.Data.phases
use Rattle.node_rules.specs.Data.votes
use Rattle.node_rules.specs.NodeState.{NodeState, live_at}
use Rattle.node_rules.specs.Points.{is_ready}
use Rattle.run_rules.specs.Data.fates
use Rattle.run_rules.specs.Facts.{Facts, node_at}
use Rattle.run_base_laws.specs.InTurnLaws.{said_in}
use Rattle.run_rules.specs.Lawful.{History, IsLawfulRun, facts_at}
use Rattle.run_base_laws.specs.RunEvents.{events_of}
use Rattle.run_branch_laws.specs.WalkLaws.{is_below, was_sent}
use Rattle.commit_laws.specs.WaitLaws.{NodeHasStopped}

-- whether a message is CommitPoint
abbrev pub is_point : Kind → Bool
is_point kinds.CommitPoint = true
is_point _ = false

-- In every lawful run each child whose answer Ready a live branch holds has said Ready to it.
abbrev pub ReadyWereSaid : Type 0
ReadyWereSaid = (t : History) → IsLawfulRun t → (n : ℕ) (k : NodeState) → node_at (facts_at t) n ≡ Some k → (l : Live) → live_at k l.me ≡ Some l
    → AllByRecursion (λ e. e.vote ≡ votes.Ready → was_sent is_ready (said_in (facts_at t)) e.peer l.me ≡ true) l.edges

-- In every lawful run a live branch that said Ready still is.
abbrev pub ReadyStay : Type 0
ReadyStay = (t : History) → IsLawfulRun t → (n : ℕ) (k : NodeState) → node_at (facts_at t) n ≡ Some k → (l : Live) → live_at k l.me ≡ Some l
    → (q : BranchId) → was_sent is_ready (said_in (facts_at t)) l.me q ≡ true → l.phase ≡ phases.Ready

-- In every lawful run a live branch that was told that the walk comes there has a weight.
abbrev pub WalksFindWeights : Type 0
WalksFindWeights = (t : History) → IsLawfulRun t → (n : ℕ) (k : NodeState) → node_at (facts_at t) n ≡ Some k → (l : Live) → live_at k l.me ≡ Some l
    → (q : BranchId) → was_sent is_below (said_in (facts_at t)) q l.me ≡ true → weight l ≢ None

-- In every lawful run a branch to which another sent CommitPoint has said Ready to that one, or it has left.
abbrev pub PointsFindReady : Type 0
PointsFindReady = (t : History) → IsLawfulRun t → (p c : BranchId) → was_sent is_point (said_in (facts_at t)) p c ≡ true
    → (was_sent is_ready (said_in (facts_at t)) c p ≡ true) ⊎ (exit (events_of t) c ≢ None)

-- a branch is not live
abbrev pub IsNotLive : Facts → BranchId → Type 0
IsNotLive f b = (k : NodeState) → node_at f b.node ≡ Some k → live_at k b ≡ None

-- In every lawful run a branch to which CommitPoint was delivered is live no more.
abbrev pub PointsAreHeard : Type 0
PointsAreHeard = (t : History) → IsLawfulRun t → AllByRecursion (λ x. x.fate ≡ fates.Delivered → is_point x.msg.kind ≡ true → IsNotLive (facts_at t) x.msg.to) (facts_at t).net.packets

-- In every lawful run a sealed branch that told a child that the walk comes there has sent it CommitPoint, or its node has
-- stopped since.
abbrev pub SealedPassOn : Type 0
SealedPassOn = (t : History) → IsLawfulRun t → (b : BranchId) (n : ℕ) → exit (events_of t) b ≡ Some (Sealed n) → (c : BranchId) → was_sent is_below (said_in (facts_at t)) b c ≡ true
    → (was_sent is_point (said_in (facts_at t)) b c ≡ true) ⊎ NodeHasStopped (facts_at t) b

-- In every lawful run a branch that is gone without changes told no child that the walk comes there.
abbrev pub QuietTellNone : Type 0
QuietTellNone = (t : History) → IsLawfulRun t → (b : BranchId) → exit (events_of t) b ≡ Some Quiet → (c : BranchId) → was_sent is_below (said_in (facts_at t)) b c ≢ true
