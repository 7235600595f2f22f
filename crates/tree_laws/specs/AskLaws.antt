-- Prepares go down the tree: who asks was asked, who passes the walk on was told that it comes there, and what a branch does in
-- its prepare phase is what its parent told it.
use Rattle.std.specs.Prelude.{◌≡◌, ◌≢◌, ℕ, Bool, true, false, List, Option, Some, None}
use Rattle.session_tree.specs.Live.{children_of}
use Rattle.session_tree.specs.Tree.{step}
use Rattle.session_tree.specs.declared.act.Walk.{Walk}
use Rattle.prepare_phase.specs.Records.{path_of}
use Rattle.node_rules.specs.Data.{BranchId, Kind, Live, Phase, Post}
use Rattle.node_rules.specs.Data.phases
use Rattle.node_rules.specs.Words.{numbered}
use Rattle.node_rules.specs.NodeState.{NodeState, live_at}
use Rattle.agreement.specs.Events.{Event, exit}
use Rattle.run_rules.specs.Trail.{is_prepare}
use Rattle.run_rules.specs.Data.{Happening}
use Rattle.run_rules.specs.Facts.{Facts, node_at}
use Rattle.run_rules.specs.Lawful.{History, IsLawfulRun, facts_at}
use Rattle.run_rules.specs.Births.{Born, births_of}
use Rattle.run_base_laws.specs.BirthLaws.{Began}
use Rattle.run_base_laws.specs.EventLaws.{AtEachEvent}
use Rattle.run_base_laws.specs.InTurnLaws.{said_in}
use Rattle.run_base_laws.specs.FreezeLaws.{was_asked}
use Rattle.run_branch_laws.specs.WalkLaws.{is_below, is_above, was_sent}

-- ---- messages

-- a branch began, and where it has a parent, that sent it such a message
abbrev pub HeardAbove : (Kind → Bool) → List Born → List Post → BranchId → Type 0
HeardAbove kind bs said p = (x : Born) × Began bs x × (x.me ≡ p) × ((q : BranchId) → x.parent ≡ Some q → was_sent kind said q p ≡ true)

-- who sent such a message is a root, or its parent sent it one
abbrev pub GoesDown : (Kind → Bool) → List Born → List Post → Type 0
GoesDown kind bs said = (p c : BranchId) → was_sent kind said p c ≡ true → HeardAbove kind bs said p

-- In every lawful run a branch that asked a child to prepare is a root, or its parent asked it.
abbrev pub AskersWereAsked : Type 0
AskersWereAsked = (t : History) → IsLawfulRun t → GoesDown is_prepare (births_of t) (said_in (facts_at t))

-- In every lawful run a branch that told a child that the walk comes there is a root, or its parent told it so.
abbrev pub WalkGoesOn : Type 0
WalkGoesOn = (t : History) → IsLawfulRun t → GoesDown is_below (births_of t) (said_in (facts_at t))

-- ---- live branches

-- whether the walk comes to a branch, once its collect began
abbrev pub way_of : Phase → Option Bool
way_of phases.Working = None
way_of (phases.Collecting site_below) = Some site_below
way_of phases.Ready = Some true

-- a Prepare that tells so
abbrev pub tells : Bool → Kind → Bool
tells true kind = is_below kind
tells false kind = is_above kind

-- the number of the child to which the walk goes on from a branch, once its collect began
abbrev pub path_on : Phase → Walk → Option ℕ
path_on phases.Working w = None
path_on (phases.Collecting site_below) w = path_of site_below w
path_on phases.Ready w = path_of true w

-- A live branch collects as its parent told it, and the walk comes to a root. Once its collect began it has asked its children and nobody else, and told the
-- child to which the walk goes on, and no other, that it comes there.
pub record AsToldSo (said : List Post) (me : BranchId) (parent : Option BranchId) (phase : Phase) (peers : List BranchId) (walk : Walk) : Type 0 where
  pub way : (b : Bool) → way_of phase ≡ Some b → (q : BranchId) → parent ≡ Some q → was_sent (tells b) said q me ≡ true
  pub root : parent ≡ None → way_of phase ≢ Some false
  pub kids : phase ≢ phases.Working → (i : ℕ) (c : BranchId) → numbered peers i ≡ Some c → was_asked said me c ≡ true
  pub alone : phase ≢ phases.Working → (c : BranchId) → was_asked said me c ≡ true → (i : ℕ) × (numbered peers i ≡ Some c)
  pub below : phase ≢ phases.Working → (c : BranchId) → was_sent is_below said me c ≡ true → (i : ℕ) × (path_on phase walk ≡ Some i) × (numbered peers i ≡ Some c)
  pub points : phase ≢ phases.Working → (i : ℕ) (c : BranchId) → path_on phase walk ≡ Some i → numbered peers i ≡ Some c → was_sent is_below said me c ≡ true

-- of a live branch
abbrev pub AsTold : List Post → Live → Type 0
AsTold said l = AsToldSo said l.me l.parent l.phase (children_of l) (step l)

-- In every lawful run a live branch that collects, or is Ready, was told by its parent whether the walk comes to it.
abbrev pub CollectsAsTold : Type 0
CollectsAsTold = (t : History) → IsLawfulRun t → (n : ℕ) (k : NodeState) → node_at (facts_at t) n ≡ Some k → (l : Live) → live_at k l.me ≡ Some l
    → (b : Bool) → way_of l.phase ≡ Some b → (q : BranchId) → l.parent ≡ Some q → was_sent (tells b) (said_in (facts_at t)) q l.me ≡ true

-- In every lawful run a live branch whose collect began has asked each of its children, and nobody else.
abbrev pub EdgesAsked : Type 0
EdgesAsked = (t : History) → IsLawfulRun t → (n : ℕ) (k : NodeState) → node_at (facts_at t) n ≡ Some k → (l : Live) → live_at k l.me ≡ Some l → l.phase ≢ phases.Working
    → ((i : ℕ) (c : BranchId) → numbered (children_of l) i ≡ Some c → was_asked (said_in (facts_at t)) l.me c ≡ true)
    × ((c : BranchId) → was_asked (said_in (facts_at t)) l.me c ≡ true → (i : ℕ) × (numbered (children_of l) i ≡ Some c))

-- In every lawful run a live branch whose collect began told the child to which the walk goes on, and no other, that it comes there.
abbrev pub PathsAreTold : Type 0
PathsAreTold = (t : History) → IsLawfulRun t → (n : ℕ) (k : NodeState) → node_at (facts_at t) n ≡ Some k → (l : Live) → live_at k l.me ≡ Some l → l.phase ≢ phases.Working
    → ((c : BranchId) → was_sent is_below (said_in (facts_at t)) l.me c ≡ true → (i : ℕ) × (path_on l.phase (step l) ≡ Some i) × (numbered (children_of l) i ≡ Some c))
    × ((i : ℕ) (c : BranchId) → path_on l.phase (step l) ≡ Some i → numbered (children_of l) i ≡ Some c → was_sent is_below (said_in (facts_at t)) l.me c ≡ true)

-- ---- branches that have left

-- a branch that has an exit before a happening has asked all that it asks among these messages, and told all of the walk
abbrev pub HasToldAll : List Post → Facts → List Event → Happening → Type 0
HasToldAll all f t h = (b c : BranchId) → exit t b ≢ None
    → (was_asked all b c ≡ true → was_asked (said_in f) b c ≡ true) × (was_sent is_below all b c ≡ true → was_sent is_below (said_in f) b c ≡ true)

-- In every lawful run a branch that has an exit asks nobody any more.
abbrev pub LeftHaveToldAll : Type 0
LeftHaveToldAll = (t : History) → IsLawfulRun t → AtEachEvent (HasToldAll (said_in (facts_at t))) t
