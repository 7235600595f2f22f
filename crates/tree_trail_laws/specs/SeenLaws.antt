-- What the happenings tell of the roots of a run and of its branches' changes, against what nodes keep of them, and what
-- follows where they agree: who decides, what a decision covers, whose changes a record has, and on what branches seal and
-- decide. (Database Administrator's Guide, "Distributed Transactions Concepts": session trees, commit point site.)
use Rattle.std.specs.Prelude.{◌≡◌, ℕ, List, IfSome, Option, Some, None}
use Rattle.node_rules.specs.Data.{BranchId, Live, RedoRecord, Input, Place}
use Rattle.node_rules.specs.declared.session.PendingCall.TheVariants as pending
use Rattle.node_rules.specs.Data.phases
use Rattle.node_rules.specs.Data.records
use Rattle.node_rules.specs.Inputs.{IsSession}
use Rattle.node_rules.specs.NodeState.{NodeState, live_at}
use Rattle.node_rules.specs.Prepare.{own_changes}
use Rattle.node_rules.specs.Sessions.{session_at}
use Rattle.run_rules.specs.Branches.{Seen, Trail, seen_at, own_at, root_at, plan_at}
use Rattle.run_rules.specs.Data.{Happening}
use Rattle.run_rules.specs.Data.happenings
use Rattle.run_rules.specs.Each.{AtEach}
use Rattle.run_rules.specs.Facts.{Facts, place_at, node_at}
use Rattle.run_claims.specs.Knowledge.{MayWrite}
use Rattle.run_rules.specs.Lawful.{History, IsLawfulRun}
use Rattle.run_claims.specs.Site.{SiteDecides, RecordIsSo, DecisionCovers, HasOwn}
use Rattle.run_rules.specs.Trail.{trail_after}
use Rattle.tree_trail_laws.specs.LowerLaws.{IsTracedLive}
use Rattle.run_rules.specs.Tree.{strength_of}

-- each live root is in the branch history as its node keeps it, and no COMMIT was accepted of one that is working
abbrev pub TracesTops : Facts → Trail → Type 0
TracesTops f tr = (n : ℕ) (k : NodeState) → node_at f n ≡ Some k → (l : Live) → live_at k l.me ≡ Some l → l.parent ≡ None
    → (s : Seen) × (seen_at tr l.me ≡ Some s) × IsTracedLive l s × (l.phase ≡ phases.Working → plan_at tr l.me ≡ None)

-- the commit point strength of each live root by the branch history is that which its node keeps
abbrev pub TracesStrengths : List Place → Facts → Trail → Type 0
TracesStrengths places f tr = (n : ℕ) (k : NodeState) → node_at f n ≡ Some k → (l : Live) → live_at k l.me ≡ Some l → l.parent ≡ None → strength_of places tr l.me ≡ l.strength

-- the changes of each live branch by the branch history are those that its node keeps
abbrev pub TracesOwns : Facts → Trail → Type 0
TracesOwns f tr = (n : ℕ) (k : NodeState) → node_at f n ≡ Some k → (l : Live) → live_at k l.me ≡ Some l → own_at tr l.me ≡ own_changes k l.me

-- the transaction of a session by the branch history is the one that its node keeps, and is live
abbrev pub IsSeenRoot : Trail → NodeState → Option Seen → Option BranchId → Type 0
IsSeenRoot tr k None None = Unit {0}
IsSeenRoot tr k (Some s) (Some b) = (seen_at tr b ≡ Some s) × ((l : Live) × (live_at k b ≡ Some l))
IsSeenRoot tr k _ _ = ⊥

-- it is so of each session that no call is pending of
abbrev pub SeesRoots : Facts → Trail → Type 0
SeesRoots f tr = (n : ℕ) (k : NodeState) → node_at f n ≡ Some k → (session : ℕ) → IsSession session → (session_at k.sessions session).call ≡ pending.NoCall
    → IsSeenRoot tr k (root_at tr n session) (session_at k.sessions session).root

-- The branch history of roots, and of the changes of live branches, agrees with what their nodes keep. All else that it has of
-- branches below roots agrees in every lawful run.
pub record Sees (f : Facts) (tr : Trail) : Type 0 where
  pub tops : TracesTops f tr
  pub owns : TracesOwns f tr
  pub roots : SeesRoots f tr

-- before each happening of a run
abbrev pub SeesAll : History → Type 0
SeesAll t = AtEach (λ places f tr h. Sees f tr) t

-- a seal and a decision are written on what came to their branch
abbrev pub LeavesOnWhatCame : Place → Facts → Trail → Trail → NodeState → ℕ → Input → RedoRecord → Type 0
LeavesOnWhatCame p f tr after k n input (records.Sealed r) = MayWrite p f tr after k n input (records.Sealed r)
LeavesOnWhatCame p f tr after k n input (records.Decided r) = MayWrite p f tr after k n input (records.Decided r)
LeavesOnWhatCame p f tr after k n input _ = Unit {0}

-- so does the record of a turn
abbrev pub LeavesKnowing : List Place → Facts → Trail → Happening → Type 0
LeavesKnowing places f tr (happenings.Turn u) =
    (k : NodeState) → node_at f u.node ≡ Some k → IfSome u.wrote (LeavesOnWhatCame (place_at places u.node) f tr (trail_after places f tr (happenings.Turn u)) k u.node u.input)
LeavesKnowing places f tr _ = Unit {0}

-- In a lawful run of which that is so seals and decisions are written on what came: on the last answer of the children, on
-- Prepare or COMMIT where there are none, on CommitPoint.
abbrev pub SeenIsEnoughToLeave : Type 0
SeenIsEnoughToLeave = (t : History) → IsLawfulRun t → SeesAll t → AtEach LeavesKnowing t

-- In a lawful run of which that is so each decision is made by the commit point site of its tree, covers it, and seals and
-- decisions have their branches' own changes.
abbrev pub SeenIsEnough : Type 0
SeenIsEnough = (t : History) → IsLawfulRun t → SeesAll t → SiteDecides t × AtEach (RecordIsSo DecisionCovers) t × AtEach (RecordIsSo HasOwn) t
