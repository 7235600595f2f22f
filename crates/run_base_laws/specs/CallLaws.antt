-- Statements of live branches that are under way: the roots of sessions, the calls that a branch made over its edges, and the
-- calls that came to it.
use Rattle.std.specs.Prelude.{◌≡◌, ◌≢◌, ℕ, List, length, Option, Some, None}
use Rattle.node_rules.specs.Data.{Stmt, BranchId, Edge, Live, Phase, Place}
use Rattle.node_rules.specs.Data.inputs
use Rattle.node_rules.specs.Data.phases
use Rattle.node_rules.specs.declared.session.PendingCall.{PendingCall}
use Rattle.node_rules.specs.declared.session.PendingCall.TheVariants as pending
use Rattle.node_rules.specs.declared.session.Session.{Session}
use Rattle.node_rules.specs.declared.work.Going.{Going}
use Rattle.node_rules.specs.declared.work.Work.{Work}
use Rattle.node_rules.specs.NodeState.{NodeState, Branch, live_at, branch_at}
use Rattle.node_rules.specs.Sessions.{session_at}
use Rattle.run_rules.specs.Data.{Happening}
use Rattle.run_rules.specs.Data.happenings
use Rattle.run_rules.specs.Facts.{Facts, node_at}
use Rattle.run_rules.specs.Lawful.{History, IsLawfulRun}
use Rattle.run_base_laws.specs.NodeLaws.{AtEachFact, OfEachNode}

-- In every lawful run the transaction of a session has an id of that session, and where it is live it has no parent.
abbrev pub RootsAreOfSessions : Type 0
RootsAreOfSessions = OfEachNode (λ p rs k. (n : ℕ) (b : BranchId) → (session_at k.sessions n).root ≡ Some b → (b.session ≡ n) × ((l : Live) → live_at k b ≡ Some l → l.parent ≡ None))

-- A branch has one call number for each of its edges. While it waits its last call is not answered, and no call comes to a root.
pub record CallsFit (parent : Option BranchId) (edges : List Edge) (w : Work) : Type 0 where
  pub numbers : length w.calls ≡ length edges
  pub waiting : w.going ≢ None → w.came.reply ≡ None
  pub root : parent ≡ None → w.came.reply ≡ None

-- In every lawful run the calls of each live branch fit its edges.
abbrev pub CallsFitEdges : Type 0
CallsFitEdges = OfEachNode (λ p rs k. (b : BranchId) (x : Branch) → branch_at k b ≡ Some x → CallsFit x.live.parent x.live.edges x.work)

-- What the pending call of its session tells of a root: without one it is working, and waits for nothing; while a statement is
-- pending it is working; while COMMIT is pending it waits for nothing.
abbrev pub RootWaits : PendingCall → Phase → Option Going → Type 0
RootWaits pending.NoCall phase going = (phase ≡ phases.Working) × (going ≡ None)
RootWaits pending.Statement phase going = phase ≡ phases.Working
RootWaits pending.Commit phase going = going ≡ None

-- A root is its session's transaction.
pub record IsRootOf (s : Session) (me : BranchId) (phase : Phase) (going : Option Going) : Type 0 where
  pub root : s.root ≡ Some me
  pub waits : RootWaits s.call phase going

-- In every lawful run a live root is the transaction of its session, and waits as that tells.
abbrev pub RootsWait : Type 0
RootsWait = OfEachNode (λ p rs k. (x : Branch) → branch_at k x.live.me ≡ Some x → x.live.parent ≡ None → IsRootOf (session_at k.sessions x.live.me.session) x.live.me x.live.phase x.work.going)

-- what a client's call finds: the live root of its session is working, and waits for nothing
abbrev pub ComesAtRest : List Place → Facts → Happening → Type 0
ComesAtRest places f (happenings.Turn u) = (k : NodeState) → node_at f u.node ≡ Some k → (n : ℕ) (s : Option Stmt) → u.input ≡ inputs.Call n s
    → (x : Branch) → (session_at k.sessions n).root ≡ Some x.live.me → branch_at k x.live.me ≡ Some x → (x.live.phase ≡ phases.Working) × (x.work.going ≡ None)
ComesAtRest places f _ = Unit {0}

-- In every lawful run a call comes to a root at rest: COMMIT too, and no call comes to a root once its COMMIT came.
abbrev pub CallsComeAtRest : Type 0
CallsComeAtRest = (t : History) → IsLawfulRun t → AtEachFact ComesAtRest t

-- So from its COMMIT on a live root waits for nothing.
abbrev pub CommitsRest : Type 0
CommitsRest = OfEachNode (λ p rs k. (x : Branch) → branch_at k x.live.me ≡ Some x → x.live.parent ≡ None → x.live.phase ≢ phases.Working → x.work.going ≡ None)
