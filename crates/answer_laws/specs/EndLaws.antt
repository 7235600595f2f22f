-- Why a turn ends the call of a client, and which call of a session came last. (Database Administrator's Guide,
-- "Distributed Transactions Concepts": the session that waits for its call.)
use Rattle.std.specs.Prelude.{◌≡◌, ℕ, ◌≤◌, Bool, true, false, List, [], ◌∷◌, slice_get, Option, Some}
use Rattle.node_rules.specs.Data.{Answer, BranchId, Input, Place, Stmt}
use Rattle.node_rules.specs.Data.inputs
use Rattle.node_rules.specs.Data.stmts
use Rattle.node_rules.specs.declared.session.Finished.{Finished}
use Rattle.node_rules.specs.declared.session.PendingCall.TheVariants as pending
use Rattle.node_rules.specs.NodeState.{NodeState}
use Rattle.node_rules.specs.Sessions.{session_at}
use Rattle.node_rules.specs.Turn.{turn_of}
use Rattle.run_rules.specs.Branches.{Trail}
use Rattle.run_rules.specs.Data.{Happening, Turn}
use Rattle.run_rules.specs.Data.happenings
use Rattle.run_rules.specs.Each.{AtEach, facts_upto}
use Rattle.run_rules.specs.Facts.{Facts, node_at, place_at}
use Rattle.run_rules.specs.Lawful.{History, IsLawfulRun}
use Rattle.run_rules.specs.Runs.{is_accepted}
use Rattle.answer_origin_laws.specs.LeadLaws.{NoCallSince}
use Rattle.answer_laws.specs.StatementEnds.{StatementPends, CauseNow}

-- Why a call ends in a turn, by the facts, by what its node keeps and by what came: it came in this very turn; its statement
-- waited, and the Reply or its give-up came; or its COMMIT was pending.
pub data EndsFor (f : Facts) (k : NodeState) (input : Input) (x : Finished) : Type 0 where
  Is_own : (s : Option Stmt) → input ≡ inputs.Call x.session s → EndsFor f k input x
  Is_statement : (g : BranchId) → g.session ≡ x.session → StatementPends k g → CauseNow f k g input x.answer → EndsFor f k input x
  Was_commit : (session_at k.sessions x.session).call ≡ pending.Commit → EndsFor f k input x

-- whether a statement forces an outcome
abbrev pub forces_outcome : Stmt → Bool
forces_outcome (stmts.CommitForce id scn) = true
forces_outcome (stmts.RollbackForce id) = true
forces_outcome _ = false

-- The calls that a turn ends: one at most, but where a user forces the outcome of a root whose COMMIT is pending. That is
-- refused then.
pub data EndsFew (f : Facts) (k : NodeState) (input : Input) : List Finished → Type 0 where
  Ends_none : EndsFew f k input []
  Ends_one : (x : Finished) → EndsFor f k input x → EndsFew f k input (x ∷ [])
  Ends_forced : (x : Finished) (n : ℕ) (s : Stmt) (a : Answer) → is_accepted (Some x.answer) ≡ false → (session_at k.sessions x.session).call ≡ pending.Commit → input ≡ inputs.Call n (Some s) → forces_outcome s ≡ true
      → EndsFew f k input (x ∷ (record { session = n; answer = a }) ∷ [])

-- a turn ends calls so
abbrev pub CallsEnd : List Place → Facts → Trail → Happening → Type 0
CallsEnd places f tr (happenings.Turn u) = (k : NodeState) → node_at f u.node ≡ Some k → EndsFew f k u.input (turn_of (place_at places u.node) k u.input).ended
CallsEnd places f tr _ = Unit {0}

-- In every lawful run each turn does.
abbrev pub CallsEndForCause : Type 0
CallsEndForCause = (t : History) → IsLawfulRun t → AtEach CallsEnd t

-- The last call of a session at a node, up to a moment.
pub record LastCall (t : History) (node session now : ℕ) : Type 0 where
  pub moment : ℕ
  pub turn : Turn
  pub there : slice_get t.trace moment ≡ Some (happenings.Turn turn)
  pub here : turn.node ≡ node
  pub text : Option Stmt
  pub came : turn.input ≡ inputs.Call session text
  pub soon : moment ≤ now
  pub last : NoCallSince t node session moment now

-- In every lawful run a COMMIT that is pending as a turn comes to its node is the last call of its session.
abbrev pub PendingCommitsCame : Type 0
PendingCommitsCame = (t : History) → IsLawfulRun t → (i : ℕ) (u : Turn) → slice_get t.trace i ≡ Some (happenings.Turn u) → (k : NodeState) → node_at (facts_upto t i) u.node ≡ Some k
    → (session : ℕ) → (session_at k.sessions session).call ≡ pending.Commit → (x : LastCall t u.node session i) × (comment : Option (List ℕ)) × (x.text ≡ Some (stmts.Commit comment))
