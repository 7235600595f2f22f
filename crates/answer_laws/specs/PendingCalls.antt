-- How the pending calls of a run end, as the report has them: from the turn in which it comes a call is under way until a turn of
-- its node ends it for a cause, or its node stops; and no call is pending at a node that is down. (Database Administrator's Guide,
-- "Distributed Transactions Concepts": the session that waits for its call.)
use Rattle.std.specs.Prelude.{◌≡◌, ◌≢◌, ◌⊎◌, ℕ, ◌+◌, false, slice_get, Option, Some, None}
use Rattle.node_rules.specs.Data.{Answer, Stmt}
use Rattle.node_rules.specs.Data.inputs
use Rattle.node_rules.specs.NodeState.{NodeState}
use Rattle.node_rules.specs.Turn.{turn_of}
use Rattle.run_rules.specs.Calls.{call_at}
use Rattle.run_rules.specs.Data.{Happening, Turn}
use Rattle.run_rules.specs.Data.happenings
use Rattle.run_rules.specs.Each.{AtEach, facts_upto}
use Rattle.run_rules.specs.Facts.{node_at, place_at}
use Rattle.run_rules.specs.Lawful.{History}
use Rattle.run_rules.specs.RunReport.{Call}
use Rattle.run_rules.specs.Scripts.{IsTheRunOf}
use Rattle.run_claims.specs.Places.{past_upto}
use Rattle.answer_origin_laws.specs.CallTurns.{IsYetToCome, TurnOf}
use Rattle.answer_laws.specs.EndLaws.{EndsFor}
use Rattle.answer_laws.specs.LinkLaws.{StatementsHaveTheirLinks}
use Rattle.answer_laws.specs.StatementEnds.{CauseEndsStatement}

-- A call of a session is under way after so many happenings: it is pending, and has come to its node.
pub record CallIsUnderWay (t : History) (i node session : ℕ) (c : Call) : Type 0 where
  pub pending : call_at (past_upto t i).run_report node session ≡ Some c
  pub has_come : IsYetToCome (past_upto t i) c → ⊥

-- A turn of its node, as the happening of this number, ends the call of a session with an answer, for a cause, and none is under way then.
pub record EndsInTurn (t : History) (i node session : ℕ) (h : Happening) : Type 0 where
  pub turn : Turn
  pub comes : h ≡ happenings.Turn turn
  pub here : turn.node ≡ node
  pub uncut : turn.cut ≡ false
  pub kept : NodeState
  pub up : node_at (facts_upto t i) node ≡ Some kept
  pub number : ℕ
  pub answer : Answer
  pub ends : slice_get (turn_of (place_at t.places node) kept turn.input).ended number ≡ Some (record { session = session; answer = answer })
  pub cause : EndsFor (facts_upto t i) kept turn.input (record { session = session; answer = answer })
  pub over : (d : Call) → CallIsUnderWay t (i + 1) node session d → ⊥

-- What a happening makes of a call that is under way, or that comes in it.
pub data Becomes (t : History) (i node session : ℕ) (c : Call) (h : Happening) : Type 0 where
  Stays_under_way : CallIsUnderWay t (i + 1) node session c → Becomes t i node session c h
  Its_node_is_down : node_at (facts_upto t (i + 1)) node ≡ None → Becomes t i node session c h  -- it stopped, or its turn was cut, and its stop comes next
  Is_ended : EndsInTurn t i node session h → Becomes t i node session c h

-- each call that is under way at a node that is up, or comes to it, becomes one of these
abbrev pub CallsBecome : History → Type 0
CallsBecome t = (i : ℕ) (h : Happening) → slice_get t.trace i ≡ Some h → (node session : ℕ) (c : Call) (k : NodeState) → node_at (facts_upto t i) node ≡ Some k → CallIsUnderWay t i node session c ⊎ TurnOf t i node session c
    → Becomes t i node session c h

-- and no other call comes to the session of one that is under way
abbrev pub NoneComesMeanwhile : History → Type 0
NoneComesMeanwhile t = (i : ℕ) (u : Turn) → slice_get t.trace i ≡ Some (happenings.Turn u) → (session : ℕ) (c : Call) → CallIsUnderWay t i u.node session c → (s : Option Stmt) → u.input ≢ inputs.Call session s

-- no call is pending at a node that is down, once its stop has come
abbrev pub DownHasNone : History → Type 0
DownHasNone t = (i node session : ℕ) → node_at (facts_upto t i) node ≡ None → (facts_upto t i).node_to_stop ≢ Some node → call_at (past_upto t i).run_report node session ≡ None

-- How the pending calls of a run end: with the first happening that ends them, and with no other.
pub record CallsEndFirst (t : History) : Type 0 where
  pub become : CallsBecome t
  pub alone : NoneComesMeanwhile t
  pub down : DownHasNone t
  pub statements : AtEach CauseEndsStatement t  -- each cause of a statement that waits ends it in its very turn
  pub links : StatementsHaveTheirLinks t  -- and DTX-03 and DTX-08 name the link of its table

-- In the run of a script it is so.
abbrev pub PendingCallsEnd : Type 0
PendingCallsEnd = (t : History) → IsTheRunOf t → CallsEndFirst t
