-- Where a line comes from that has the answer of a node: a turn ended the pending call of its command with that answer.
-- (Database Administrator's Guide, "Distributed Transactions Concepts": the session that waits for its call.)
use Rattle.std.specs.Prelude.{◌≡◌, ℕ, ◌+◌, false, slice_get, Option, Some, None}
use Rattle.node_rules.specs.Data.{Answer, Stmt}
use Rattle.node_rules.specs.NodeState.{TurnOutput}
use Rattle.run_rules.specs.Calls.{call_at}
use Rattle.run_rules.specs.Data.{Turn}
use Rattle.run_rules.specs.Data.commands
use Rattle.run_rules.specs.Data.happenings
use Rattle.run_rules.specs.Each.{facts_upto}
use Rattle.run_rules.specs.Facts.{command_at, outcome_at}
use Rattle.run_rules.specs.Lawful.{History}
use Rattle.run_claims.specs.Places.{past_upto, node_line, reported_of}
use Rattle.run_rules.specs.RunReport.{Call}

-- A turn ended the call of a command with this answer: the call was pending of its session, and no call of that session is
-- pending after the turn.
pub record EndedBy (t : History) (command : ℕ) (a : Answer) : Type 0 where
  pub ended : ℕ
  pub turn : Turn
  pub there : slice_get t.trace ended ≡ Some (happenings.Turn turn)
  pub uncut : turn.cut ≡ false
  pub outcome : TurnOutput
  pub comes : outcome_at t.places (facts_upto t ended) turn ≡ Some outcome
  pub session : ℕ
  pub number : ℕ
  pub answers : slice_get outcome.ended number ≡ Some (record { session = session; answer = a })
  pub call : Call
  pub pending : call_at (past_upto t ended).run_report turn.node session ≡ Some call
  pub its : call.command ≡ command
  pub text : Option Stmt
  pub asked : command_at t.commands command ≡ commands.At turn.node session text
  pub over : call_at (past_upto t (ended + 1)).run_report turn.node session ≡ None

-- Each line of a run that has the answer of a node comes from such a turn.
abbrev pub LinesComeFromTurns : Type 0
LinesComeFromTurns = (t : History) → (i command : ℕ) (a : Answer) → slice_get (reported_of t) i ≡ Some (node_line command a) → EndedBy t command a
