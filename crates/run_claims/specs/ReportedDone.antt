-- What the report tells of statements that write one record: a line that says that one is done comes from the turn of its
-- call, which wrote its record, and the record stays; a line that refuses one comes from a turn that wrote none; and each
-- such record has its line. (SQL Language Reference: CREATE TABLE, CREATE DATABASE LINK, CREATE SYNONYM, ALTER SYSTEM,
-- COMMIT FORCE, ROLLBACK FORCE; Database Administrator's Guide, "Managing Distributed Transactions": purging pending rows.)
use Rattle.std.specs.Prelude.{◌≡◌, ℕ, ◌+◌, ◌≤◌, ◌⊎◌, true, false, slice_get, Some, None}
use Rattle.node_rules.specs.Data.{Answer, Done, RedoRecord, Refusal, Stmt}
use Rattle.node_rules.specs.Data.answers
use Rattle.node_rules.specs.Data.stmts
use Rattle.node_rules.specs.Inputs.{IsCall}
use Rattle.node_rules.specs.NodeState.{NodeState}
use Rattle.run_rules.specs.Commands.{commits_first}
use Rattle.run_rules.specs.Data.{Happening, Turn}
use Rattle.run_rules.specs.Data.commands
use Rattle.run_rules.specs.Data.happenings
use Rattle.run_rules.specs.Each.{facts_upto}
use Rattle.run_rules.specs.Facts.{command_at, node_at, place_at, records_at}
use Rattle.run_rules.specs.Scripts.{IsTheRunOf}
use Rattle.run_rules.specs.Lawful.{History, facts_at}
use Rattle.run_rules.specs.Lines.{is_down, line}
use Rattle.run_claims.specs.Places.{node_line, reported_of}
use Rattle.run_rules.specs.Runs.{is_accepted}
use Rattle.run_claims.specs.Recorded.{is_recorded, is_of_statement, Records}
use Rattle.run_claims.specs.Recorded.{IsOneOf}

-- while its command runs a statement comes, or later where it is a CREATE whose COMMIT was pending
abbrev pub ComesIn : ℕ → Stmt → ℕ → Type 0
ComesIn command s running = (running ≡ command) ⊎ ((commits_first s ≡ true) × (command ≤ running))

-- The turn that a statement of a command came to.
pub record CameTo (t : History) (command node session : ℕ) (s : Stmt) : Type 0 where
  pub moment : ℕ
  pub turn : Turn
  pub there : slice_get t.trace moment ≡ Some (happenings.Turn turn)
  pub here : turn.node ≡ node
  pub call : IsCall turn.input session s
  pub running : ComesIn command s (facts_upto t moment).command

-- ---- lines that say that it is done

-- The statement came, its record was written in that turn, and stays on the disk of the node to the end of the run; this is
-- what the line says.
pub record StatementIsWritten (t : History) (command node session : ℕ) (s : Stmt) (a : Answer) : Type 0 where
  pub came : CameTo t command node session s
  pub uncut : came.turn.cut ≡ false
  pub kept : NodeState
  pub up : node_at (facts_upto t came.moment) node ≡ Some kept
  pub written : RedoRecord
  pub done : Done
  pub of : Records (place_at t.places node) kept s written done
  pub stands : came.turn.wrote ≡ Some written
  pub says : a ≡ answers.Did done 0
  pub stays : IsOneOf (records_at (facts_at t) node) written

-- each line that says so has its record
abbrev pub DoneHasItsRecord : History → Type 0
DoneHasItsRecord t = (i command node session : ℕ) (s : Stmt) (a : Answer) → command_at t.commands command ≡ commands.At node session (Some s) → is_recorded s ≡ true → is_accepted (Some a) ≡ true
    → slice_get (reported_of t) i ≡ Some (node_line command a) → StatementIsWritten t command node session s a

-- ---- lines that refuse it

-- Where a refusal comes from: the statement came and wrote nothing, or the COMMIT before a CREATE was refused.
pub data StatementIsRefused (t : History) (command node session : ℕ) (s : Stmt) : Type 0 where
  Writes_nothing : (came : CameTo t command node session s) → came.turn.cut ≡ false → came.turn.wrote ≡ None → StatementIsRefused t command node session s
  Has_no_commit : commits_first s ≡ true → CameTo t command node session (stmts.Commit None) → StatementIsRefused t command node session s

-- each line that refuses such a statement comes from there
abbrev pub RefusedHasNone : History → Type 0
RefusedHasNone t = (i command node session : ℕ) (s : Stmt) (r : Refusal) → command_at t.commands command ≡ commands.At node session (Some s) → is_recorded s ≡ true
    → slice_get (reported_of t) i ≡ Some (node_line command (answers.Refused r)) → StatementIsRefused t command node session s

-- ---- records

-- The record of a statement was written in the turn that the statement of a command came to, and the report says that it is
-- done; or that the node is down, where the turn was cut, once the node has stopped.
pub record RecordIsReported (t : History) (moment : ℕ) (u : Turn) (r : RedoRecord) : Type 0 where
  pub command : ℕ
  pub session : ℕ
  pub statement : Stmt
  pub asked : command_at t.commands command ≡ commands.At u.node session (Some statement)
  pub call : IsCall u.input session statement
  pub running : ComesIn command statement (facts_upto t moment).command
  pub kept : NodeState
  pub up : node_at (facts_upto t moment) u.node ≡ Some kept
  pub done : Done
  pub of : Records (place_at t.places u.node) kept statement r done
  pub told : u.cut ≡ false → (i : ℕ) × (slice_get (reported_of t) i ≡ Some (node_line command (answers.Did done 0)))
  pub down : u.cut ≡ true → (h : Happening) → slice_get t.trace (moment + 1) ≡ Some h → (i : ℕ) × (slice_get (reported_of t) i ≡ Some (line command (is_down t.places u.node)))

-- each record of such a statement is told
abbrev pub RecordsAreReported : History → Type 0
RecordsAreReported t = (moment : ℕ) (u : Turn) → slice_get t.trace moment ≡ Some (happenings.Turn u) → (r : RedoRecord) → u.wrote ≡ Some r → is_of_statement r ≡ true → RecordIsReported t moment u r

-- ---- the report

-- the report tells such statements as they were written
abbrev pub ReportsWhatIsDone : History → Type 0
ReportsWhatIsDone t = DoneHasItsRecord t × RefusedHasNone t × RecordsAreReported t

-- In the run of a script it does.
abbrev pub DoneIsReported : Type 0
DoneIsReported = (t : History) → IsTheRunOf t → ReportsWhatIsDone t
