-- Where the answer of a statement comes from: the run at the end of its chain of Execs, whose answer came back along the
-- Replies of that chain, for the transaction of its session, and not before its call. (Database Administrator's Guide,
-- "Distributed Transactions Concepts": session trees.)
use Rattle.std.specs.Prelude.{◌≡◌, ℕ, ◌+◌, ◌≤◌, ◌==◌, Bool, true, List, slice_get, Option, Some, None}
use Rattle.std.specs.List.{list_any}
use Rattle.node_rules.specs.Data.{BranchId, Stmt, Answer, Advice, Durable}
use Rattle.node_rules.specs.Data.kinds
use Rattle.node_rules.specs.Data.tasks
use Rattle.node_rules.specs.Names.{A_table, Behind, named_by, ref_of, passed_on, target_of}
use Rattle.node_rules.specs.Inputs.{Came}
use Rattle.redo_record.specs.Durable.{durable}
use Rattle.run_rules.specs.Data.{Turn, AnswerLine}
use Rattle.run_rules.specs.Data.said
use Rattle.run_rules.specs.Data.happenings
use Rattle.run_rules.specs.Data.commands
use Rattle.run_rules.specs.Facts.{command_at, place_at, records_at, outcome_at}
use Rattle.run_rules.specs.RunReport.{Past, Call, start}
use Rattle.run_rules.specs.Past.{past}
use Rattle.run_rules.specs.Lines.{all_lines}
use Rattle.run_rules.specs.Calls.{call_at}
use Rattle.run_rules.specs.Branches.{Run, Seen, root_at}
use Rattle.run_rules.specs.Trail.{with_begun}
use Rattle.run_rules.specs.Runs.{run_in, answered_by, is_of_rows, is_accepted}
use Rattle.run_rules.specs.Each.{facts_upto, trail_upto}
use Rattle.run_rules.specs.Lawful.{History}
use Rattle.std.specs.Prelude.{take}

-- a run so far, after so many happenings
abbrev pub past_upto : History → ℕ → Past
past_upto t i = past t.places t.commands (start t.places) (take i t.trace)

-- whether a call of a command is pending after so many happenings
abbrev pub command_pends : History → ℕ → ℕ → Bool
command_pends t i command = list_any (λ (c : Call). c.command == command) (past_upto t i).run_report.calls

-- the catalog of a node at a moment
abbrev pub catalog_at : History → ℕ → ℕ → Durable
catalog_at t i n = durable (records_at (facts_upto t i) n)

-- Where a statement of a branch leads: to a run at its own node, or over a link to a child, which an Exec brings it to.
pub data LeadsTo (t : History) (r : Run) : BranchId → Stmt → Type 0 where
  Runs_here : named_by (catalog_at t r.moment r.branch.node) (ref_of r.statement) ≡ A_table r.table → LeadsTo t r r.branch r.statement
  Passes : (b c : BranchId) (s : Stmt) (i call given : ℕ) (advice : Option Advice) (link table : List ℕ) (u : Turn)
      → slice_get t.trace i ≡ Some (happenings.Turn u) → i ≤ r.moment → Came u.input b c (kinds.Exec call (tasks.Run given advice (passed_on s table)))
      → named_by (catalog_at t i b.node) (ref_of s) ≡ Behind link table → target_of (place_at t.places b.node) (catalog_at t i b.node) link ≡ Some c.node
      → LeadsTo t r c (passed_on s table) → LeadsTo t r b s

-- A run stands in a turn of the trace, which answers so.
pub record RanAt (t : History) (r : Run) (a : Answer) : Type 0 where
  pub turn : Turn
  pub there : slice_get t.trace r.moment ≡ Some (happenings.Turn turn)
  pub runs : run_in (facts_upto t r.moment) (with_begun (facts_upto t r.moment) (trail_upto t r.moment) turn) turn ≡ Some r
  pub answers : answered_by (outcome_at t.places (facts_upto t r.moment) turn) ≡ Some a

-- The answer of a command has this place: its call ended after so many happenings, and the run answered so.
pub record PlaceOf (t : History) (command : ℕ) (a : Answer) : Type 0 where
  pub node : ℕ
  pub session : ℕ
  pub statement : Stmt
  pub asked : command_at t.commands command ≡ commands.At node session (Some statement)
  pub ended : ℕ
  pub call : Call
  pub pending : call_at (past_upto t ended).run_report node session ≡ Some call
  pub its : call.command ≡ command
  pub over : call_at (past_upto t (ended + 1)).run_report node session ≡ None
  pub root : Seen
  pub transaction : root_at (trail_upto t (ended + 1)) node session ≡ Some root
  pub run : Run
  pub origin : root.answer ≡ Some run
  pub ran : RanAt t run a
  pub leads : LeadsTo t run root.me statement
  pub not_before : command ≤ (facts_upto t run.moment).command

-- an answer that a node gave to a command
abbrev pub node_line : ℕ → Answer → AnswerLine
node_line command a = record { command = command; said = said.Node a }

-- all that is all_lines of a run
abbrev pub reported_of : History → List AnswerLine
reported_of t = all_lines (past t.places t.commands (start t.places) t.trace).facts (past t.places t.commands (start t.places) t.trace).run_report

-- each answer of a query, and of a change of rows, has a place
abbrev pub AnswersHavePlaces : History → Type 0
AnswersHavePlaces t = (i command node session : ℕ) (s : Stmt) (a : Answer) → command_at t.commands command ≡ commands.At node session (Some s) → is_of_rows s ≡ true → is_accepted (Some a) ≡ true
    → slice_get (reported_of t) i ≡ Some (node_line command a) → PlaceOf t command a
