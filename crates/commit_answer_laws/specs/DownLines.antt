-- DTX-01 where a client called a node: the node was down as the command began, or it stopped while the call of the command was
-- pending there, by STOP or in a turn that was cut. And where a node stops, each call that is pending there is told so. A COMMIT
-- that ends like this gets no other answer. The book then shows what became of its transaction. (Database Administrator's Guide,
-- "Managing Distributed Transactions": in-doubt transactions after a failure.)
use Rattle.std.specs.Prelude.{◌≡◌, ℕ, ◌==◌, Bool, true, slice_get, Option, Some, None}
use Rattle.std.specs.List.{list_any}
use Rattle.node_rules.specs.Data.{Stmt}
use Rattle.run_rules.specs.Calls.{call_at}
use Rattle.run_rules.specs.Data.commands
use Rattle.run_rules.specs.Data.happenings
use Rattle.run_rules.specs.Facts.{command_at, node_at}
use Rattle.run_rules.specs.Lawful.{History}
use Rattle.run_rules.specs.Lines.{is_down, line}
use Rattle.run_rules.specs.RunReport.{Call}
use Rattle.run_claims.specs.Places.{past_upto, reported_of}

-- whether a call of a command is pending after so many happenings
abbrev pub is_pending : History → ℕ → ℕ → Bool
is_pending t moment command = list_any (λ (c : Call). c.command == command) (past_upto t moment).run_report.calls

-- Why a client is told by its command that this node is down.
pub data IsDown (t : History) (command node : ℕ) : Type 0 where
  Was_down : (moment : ℕ) → slice_get t.trace moment ≡ Some (happenings.Begun command) → node_at (past_upto t moment).facts node ≡ None → IsDown t command node
  Has_stopped : (moment : ℕ) → slice_get t.trace moment ≡ Some (happenings.Stopped node) → is_pending t moment command ≡ true → IsDown t command node

-- each line that says so of a client's command has that cause
abbrev pub DownLinesAreTrue : History → Type 0
DownLinesAreTrue t = (i command node session : ℕ) (text : Option Stmt) → command_at t.commands command ≡ commands.At node session text → slice_get (reported_of t) i ≡ Some (line command (is_down t.places node)) → IsDown t command node

-- each call that is pending at a node that stops has such a line
abbrev pub StoppedCallsAreTold : History → Type 0
StoppedCallsAreTold t = (moment node session : ℕ) (c : Call) → slice_get t.trace moment ≡ Some (happenings.Stopped node) → call_at (past_upto t moment).run_report node session ≡ Some c
    → (i : ℕ) × (slice_get (reported_of t) i ≡ Some (line c.command (is_down t.places node)))
