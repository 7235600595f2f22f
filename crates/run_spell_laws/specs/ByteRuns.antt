-- What the nodes of a run write and say has bytes, where clients ask for statements that texts spell.
use Rattle.std.specs.Prelude.{◌≡◌, ℕ, ◌≤◌, List, Option, Some, IfSome}
use Rattle.std.specs.List.{AllByRecursion}
use Rattle.dtx_values.specs.Limits.{link_limit}
use Rattle.sql_print.specs.Printing.{IsPrintable}
use Rattle.node_rules.specs.Data.{Place, Input}
use Rattle.node_rules.specs.Data.inputs
use Rattle.node_rules.specs.NodeState.{NodeState, TurnOutput}
use Rattle.node_rules.specs.Turn.{turn_of}
use Rattle.node_ready_laws.specs.Ready.{IsExpected}
use Rattle.node_spell_laws.specs.Bytes.{HasBytes, KeepsBytes}
use Rattle.node_spell_laws.specs.Record.{RecordHasBytes}
use Rattle.node_spell_laws.specs.Written.{HasRoomForScn}
use Rattle.run_rules.specs.Data.{Happening, Took, Turn, Command}
use Rattle.run_rules.specs.Data.commands
use Rattle.run_rules.specs.Data.happenings
use Rattle.run_rules.specs.Facts.{Facts, place_at, node_at}
use Rattle.run_rules.specs.Lawful.{History, IsLawfulRun, Comes, facts_at}
use Rattle.run_base_laws.specs.NodeLaws.{AtEachFact}
use Rattle.run_rules.specs.RunReport.{Call, start}
use Rattle.run_rules.specs.Past.{past}
use Rattle.run_rules.specs.Due.{Pends, due_of, comes_next}
use Rattle.run_rules.specs.Scripts.{IsTheRunOf}
use Rattle.run_ready_laws.specs.ReadyRuns.{RepliesTellFew}

-- a call is of a statement that its printed text spells, as it is where any text spells it
abbrev pub CallIsSpelled : Input → Type 0
CallIsSpelled (inputs.Call session (Some s)) = IsPrintable s
CallIsSpelled _ = Unit {0}

-- so is the call that comes to a node
abbrev pub CallsAreSpelled : List Place → Facts → Happening → Type 0
CallsAreSpelled places f (happenings.Turn u) = CallIsSpelled u.input
CallsAreSpelled places f _ = Unit {0}

-- A lawful run whose Replies tell of few branches, and whose calls are of such statements.
pub record IsSpelledRun (t : History) : Type 0 where
  pub lawful : IsLawfulRun t
  pub few : AtEachFact RepliesTellFew t
  pub spelled : AtEachFact CallsAreSpelled t

-- In every such run each node that is up keeps what has bytes.
abbrev pub NodesKeepBytes : Type 0
NodesKeepBytes = (t : History) → IsSpelledRun t → (n : ℕ) (k : NodeState) → node_at (facts_at t) n ≡ Some k → KeepsBytes k

-- Each message that was sent has bytes.
abbrev pub MessagesHaveBytes : Type 0
MessagesHaveBytes = (t : History) → IsSpelledRun t → AllByRecursion (λ x. HasBytes x.msg.kind) (facts_at t).net.packets

-- A turn whose record and whose messages have bytes.
pub record TurnHasBytes (o : TurnOutput) : Type 0 where
  pub wrote : IfSome o.wrote RecordHasBytes
  pub sent : AllByRecursion (λ m. HasBytes m.kind) o.sent

-- Each turn that may come next has bytes, where the node expects what comes, has few links, and its clock leaves room for an SCN.
abbrev pub TurnsHaveBytes : Type 0
TurnsHaveBytes = (t : History) → IsSpelledRun t → (n : ℕ) (k : NodeState) (input : Input) (took : Option Took) → node_at (facts_at t) n ≡ Some k → Comes (facts_at t) k n input took
    → CallIsSpelled input → IsExpected input → (place_at t.places n).links ≤ link_limit → HasRoomForScn k input → TurnHasBytes (turn_of (place_at t.places n) k input)

-- ---- the run of a script

-- a command asks for a statement that its printed text spells, as each does whose statement is read from a text
abbrev pub AsksSpelled : Command → Type 0
AsksSpelled (commands.At node session statement) = IfSome statement IsPrintable
AsksSpelled _ = Unit {0}

-- In the run of a script whose commands ask so the calls are spelled.
abbrev pub ScriptsCallsAreSpelled : Type 0
ScriptsCallsAreSpelled = (t : History) → AllByRecursion AsksSpelled t.commands → IsTheRunOf t → AtEachFact CallsAreSpelled t

-- And so is the call that is due.
abbrev pub DueCallsAreSpelled : Type 0
DueCallsAreSpelled = (t : History) (c : Call) → AllByRecursion AsksSpelled t.commands → due_of t.commands (past t.places t.commands (start t.places) t.trace) ≡ Pends c → IfSome c.statement IsPrintable

-- In the run of such a script, whose Replies tell of few branches, the turn that is due has bytes, where the node expects what
-- comes, has few links, and its clock leaves room for an SCN.
abbrev pub DueTurnsHaveBytes : Type 0
DueTurnsHaveBytes = (t : History) (u : Turn) (k : NodeState) → AllByRecursion AsksSpelled t.commands → IsTheRunOf t → AtEachFact RepliesTellFew t
    → comes_next t.places t.commands (past t.places t.commands (start t.places) t.trace) ≡ Some (happenings.Turn u) → node_at (facts_at t) u.node ≡ Some k
    → IsExpected u.input → (place_at t.places u.node).links ≤ link_limit → HasRoomForScn k u.input → TurnHasBytes (turn_of (place_at t.places u.node) k u.input)
