-- What a caller knows of the facts of a run, as each call asks for it.
use Rattle.std.specs.Prelude.{◌≡◌, ℕ, Bool, false, List, length, slice_get, option_map, is_some, Option, Some}
use Rattle.node_rules.specs.Data.{Place, Stmt, Input}
use Rattle.node_rules.specs.Data.inputs
use Rattle.node_rules.specs.Sessions.{session_at}
use Rattle.node_rules.specs.NodeState.{NodeState, TurnOutput}
use Rattle.node_rules.specs.Points.{Passes, passes}
use Rattle.node_points.specs.Passing.{passes_as}
use Rattle.net_bag.specs.Net.{first_flying}
use Rattle.run_rules.specs.Data.{AnswerLine, Command, Turn}
use Rattle.run_rules.specs.Data.commands
use Rattle.run_rules.specs.Facts.{Facts, command_at, is_up, node_at}
use Rattle.run_rules.specs.Disks.{struck}
use Rattle.run_rules.specs.RunReport.{RunReport, node_name, orders_at}
use Rattle.run_rules.specs.Lines.{all_lines}
use Rattle.run_rules.specs.Commands.{begins, has_transaction, says_at_once}
use Rattle.run_rules.specs.Cuts.{Cut_by, cut_by}
use Rattle.run_rules.specs.Past.{acts, report_started, report_stopped, report_turned}
use Rattle.run_rules.specs.Due.{Due as DueByRules, due_of}
use Rattle.run_report.specs.declared.begin.BeginFacts.{BeginFacts}
use Rattle.run_report.specs.declared.stops.StopFacts.{StopFacts}
use Rattle.run_report.specs.declared.turn.TurnFacts.{TurnFacts}
use Rattle.run_report.specs.declared.due.DueFacts.{DueFacts}
use Rattle.run_report.specs.Due.{may_act}

-- whether the node of a client's call is up
abbrev pub up_for : Facts → Command → Bool
up_for f (commands.At node session statement) = is_up f node
up_for f _ = false

-- whether its session has a transaction
abbrev pub transaction_for : Facts → Command → Bool
transaction_for f (commands.At node session statement) = has_transaction (node_at f node) session
transaction_for f _ = false

-- This is known as a command begins.
pub record KnownAtBegin (places : List Place) (f : Facts) (t : RunReport) (command : Command) (facts : BeginFacts) : Type 0 where
  pub running : facts.running ≡ f.command
  pub flying : facts.flying ≡ is_some (first_flying f.net)
  pub says : facts.says ≡ says_at_once places f t command
  pub up : facts.is_up ≡ up_for f command
  pub transaction : facts.has_transaction ≡ transaction_for f command

-- This is known as a node stops.
pub record KnownAtStop (f : Facts) (n : ℕ) (facts : StopFacts) : Type 0 where
  pub running : facts.running ≡ f.command
  pub up : facts.is_up ≡ is_up f n
  pub owed : facts.is_owed ≡ is_some f.node_to_stop

-- This is known of a turn of a node that kept this, and that came to this; the calls that it ended, unless it was cut.
pub record KnownOfTurn (k : NodeState) (u : Turn) (o : TurnOutput) (facts : TurnFacts) : Type 0 where
  pub caller : (session : ℕ) (statement : Option Stmt) → u.input ≡ inputs.Call session statement → facts.caller ≡ session_at k.sessions session
  pub writes : facts.writes ≡ is_some o.wrote
  pub passed : option_map passes_as facts.passes ≡ passes k u.input o
  pub ended : u.cut ≡ false → facts.ended ≡ o.ended

-- This is known where it is asked what is due.
pub record KnownDue (script : List Command) (f : Facts) (facts : DueFacts) : Type 0 where
  pub running : facts.running ≡ f.command
  pub asked : facts.asked ≡ length script
  pub loss : facts.loss ≡ slice_get f.losses_to_report 0
  pub to_stop : facts.to_stop ≡ f.node_to_stop
  pub flying : facts.flying ≡ first_flying f.net
  pub may : facts.may_act ≡ may_act f (command_at script f.command)

-- ---- and each call gives what the definitions of a run say

-- all lines
abbrev pub ReportsAll : ℕ → Bool → RunReport → List AnswerLine → Type 0
ReportsAll running flying t lines = (f : Facts) → running ≡ f.command → flying ≡ is_some (first_flying f.net) → lines ≡ all_lines f t

-- what is all_lines after a command begins
abbrev pub ReportsBegin : BeginFacts → RunReport → ℕ → Command → RunReport → Type 0
ReportsBegin facts t c command after = (places : List Place) (f : Facts) → KnownAtBegin places f t command facts → after ≡ begins places f t c command

-- what is all_lines after a node stops
abbrev pub ReportsStop : StopFacts → RunReport → ℕ → List ℕ → Command → RunReport → Type 0
ReportsStop facts t n name command after =
    (places : List Place) (asked : List Command) (f : Facts) → KnownAtStop f n facts → name ≡ node_name places n → command ≡ command_at asked f.command → after ≡ acts (report_stopped places asked f t n)

-- what is all_lines after a node starts
abbrev pub ReportsStart : RunReport → ℕ → List ℕ → RunReport → Type 0
ReportsStart t n name after = (places : List Place) → name ≡ node_name places n → after ≡ acts (report_started places t n (struck 3 (orders_at t n)))

-- what is all_lines after a turn
abbrev pub ReportsTurn : TurnFacts → ℕ → RunReport → Turn → RunReport → Type 0
ReportsTurn facts running t u after = (k : NodeState) (o : TurnOutput) → KnownOfTurn k u o facts → after ≡ report_turned running (Some k) t u (Some o)

-- what cuts a turn
abbrev pub Cuts : RunReport → ℕ → Bool → Option Passes → Cut_by → Type 0
Cuts t n writes passed cut = (k : NodeState) (input : Input) (o : TurnOutput) → writes ≡ is_some o.wrote → passed ≡ passes k input o → cut ≡ cut_by t n k input o

-- what is due next
abbrev pub IsDue : DueFacts → RunReport → Command → DueByRules → Type 0
IsDue facts t command due = (asked : List Command) (f : Facts) → KnownDue asked f facts → command ≡ command_at asked f.command → due ≡ due_of asked (record { facts = f; run_report = t })
