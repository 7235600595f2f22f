-- What is told, by what is known of the facts of a run: as a command begins, as a node stops, as one starts.
use Rattle.std.specs.Prelude.{ℕ, ◌==◌, ◌&&◌, not, Bool, false, if◌then◌else◌, List, [], ◌∷◌, ◌++◌, find, unwrap_or, is_some, Option, Some, None}
use Rattle.node_rules.specs.Words.{numbered, one, set_numbered}
use Rattle.node_rules.specs.Refusals.{dtx}
use Rattle.run_rules.specs.Data.{Said, AnswerLine, Command}
use Rattle.run_rules.specs.Data.commands
use Rattle.run_rules.specs.Disks.{DiskOrders, Strike, no_orders, opens_gate}
use Rattle.run_rules.specs.RunReport.{Call, RunReport}
use Rattle.run_rules.specs.Calls.{is_call_at, without_call}
use Rattle.run_rules.specs.Commands.{call_of, page_of, hold_after}
use Rattle.run_rules.specs.Cuts.{appends}
use Rattle.run_rules.specs.Lines.{fine, refuses_with, with_own, spent, call_line}
use Rattle.run_rules.specs.Past.{is_stop_of, falls_if}
use Rattle.run_report_parts.specs.declared.calls.CallKey.{CallKey}
use Rattle.run_report_parts.specs.Lines.{down_said, page_by, stop_said}
use Rattle.run_report_parts.specs.Endings.{keys_of}
use Rattle.run_report.specs.declared.begin.BeginFacts.{BeginFacts}
use Rattle.run_report.specs.declared.stops.StopFacts.{StopFacts}

-- ---- lines

-- with it
abbrev pub with_stop_of : List ℕ → RunReport → RunReport
with_stop_of name t = record t { page = record t.page { stops = t.page.stops ++ one (stop_said name) } }

-- DTX-05, where a command has made its most deliveries and messages are in flight
abbrev pub over_lines : ℕ → Bool → List Said
over_lines deliveries flying = if spent deliveries && flying then one (refuses_with (dtx 5 [])) else []

-- all lines
abbrev pub told_by : ℕ → Bool → RunReport → List AnswerLine
told_by running flying t = t.lines ++ page_by running t.page (over_lines t.deliveries flying)

-- ---- a command begins

-- a call at a node that is up pends, where the session has none pending
abbrev pub calls_by : Bool → Bool → List Call → ℕ → Command → List Call
calls_by is_up has_transaction calls c (commands.At node session statement) =
    if is_up && not (is_some (find (is_call_at node session) calls)) then calls ++ call_of c node session statement has_transaction ∷ [] else calls
calls_by is_up has_transaction calls c _ = calls

-- the orders on a disk, where these are those of all
abbrev pub orders_in : List DiskOrders → ℕ → DiskOrders
orders_in os n = unwrap_or (numbered os n) no_orders

-- CRASH and FAULT are orders on a node's disk; a later one of the same kind takes the place of an earlier one
abbrev pub orders_by : List DiskOrders → Command → List DiskOrders
orders_by os (commands.Crash n write how) = set_numbered os n (record (orders_in os n) { stop = Some (record { write = write; opens = opens_gate how }) })
orders_by os (commands.Fault n call) = set_numbered os n (record (orders_in os n) { fault = Some call })
orders_by os _ = os

-- a command of this number begins
abbrev pub begun : BeginFacts → RunReport → ℕ → Command → RunReport
begun facts t c command = record t {
  acted = false;
  deliveries = 0;
  page = page_of facts.says;
  hold = hold_after t.hold command;
  calls = calls_by facts.is_up facts.has_transaction t.calls c command;
  orders = orders_by t.orders command;
  lines = told_by facts.running facts.flying t;
}

-- ---- a node stops

-- a call of a stopped node ends
abbrev pub call_falls : ℕ → RunReport → ℕ → List ℕ → CallKey → RunReport
call_falls running t n name k = call_line running (without_call t n k.session) k.command (down_said name)

-- these calls of a stopped node end
abbrev pub calls_fall : ℕ → RunReport → ℕ → List ℕ → List CallKey → RunReport
calls_fall running t n name [] = t
calls_fall running t n name (k ∷ ks) = calls_fall running (call_falls running t n name k) n name ks

-- whether a command is the START of a node that is down and owes no stop: an order struck that START before its Boot stood
abbrev pub is_failed : StopFacts → Command → ℕ → Bool
is_failed facts (commands.Start m) n = (m == n) && (not facts.is_up && not facts.is_owed)
is_failed facts _ n = false

-- such a START is refused, and the calls of its append are counted
abbrev pub refused_start : List ℕ → StopFacts → RunReport → Command → ℕ → RunReport
refused_start name facts t command n = if is_failed facts command n then with_own (appends t n 3) (one (down_said name)) else t

-- no node has to stop that an order struck in its start
abbrev pub fallen : RunReport → RunReport
fallen t = record t { start_to_stop = None }

-- `node X stopped`, unless this is a STOP of the node
abbrev pub stop_told : List ℕ → RunReport → Command → ℕ → RunReport
stop_told name t command n = if is_stop_of command n then t else with_stop_of name t

-- a node stops: its calls end
abbrev pub stopped_by : List ℕ → StopFacts → RunReport → Command → ℕ → RunReport
stopped_by name facts t command n =
    stop_told name (calls_fall facts.running (fallen (refused_start name facts t command n)) n name (keys_of n t.calls)) command n

-- ---- a node starts

-- ok, or DTX-01 where an order strikes the start after its Boot stands
abbrev pub start_said : List ℕ → Option Strike → List Said
start_said name None = fine
start_said name (Some s) = one (down_said name)

-- a node starts
abbrev pub started_by : List ℕ → RunReport → ℕ → Option Strike → RunReport
started_by name t n strike = record (with_own (appends t n 3) (start_said name strike)) { start_to_stop = falls_if n strike }
