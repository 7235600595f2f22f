-- What each happening makes of a run so far: of its facts, and of what is told. Oldest happening first.
use Rattle.std.specs.Prelude.{ℕ, ◌+◌, ◌==◌, ◌&&◌, Bool, true, false, if◌then◌else◌, List, [], ◌∷◌, is_none, Option, Some, None}
use Rattle.node_rules.specs.Data.{Input, Place}
use Rattle.node_rules.specs.Data.inputs
use Rattle.node_rules.specs.Words.{one}
use Rattle.node_rules.specs.NodeState.{NodeState, TurnOutput}
use Rattle.run_rules.specs.Data.{Took, Turn, Happening, Said, Command}
use Rattle.run_rules.specs.Data.happenings
use Rattle.run_rules.specs.Data.commands
use Rattle.run_rules.specs.Disks.{Strike, struck}
use Rattle.run_rules.specs.Calls.{after_input, stopped_calls, finished}
use Rattle.run_rules.specs.Commands.{begins}
use Rattle.run_rules.specs.Cuts.{appends, turn_appends}
use Rattle.run_rules.specs.Lines.{fine, is_down, with_own, with_stop}
use Rattle.run_rules.specs.Facts.{Facts, command_at, node_at, outcome_at, facts_turned, facts_after}
use Rattle.run_rules.specs.RunReport.{Past, RunReport, orders_at}

-- ---- a turn

-- a delivery is counted
abbrev pub delivered_more : RunReport → Option Took → RunReport
delivered_more t None = t
delivered_more t (Some took) = record t { deliveries = t.deliveries + 1 }

-- whether an input is a client's call
abbrev pub is_call : Input → Bool
is_call (inputs.Call session statement) = true
is_call _ = false

-- the second call of a CREATE has come
abbrev pub without_following : RunReport → Input → RunReport
without_following t input = if is_call input then record t { next_call = None } else t

-- the calls that a turn ended, unless it was cut
abbrev pub ends_calls : ℕ → RunReport → Turn → Bool → Option TurnOutput → RunReport
ends_calls running t u true o = t
ends_calls running t u false None = t
ends_calls running t u false (Some o) = after_input running (finished running t u.node o.ended) u.node u.input

-- something has happened since the command began
abbrev pub acts : RunReport → RunReport
acts t = record t { acted = true }

-- a turn at a node that kept this, and that came to this
abbrev pub report_turned : ℕ → Option NodeState → RunReport → Turn → Option TurnOutput → RunReport
report_turned running k t u o = acts (ends_calls running (without_following (delivered_more (turn_appends t u.node u.input k o) u.took) u.input) u u.cut o)

-- what a turn comes to is worked out once
abbrev pub turned : Past → Turn → Option TurnOutput → Past
turned p u o = record { facts = facts_turned p.facts u o; run_report = report_turned p.facts.command (node_at p.facts u.node) p.run_report u o }

-- ---- stops and starts

-- whether a node is down in its own START: an order struck it before its Boot stood
abbrev pub failed_start : Facts → Command → ℕ → Bool
failed_start f (commands.Start m) n = (m == n) && (is_none (node_at f n) && is_none f.node_to_stop)
failed_start f _ n = false

-- such a START is refused, and the calls of its append are counted
abbrev pub start_refused : List Place → Facts → RunReport → Command → ℕ → RunReport
start_refused places f t command n = if failed_start f command n then with_own (appends t n 3) (one (is_down places n)) else t

-- whether this is a STOP of the node
abbrev pub is_stop_of : Command → ℕ → Bool
is_stop_of (commands.Stop m) n = m == n
is_stop_of _ n = false

-- `node X stopped` stands for every stop but a STOP's own
abbrev pub stop_line : List Place → RunReport → Command → ℕ → RunReport
stop_line places t command n = if is_stop_of command n then t else with_stop places t n

-- a node stops: its calls end
abbrev pub report_stopped : List Place → List Command → Facts → RunReport → ℕ → RunReport
report_stopped places asked f t n =
    stop_line places (stopped_calls places f.command (record (start_refused places f t (command_at asked f.command) n) { start_to_stop = None }) n t.calls) (command_at asked f.command) n

-- a START answers ok, or DTX-01 where an order strikes it after its Boot stands
abbrev pub started_says : List Place → ℕ → Option Strike → List Said
started_says places n None = fine
started_says places n (Some s) = one (is_down places n)

-- and then its node stops at once
abbrev pub falls_if : ℕ → Option Strike → Option ℕ
falls_if n None = None
falls_if n (Some s) = Some n

-- a node starts, with the calls of its Boot's append counted
abbrev pub report_started : List Place → RunReport → ℕ → Option Strike → RunReport
report_started places t n strike = record (with_own (appends t n 3) (started_says places n strike)) { start_to_stop = falls_if n strike }

-- ---- each happening

-- what is told after one happening more; a turn is worked out with its facts
abbrev pub report_after : List Place → List Command → Facts → RunReport → Happening → RunReport
report_after places asked f t (happenings.Begun c) = begins places f t c (command_at asked c)
report_after places asked f t (happenings.Turn u) = report_turned f.command (node_at f u.node) t u (outcome_at places f u)
report_after places asked f t (happenings.Stopped n) = acts (report_stopped places asked f t n)
report_after places asked f t (happenings.Started n boot) = acts (report_started places t n (struck 3 (orders_at t n)))
report_after places asked f t _ = acts t

-- one happening more
unfoldable pub next : List Place → List Command → Past → Happening → Past
next places asked p (happenings.Turn u) = turned p u (outcome_at places p.facts u)
next places asked p h = record { facts = facts_after places asked p.facts h; run_report = report_after places asked p.facts p.run_report h }

-- what these happenings leave
unfoldable pub past : List Place → List Command → Past → List Happening → Past
past places asked p [] = p
past places asked p (h ∷ hs) = past places asked (next places asked p h) hs
