-- What is told of a turn, by what is known of it: what cuts it, and what comes of it.
use Rattle.std.specs.Prelude.{ℕ, Bool, true, false, if◌then◌else◌, List, option_map, is_none, Option, Some, None}
use Rattle.node_rules.specs.Data.{Input}
use Rattle.node_rules.specs.Data.inputs
use Rattle.node_rules.specs.Data.stmts
use Rattle.node_rules.specs.Points.{Passes as PassesByRules, point_of, reaches}
use Rattle.node_points.specs.Passing.{passes_as}
use Rattle.run_rules.specs.Data.{Session, Finished, Turn}
use Rattle.run_rules.specs.Disks.{struck}
use Rattle.run_rules.specs.RunReport.{RunReport, orders_at}
use Rattle.run_rules.specs.Calls.{after_input, call_at, call_follows, finished, without_call}
use Rattle.run_rules.specs.Lines.{call_line, says_node}
use Rattle.run_rules.specs.Cuts.{Cut_by, By_nothing, By_point, By_strike, cut_append, cut_appends, arms_point}
use Rattle.run_rules.specs.Past.{acts, delivered_more, without_following}
use Rattle.run_report.specs.declared.cut.Cut.{Cut}
use Rattle.run_report.specs.declared.cut.Cut.TheVariants as cuts
use Rattle.run_report_parts.specs.declared.ending.Ending.{Ending}
use Rattle.run_report_parts.specs.declared.ending.Ending.TheVariants as endings
use Rattle.run_report.specs.declared.turn.TurnFacts.{TurnFacts}

-- ---- what cuts a turn

-- a cut, as the definitions have it
abbrev pub cut_as : Cut → Cut_by
cut_as cuts.Whole = By_nothing
cut_as (cuts.Before p) = By_point (passes_as p).root (passes_as p).before false
cut_as (cuts.After p) = By_point (passes_as p).root (passes_as p).after true
cut_as (cuts.InAppend stands) = By_strike stands

-- only a turn with a record makes an append
abbrev pub cut_in : RunReport → ℕ → Option PassesByRules → Bool → Cut_by
cut_in t n x writes = if writes then cut_append t x (struck 0 (orders_at t n)) else By_nothing

-- a point before the record, an order that strikes the append, or a point after the record
abbrev pub cut_of : RunReport → ℕ → Bool → Option PassesByRules → Cut_by
cut_of t n writes None = cut_in t n None writes
cut_of t n writes (Some x) = if reaches t.points x.root x.before then By_point x.root x.before false else cut_in t n (Some x) writes

-- ---- how a call ends

-- with it
abbrev pub ended_by : ℕ → RunReport → Finished → Ending → RunReport
ended_by running t f endings.NoCall = t
ended_by running t f (endings.Ends node session command) = call_line running (without_call t node session) command (says_node f)
ended_by running t f (endings.Follows second) = call_follows t second

-- ---- what comes of a turn

-- a COMMIT with a crash-test comment arms its point, unless it is refused
abbrev pub arms_by : RunReport → ℕ → Session → Input → RunReport
arms_by t n caller (inputs.Call session (Some (stmts.Commit (Some comment)))) =
    if is_none caller.code then arms_point t caller.root (call_at t n session) (point_of comment) else t
arms_by t n caller _ = t

-- the orders and the points after a turn
abbrev pub appends_by : RunReport → ℕ → TurnFacts → RunReport
appends_by t n facts = cut_appends t n facts.writes (cut_of t n facts.writes (option_map passes_as facts.passes))

-- the calls that a turn ended, unless it was cut
abbrev pub ends_by : ℕ → RunReport → Turn → List Finished → Bool → RunReport
ends_by running t u ended true = t
ends_by running t u ended false = after_input running (finished running t u.node ended) u.node u.input

-- a turn that is counted, before its calls end
abbrev pub counted_by : RunReport → Turn → TurnFacts → RunReport
counted_by t u facts = without_following (delivered_more (arms_by (appends_by t u.node facts) u.node facts.caller u.input) u.took) u.input

-- a turn
abbrev pub turned_by : ℕ → RunReport → Turn → TurnFacts → RunReport
turned_by running t u facts = acts (ends_by running (counted_by t u facts) u facts.ended u.cut)
