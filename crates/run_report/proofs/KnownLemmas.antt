-- What is told by what is known of the facts is what is told by the facts.
use Rattle.std.proofs.Common.{◌≡◌, ℕ, ◌==◌, not, Bool, true, false, if◌then◌else◌, List, [], ◌∷◌, is_none, is_some, slice_get, nat_lt, Option, Some, None, refl, sym, ap, ◌∙◌, arith}
use Rattle.std.proofs.lemmas.Bool.Decides.{nat_tests}
use Rattle.node_rules.specs.Data.{Place, Stmt, Input, RedoRecord}
use Rattle.node_rules.specs.Data.inputs
use Rattle.node_rules.specs.Data.stmts
use Rattle.node_rules.specs.Sessions.{session_at}
use Rattle.node_rules.specs.NodeState.{NodeState, TurnOutput}
use Rattle.node_rules.specs.Points.{Passes, passes}
use Rattle.run_rules.specs.Data.{Finished, Command, Session, Turn}
use Rattle.run_rules.specs.Data.commands
use Rattle.net_bag.specs.Net.{first_flying}
use Rattle.run_rules.specs.Disks.{Strike, struck}
use Rattle.run_rules.specs.Lines.{spent}
use Rattle.run_rules.specs.Facts.{Facts, command_at, node_at}
use Rattle.run_rules.specs.RunReport.{Call, RunReport, node_name, orders_at}
use Rattle.run_rules.specs.Commands.{calls_after, orders_after}
use Rattle.run_rules.specs.Calls.{stopped_calls}
use Rattle.run_rules.specs.Cuts.{cut_appends, cut_by, cut_before, cut_write, arms}
use Rattle.run_rules.specs.Past.{acts, delivered_more, ends_calls, failed_start, started_says, without_following}
use Rattle.run_rules.specs.Due.{Due as DueByRules, Delivers, act_of, acts_once, due_of, flows, most_of, next_command, next_delivery, next_give_up, next_pumped, first_losses}
use Rattle.run_report.specs.declared.begin.BeginFacts.{BeginFacts}
use Rattle.run_report.specs.declared.stops.StopFacts.{StopFacts}
use Rattle.run_report.specs.declared.turn.TurnFacts.{TurnFacts}
use Rattle.run_report.specs.declared.due.DueFacts.{DueFacts}
use Rattle.run_report_parts.specs.Endings.{keys_of}
use Rattle.run_report.specs.Known.{begun, calls_by, calls_fall, is_failed, orders_by, start_said, started_by, stopped_by, told_by}
use Rattle.run_report.specs.Turned.{arms_by, cut_in, cut_of, ends_by, turned_by}
use Rattle.run_report.specs.Due.{act_by, acts_once_by, due_by, flows_by, loss_first, may_act, next_command_by, next_delivery_by, next_give_up_by, next_pumped_by}
use Rattle.run_report.specs.Facts.{Cuts, IsDue, KnownAtStop, KnownDue, ReportsAll, ReportsBegin, ReportsStart, ReportsStop, ReportsTurn, transaction_for, up_for}

-- all lines
pub told_is : (running : ℕ) (flying : Bool) (t : RunReport) → ReportsAll running flying t (told_by running flying t)
told_is running flying t f r x = rw (r, x) refl

-- ---- a command begins

calls_are : (f : Facts) (t : RunReport) (c : ℕ) (command : Command) → calls_by (up_for f command) (transaction_for f command) t.calls c command ≡ calls_after f t c command
calls_are f t c (commands.At node session statement) = refl
calls_are f t c _ = refl

orders_are : (t : RunReport) (command : Command) → orders_by t.orders command ≡ orders_after t command
orders_are t (commands.Crash n write how) = refl
orders_are t (commands.Fault n call) = refl
orders_are t _ = refl

pub begun_is : (facts : BeginFacts) (t : RunReport) (c : ℕ) (command : Command) → ReportsBegin facts t c command (begun facts t c command)
begun_is facts t c command places f h = rw (h.running, h.flying, h.says, h.up, h.transaction, calls_are f t c command, orders_are t command) refl

-- ---- a node stops

falls_step : (places : List Place) (running : ℕ) (t : RunReport) (n : ℕ) (c : Call) (cs : List Call) (b : Bool) → (c.node == n) ≡ b
    → ((u : RunReport) → calls_fall running u n (node_name places n) (keys_of n cs) ≡ stopped_calls places running u n cs)
    → calls_fall running t n (node_name places n) (keys_of n (c ∷ cs)) ≡ stopped_calls places running t n (c ∷ cs)
falls_step places running t n c cs true is h = let same : c.node ≡ n = grind (arith, nat_tests) in rw (is, same) (h _)
falls_step places running t n c cs false is h = rw is (h t)

calls_fall_is : (places : List Place) (running : ℕ) (n : ℕ) (cs : List Call) (t : RunReport) → calls_fall running t n (node_name places n) (keys_of n cs) ≡ stopped_calls places running t n cs
calls_fall_is places running n [] t = refl
calls_fall_is places running n (c ∷ cs) t = falls_step places running t n c cs (c.node == n) refl (λ u. calls_fall_is places running n cs u)

none_is : {A : Type 0} → (x : Option A) → not (is_some x) ≡ is_none x
none_is None = refl
none_is (Some a) = refl

failed_is : (f : Facts) (facts : StopFacts) (command : Command) (n : ℕ) → KnownAtStop f n facts → is_failed facts command n ≡ failed_start f command n
failed_is f facts (commands.Start m) n h = rw (h.up, h.owed, none_is (node_at f n), none_is f.node_to_stop) refl
failed_is f facts _ n h = refl

pub stopped_is : (facts : StopFacts) (t : RunReport) (n : ℕ) (name : List ℕ) (command : Command) → ReportsStop facts t n name command (acts (stopped_by name facts t command n))
stopped_is facts t n name command places asked f h named same =
    rw (named, same, h.running, failed_is f facts (command_at asked f.command) n h, calls_fall_is places f.command n t.calls) refl

-- ---- a node starts

says_is : (places : List Place) (n : ℕ) (s : Option Strike) → start_said (node_name places n) s ≡ started_says places n s
says_is places n None = refl
says_is places n (Some s) = refl

pub started_is : (t : RunReport) (n : ℕ) (name : List ℕ) → ReportsStart t n name (acts (started_by name t n (struck 3 (orders_at t n))))
started_is t n name places named = rw (named, says_is places n (struck 3 (orders_at t n))) refl

-- ---- a turn

writes_is : (t : RunReport) (n : ℕ) (x : Option Passes) (wrote : Option RedoRecord) → cut_in t n x (is_some wrote) ≡ cut_write t n x wrote
writes_is t n x None = refl
writes_is t n x (Some r) = refl

before_is : (t : RunReport) (n : ℕ) (wrote : Option RedoRecord) (x : Option Passes) → cut_of t n (is_some wrote) x ≡ cut_before t n wrote x
before_is t n wrote None = writes_is t n None wrote
before_is t n wrote (Some x) = rw (writes_is t n (Some x) wrote) refl

-- what cuts a turn
cut_is : (t : RunReport) (n : ℕ) (k : NodeState) (input : Input) (o : TurnOutput) → cut_of t n (is_some o.wrote) (passes k input o) ≡ cut_by t n k input o
unfolding cut_by
cut_is t n k input o = before_is t n o.wrote (passes k input o)

pub cuts_are : (t : RunReport) (n : ℕ) (writes : Bool) (passed : Option Passes) → Cuts t n writes passed (cut_of t n writes passed)
cuts_are t n writes passed k input o w x = rw (w, x) (cut_is t n k input o)

arms_is : (t : RunReport) (n : ℕ) (k : NodeState) (input : Input) (caller : Session) → ((session : ℕ) (statement : Option Stmt) → input ≡ inputs.Call session statement → caller ≡ session_at k.sessions session)
    → arms_by t n caller input ≡ arms t n k input
arms_is t n k (inputs.Call session (Some (stmts.Commit (Some comment)))) caller h = rw (h session (Some (stmts.Commit (Some comment))) refl) refl
arms_is t n k _ caller h = refl

ends_are : (running : ℕ) (t : RunReport) (u : Turn) (o : TurnOutput) (ended : List Finished) (cut : Bool) → (cut ≡ false → ended ≡ o.ended) → ends_by running t u ended cut ≡ ends_calls running t u cut (Some o)
ends_are running t u o ended true h = refl
ends_are running t u o ended false h = rw (h refl) refl

pub turned_is : (facts : TurnFacts) (running : ℕ) (t : RunReport) (u : Turn) → ReportsTurn facts running t u (turned_by running t u facts)
turned_is facts running t u k o h =
    let a = cut_appends t u.node (is_some o.wrote) (cut_by t u.node k u.input o) in
    rw (h.writes, h.passed, cut_is t u.node k u.input o, arms_is a u.node k u.input facts.caller h.caller, ends_are running (without_following (delivered_more (arms a u.node k u.input) u.took) u.input) u o facts.ended u.cut h.ended) refl

-- ---- what is due

acts_is : (f : Facts) (t : RunReport) (facts : DueFacts) (command : Command) → facts.running ≡ f.command → facts.may_act ≡ may_act f command → act_by facts t command ≡ act_of f t command
acts_is f t facts (commands.At node session statement) running may = rw running refl
acts_is f t facts (commands.Lose k) running may = rw may refl
acts_is f t facts (commands.Stop n) running may = rw may refl
acts_is f t facts (commands.Start n) running may = rw may refl
acts_is f t facts (commands.Deliver k) running may = rw may refl
acts_is f t facts (commands.Again k) running may = rw may refl
acts_is f t facts (commands.GiveUp n session) running may = rw may refl
acts_is f t facts (commands.Reco n) running may = rw may refl
acts_is f t facts _ running may = refl

command_is : (asked : List Command) (f : Facts) (facts : DueFacts) → KnownDue asked f facts → next_command_by facts ≡ next_command asked f
command_is asked f facts h = rw (h.running, h.asked) refl

give_up_is : (asked : List Command) (f : Facts) (facts : DueFacts) → KnownDue asked f facts → (calls : List Call) → next_give_up_by facts calls ≡ next_give_up asked f calls
give_up_is asked f facts h [] = command_is asked f facts h
give_up_is asked f facts h (c ∷ cs) = refl

pumped_is : (asked : List Command) (f : Facts) (t : RunReport) (facts : DueFacts) → KnownDue asked f facts → (most : ℕ) (flying : Option ℕ) → next_pumped_by facts t most flying ≡ next_pumped asked f t most flying
pumped_is asked f t facts h most None = command_is asked f facts h
pumped_is asked f t facts h most (Some k) = ap (λ (d : DueByRules). if nat_lt t.deliveries most then Delivers k false else d) (command_is asked f facts h)

delivery_is : (asked : List Command) (f : Facts) (t : RunReport) (facts : DueFacts) → KnownDue asked f facts → (flying : Option ℕ) → next_delivery_by facts t flying ≡ next_delivery asked f t flying
delivery_is asked f t facts h None = give_up_is asked f facts h t.calls
delivery_is asked f t facts h (Some k) = ap (λ (d : DueByRules). if spent t.deliveries then d else Delivers k false) (give_up_is asked f facts h t.calls)

flows_is : (asked : List Command) (f : Facts) (t : RunReport) (facts : DueFacts) (command : Command) → KnownDue asked f facts → command ≡ command_at asked f.command
    → flows_by facts t command ≡ flows asked f t
flows_is asked f t facts command h same =
    rw (same, h.flying, pumped_is asked f t facts h (most_of (command_at asked f.command)) (first_flying f.net), delivery_is asked f t facts h (first_flying f.net)) refl

losses_first : (later : DueByRules) (losses : List ℕ) → loss_first later (slice_get losses 0) ≡ first_losses later losses
losses_first later [] = refl
losses_first later (k ∷ ks) = refl

acts_once_is : (asked : List Command) (f : Facts) (t : RunReport) (facts : DueFacts) (command : Command) → KnownDue asked f facts → command ≡ command_at asked f.command
    → acts_once_by facts t command ≡ acts_once asked f t
acts_once_is asked f t facts command h same =
    rw (flows_is asked f t facts command h same, acts_is f t facts command h.running (h.may ∙ ap (may_act f) (sym same)), same) refl

pub due_is : (facts : DueFacts) (t : RunReport) (command : Command) → IsDue facts t command (due_by facts t command)
unfolding due_of
due_is facts t command asked f h same =
    rw (acts_once_is asked f t facts command h same, h.to_stop, h.loss) (losses_first _ f.losses_to_report)
