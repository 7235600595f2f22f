-- A happening counts one delivery at most, whatever is told of it.
use Rattle.std.proofs.Common.{◌≡◌, ℕ, ◌+◌, ◌==◌, ◌&&◌, ◌≤◌, Bool, true, false, List, [], ◌∷◌, length, find, Option, Some, None, refl, sym, subst, ◌∙◌, arith}
use Rattle.std.specs.Prelude.{is_some, is_none}
use Rattle.std.proofs.lemmas.Bool.{cond_both}
use Rattle.node_rules.specs.Data.{BranchId, Stmt, Place, Input}
use Rattle.node_rules.specs.Data.inputs
use Rattle.node_rules.specs.Data.stmts
use Rattle.node_rules.specs.NodeState.{NodeState, TurnOutput}
use Rattle.node_rules.specs.Sessions.{session_at}
use Rattle.node_rules.specs.Points.{Point}
use Rattle.run_rules.specs.Data.{Said, Took, Turn, Finished, Happening, Command}
use Rattle.run_rules.specs.Data.happenings
use Rattle.run_rules.specs.Facts.{Facts, node_at, outcome_at, command_at, facts_after}
use Rattle.run_rules.specs.RunReport.{Past, RunReport, Call, start}
use Rattle.run_rules.specs.Lines.{is_down, is_reached, says_node, call_line_of, reached_line, call_line, with_stop}
use Rattle.run_rules.specs.Calls.{call_at, without_call, is_complete, second_of, call_follows, call_ends, ends_or_follows, finished_call, finished, stopped_calls, waits, waits_if_pending, after_input}
use Rattle.run_rules.specs.Cuts.{Cut_by, By_nothing, By_point, By_strike, cut_by, appends_if, cut_appends, arms_point, arms, turn_appends}
use Rattle.run_rules.specs.Past.{delivered_more, is_call, without_following, ends_calls, report_turned, failed_start, start_refused, is_stop_of, stop_line, report_stopped, report_after, next, past}
use Rattle.run_number_laws.specs.Counts.{DeliveriesAreWithin}

-- as many deliveries are counted
abbrev AsMany : RunReport → RunReport → Type 0
AsMany t u = u.deliveries ≡ t.deliveries

-- ---- calls that end

module _ (running : ℕ) where
  line_of_many : (t : RunReport) (command : ℕ) (s : Said) → AsMany t (call_line_of running t command s)
  line_of_many t command s = cond_both (running == command) _ _ (AsMany t) (λ own. refl) (λ other. refl)

  reached_many : (t : RunReport) (command : ℕ) (o : Option Point) → AsMany t (reached_line running t command o)
  reached_many t command None = refl
  reached_many t command (Some x) = line_of_many t command _

  line_many : (t : RunReport) (command : ℕ) (s : Said) → AsMany t (call_line running t command s)
  line_many t command s = reached_many (call_line_of running t command s) command (find (is_reached command) t.points) ∙ line_of_many t command s

  call_many : (t : RunReport) (c : Call) (f : Finished) → AsMany t (call_ends running t c f)
  call_many t c f = line_many (without_call t c.node c.session) c.command (says_node f)

  ends_many : (t : RunReport) (c : Call) (f : Finished) (o : Option Stmt) → AsMany t (ends_or_follows running t c f o)
  ends_many t c f None = call_many t c f
  ends_many t c f (Some s) = cond_both (is_complete f.answer) (call_follows t (second_of c s)) (call_ends running t c f) (AsMany t) (λ goes. refl) (λ over. call_many t c f)

  finished_one : (t : RunReport) (f : Finished) (o : Option Call) → AsMany t (finished_call running t f o)
  finished_one t f None = refl
  finished_one t f (Some c) = ends_many t c f c.follows

  finished_many : (t : RunReport) (node : ℕ) (fs : List Finished) → AsMany t (finished running t node fs)
  finished_many t node [] = refl
  finished_many t node (f ∷ fs) = finished_many (finished_call running t f (call_at t node f.session)) node fs ∙ finished_one t f (call_at t node f.session)

  waits_many : (t : RunReport) → AsMany t (waits t)
  waits_many t = cond_both (t.hold && is_none t.next_call) _ t (AsMany t) (λ on. refl) (λ off. refl)

  pending_many : (t : RunReport) (o : Option Call) → AsMany t (waits_if_pending running t o)
  pending_many t None = refl
  pending_many t (Some c) = cond_both (c.command == running) (waits t) t (AsMany t) (λ own. waits_many t) (λ other. refl)

  input_many : (t : RunReport) (node : ℕ) (input : Input) → AsMany t (after_input running t node input)
  input_many t node (inputs.Call session s) = pending_many t (call_at t node session)
  input_many t node (inputs.GiveUp session) = refl
  input_many t node (inputs.Message m) = refl
  input_many t node inputs.Reco = refl
  input_many t node inputs.Checkpoint = refl

  turn_ends : (t : RunReport) (u : Turn) (cut : Bool) (o : Option TurnOutput) → AsMany t (ends_calls running t u cut o)
  turn_ends t u true o = refl
  turn_ends t u false None = refl
  turn_ends t u false (Some o) = input_many (finished running t u.node o.ended) u.node u.input ∙ finished_many t u.node o.ended

-- ---- a turn

appends_many : (t : RunReport) (n : ℕ) (writes : Bool) → AsMany t (appends_if t n writes)
appends_many t n true = refl
appends_many t n false = refl

cut_many : (t : RunReport) (n : ℕ) (writes : Bool) (c : Cut_by) → AsMany t (cut_appends t n writes c)
cut_many t n writes By_nothing = appends_many t n writes
cut_many t n writes (By_strike stands) = appends_many t n writes
cut_many t n writes (By_point root numbers stands) = appends_many t n stands

point_many : (t : RunReport) (b : Option BranchId) (c : Option Call) (number : Option ℕ) → AsMany t (arms_point t b c number)
point_many t (Some root) (Some c) (Some number) = refl
point_many t None c number = refl
point_many t (Some root) None number = refl
point_many t (Some root) (Some c) None = refl

arms_many : (t : RunReport) (n : ℕ) (k : NodeState) (input : Input) → AsMany t (arms t n k input)
arms_many t n k (inputs.Call session (Some (stmts.Commit (Some comment)))) = cond_both (is_none (session_at k.sessions session).code) _ t (AsMany t) (λ none. point_many t _ _ _) (λ some. refl)
arms_many t n k _ = refl

disks_many : (t : RunReport) (n : ℕ) (input : Input) (k : Option NodeState) (o : Option TurnOutput) → AsMany t (turn_appends t n input k o)
disks_many t n input (Some k) (Some o) = let u : RunReport = cut_appends t n (is_some o.wrote) (cut_by t n k input o) in arms_many u n k input ∙ cut_many t n (is_some o.wrote) (cut_by t n k input o)
disks_many t n input None o = refl
disks_many t n input (Some k) None = refl

following_many : (t : RunReport) (input : Input) → AsMany t (without_following t input)
following_many t input = cond_both (is_call input) (record t { next_call = None }) t (AsMany t) (λ call. refl) (λ other. refl)

-- one delivery is counted, where a message was taken
took_one : (t : RunReport) (o : Option Took) → (delivered_more t o).deliveries ≤ t.deliveries + 1
took_one t None = omega arith
took_one t (Some took) = omega arith

turned_one : (running : ℕ) (k : Option NodeState) (t : RunReport) (u : Turn) (o : Option TurnOutput) → (report_turned running k t u o).deliveries ≤ t.deliveries + 1
turned_one running k t u o =
    let t1 : RunReport = turn_appends t u.node u.input k o in
    let t2 : RunReport = delivered_more t1 u.took in
    let t3 : RunReport = without_following t2 u.input in
    let first : t1.deliveries ≡ t.deliveries = disks_many t u.node u.input k o in
    let second : t2.deliveries ≤ t1.deliveries + 1 = took_one t1 u.took in
    let third : t3.deliveries ≡ t2.deliveries = following_many t2 u.input in
    let fourth : (ends_calls running t3 u u.cut o).deliveries ≡ t3.deliveries = turn_ends running t3 u u.cut o in
    omega (arith, first, second, third, fourth)

-- ---- stops

stopped_many : (places : List Place) (running : ℕ) (t : RunReport) (n : ℕ) (cs : List Call) → AsMany t (stopped_calls places running t n cs)
stopped_many places running t n [] = refl
stopped_many places running t n (c ∷ cs) =
    cond_both (c.node == n) _ _ (AsMany t)
    (λ here. stopped_many places running (call_line running (without_call t c.node c.session) c.command (is_down places n)) n cs ∙ line_many running (without_call t c.node c.session) c.command (is_down places n))
    (λ other. stopped_many places running t n cs)

refused_many : (places : List Place) (f : Facts) (t : RunReport) (command : Command) (n : ℕ) → AsMany t (start_refused places f t command n)
refused_many places f t command n = cond_both (failed_start f command n) _ t (AsMany t) (λ failed. refl) (λ other. refl)

line_stops : (places : List Place) (t : RunReport) (command : Command) (n : ℕ) → AsMany t (stop_line places t command n)
line_stops places t command n = cond_both (is_stop_of command n) t (with_stop places t n) (AsMany t) (λ own. refl) (λ other. refl)

stops_many : (places : List Place) (asked : List Command) (f : Facts) (t : RunReport) (n : ℕ) → AsMany t (report_stopped places asked f t n)
stops_many places asked f t n =
    let t1 : RunReport = record (start_refused places f t (command_at asked f.command) n) { start_to_stop = None } in
    let t2 : RunReport = stopped_calls places f.command t1 n t.calls in
    line_stops places t2 (command_at asked f.command) n ∙ (stopped_many places f.command t1 n t.calls ∙ refused_many places f t (command_at asked f.command) n)

-- ---- each happening

told_one : (places : List Place) (asked : List Command) (f : Facts) (t : RunReport) (h : Happening) → (report_after places asked f t h).deliveries ≤ t.deliveries + 1
told_one places asked f t (happenings.Begun c) = omega arith
told_one places asked f t (happenings.Turn u) = turned_one f.command (node_at f u.node) t u (outcome_at places f u)
told_one places asked f t (happenings.Stopped n) = let same : (report_stopped places asked f t n).deliveries ≡ t.deliveries = stops_many places asked f t n in omega (arith, same)
told_one places asked f t (happenings.Started n boot) = omega arith
told_one places asked f t (happenings.Cut a b) = omega arith
told_one places asked f t (happenings.Join a b) = omega arith
told_one places asked f t (happenings.Lost k) = omega arith

-- a run so far with one happening more: its facts, and what is told of it
pub next_is : (places : List Place) (asked : List Command) (p : Past) (h : Happening) → next places asked p h ≡ record { facts = facts_after places asked p.facts h; run_report = report_after places asked p.facts p.run_report h }
unfolding next facts_after
next_is places asked p (happenings.Turn u) = refl
next_is places asked p (happenings.Begun c) = refl
next_is places asked p (happenings.Cut a b) = refl
next_is places asked p (happenings.Join a b) = refl
next_is places asked p (happenings.Lost k) = refl
next_is places asked p (happenings.Stopped n) = refl
next_is places asked p (happenings.Started n boot) = refl

one_more : (places : List Place) (asked : List Command) (p : Past) (h : Happening) → (next places asked p h).run_report.deliveries ≤ p.run_report.deliveries + 1
one_more places asked p h = subst (λ q. q.run_report.deliveries ≤ p.run_report.deliveries + 1) (sym (next_is places asked p h)) (told_one places asked p.facts p.run_report h)

counted : (places : List Place) (asked : List Command) (p : Past) (hs : List Happening) → (past places asked p hs).run_report.deliveries ≤ p.run_report.deliveries + length hs
unfolding past
counted places asked p [] = omega arith
counted places asked p (h ∷ hs) = let one = one_more places asked p h in let rest = counted places asked (next places asked p h) hs in omega (arith, one, rest)

pub deliveries_are_within : DeliveriesAreWithin
deliveries_are_within t = let all = counted t.places t.commands (start t.places) t.trace in omega (arith, all)
