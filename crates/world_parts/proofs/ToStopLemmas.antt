-- Which node has to stop since an order struck its start, the orders on disks and the lines of the commands before: calls that end, and
-- what is said, change nothing of them.
use Rattle.std.proofs.Common.{◌≡◌, ◌==◌, ◌&&◌, ℕ, Bool, true, false, if◌then◌else◌, List, [], ◌∷◌, find, is_some, is_none, Option, Some, None, refl, ◌∙◌}
use Rattle.node_rules.specs.Data.{Input, Place, Stmt}
use Rattle.node_rules.specs.Data.inputs
use Rattle.node_rules.specs.Data.stmts
use Rattle.node_rules.specs.NodeState.{NodeState, TurnOutput}
use Rattle.node_rules.specs.Points.{Point, point_of}
use Rattle.node_rules.specs.Sessions.{session_at}
use Rattle.tran_ids.specs.declared.branch.BranchId.{BranchId}
use Rattle.run_rules.specs.Data.{AnswerLine, Command, Finished, Said, Took, Turn}
use Rattle.run_rules.specs.Disks.{DiskOrders}
use Rattle.run_rules.specs.Calls.{after_input, call_at, call_ends, call_follows, ends_or_follows, finished, finished_call, second_of, stopped_calls, waits, waits_if_pending, without_call}
use Rattle.run_rules.specs.Cuts.{Cut_by, By_nothing, By_point, By_strike, appends_if, arms, arms_point, cut_appends, cut_by, turn_appends}
use Rattle.run_rules.specs.Facts.{Facts, command_at}
use Rattle.run_rules.specs.Lines.{call_line, call_line_of, is_down, is_reached, reached_line, says_node}
use Rattle.run_rules.specs.Past.{acts, delivered_more, ends_calls, is_stop_of, start_refused, stop_line, report_stopped, report_turned, without_following, is_call}
use Rattle.run_rules.specs.RunReport.{Call, RunReport}

-- the orders and the points of a turn change neither the node to stop nor the lines before
appended_left : (t : RunReport) (n : ℕ) (writes : Bool) → ((appends_if t n writes).start_to_stop ≡ t.start_to_stop) × ((appends_if t n writes).lines ≡ t.lines)
appended_left t n true = (refl, refl)
appended_left t n false = (refl, refl)

cut_left : (t : RunReport) (n : ℕ) (writes : Bool) (by : Cut_by) → ((cut_appends t n writes by).start_to_stop ≡ t.start_to_stop) × ((cut_appends t n writes by).lines ≡ t.lines)
cut_left t n writes By_nothing = appended_left t n writes
cut_left t n writes (By_strike stands) = appended_left t n writes
cut_left t n writes (By_point root numbers stands) = appended_left t n stands

module _ (o : Option ℕ) (d : List DiskOrders) (ls : List AnswerLine) where
  abbrev Has : RunReport → Type 0
  Has t = (t.start_to_stop ≡ o) × (t.orders ≡ d) × (t.lines ≡ ls)

  either : (b : Bool) (u v : RunReport) → Has u → Has v → Has (if b then u else v)
  either true u v this that = this
  either false u v this that = that

  line_keeps : (running : ℕ) (t : RunReport) (command : ℕ) (s : Said) → Has t → Has (call_line_of running t command s)
  line_keeps running t command s has = either (running == command) _ _ has has

  reached_keeps : (running : ℕ) (t : RunReport) (command : ℕ) (x : Option Point) → Has t → Has (reached_line running t command x)
  reached_keeps running t command None has = has
  reached_keeps running t command (Some x) has = line_keeps running t command _ has

  call_line_keeps : (running : ℕ) (t : RunReport) (command : ℕ) (s : Said) → Has t → Has (call_line running t command s)
  call_line_keeps running t command s has = reached_keeps running (call_line_of running t command s) command (find (is_reached command) t.points) (line_keeps running t command s has)

  -- a stop
  calls_keep : (places : List Place) (running : ℕ) (t : RunReport) (n : ℕ) (cs : List Call) → Has t → Has (stopped_calls places running t n cs)
  calls_keep places running t n [] has = has
  calls_keep places running t n (c ∷ cs) has =
      either (c.node == n) _ _ (calls_keep places running (call_line running (without_call t c.node c.session) c.command (is_down places n)) n cs (call_line_keeps running (without_call t c.node c.session) c.command (is_down places n) has))
      (calls_keep places running t n cs has)

  stop_line_keeps : (places : List Place) (t : RunReport) (command : Command) (n : ℕ) → Has t → Has (stop_line places t command n)
  stop_line_keeps places t command n has = either (is_stop_of command n) _ _ has has

  -- the calls that a turn ends
  ended_keeps : (running : ℕ) (t : RunReport) (f : Finished) (c : Option Call) → Has t → Has (finished_call running t f c)
  ended_keeps running t f None has = has
  ended_keeps running t f (Some c) has = by c.follows
    where
      by : (follows : Option Stmt) → Has (ends_or_follows running t c f follows)
      by None = call_line_keeps running (without_call t c.node c.session) c.command (says_node f) has
      by (Some s) = either _ (call_follows t (second_of c s)) (call_ends running t c f) has (call_line_keeps running (without_call t c.node c.session) c.command (says_node f) has)

  finished_keeps : (running : ℕ) (t : RunReport) (node : ℕ) (fs : List Finished) → Has t → Has (finished running t node fs)
  finished_keeps running t node [] has = has
  finished_keeps running t node (f ∷ fs) has =
      finished_keeps running (finished_call running t f (call_at t node f.session)) node fs (ended_keeps running t f (call_at t node f.session) has)

  pending_keeps : (running : ℕ) (t : RunReport) (c : Option Call) → Has t → Has (waits_if_pending running t c)
  pending_keeps running t None has = has
  pending_keeps running t (Some c) has = either (c.command == running) (waits t) t (either (t.hold && is_none t.next_call) _ _ has has) has

  input_keeps : (running : ℕ) (t : RunReport) (node : ℕ) (input : Input) → Has t → Has (after_input running t node input)
  input_keeps running t node (inputs.Call session statement) has = pending_keeps running t (call_at t node session) has
  input_keeps running t node (inputs.GiveUp session) has = has
  input_keeps running t node (inputs.Message m) has = has
  input_keeps running t node inputs.Reco has = has
  input_keeps running t node inputs.Checkpoint has = has

  -- the points
  point_keeps : (t : RunReport) (root : Option BranchId) (c : Option Call) (number : Option ℕ) → Has t → Has (arms_point t root c number)
  point_keeps t (Some root) (Some c) (Some number) has = has
  point_keeps t (Some root) (Some c) None has = has
  point_keeps t (Some root) None number has = has
  point_keeps t None c number has = has

  commit_keeps : (t : RunReport) (n : ℕ) (k : NodeState) (session : ℕ) (statement : Option Stmt) → Has t → Has (arms t n k (inputs.Call session statement))
  commit_keeps t n k session (Some (stmts.Commit (Some comment))) has = either (is_none (session_at k.sessions session).code) _ _ (point_keeps t (session_at k.sessions session).root (call_at t n session) (point_of comment) has) has
  commit_keeps t n k session _ has = has

  pub arms_keep : (t : RunReport) (n : ℕ) (k : NodeState) (input : Input) → Has t → Has (arms t n k input)
  arms_keep t n k (inputs.Call session statement) has = commit_keeps t n k session statement has
  arms_keep t n k (inputs.GiveUp session) has = has
  arms_keep t n k (inputs.Message m) has = has
  arms_keep t n k inputs.Reco has = has
  arms_keep t n k inputs.Checkpoint has = has

  took_keeps : (t : RunReport) (took : Option Took) → Has t → Has (delivered_more t took)
  took_keeps t None has = has
  took_keeps t (Some took) has = has

  ends_keep : (running : ℕ) (t : RunReport) (u : Turn) (cut : Bool) (out : Option TurnOutput) → Has t → Has (ends_calls running t u cut out)
  ends_keep running t u true out has = has
  ends_keep running t u false None has = has
  ends_keep running t u false (Some out) has = input_keeps running (finished running t u.node out.ended) u.node u.input (finished_keeps running t u.node out.ended has)

  -- what is left of a turn, behind its append and its points
  pub rest_keeps : (running : ℕ) (t : RunReport) (u : Turn) (out : Option TurnOutput) → Has t → Has (acts (ends_calls running (without_following (delivered_more t u.took) u.input) u u.cut out))
  rest_keeps running t u out has =
      let took = took_keeps t u.took has in
      ends_keep running (without_following (delivered_more t u.took) u.input) u u.cut out (either (is_call u.input) _ _ took took)

  -- a turn, behind its append
  pub turn_keeps : (running : ℕ) (k : NodeState) (t : RunReport) (u : Turn) (out : TurnOutput) → Has (cut_appends t u.node (is_some out.wrote) (cut_by t u.node k u.input out)) → Has (report_turned running (Some k) t u (Some out))
  turn_keeps running k t u out has =
      let armed : Has (turn_appends t u.node u.input (Some k) (Some out)) = arms_keep (cut_appends t u.node (is_some out.wrote) (cut_by t u.node k u.input out)) u.node k u.input has in
      rest_keeps running (turn_appends t u.node u.input (Some k) (Some out)) u (Some out) armed

module _ (running : ℕ) (k : NodeState) (t : RunReport) (u : Turn) (out : TurnOutput) where
  abbrev left : RunReport
  left = cut_appends t u.node (is_some out.wrote) (cut_by t u.node k u.input out)

  -- no start is to stop but the one from before
  pub turn_upright : (report_turned running (Some k) t u (Some out)).start_to_stop ≡ t.start_to_stop
  turn_upright = (turn_keeps left.start_to_stop left.orders left.lines running k t u out (refl, refl, refl)).0 ∙ (cut_left t u.node (is_some out.wrote) (cut_by t u.node k u.input out)).0

  -- the orders are those that its append left
  pub turn_orders : (report_turned running (Some k) t u (Some out)).orders ≡ left.orders
  turn_orders = (turn_keeps left.start_to_stop left.orders left.lines running k t u out (refl, refl, refl)).1

  -- the lines of the commands before stay
  lines_stay : (report_turned running (Some k) t u (Some out)).lines ≡ t.lines
  lines_stay = (turn_keeps left.start_to_stop left.orders left.lines running k t u out (refl, refl, refl)).2 ∙ (cut_left t u.node (is_some out.wrote) (cut_by t u.node k u.input out)).1

-- whatever a turn was, the lines of the commands before stay
pub turn_lines : (running : ℕ) (k : Option NodeState) (t : RunReport) (u : Turn) (out : Option TurnOutput) → (report_turned running k t u out).lines ≡ t.lines
turn_lines running (Some k) t u (Some out) = lines_stay running k t u out
turn_lines running (Some k) t u None = (rest_keeps t.start_to_stop t.orders t.lines running t u None (refl, refl, refl)).2
turn_lines running None t u out = (rest_keeps t.start_to_stop t.orders t.lines running t u out (refl, refl, refl)).2

-- a stop leaves no other to come
pub stop_ends : (places : List Place) (asked : List Command) (f : Facts) (t : RunReport) (n : ℕ) → (report_stopped places asked f t n).start_to_stop ≡ None
stop_ends places asked f t n =
    let u : RunReport = record (start_refused places f t (command_at asked f.command) n) { start_to_stop = None } in
    (stop_line_keeps None u.orders u.lines places (stopped_calls places f.command u n t.calls) (command_at asked f.command) n (calls_keep None u.orders u.lines places f.command u n t.calls (refl, refl, refl))).0

-- and changes no orders but those of a start that it refuses
pub stop_orders : (places : List Place) (asked : List Command) (f : Facts) (t : RunReport) (n : ℕ) → (report_stopped places asked f t n).orders ≡ (start_refused places f t (command_at asked f.command) n).orders
stop_orders places asked f t n =
    let u : RunReport = record (start_refused places f t (command_at asked f.command) n) { start_to_stop = None } in
    (stop_line_keeps None u.orders u.lines places (stopped_calls places f.command u n t.calls) (command_at asked f.command) n (calls_keep None u.orders u.lines places f.command u n t.calls (refl, refl, refl))).1
