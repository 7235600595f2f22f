-- What each happening makes of the report so far: the lines of the commands before stay, those of the command that runs stay with
-- more behind them, and the pending calls are of the same commands.
use Rattle.std.proofs.Common.{◌≡◌, ℕ, ◌<◌, ◌==◌, ◌&&◌, not, Bool, true, false, if◌then◌else◌, List, [], ◌∷◌, ◌++◌, find, is_none, Option, Some, None, refl, sym, ap, subst, ◌∙◌, arith, append-nil}
use Rattle.std.specs.List.{AllByRecursion}
use Rattle.std.proofs.lemmas.Bool.{cond_both, eqb-true}
use Rattle.std.proofs.lemmas.List.{append_assoc}
use Rattle.node_rules.specs.Data.{BranchId, Input, Place}
use Rattle.node_rules.specs.Data.inputs
use Rattle.node_rules.specs.Data.stmts
use Rattle.node_rules.specs.NodeState.{NodeState, TurnOutput}
use Rattle.node_rules.specs.Points.{Point, point_of}
use Rattle.node_rules.specs.Sessions.{session_at}
use Rattle.node_rules.specs.Refusals.{ora}
use Rattle.node_rules.specs.Words.{one}
use Rattle.node_rules.specs.Ids.{decimal}
use Rattle.run_rules.specs.Calls.{is_call_at, call_at, without_call, change_call, is_complete, second_of, call_follows, call_ends, ends_or_follows, finished_call, finished, stopped_calls, waits, waits_if_pending, after_input}
use Rattle.run_rules.specs.Cuts.{Cut_by, By_nothing, By_point, By_strike, cut_by, appends, appends_if, cut_appends, arms_point, arms, turn_appends}
use Rattle.run_rules.specs.Data.{Command, Finished, Said, Took, Turn}
use Rattle.run_rules.specs.Data.notices
use Rattle.run_rules.specs.Data.said
use Rattle.run_rules.specs.Facts.{Facts, command_at}
use Rattle.run_rules.specs.Lines.{is_down, is_reached, refuses_with, line, with_own, with_other, call_line_of, reached_line, call_line, with_stop}
use Rattle.run_rules.specs.Past.{delivered_more, is_call, without_following, ends_calls, acts, report_turned, failed_start, start_refused, is_stop_of, stop_line, report_stopped}
use Rattle.run_rules.specs.RunReport.{Call, RunReport}
use Rattle.run_rules.proofs.ListLemmas.{all_filter, all_map, all_weaker}

-- calls of commands below a number
abbrev pub AreBelow : ℕ → List Call → Type 0
AreBelow m cs = AllByRecursion (λ (c : Call). c.command < m) cs

-- The lines of the commands before stay, and no call is of a later command than those before.
pub record Lasts (t u : RunReport) : Type 0 where
  pub lines : u.lines ≡ t.lines
  pub calls : (m : ℕ) → AreBelow m t.calls → AreBelow m u.calls

-- So do those of the command that runs.
pub record Grows (t u : RunReport) : Type 0 where
  pub lasts : Lasts t u
  pub more : List Said
  pub own : u.page.own ≡ t.page.own ++ more

pub lasts_on : {t u v : RunReport} → Lasts t u → Lasts u v → Lasts t v
lasts_on first second = record { lines = second.lines ∙ first.lines; calls = λ m all. second.calls m (first.calls m all) }

pub grows_on : {t u v : RunReport} → Grows t u → Grows u v → Grows t v
grows_on {t = t} first second = record {
  lasts = lasts_on first.lasts second.lasts;
  more = first.more ++ second.more;
  own = second.own ∙ (ap (λ xs. xs ++ second.more) first.own ∙ append_assoc t.page.own first.more second.more);
}

pub same_lasts : (t u : RunReport) → u.lines ≡ t.lines → u.calls ≡ t.calls → Lasts t u
same_lasts t u lines calls = record { lines = lines; calls = λ m all. subst (AreBelow m) (sym calls) all }

pub same_grows : (t u : RunReport) → u.lines ≡ t.lines → u.calls ≡ t.calls → u.page.own ≡ t.page.own → Grows t u
same_grows t u lines calls own = record { lasts = same_lasts t u lines calls; more = []; own = own ∙ sym (append-nil t.page.own) }

stays : (t : RunReport) → Grows t t
stays t = same_grows t t refl refl refl

-- ---- the answer of a call

module _ (running : ℕ) where
  line_grows : (t : RunReport) (command : ℕ) (s : Said) → Grows t (call_line_of running t command s)
  line_grows t command s =
      cond_both (running == command) (with_own t (t.page.own ++ one s)) (with_other t (line command s)) (Grows t)
      (λ own. record { lasts = same_lasts t _ refl refl; more = one s; own = refl }) (λ other. same_grows t _ refl refl refl)

  reached_grows : (t : RunReport) (command : ℕ) (o : Option Point) → Grows t (reached_line running t command o)
  reached_grows t command None = stays t
  reached_grows t command (Some x) = line_grows t command (refuses_with (ora 2059 (one (decimal x.number))))

  call_line_grows : (t : RunReport) (command : ℕ) (s : Said) → Grows t (call_line running t command s)
  call_line_grows t command s =
      let u : RunReport = call_line_of running t command s in grows_on (line_grows t command s) (reached_grows u command (find (is_reached command) t.points))

  gone_grows : (t : RunReport) (node session : ℕ) → Grows t (without_call t node session)
  gone_grows t node session = record {
    lasts = record {
      lines = refl;
      calls = λ m all. all_filter (λ (c : Call). c.command < m) (λ (c : Call). c.command < m) (λ c. not (is_call_at node session c)) (λ c passes so. so) t.calls all;
    };
    more = [];
    own = sym (append-nil t.page.own);
  }

  ends_grows : (t : RunReport) (c : Call) (f : Finished) → Grows t (call_ends running t c f)
  ends_grows t c f = grows_on (gone_grows t c.node c.session) (call_line_grows (without_call t c.node c.session) c.command _)

  follows_grows : (t : RunReport) (c : Call) → Grows t (call_follows t c)
  follows_grows t c = record {
    lasts = record {
      lines = refl;
      calls = λ m all. all_map (λ (x : Call). x.command < m) (change_call c) t.calls (all_weaker (λ (x : Call). x.command < m) (λ x. (change_call c x).command < m) (changed m) t.calls all);
    };
    more = [];
    own = sym (append-nil t.page.own);
  }
    where
      changed : (m : ℕ) (x : Call) → x.command < m → (change_call c x).command < m
      changed m x so = by (x.command == c.command) refl
        where
          by : (q : Bool) → (x.command == c.command) ≡ q → (if q then c else x).command < m
          by true same = subst (λ n. n < m) (eqb-true x.command c.command same) so
          by false other = so

  one_grows : (t : RunReport) (f : Finished) (o : Option Call) → Grows t (finished_call running t f o)
  one_grows t f None = stays t
  one_grows t f (Some c) = by c.follows
    where
      by : (o : Option _) → Grows t (ends_or_follows running t c f o)
      by None = ends_grows t c f
      by (Some s) = cond_both (is_complete f.answer) (call_follows t (second_of c s)) (call_ends running t c f) (Grows t) (λ complete. follows_grows t (second_of c s)) (λ refused. ends_grows t c f)

  all_grow : (t : RunReport) (node : ℕ) (fs : List Finished) → Grows t (finished running t node fs)
  all_grow t node [] = stays t
  all_grow t node (f ∷ fs) = let u : RunReport = finished_call running t f (call_at t node f.session) in grows_on (one_grows t f (call_at t node f.session)) (all_grow u node fs)

-- ---- before the calls end

-- The lines and the calls are the same.
record Same (t u : RunReport) : Type 0 where
  lines : u.lines ≡ t.lines
  calls : u.calls ≡ t.calls
  page : u.page ≡ t.page

same_on : {t u v : RunReport} → Same t u → Same u v → Same t v
same_on first second = record { lines = second.lines ∙ first.lines; calls = second.calls ∙ first.calls; page = second.page ∙ first.page }

itself : (t : RunReport) → Same t t
itself t = record { lines = refl; calls = refl; page = refl }

module _ (n : ℕ) where
  if_same : (t : RunReport) (writes : Bool) → Same t (appends_if t n writes)
  if_same t true = record { lines = refl; calls = refl; page = refl }
  if_same t false = itself t

  cut_same : (t : RunReport) (writes : Bool) (c : Cut_by) → Same t (cut_appends t n writes c)
  cut_same t writes By_nothing = if_same t writes
  cut_same t writes (By_strike stands) = if_same t writes
  cut_same t writes (By_point root numbers stands) = let it = if_same t stands in record { lines = it.lines; calls = it.calls; page = it.page }

  point_same : (t : RunReport) (root : Option BranchId) (c : Option Call) (number : Option ℕ) → Same t (arms_point t root c number)
  point_same t (Some root) (Some c) (Some number) = record { lines = refl; calls = refl; page = refl }
  point_same t (Some root) (Some c) None = itself t
  point_same t (Some root) None number = itself t
  point_same t None c number = itself t

  arms_same : (t : RunReport) (k : NodeState) (input : Input) → Same t (arms t n k input)
  arms_same t k (inputs.Call session (Some (stmts.Commit (Some comment)))) =
      cond_both (is_none (session_at k.sessions session).code) (arms_point t (session_at k.sessions session).root (call_at t n session) (point_of comment)) t (Same t)
      (λ free. point_same t (session_at k.sessions session).root (call_at t n session) (point_of comment)) (λ refused. itself t)
  arms_same t k (inputs.Call session (Some (stmts.Commit None))) = itself t
  arms_same t k (inputs.Call session (Some _)) = itself t
  arms_same t k (inputs.Call session None) = itself t
  arms_same t k (inputs.Message m) = itself t
  arms_same t k (inputs.GiveUp session) = itself t
  arms_same t k inputs.Reco = itself t
  arms_same t k inputs.Checkpoint = itself t

  appends_same : (t : RunReport) (input : Input) (k : Option NodeState) (o : Option TurnOutput) → Same t (turn_appends t n input k o)
  appends_same t input (Some k) (Some o) = same_on (cut_same t _ (cut_by t n k input o)) (arms_same _ k input)
  appends_same t input (Some k) None = itself t
  appends_same t input None o = itself t

delivered_same : (t : RunReport) (took : Option Took) → Same t (delivered_more t took)
delivered_same t None = itself t
delivered_same t (Some took) = record { lines = refl; calls = refl; page = refl }

following_same : (t : RunReport) (input : Input) → Same t (without_following t input)
following_same t input = cond_both (is_call input) _ t (Same t) (λ call. record { lines = refl; calls = refl; page = refl }) (λ other. itself t)

-- ---- a turn

waits_lasts : (t : RunReport) → Lasts t (waits t)
waits_lasts t = by (t.hold && is_none t.next_call)
  where
    by : (q : Bool) → Lasts t (if q then with_own t (one (said.World notices.Waiting)) else t)
    by true = same_lasts t (with_own t (one (said.World notices.Waiting))) refl refl
    by false = same_lasts t t refl refl

pending_lasts : (running : ℕ) (t : RunReport) (o : Option Call) → Lasts t (waits_if_pending running t o)
pending_lasts running t None = same_lasts t t refl refl
pending_lasts running t (Some c) = cond_both (c.command == running) (waits t) t (Lasts t) (λ own. waits_lasts t) (λ other. same_lasts t t refl refl)

input_lasts : (running : ℕ) (t : RunReport) (node : ℕ) (input : Input) → Lasts t (after_input running t node input)
input_lasts running t node (inputs.Call session statement) = pending_lasts running t (call_at t node session)
input_lasts running t node (inputs.Message m) = same_lasts t t refl refl
input_lasts running t node (inputs.GiveUp session) = same_lasts t t refl refl
input_lasts running t node inputs.Reco = same_lasts t t refl refl
input_lasts running t node inputs.Checkpoint = same_lasts t t refl refl

-- a call that is found is of such a command
found_below : (m : ℕ) (q : Call → Bool) (cs : List Call) (c : Call) → find q cs ≡ Some c → AreBelow m cs → c.command < m
found_below m q [] c is all = absurd cc
found_below m q (x ∷ cs) c is all = by (q x) is (found_below m q cs c)
  where
    by : (here : Bool) → (if here then Some x else find q cs) ≡ Some c → (find q cs ≡ Some c → AreBelow m cs → c.command < m) → c.command < m
    by true is later = (let it : Some x ≡ Some c = is in let same : x ≡ c = cc in subst (λ (y : Call). y.command < m) same all.0)
    by false is later = later is all.1

module _ (running : ℕ) (k : Option NodeState) (t : RunReport) (u : Turn) (o : Option TurnOutput) where
  abbrev v : RunReport
  v = without_following (delivered_more (turn_appends t u.node u.input k o) u.took) u.input

  before : Same t v
  before = same_on (appends_same u.node t u.input k o) (same_on (delivered_same _ u.took) (following_same _ u.input))

  before_grows : Grows t v
  before_grows = same_grows t v before.lines before.calls (ap (λ g. g.own) before.page)

  ends_lasts : (cut : Bool) (x : Option TurnOutput) → Lasts v (ends_calls running v u cut x)
  ends_lasts true x = same_lasts v v refl refl
  ends_lasts false None = same_lasts v v refl refl
  ends_lasts false (Some x) = lasts_on (all_grow running v u.node x.ended).lasts (input_lasts running (finished running v u.node x.ended) u.node u.input)

  pub turn_lasts : Lasts t (report_turned running k t u o)
  turn_lasts = lasts_on before_grows.lasts (let it = ends_lasts u.cut o in record { lines = it.lines; calls = it.calls })

  -- while no call of the command that runs is pending
  module _ (none : AreBelow running t.calls) where
    not_waiting : (w : RunReport) → AreBelow running w.calls → (input : Input) → Grows w (after_input running w u.node input)
    not_waiting w less (inputs.Call session statement) = by (call_at w u.node session) refl
      where
        by : (p : Option Call) → call_at w u.node session ≡ p → Grows w (waits_if_pending running w p)
        by None at = stays w
        by (Some c) at = (let low : c.command < running = found_below running (is_call_at u.node session) w.calls c at less in apart (c.command == running) refl low)
          where
            apart : (q : Bool) → (c.command == running) ≡ q → c.command < running → Grows w (if q then waits w else w)
            apart true same low = (let one : c.command ≡ running = eqb-true c.command running same in absurd (omega (arith, one, low)))
            apart false other low = stays w
    not_waiting w less (inputs.Message m) = stays w
    not_waiting w less (inputs.GiveUp session) = stays w
    not_waiting w less inputs.Reco = stays w
    not_waiting w less inputs.Checkpoint = stays w

    ends_grow : (cut : Bool) (x : Option TurnOutput) → Grows v (ends_calls running v u cut x)
    ends_grow true x = stays v
    ends_grow false None = stays v
    ends_grow false (Some x) =
        let w : RunReport = finished running v u.node x.ended in
        let it : Grows v w = all_grow running v u.node x.ended in
        grows_on it (not_waiting w (it.lasts.calls running (before_grows.lasts.calls running none)) u.input)

    pub turn_grows : Grows t (report_turned running k t u o)
    turn_grows = grows_on before_grows (let it = ends_grow u.cut o in record { lasts = record { lines = it.lasts.lines; calls = it.lasts.calls }; more = it.more; own = it.own })

-- ---- a stop

module _ (places : List Place) (running : ℕ) (n : ℕ) where
  calls_grow : (t : RunReport) (cs : List Call) → Grows t (stopped_calls places running t n cs)
  calls_grow t [] = stays t
  calls_grow t (c ∷ cs) =
      cond_both (c.node == n) (stopped_calls places running (call_line running (without_call t c.node c.session) c.command (is_down places n)) n cs) (stopped_calls places running t n cs) (Grows t)
      (λ here. grows_on (grows_on (gone_grows running t c.node c.session) (call_line_grows running (without_call t c.node c.session) c.command (is_down places n))) (calls_grow (call_line running (without_call t c.node c.session) c.command (is_down places n)) cs))
      (λ elsewhere. calls_grow t cs)

  line_same : (t : RunReport) (command : Command) → Grows t (stop_line places t command n)
  line_same t command = cond_both (is_stop_of command n) t (with_stop places t n) (Grows t) (λ own. stays t) (λ other. same_grows t _ refl refl refl)

module _ (places : List Place) (asked : List Command) (f : Facts) (t : RunReport) (n : ℕ) where
  abbrev refused : RunReport
  refused = record (start_refused places f t (command_at asked f.command) n) { start_to_stop = None }

  refused_lasts : Lasts t refused
  refused_lasts = cond_both (failed_start f (command_at asked f.command) n) (with_own (appends t n 3) (one (is_down places n))) t (λ r. Lasts t (record r { start_to_stop = None })) (λ failed. same_lasts t _ refl refl) (λ other. same_lasts t _ refl refl)

  rest_grows : Grows refused (acts (report_stopped places asked f t n))
  rest_grows =
      let w : RunReport = stopped_calls places f.command refused n t.calls in
      let it : Grows refused (stop_line places w (command_at asked f.command) n) = grows_on (calls_grow places f.command n refused t.calls) (line_same places f.command n w (command_at asked f.command)) in
      record { lasts = record { lines = it.lasts.lines; calls = it.lasts.calls }; more = it.more; own = it.own }

  pub stop_lasts : Lasts t (acts (report_stopped places asked f t n))
  stop_lasts = lasts_on refused_lasts rest_grows.lasts

  -- in another command than START
  pub stop_grows : failed_start f (command_at asked f.command) n ≡ false → Grows t (acts (report_stopped places asked f t n))
  stop_grows none = grows_on (record { lasts = refused_lasts; more = []; own = ap (λ q. (if q then with_own (appends t n 3) (one (is_down places n)) else t).page.own) none ∙ sym (append-nil t.page.own) }) rest_grows
