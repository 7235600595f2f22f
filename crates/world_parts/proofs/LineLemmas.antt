-- Each line of a run is of a command that has begun, or of none.
use Rattle.std.proofs.Common.{◌≡◌, ◌⊎◌, inl, inr, ◌==◌, ◌&&◌, ℕ, Bool, true, false, if◌then◌else◌, not, List, [], ◌∷◌, ◌++◌, find, is_none, is_some, nat_lt, map, Option, Some, None, refl, sym, subst, ◌∙◌}
use Rattle.std.specs.List.{AllByRecursion}
use Rattle.node_rules.specs.Data.{Place, Input, Stmt, BranchId}
use Rattle.node_rules.specs.Data.stmts
use Rattle.node_rules.specs.Data.inputs
use Rattle.node_rules.specs.NodeState.{NodeState, TurnOutput}
use Rattle.node_rules.specs.Points.{Point, point_of}
use Rattle.node_rules.specs.Sessions.{session_at}
use Rattle.run_rules.specs.Data.{AnswerLine, Command, Finished, Happening, Said, Took, Turn}
use Rattle.run_rules.specs.Data.commands
use Rattle.run_rules.specs.Data.happenings
use Rattle.run_rules.specs.Calls.{after_input, call_at, call_ends, call_follows, change_call, ends_or_follows, finished, finished_call, is_call_at, is_complete, second_of, stopped_calls, waits, waits_if_pending, without_call}
use Rattle.net_bag.specs.Net.{may_deliver, may_repeat}
use Rattle.run_rules.specs.Commands.{call_of, calls_after, commits_first, has_call, has_transaction, is_enabled, says_at_once}
use Rattle.run_rules.specs.Cuts.{Cut_by, By_nothing, By_point, By_strike, appends, arms, arms_point, cut_appends, cut_by, turn_appends}
use Rattle.run_rules.specs.Disks.{Strike, struck}
use Rattle.run_rules.specs.Facts.{Facts, command_at, facts_after, is_up, node_at, outcome_at}
use Rattle.run_rules.specs.Lines.{call_line, call_line_of, is_down, is_reached, line, over_line, page_lines, put_line, reached_line, says_node, all_lines, with_own}
use Rattle.run_rules.specs.Past.{delivered_more, ends_calls, is_call, is_stop_of, next, start_refused, stop_line, report_stopped, report_turned, without_following, failed_start, started_says}
use Rattle.run_rules.specs.RunReport.{Call, CommandOutput, Past, RunReport, orders_at}
use Rattle.run_rules.proofs.ListLemmas.{all_append, all_each, all_filter, all_map, all_weaker}
use Rattle.world_parts.specs.Shown.{is_place}

-- what is found is one of those of which it holds
found_of : {A : Type 0} (P : A → Type 0) (p : A → Bool) (xs : List A) (y : A) → AllByRecursion P xs → find p xs ≡ Some y → P y
found_of P p [] y all is = absurd cc
found_of P p (x ∷ xs) y all is = by (p x) (λ later. found_of P p xs y all.1 later) is
  where
    by : (b : Bool) → (find p xs ≡ Some y → P y) → (if b then Some x else find p xs) ≡ Some y → P y
    by true later here = subst P (cc) all.0
    by false later here = later here

-- lines of which none stands for a disk
abbrev pub Plain : List Said → Type 0
Plain ss = AllByRecursion (λ s. is_place s ≡ false) ss

-- at most one of them does
abbrev pub HasOnePlace : List Said → Type 0
HasOnePlace [] = Unit {0}
HasOnePlace (s ∷ ss) = (Plain ss) ⊎ ((is_place s ≡ false) × HasOnePlace ss)

-- A line of a call: it is of a command of which this holds, and stands for no disk.
pub record IsCallLine (Q : ℕ → Type 0) (l : AnswerLine) : Type 0 where
  pub of : Q l.command
  pub plain : is_place l.said ≡ false

-- What is all_lines behind these lines: each answer of an earlier call and each pending call is of a command of which this holds; and of
-- the lines of the command that runs at most one stands for a disk.
pub record TellsOf (Q : ℕ → Type 0) (before : List AnswerLine) (t : RunReport) : Type 0 where
  pub lines : t.lines ≡ before
  pub own : HasOnePlace t.page.own
  pub others : AllByRecursion (IsCallLine Q) t.page.others
  pub stops : Plain t.page.stops
  pub calls : AllByRecursion (λ (c : Call). Q c.command) t.calls

module _ (Q : ℕ → Type 0) (ls : List AnswerLine) where
  abbrev Tells : RunReport → Type 0
  Tells t = TellsOf Q ls t

  -- what has the same lines and calls
  like : (t u : RunReport) → u.lines ≡ t.lines → u.page ≡ t.page → u.calls ≡ t.calls → Tells t → Tells u
  like t u lines page calls tells = record {
    lines = lines ∙ tells.lines;
    own = subst (λ (p : CommandOutput). HasOnePlace p.own) (sym page) tells.own;
    others = subst (λ (p : CommandOutput). AllByRecursion (IsCallLine Q) p.others) (sym page) tells.others;
    stops = subst (λ (p : CommandOutput). Plain p.stops) (sym page) tells.stops;
    calls = subst (λ (cs : List Call). AllByRecursion (λ (c : Call). Q c.command) cs) (sym calls) tells.calls;
  }

  owns : (t : RunReport) (own : List Said) → HasOnePlace own → Tells t → Tells (with_own t own)
  owns t own one tells = record { lines = tells.lines; own = one; others = tells.others; stops = tells.stops; calls = tells.calls }

  either : (b : Bool) (t u : RunReport) → Tells t → Tells u → Tells (if b then t else u)
  either true t u a b = a
  either false t u a b = b

  plain_more : (ss : List Said) (s : Said) → Plain ss → is_place s ≡ false → Plain (ss ++ s ∷ [])
  plain_more [] s all here = (here, tt)
  plain_more (x ∷ xs) s all here = (all.0, plain_more xs s all.1 here)

  one_more_own : (ss : List Said) (s : Said) → HasOnePlace ss → is_place s ≡ false → HasOnePlace (ss ++ s ∷ [])
  one_more_own [] s one here = inl tt
  one_more_own (x ∷ xs) s (inl plain) here = inl (plain_more xs s plain here)
  one_more_own (x ∷ xs) s (inr rest) here = inr (rest.0, one_more_own xs s rest.1 here)

  -- ---- lines

  put_of : (xs : List AnswerLine) (l : AnswerLine) → AllByRecursion (IsCallLine Q) xs → IsCallLine Q l → AllByRecursion (IsCallLine Q) (put_line xs l)
  put_of [] l all here = (here, tt)
  put_of (x ∷ xs) l all here = by (nat_lt l.command x.command) (put_of xs l all.1 here)
    where
      by : (b : Bool) → AllByRecursion (IsCallLine Q) (put_line xs l) → AllByRecursion (IsCallLine Q) (if b then l ∷ x ∷ xs else x ∷ put_line xs l)
      by true later = (here, all)
      by false later = (all.0, later)

  line_of : (running : ℕ) (t : RunReport) (command : ℕ) (s : Said) → is_place s ≡ false → Tells t → Q command → Tells (call_line_of running t command s)
  line_of running t command s plain tells here = either (running == command) _ _
      (owns t (t.page.own ++ s ∷ []) (one_more_own t.page.own s tells.own plain) tells)
      (record { lines = tells.lines; own = tells.own; others = put_of t.page.others (line command s) tells.others (record { of = here; plain = plain }); stops = tells.stops; calls = tells.calls })

  reached_of : (running : ℕ) (t : RunReport) (command : ℕ) (x : Option Point) → Tells t → Q command → Tells (reached_line running t command x)
  reached_of running t command None tells here = tells
  reached_of running t command (Some x) tells here = line_of running t command _ refl tells here

  call_line_is : (running : ℕ) (t : RunReport) (command : ℕ) (s : Said) → is_place s ≡ false → Tells t → Q command → Tells (call_line running t command s)
  call_line_is running t command s plain tells here = reached_of running (call_line_of running t command s) command (find (is_reached command) t.points) (line_of running t command s plain tells here) here

  -- ---- calls

  without_of : (t : RunReport) (node session : ℕ) → Tells t → Tells (without_call t node session)
  without_of t node session tells = record {
    lines = tells.lines;
    own = tells.own;
    others = tells.others;
    stops = tells.stops;
    calls = all_filter (λ (c : Call). Q c.command) (λ (c : Call). Q c.command) (λ c. not (is_call_at node session c)) (λ c passes here. here) t.calls tells.calls;
  }

  change_of : (new old : Call) → Q new.command → Q old.command → Q (change_call new old).command
  change_of new old here there = by (old.command == new.command)
    where
      by : (b : Bool) → Q (if b then new else old).command
      by true = here
      by false = there

  follows_of : (t : RunReport) (c : Call) → Tells t → Q c.command → Tells (call_follows t c)
  follows_of t c tells here = record {
    lines = tells.lines;
    own = tells.own;
    others = tells.others;
    stops = tells.stops;
    calls = all_map (λ (x : Call). Q x.command) (change_call c) t.calls (all_weaker (λ (x : Call). Q x.command) (λ (x : Call). Q (change_call c x).command) (λ x there. change_of c x here there) t.calls tells.calls);
  }

  ends_of : (running : ℕ) (t : RunReport) (c : Call) (f : Finished) → Tells t → Q c.command → Tells (call_ends running t c f)
  ends_of running t c f tells here = call_line_is running (without_call t c.node c.session) c.command (says_node f) refl (without_of t c.node c.session tells) here

  ends_or_of : (running : ℕ) (t : RunReport) (c : Call) (f : Finished) (s : Option Stmt) → Tells t → Q c.command → Tells (ends_or_follows running t c f s)
  ends_or_of running t c f None tells here = ends_of running t c f tells here
  ends_or_of running t c f (Some s) tells here = either (is_complete f.answer) _ _ (follows_of t (second_of c s) tells here) (ends_of running t c f tells here)

  finished_one : (running : ℕ) (t : RunReport) (f : Finished) (c : Option Call) → Tells t → ((x : Call) → c ≡ Some x → Q x.command) → Tells (finished_call running t f c)
  finished_one running t f None tells here = tells
  finished_one running t f (Some c) tells here = ends_or_of running t c f c.follows tells (here c refl)

  finished_of : (running : ℕ) (t : RunReport) (node : ℕ) (fs : List Finished) → Tells t → Tells (finished running t node fs)
  finished_of running t node [] tells = tells
  finished_of running t node (f ∷ fs) tells =
      finished_of running (finished_call running t f (call_at t node f.session)) node fs (finished_one running t f (call_at t node f.session) tells (λ x is. found_of (λ (c : Call). Q c.command) (is_call_at node f.session) t.calls x tells.calls is))

  waits_of : (t : RunReport) → Tells t → Tells (waits t)
  waits_of t tells = either (t.hold && is_none t.next_call) _ _ (owns t _ (inl tt) tells) tells

  waits_if_of : (running : ℕ) (t : RunReport) (c : Option Call) → Tells t → Tells (waits_if_pending running t c)
  waits_if_of running t None tells = tells
  waits_if_of running t (Some c) tells = either (c.command == running) _ _ (waits_of t tells) tells

  after_of : (running : ℕ) (t : RunReport) (node : ℕ) (input : Input) → Tells t → Tells (after_input running t node input)
  after_of running t node (inputs.Call session statement) tells = waits_if_of running t (call_at t node session) tells
  after_of running t node _ tells = tells

  -- ---- turns

  cut_of : (t : RunReport) (n : ℕ) (writes : Bool) (by : Cut_by) → Tells t → Tells (cut_appends t n writes by)
  cut_of t n writes By_nothing tells = either writes _ _ (like t _ refl refl refl tells) tells
  cut_of t n writes (By_strike stands) tells = either writes _ _ (like t _ refl refl refl tells) tells
  cut_of t n writes (By_point root numbers true) tells = like t _ refl refl refl tells
  cut_of t n writes (By_point root numbers false) tells = like t _ refl refl refl tells

  point_armed : (t : RunReport) (root : Option BranchId) (c : Option Call) (number : Option ℕ) → Tells t → Tells (arms_point t root c number)
  point_armed t (Some root) (Some c) (Some number) tells = like t _ refl refl refl tells
  point_armed t _ _ _ tells = tells

  arms_of : (t : RunReport) (n : ℕ) (k : NodeState) (input : Input) → Tells t → Tells (arms t n k input)
  arms_of t n k (inputs.Call session (Some (stmts.Commit (Some comment)))) tells =
      either (is_none (session_at k.sessions session).code) _ _ (point_armed t (session_at k.sessions session).root (call_at t n session) (point_of comment) tells) tells
  arms_of t n k _ tells = tells

  appends_of : (t : RunReport) (n : ℕ) (input : Input) (k : Option NodeState) (o : Option TurnOutput) → Tells t → Tells (turn_appends t n input k o)
  appends_of t n input (Some k) (Some o) tells = arms_of _ n k input (cut_of t n (is_some o.wrote) (cut_by t n k input o) tells)
  appends_of t n input _ _ tells = tells

  more_of : (t : RunReport) (took : Option Took) → Tells t → Tells (delivered_more t took)
  more_of t None tells = tells
  more_of t (Some took) tells = like t _ refl refl refl tells

  following_of : (t : RunReport) (input : Input) → Tells t → Tells (without_following t input)
  following_of t input tells = either (is_call input) _ _ (like t _ refl refl refl tells) tells

  ends_calls_of : (running : ℕ) (t : RunReport) (u : Turn) (cut : Bool) (o : Option TurnOutput) → Tells t → Tells (ends_calls running t u cut o)
  ends_calls_of running t u true o tells = tells
  ends_calls_of running t u false None tells = tells
  ends_calls_of running t u false (Some o) tells = after_of running _ u.node u.input (finished_of running t u.node o.ended tells)

  turned_of : (running : ℕ) (k : Option NodeState) (t : RunReport) (u : Turn) (o : Option TurnOutput) → Tells t → Tells (report_turned running k t u o)
  turned_of running k t u o tells =
      like _ _ refl refl refl (ends_calls_of running _ u u.cut o (following_of _ u.input (more_of _ u.took (appends_of t u.node u.input k o tells))))

  -- ---- stops, starts, commands

  stopped_of : (places : List Place) (running : ℕ) (t : RunReport) (n : ℕ) (cs : List Call) → Tells t → AllByRecursion (λ (c : Call). Q c.command) cs → Tells (stopped_calls places running t n cs)
  stopped_of places running t n [] tells all = tells
  stopped_of places running t n (c ∷ cs) tells all =
      either (c.node == n) _ _
      (stopped_of places running (call_line running (without_call t c.node c.session) c.command (is_down places n)) n cs (call_line_is running (without_call t c.node c.session) c.command (is_down places n) refl (without_of t c.node c.session tells) all.0) all.1)
      (stopped_of places running t n cs tells all.1)

  refused_of : (places : List Place) (f : Facts) (t : RunReport) (command : Command) (n : ℕ) → Tells t → Tells (start_refused places f t command n)
  refused_of places f t command n tells = either (failed_start f command n) _ _ (owns (appends t n 3) _ (inl tt) (like t (appends t n 3) refl refl refl tells)) tells

  refused_calls : (places : List Place) (f : Facts) (t : RunReport) (command : Command) (n : ℕ) → Tells t → Tells (record (start_refused places f t command n) { start_to_stop = None })
  refused_calls places f t command n tells = like _ _ refl refl refl (refused_of places f t command n tells)

  stop_of : (places : List Place) (t : RunReport) (command : Command) (n : ℕ) → Tells t → Tells (stop_line places t command n)
  stop_of places t command n tells = either (is_stop_of command n) _ _ tells
      (record { lines = tells.lines; own = tells.own; others = tells.others; stops = plain_more t.page.stops _ tells.stops refl; calls = tells.calls })

  telling_stopped_of : (places : List Place) (asked : List Command) (f : Facts) (t : RunReport) (n : ℕ) → Tells t → Tells (report_stopped places asked f t n)
  telling_stopped_of places asked f t n tells =
      stop_of places _ (command_at asked f.command) n (stopped_of places f.command _ n t.calls (refused_calls places f t (command_at asked f.command) n tells) tells.calls)

  call_is : (c node session : ℕ) (s : Option Stmt) (has : Bool) → Q c → Q (call_of c node session s has).command
  call_is c node session None has here = here
  call_is c node session (Some s) has here = by (commits_first s && has)
    where
      second : Call
      second = record { command = c; node = node; session = session; statement = Some (stmts.Commit None); follows = Some s }

      alone : Call
      alone = record { command = c; node = node; session = session; statement = Some s; follows = None }

      command_in : Call → ℕ
      command_in x = x.command

      by : (b : Bool) → Q (command_in (if b then second else alone))
      by true = here
      by false = here

  calls_of : (f : Facts) (t : RunReport) (c : ℕ) (command : Command) → Tells t → Q c → AllByRecursion (λ (x : Call). Q x.command) (calls_after f t c command)
  calls_of f t c (commands.At node session statement) tells here = by (is_up f node && not (has_call t node session))
    where
      new : Call
      new = call_of c node session statement (has_transaction (node_at f node) session)

      by : (b : Bool) → AllByRecursion (λ (x : Call). Q x.command) (if b then t.calls ++ new ∷ [] else t.calls)
      by true = all_append (λ (x : Call). Q x.command) t.calls (new ∷ []) tells.calls (call_is c node session statement (has_transaction (node_at f node) session) here, tt)
      by false = tells.calls
  calls_of f t c _ tells here = tells.calls

  -- ---- what a command says as it begins

  few_say : (b : Bool) (ss us : List Said) → HasOnePlace ss → HasOnePlace us → HasOnePlace (if b then ss else us)
  few_say true ss us one other = one
  few_say false ss us one other = other

  says_one : (places : List Place) (f : Facts) (t : RunReport) (c : Command) → HasOnePlace (says_at_once places f t c)
  says_one places f t (commands.At node session statement) = few_say (is_up f node) _ _ (few_say (has_call t node session) _ _ (inl tt) tt) (inl tt)
  says_one places f t (commands.Lose k) = few_say (may_deliver f.net k) _ _ (inl tt) (inl tt)
  says_one places f t (commands.Stop n) = few_say (is_up f n) _ _ (inl tt) (inl tt)
  says_one places f t (commands.Start n) = few_say (is_up f n) _ _ (inl tt) tt
  says_one places f t (commands.Deliver k) = few_say (may_deliver f.net k) _ _ (inl tt) (inl tt)
  says_one places f t (commands.Again k) = few_say (may_repeat f.net k) _ _ (inl tt) (inl tt)
  says_one places f t (commands.GiveUp n session) = few_say (is_up f n) _ _ (few_say (has_call t n session) _ _ (inl tt) (inl tt)) (inl tt)
  says_one places f t (commands.Reco n) = few_say (is_up f n) _ _ (few_say (is_enabled (node_at f n)) _ _ (inl tt) (inl tt)) (inl tt)
  says_one places f t (commands.ShowPending n) = few_say (is_up f n) _ _ (inl tt) (inl tt)
  says_one places f t (commands.ShowNeighbors n) = few_say (is_up f n) _ _ (inl tt) (inl tt)
  says_one places f t (commands.ShowUndo n) = few_say (is_up f n) _ _ (inl tt) (inl tt)
  says_one places f t _ = inl tt

-- ---- one happening more

-- A run so far whose lines, calls and command that runs are of commands of which this holds.
pub record IsOf (Q : ℕ → Type 0) (p : Past) : Type 0 where
  pub running : Q p.facts.command
  pub lines : AllByRecursion (λ (l : AnswerLine). Q l.command) p.run_report.lines
  pub tells : TellsOf Q p.run_report.lines p.run_report

-- all lines
pub reported_of : (Q : ℕ → Type 0) (p : Past) → IsOf Q p → AllByRecursion (λ (l : AnswerLine). Q l.command) (all_lines p.facts p.run_report)
reported_of Q p is =
    let f = p.facts in
    let t = p.run_report in
    let P : AnswerLine → Type 0 = λ l. Q l.command in
    all_append P t.lines (page_lines f t) is.lines
    (all_append P (map (line f.command) t.page.own ++ t.page.others) (map (line f.command) (t.page.stops ++ over_line f t))
    (all_append P (map (line f.command) t.page.own) t.page.others (all_each P (line f.command) t.page.own (λ s. is.running)) (all_weaker (IsCallLine Q) P (λ l of. of.of) t.page.others is.tells.others))
    (all_each P (line f.command) (t.page.stops ++ over_line f t) (λ s. is.running)))

module _ (Q : ℕ → Type 0) (places : List Place) (asked : List Command) where
  -- no happening but the begin of a command adds a line to those before
  pub same_reports : (p : Past) (h : Happening) → IsOf Q p → ((c : ℕ) → h ≡ happenings.Begun c → ⊥) → TellsOf Q p.run_report.lines (next places asked p h).run_report
  unfolding next
  same_reports p (happenings.Begun c) is none = absurd (none c refl)
  same_reports p (happenings.Turn u) is none = turned_of Q p.run_report.lines p.facts.command (node_at p.facts u.node) p.run_report u (outcome_at places p.facts u) is.tells
  same_reports p (happenings.Cut a b) is none = like Q p.run_report.lines p.run_report _ refl refl refl is.tells
  same_reports p (happenings.Join a b) is none = like Q p.run_report.lines p.run_report _ refl refl refl is.tells
  same_reports p (happenings.Lost k) is none = like Q p.run_report.lines p.run_report _ refl refl refl is.tells
  same_reports p (happenings.Stopped n) is none = like Q p.run_report.lines _ _ refl refl refl (telling_stopped_of Q p.run_report.lines places asked p.facts p.run_report n is.tells)
  same_reports p (happenings.Started n boot) is none =
      like Q p.run_report.lines _ _ refl refl refl (owns Q p.run_report.lines (appends p.run_report n 3) _ (start_says places n (struck 3 (orders_at p.run_report n))) (like Q p.run_report.lines p.run_report (appends p.run_report n 3) refl refl refl is.tells))
    where
      start_says : (places : List Place) (n : ℕ) (s : Option Strike) → HasOnePlace (started_says places n s)
      start_says places n None = inl tt
      start_says places n (Some s) = inl tt

  pub same_command : (p : Past) (h : Happening) → ((c : ℕ) → h ≡ happenings.Begun c → ⊥) → (next places asked p h).facts.command ≡ p.facts.command
  unfolding next facts_after
  same_command p (happenings.Begun c) none = absurd (none c refl)
  same_command p (happenings.Turn u) none = refl
  same_command p (happenings.Cut a b) none = refl
  same_command p (happenings.Join a b) none = refl
  same_command p (happenings.Lost k) none = refl
  same_command p (happenings.Stopped n) none = refl
  same_command p (happenings.Started n boot) none = refl

  pub begun_of : (p : Past) (c : ℕ) → IsOf Q p → Q c → IsOf Q (next places asked p (happenings.Begun c))
  unfolding next facts_after
  begun_of p c is here = record {
    running = here;
    lines = reported_of Q p is;
    tells = record { lines = refl; own = says_one Q [] places p.facts p.run_report (command_at asked c); others = tt; stops = tt; calls = calls_of Q p.run_report.lines p.facts p.run_report c (command_at asked c) is.tells here };
  }

  pub other_of : (p : Past) (h : Happening) → IsOf Q p → ((c : ℕ) → h ≡ happenings.Begun c → ⊥) → IsOf Q (next places asked p h)
  other_of p h is none =
      let tells = same_reports p h is none in
      record {
        running = subst Q (sym (same_command p h none)) is.running;
        lines = subst (λ (ls : List AnswerLine). AllByRecursion (λ (l : AnswerLine). Q l.command) ls) (sym tells.lines) is.lines;
        tells = record { lines = refl; own = tells.own; others = tells.others; stops = tells.stops; calls = tells.calls };
      }
