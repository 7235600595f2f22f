-- What a turn and a stop leave of HOLD, of the count of deliveries and of the pending calls.
use Rattle.std.proofs.Common.{◌≡◌, ℕ, ◌+◌, ◌==◌, ◌&&◌, not, Bool, true, false, List, [], ◌∷◌, map, is_none, Option, Some, None, refl, sym, ap, subst, ◌∙◌}
use Rattle.std.specs.Prelude.{is_some}
use Rattle.std.specs.List.{AllByRecursion}
use Rattle.std.proofs.lemmas.Bool.{cond_both}
use Rattle.node_rules.specs.Data.{BranchId, Input, Place, Stmt}
use Rattle.node_rules.specs.Data.inputs
use Rattle.node_rules.specs.Data.stmts
use Rattle.node_rules.specs.declared.session.Finished.{Finished}
use Rattle.node_rules.specs.NodeState.{NodeState, TurnOutput}
use Rattle.node_rules.specs.Points.{Point}
use Rattle.node_rules.specs.Sessions.{session_at}
use Rattle.run_rules.specs.Calls.{is_call_at, call_at, without_call, change_call, is_complete, second_of, call_follows, call_ends, ends_or_follows, finished_call, finished, stopped_calls, waits, waits_if_pending, after_input}
use Rattle.run_rules.specs.Cuts.{Cut_by, By_nothing, By_strike, By_point, appends_if, cut_appends, cut_by, arms_point, arms, turn_appends}
use Rattle.run_rules.specs.Data.{Said, Took, Turn}
use Rattle.run_rules.specs.Lines.{is_down, says_node, call_line_of, reached_line, call_line}
use Rattle.run_rules.specs.Past.{delivered_more, is_call, without_following, ends_calls, report_turned}
use Rattle.run_rules.specs.RunReport.{Call, RunReport}
use Rattle.run_rules.proofs.ListLemmas.{all_filter}
use Rattle.run_ready_laws.proofs.PendingLemmas.{found_so, line_same}
use Rattle.answer_origin_laws.proofs.ComeLemmas.{input_same}

-- ---- HOLD and the deliveries

-- HOLD, the deliveries and the start that was struck are the same.
pub record SameWay (t u : RunReport) : Type 0 where
  pub hold : u.hold ≡ t.hold
  pub deliveries : u.deliveries ≡ t.deliveries
  pub start : u.start_to_stop ≡ t.start_to_stop

pub same_way : (t : RunReport) → SameWay t t
same_way t = record { hold = refl; deliveries = refl; start = refl }

pub way_then : (t u v : RunReport) → SameWay t u → SameWay u v → SameWay t v
way_then t u v one two = record { hold = two.hold ∙ one.hold; deliveries = two.deliveries ∙ one.deliveries; start = two.start ∙ one.start }

module _ (running : ℕ) where
  line_of_way : (t : RunReport) (command : ℕ) (s : Said) → SameWay t (call_line_of running t command s)
  line_of_way t command s = cond_both (running == command) _ _ (SameWay t) (λ own. record { hold = refl; deliveries = refl; start = refl }) (λ other. record { hold = refl; deliveries = refl; start = refl })

  reached_way : (t : RunReport) (command : ℕ) (o : Option Point) → SameWay t (reached_line running t command o)
  reached_way t command None = same_way t
  reached_way t command (Some x) = line_of_way t command _

  -- a call that ends
  gone_way : (t : RunReport) (n s command : ℕ) (x : Said) → SameWay t (call_line running (without_call t n s) command x)
  gone_way t n s command x =
      let u : RunReport = without_call t n s in
      let v : RunReport = call_line_of running u command x in
      way_then t v _ (way_then t u v (record { hold = refl; deliveries = refl; start = refl }) (line_of_way u command x)) (reached_way v command _)

  ends_way : (t : RunReport) (c : Call) (f : Finished) (o : Option Stmt) → SameWay t (ends_or_follows running t c f o)
  ends_way t c f None = gone_way t c.node c.session c.command (says_node f)
  ends_way t c f (Some s) =
      cond_both (is_complete f.answer) (call_follows t (second_of c s)) (call_ends running t c f) (SameWay t) (λ complete. record { hold = refl; deliveries = refl; start = refl })
      (λ other. gone_way t c.node c.session c.command (says_node f))

  call_way : (t : RunReport) (f : Finished) (o : Option Call) → SameWay t (finished_call running t f o)
  call_way t f None = same_way t
  call_way t f (Some c) = ends_way t c f c.follows

  pub finished_way : (node : ℕ) (t : RunReport) (fs : List Finished) → SameWay t (finished running t node fs)
  finished_way node t [] = same_way t
  finished_way node t (f ∷ fs) = let u : RunReport = finished_call running t f (call_at t node f.session) in way_then t u (finished running u node fs) (call_way t f (call_at t node f.session)) (finished_way node u fs)

  pub stopped_way : (places : List Place) (n : ℕ) (t : RunReport) (cs : List Call) → SameWay t (stopped_calls places running t n cs)
  stopped_way places n t [] = same_way t
  stopped_way places n t (c ∷ cs) =
      let u : RunReport = call_line running (without_call t c.node c.session) c.command (is_down places n) in
      cond_both (c.node == n) (stopped_calls places running u n cs) (stopped_calls places running t n cs) (SameWay t)
      (λ here. way_then t u (stopped_calls places running u n cs) (gone_way t c.node c.session c.command (is_down places n)) (stopped_way places n u cs)) (λ other. stopped_way places n t cs)

  waits_way : (t : RunReport) (o : Option Call) → SameWay t (waits_if_pending running t o)
  waits_way t None = same_way t
  waits_way t (Some c) =
      cond_both (c.command == running) (waits t) t (SameWay t)
      (λ own. cond_both (t.hold && is_none t.next_call) _ t (SameWay t) (λ on. record { hold = refl; deliveries = refl; start = refl }) (λ off. same_way t)) (λ other. same_way t)

  pub input_way : (t : RunReport) (node : ℕ) (input : Input) → SameWay t (after_input running t node input)
  input_way t node (inputs.Call session s) = waits_way t (call_at t node session)
  input_way t node (inputs.GiveUp session) = same_way t
  input_way t node (inputs.Message m) = same_way t
  input_way t node inputs.Reco = same_way t
  input_way t node inputs.Checkpoint = same_way t

-- ---- before the calls of a turn end

-- So are the pending calls.
pub record SameCalls (t u : RunReport) : Type 0 where
  pub way : SameWay t u
  pub calls : u.calls ≡ t.calls
  pub next_call : u.next_call ≡ t.next_call

same_calls : (t : RunReport) → SameCalls t t
same_calls t = record { way = same_way t; calls = refl; next_call = refl }

calls_then : (t u v : RunReport) → SameCalls t u → SameCalls u v → SameCalls t v
calls_then t u v one two = record { way = way_then t u v one.way two.way; calls = two.calls ∙ one.calls; next_call = two.next_call ∙ one.next_call }

module _ (t : RunReport) where
  appends_same : (n : ℕ) (writes : Bool) → SameCalls t (appends_if t n writes)
  appends_same n true = record { way = record { hold = refl; deliveries = refl; start = refl }; calls = refl; next_call = refl }
  appends_same n false = same_calls t

  cut_same : (n : ℕ) (writes : Bool) (c : Cut_by) → SameCalls t (cut_appends t n writes c)
  cut_same n writes By_nothing = appends_same n writes
  cut_same n writes (By_strike stands) = appends_same n writes
  cut_same n writes (By_point root numbers stands) =
      let u : RunReport = appends_if t n stands in
      calls_then t u (cut_appends t n writes (By_point root numbers stands)) (appends_same n stands) (record { way = record { hold = refl; deliveries = refl; start = refl }; calls = refl; next_call = refl })

  point_same : (b : Option BranchId) (c : Option Call) (number : Option ℕ) → SameCalls t (arms_point t b c number)
  point_same (Some root) (Some c) (Some number) = record { way = record { hold = refl; deliveries = refl; start = refl }; calls = refl; next_call = refl }
  point_same None c number = same_calls t
  point_same (Some root) None number = same_calls t
  point_same (Some root) (Some c) None = same_calls t

  arms_same : (n : ℕ) (k : NodeState) (input : Input) → SameCalls t (arms t n k input)
  arms_same n k (inputs.Call session (Some (stmts.Commit (Some comment)))) = cond_both (is_none (session_at k.sessions session).code) _ t (SameCalls t) (λ none. point_same _ _ _) (λ some. same_calls t)
  arms_same n k _ = same_calls t

turn_same : (t : RunReport) (n : ℕ) (input : Input) (k : Option NodeState) (o : Option TurnOutput) → SameCalls t (turn_appends t n input k o)
turn_same t n input (Some k) (Some o) =
    let u : RunReport = cut_appends t n (is_some o.wrote) (cut_by t n k input o) in calls_then t u (arms u n k input) (cut_same t n (is_some o.wrote) (cut_by t n k input o)) (arms_same u n k input)
turn_same t n input None o = same_calls t
turn_same t n input (Some k) None = same_calls t

-- The turn's delivery is counted, and no second call follows any more.
pub record Before (t u : RunReport) (took : Option Took) : Type 0 where
  pub hold : u.hold ≡ t.hold
  pub deliveries : u.deliveries ≡ (delivered_more t took).deliveries
  pub start : u.start_to_stop ≡ t.start_to_stop
  pub calls : u.calls ≡ t.calls
  pub next_call : t.next_call ≡ None → u.next_call ≡ None

took_before : (t v : RunReport) (took : Option Took) → SameCalls t v → Before t (delivered_more v took) took
took_before t v None same = record { hold = same.way.hold; deliveries = same.way.deliveries; start = same.way.start; calls = same.calls; next_call = λ alone. same.next_call ∙ alone }
took_before t v (Some k) same = record { hold = same.way.hold; deliveries = ap (λ i. i + 1) same.way.deliveries; start = same.way.start; calls = same.calls; next_call = λ alone. same.next_call ∙ alone }

without_before : (t v : RunReport) (took : Option Took) (input : Input) → Before t v took → Before t (without_following v input) took
without_before t v took input so =
    cond_both (is_call input) (record v { next_call = None }) v (λ u. Before t u took) (λ call. record { hold = so.hold; deliveries = so.deliveries; start = so.start; calls = so.calls; next_call = λ alone. refl }) (λ other. so)

pub turn_before : (t : RunReport) (n : ℕ) (input : Input) (k : Option NodeState) (o : Option TurnOutput) (took : Option Took) → Before t (without_following (delivered_more (turn_appends t n input k o) took) input) took
turn_before t n input k o took = without_before t (delivered_more (turn_appends t n input k o) took) took input (took_before t (turn_appends t n input k o) took (turn_same t n input k o))

-- ---- a whole turn

ends_calls_way : (running : ℕ) (t : RunReport) (u : Turn) (cut : Bool) (o : Option TurnOutput) → SameWay t (ends_calls running t u cut o)
ends_calls_way running t u true o = same_way t
ends_calls_way running t u false None = same_way t
ends_calls_way running t u false (Some o) = let v : RunReport = finished running t u.node o.ended in way_then t v (after_input running v u.node u.input) (finished_way running u.node t o.ended) (input_way running v u.node u.input)

-- What a turn leaves: something has happened, and its delivery is counted.
pub record Turned (t u : RunReport) (took : Option Took) : Type 0 where
  pub acted : u.acted ≡ true
  pub hold : u.hold ≡ t.hold
  pub deliveries : u.deliveries ≡ (delivered_more t took).deliveries
  pub start : u.start_to_stop ≡ t.start_to_stop

pub turn_way : (running : ℕ) (k : Option NodeState) (t : RunReport) (u : Turn) (o : Option TurnOutput) → Turned t (report_turned running k t u o) u.took
turn_way running k t u o =
    let v : RunReport = without_following (delivered_more (turn_appends t u.node u.input k o) u.took) u.input in
    let before : Before t v u.took = turn_before t u.node u.input k o u.took in
    let ends : SameWay v (ends_calls running v u u.cut o) = ends_calls_way running v u u.cut o in
    record { acted = refl; hold = ends.hold ∙ before.hold; deliveries = ends.deliveries ∙ before.deliveries; start = ends.start ∙ before.start }

-- ---- the pending calls

-- What is so of each pending call stays so as calls end, where it is so of the second call of a CREATE too.
module _ (P : Call → Type 0) (second : (c : Call) (s : Stmt) → P c → P (second_of c s)) (running : ℕ) where
  abbrev pub AllSo : RunReport → Type 0
  AllSo t = AllByRecursion P t.calls

  gone_so : (t : RunReport) (n s command : ℕ) (x : Said) → AllSo t → AllSo (call_line running (without_call t n s) command x)
  gone_so t n s command x all = subst (AllByRecursion P) (sym (line_same running (without_call t n s) command x).calls) (all_filter P P (λ d. not (is_call_at n s d)) (λ d passes is. is) t.calls all)

  changed_so : (new : Call) → P new → (cs : List Call) → AllByRecursion P cs → AllByRecursion P (map (change_call new) cs)
  changed_so new so [] all = tt
  changed_so new so (c ∷ cs) all = (cond_both (c.command == new.command) new c P (λ same. so) (λ other. all.0), changed_so new so cs all.1)

  ends_so : (t : RunReport) (c : Call) (f : Finished) (o : Option Stmt) → P c → AllSo t → AllSo (ends_or_follows running t c f o)
  ends_so t c f None so all = gone_so t c.node c.session c.command (says_node f) all
  ends_so t c f (Some s) so all =
      cond_both (is_complete f.answer) (call_follows t (second_of c s)) (call_ends running t c f) AllSo (λ complete. changed_so (second_of c s) (second c s so) t.calls all) (λ other. gone_so t c.node c.session c.command (says_node f) all)

  call_so : (t : RunReport) (f : Finished) (o : Option Call) → ((c : Call) → o ≡ Some c → P c) → AllSo t → AllSo (finished_call running t f o)
  call_so t f None found all = all
  call_so t f (Some c) found all = ends_so t c f c.follows (found c refl) all

  pub finished_so : (node : ℕ) (t : RunReport) (fs : List Finished) → AllSo t → AllSo (finished running t node fs)
  finished_so node t [] all = all
  finished_so node t (f ∷ fs) all =
      finished_so node (finished_call running t f (call_at t node f.session)) fs (call_so t f (call_at t node f.session) (λ c at. (found_so P (is_call_at node f.session) t.calls c all at).0) all)

  pub stopped_so : (places : List Place) (n : ℕ) (t : RunReport) (cs : List Call) → AllSo t → AllSo (stopped_calls places running t n cs)
  stopped_so places n t [] all = all
  stopped_so places n t (c ∷ cs) all =
      let u : RunReport = call_line running (without_call t c.node c.session) c.command (is_down places n) in
      cond_both (c.node == n) (stopped_calls places running u n cs) (stopped_calls places running t n cs) AllSo
      (λ here. stopped_so places n u cs (gone_so t c.node c.session c.command (is_down places n) all)) (λ other. stopped_so places n t cs all)

  pub ends_calls_so : (t : RunReport) (u : Turn) (cut : Bool) (o : Option TurnOutput) → AllSo t → AllSo (ends_calls running t u cut o)
  ends_calls_so t u true o all = all
  ends_calls_so t u false None all = all
  ends_calls_so t u false (Some o) all =
      let v : RunReport = finished running t u.node o.ended in subst (AllByRecursion P) (sym (input_same v running u.node u.input).0) (finished_so u.node t o.ended all)

  pub turn_so : (k : Option NodeState) (t : RunReport) (u : Turn) (o : Option TurnOutput) → AllSo t → AllSo (report_turned running k t u o)
  turn_so k t u o all =
      let v : RunReport = without_following (delivered_more (turn_appends t u.node u.input k o) u.took) u.input in
      ends_calls_so v u u.cut o (subst (AllByRecursion P) (sym (turn_before t u.node u.input k o u.took).calls) all)
