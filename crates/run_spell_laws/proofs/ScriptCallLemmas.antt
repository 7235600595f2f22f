-- In the run of a script whose commands ask for statements that texts spell, each call is of such a statement: what is told of the
-- calls that pend keeps them so.
use Rattle.std.proofs.Common.{◌≡◌, ℕ, ◌&&◌, ◌==◌, not, Bool, true, false, List, [], ◌∷◌, map, filter, find, Option, Some, None, refl, sym, subst, inl, inr}
use Rattle.std.specs.Prelude.{codes, is_none, is_some, IfSome}
use Rattle.std.specs.List.{AllByRecursion}
use Rattle.std.proofs.lemmas.Bool.{cond_both}
use Rattle.token_grammar.specs.declared.token.Token.TheVariants as token
use Rattle.sql_parse.specs.Transactions.{commit}
use Rattle.sql_parse.specs.Statement.{statement_grammar, IsStatement}
use Rattle.sql_print.specs.Printing.{IsPrintable}
use Rattle.sql_print.proofs.RoundTrip.{printed_again}
use Rattle.node_rules.specs.Data.{Stmt, BranchId, Place, Input}
use Rattle.node_rules.specs.Data.inputs
use Rattle.node_rules.specs.Data.stmts
use Rattle.node_rules.specs.NodeState.{NodeState, TurnOutput}
use Rattle.node_rules.specs.Sessions.{session_at}
use Rattle.node_ready_laws.proofs.ListLemmas.{all_last}
use Rattle.run_rules.specs.Data.{Took, Turn, Happening, Command, Finished}
use Rattle.run_rules.specs.Data.commands
use Rattle.run_rules.specs.Data.happenings
use Rattle.run_rules.specs.Calls.{is_call_at, call_at, without_call, change_call, is_complete, second_of, call_follows, call_ends, ends_or_follows, finished_call, finished, stopped_calls, waits, waits_if_pending, after_input}
use Rattle.run_rules.specs.Commands.{has_call, commits_first, call_of, has_transaction, calls_after, begins}
use Rattle.run_rules.specs.Cuts.{Cut_by, By_nothing, By_strike, By_point, cut_by, appends_if, cut_appends, arms_point, arms, turn_appends}
use Rattle.run_rules.specs.Facts.{Facts, node_at, is_up, command_at, outcome_at}
use Rattle.run_rules.specs.Lines.{call_line, is_down}
use Rattle.run_rules.specs.Past.{without_following, delivered_more, ends_calls, report_turned, failed_start, start_refused, is_stop_of, stop_line, report_stopped, report_after}
use Rattle.run_rules.specs.RunReport.{Call, RunReport}
use Rattle.run_ready_laws.proofs.PendingLemmas.{found_so, SameCalls, line_same}
use Rattle.run_spell_laws.specs.ByteRuns.{AsksSpelled}

-- the statements of a call are such
abbrev pub CallIs : Call → Type 0
CallIs c = IfSome c.statement IsPrintable × IfSome c.follows IsPrintable

-- The calls that pend are, and the one that comes next.
pub record CallsAre (t : RunReport) : Type 0 where
  pub calls : AllByRecursion CallIs t.calls
  pub next_call : IfSome t.next_call CallIs

same_are : {t u : RunReport} → SameCalls t u → CallsAre t → CallsAre u
same_are same now = record { calls = subst (AllByRecursion CallIs) (sym same.calls) now.calls; next_call = subst (λ o. IfSome o CallIs) (sym same.next_call) now.next_call }

-- ---- a command begins

-- a COMMIT by itself
commit_is : IsPrintable (stmts.Commit None)
unfolding IsStatement statement_grammar commit
commit_is =
    let word : List _ = token.Word (codes "COMMIT") ∷ [] in
    printed_again (codes "COMMIT") (stmts.Commit None) (
      word,
      ([], codes "COMMIT", [], refl, (refl, refl, refl), refl, refl, refl),
      inr (inr (inr (inr (inr (inl (word, [], refl, ([], [], inl refl, inr (None, refl, refl), refl), refl)))))),
    )

call_is : (c node session : ℕ) (o : Option Stmt) (has : Bool) → IfSome o IsPrintable → CallIs (call_of c node session o has)
call_is c node session None has is = (tt, tt)
call_is c node session (Some s) has is = cond_both (commits_first s && has) _ _ CallIs (λ first. (commit_is, is)) (λ alone. (is, tt))

calls_begun : (f : Facts) (t : RunReport) (c : ℕ) (command : Command) → AsksSpelled command → AllByRecursion CallIs t.calls → AllByRecursion CallIs (calls_after f t c command)
calls_begun f t c (commands.At node session statement) asks all =
    cond_both (is_up f node && not (has_call t node session)) _ t.calls (AllByRecursion CallIs)
    (λ new. all_last CallIs t.calls (call_of c node session statement (has_transaction (node_at f node) session)) all (call_is c node session statement (has_transaction (node_at f node) session) asks)) (λ none. all)
calls_begun f t c _ asks all = all

begun_are : (places : List Place) (f : Facts) (t : RunReport) (c : ℕ) (command : Command) → AsksSpelled command → CallsAre t → CallsAre (begins places f t c command)
begun_are places f t c command asks now = record { calls = calls_begun f t c command asks now.calls; next_call = now.next_call }

-- ---- calls end

all_kept : (p : Call → Bool) (cs : List Call) → AllByRecursion CallIs cs → AllByRecursion CallIs (filter p cs)
all_kept p [] all = tt
all_kept p (c ∷ cs) all = cond_both (p c) (c ∷ filter p cs) (filter p cs) (AllByRecursion CallIs) (λ stays. (all.0, all_kept p cs all.1)) (λ goes. all_kept p cs all.1)

without_are : (t : RunReport) (node session : ℕ) → CallsAre t → CallsAre (without_call t node session)
without_are t node session now = record { calls = all_kept (λ c. not (is_call_at node session c)) t.calls now.calls; next_call = now.next_call }

all_changed : (new : Call) (cs : List Call) → CallIs new → AllByRecursion CallIs cs → AllByRecursion CallIs (map (change_call new) cs)
all_changed new [] is all = tt
all_changed new (c ∷ cs) is all = (cond_both (c.command == new.command) new c CallIs (λ own. is) (λ other. all.0), all_changed new cs is all.1)

module _ (running : ℕ) where
  ended_are : (t : RunReport) (c : Call) (f : Finished) → CallsAre t → CallsAre (call_ends running t c f)
  ended_are t c f now = same_are (line_same running (without_call t c.node c.session) c.command _) (without_are t c.node c.session now)

  follow_are : (t : RunReport) (c : Call) (f : Finished) (o : Option Stmt) → IfSome o IsPrintable → CallsAre t → CallsAre (ends_or_follows running t c f o)
  follow_are t c f None is now = ended_are t c f now
  follow_are t c f (Some s) is now =
      cond_both (is_complete f.answer) (call_follows t (second_of c s)) (call_ends running t c f) CallsAre
      (λ complete. record { calls = all_changed (second_of c s) t.calls (is, tt) now.calls; next_call = (is, tt) }) (λ other. ended_are t c f now)

  finished_one : (t : RunReport) (f : Finished) (node : ℕ) (o : Option Call) → find (is_call_at node f.session) t.calls ≡ o → CallsAre t → CallsAre (finished_call running t f o)
  finished_one t f node None is now = now
  finished_one t f node (Some c) is now = follow_are t c f c.follows (found_so CallIs (is_call_at node f.session) t.calls c now.calls is).0.1 now

  finished_are : (t : RunReport) (node : ℕ) (fs : List Finished) → CallsAre t → CallsAre (finished running t node fs)
  finished_are t node [] now = now
  finished_are t node (f ∷ fs) now = finished_are (finished_call running t f (call_at t node f.session)) node fs (finished_one t f node (call_at t node f.session) refl now)

  waits_are : (t : RunReport) → CallsAre t → CallsAre (waits t)
  waits_are t now = cond_both (t.hold && is_none t.next_call) _ t CallsAre (λ on. record { calls = now.calls; next_call = now.next_call }) (λ off. now)

  pending_are : (t : RunReport) (o : Option Call) → CallsAre t → CallsAre (waits_if_pending running t o)
  pending_are t None now = now
  pending_are t (Some c) now = cond_both (c.command == running) (waits t) t CallsAre (λ own. waits_are t now) (λ other. now)

  input_are : (t : RunReport) (node : ℕ) (input : Input) → CallsAre t → CallsAre (after_input running t node input)
  input_are t node (inputs.Call session s) now = pending_are t (call_at t node session) now
  input_are t node (inputs.GiveUp session) now = now
  input_are t node (inputs.Message m) now = now
  input_are t node inputs.Reco now = now
  input_are t node inputs.Checkpoint now = now

  ends_are : (t : RunReport) (u : Turn) (cut : Bool) (o : Option TurnOutput) → CallsAre t → CallsAre (ends_calls running t u cut o)
  ends_are t u true o now = now
  ends_are t u false None now = now
  ends_are t u false (Some o) now = input_are (finished running t u.node o.ended) u.node u.input (finished_are t u.node o.ended now)

  stopped_are : (places : List Place) (n : ℕ) (cs : List Call) (t : RunReport) → CallsAre t → CallsAre (stopped_calls places running t n cs)
  stopped_are places n [] t now = now
  stopped_are places n (c ∷ cs) t now =
      cond_both (c.node == n) (stopped_calls places running (call_line running (without_call t c.node c.session) c.command (is_down places n)) n cs) (stopped_calls places running t n cs) CallsAre
      (λ here. stopped_are places n cs _ (same_are (line_same running (without_call t c.node c.session) c.command (is_down places n)) (without_are t c.node c.session now))) (λ elsewhere. stopped_are places n cs t now)

-- ---- a turn

if_appends_are : (t : RunReport) (n : ℕ) (writes : Bool) → CallsAre t → CallsAre (appends_if t n writes)
if_appends_are t n true now = record { calls = now.calls; next_call = now.next_call }
if_appends_are t n false now = now

cut_are : (t : RunReport) (n : ℕ) (writes : Bool) (c : Cut_by) → CallsAre t → CallsAre (cut_appends t n writes c)
cut_are t n writes By_nothing now = if_appends_are t n writes now
cut_are t n writes (By_strike stands) now = if_appends_are t n writes now
cut_are t n writes (By_point root numbers stands) now = let is = if_appends_are t n stands now in record { calls = is.calls; next_call = is.next_call }

point_are : (t : RunReport) (b : Option BranchId) (c : Option Call) (number : Option ℕ) → CallsAre t → CallsAre (arms_point t b c number)
point_are t (Some root) (Some c) (Some number) now = record { calls = now.calls; next_call = now.next_call }
point_are t None c number now = now
point_are t (Some root) None number now = now
point_are t (Some root) (Some c) None now = now

arms_are : (t : RunReport) (n : ℕ) (k : NodeState) (input : Input) → CallsAre t → CallsAre (arms t n k input)
arms_are t n k (inputs.Call session (Some (stmts.Commit (Some comment)))) now = cond_both (is_none (session_at k.sessions session).code) _ t CallsAre (λ none. point_are t _ _ _ now) (λ some. now)
arms_are t n k _ now = now

appends_are : (t : RunReport) (n : ℕ) (input : Input) (k : Option NodeState) (o : Option TurnOutput) → CallsAre t → CallsAre (turn_appends t n input k o)
appends_are t n input (Some k) (Some o) now = arms_are (cut_appends t n (is_some o.wrote) (cut_by t n k input o)) n k input (cut_are t n (is_some o.wrote) (cut_by t n k input o) now)
appends_are t n input (Some k) None now = now
appends_are t n input None o now = now

took_are : (t : RunReport) (took : Option Took) → CallsAre t → CallsAre (delivered_more t took)
took_are t None now = now
took_are t (Some took) now = record { calls = now.calls; next_call = now.next_call }

following_are : (t : RunReport) (input : Input) → CallsAre t → CallsAre (without_following t input)
following_are t (inputs.Call session s) now = record { calls = now.calls; next_call = tt }
following_are t (inputs.GiveUp session) now = now
following_are t (inputs.Message m) now = now
following_are t inputs.Reco now = now
following_are t inputs.Checkpoint now = now

turned_are : (running : ℕ) (k : Option NodeState) (t : RunReport) (u : Turn) (o : Option TurnOutput) → CallsAre t → CallsAre (report_turned running k t u o)
turned_are running k t u o now =
    let a : RunReport = turn_appends t u.node u.input k o in
    let b : RunReport = delivered_more a u.took in
    let is = ends_are running (without_following b u.input) u u.cut o (following_are b u.input (took_are a u.took (appends_are t u.node u.input k o now))) in
    record { calls = is.calls; next_call = is.next_call }

-- ---- each happening

refused_are : (places : List Place) (f : Facts) (t : RunReport) (command : Command) (n : ℕ) → CallsAre t → CallsAre (start_refused places f t command n)
refused_are places f t command n now = cond_both (failed_start f command n) _ t CallsAre (λ failed. record { calls = now.calls; next_call = now.next_call }) (λ other. now)

line_are : (places : List Place) (t : RunReport) (command : Command) (n : ℕ) → CallsAre t → CallsAre (stop_line places t command n)
line_are places t command n now = cond_both (is_stop_of command n) t _ CallsAre (λ own. now) (λ other. record { calls = now.calls; next_call = now.next_call })

stop_are : (places : List Place) (asked : List Command) (f : Facts) (t : RunReport) (n : ℕ) → CallsAre t → CallsAre (report_stopped places asked f t n)
stop_are places asked f t n now =
    let a : RunReport = record (start_refused places f t (command_at asked f.command) n) { start_to_stop = None } in
    let is = refused_are places f t (command_at asked f.command) n now in
    line_are places (stopped_calls places f.command a n t.calls) (command_at asked f.command) n (stopped_are f.command places n t.calls a (record { calls = is.calls; next_call = is.next_call }))

pub told_are : (places : List Place) (asked : List Command) (f : Facts) (t : RunReport) (h : Happening) → ((c : ℕ) → AsksSpelled (command_at asked c)) → CallsAre t → CallsAre (report_after places asked f t h)
told_are places asked f t (happenings.Begun c) asks now = begun_are places f t c (command_at asked c) (asks c) now
told_are places asked f t (happenings.Turn u) asks now = turned_are f.command (node_at f u.node) t u (outcome_at places f u) now
told_are places asked f t (happenings.Stopped n) asks now = let is = stop_are places asked f t n now in record { calls = is.calls; next_call = is.next_call }
told_are places asked f t (happenings.Started n boot) asks now = record { calls = now.calls; next_call = now.next_call }
told_are places asked f t _ asks now = record { calls = now.calls; next_call = now.next_call }
