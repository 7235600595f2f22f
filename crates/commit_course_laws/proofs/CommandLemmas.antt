-- HOLD stays as its commands leave it, a command begins with HOLD off only where no call is pending, and so the pending calls
-- are the running command's.
use Rattle.std.proofs.Common.{◌≡◌, ℕ, zero, suc, ◌+◌, ◌&&◌, not, Bool, false, [], ◌∷◌, ◌++◌, slice_get, Option, Some, None, refl, sym, ap, subst, ◌∙◌, arith}
use Rattle.std.specs.List.{AllByRecursion}
use Rattle.std.proofs.lemmas.Bool.{cond_both}
use Rattle.node_rules.specs.Data.{Stmt}
use Rattle.run_rules.specs.Calls.{stopped_calls}
use Rattle.run_rules.specs.Commands.{hold_after, calls_after, call_of, commits_first, has_call, has_transaction}
use Rattle.run_rules.specs.Data.{Command, Happening}
use Rattle.run_rules.specs.Data.commands
use Rattle.run_rules.specs.Data.happenings
use Rattle.run_rules.specs.Due.{comes_next}
use Rattle.run_rules.specs.Facts.{command_at, facts_after, is_up, node_at, outcome_at}
use Rattle.run_rules.specs.Lawful.{History}
use Rattle.run_rules.specs.Lines.{with_stop}
use Rattle.run_rules.specs.Past.{past, report_after, report_stopped, is_stop_of, start_refused, failed_start}
use Rattle.run_claims.specs.Places.{past_upto}
use Rattle.run_rules.specs.RunReport.{Call, Past, RunReport}
use Rattle.answer_origin_laws.proofs.UptoLemmas.{one_more, none_more, next_is, due_at}
use Rattle.commit_course_laws.specs.CommandCalls.{is_hold, hold_by, HoldIsKept, CommandsFindNoCall, CommandsFindNothingInFlight, HasItsCallAlone, CommandsHoldTheirCall}
use Rattle.answer_origin_laws.proofs.WayLemmas.{stopped_way, turn_way, stopped_so, turn_so}
use Rattle.answer_origin_laws.proofs.DueLemmas.{begun_over}

module _ (t : History) (p : Past) where
  open p use {facts as f, run_report as told}

  abbrev command : Command
  command = command_at t.commands f.command

  -- ---- a stop

  module _ (n : ℕ) where
    abbrev refused : RunReport
    refused = start_refused t.places f told command n

    abbrev ready : RunReport
    ready = record refused { start_to_stop = None }

    abbrev after : RunReport
    after = stopped_calls t.places f.command ready n told.calls

    -- what a stop line leaves
    line_kept : (P : RunReport → Type 0) → P after → P (with_stop t.places after n) → P (report_stopped t.places t.commands f told n)
    line_kept P own other = cond_both (is_stop_of command n) after (with_stop t.places after n) P (λ is. own) (λ is. other)

    refused_so : (ready.hold ≡ told.hold) × (ready.calls ≡ told.calls)
    refused_so = cond_both (failed_start f command n) _ told (λ (v : RunReport). (v.hold ≡ told.hold) × (v.calls ≡ told.calls)) (λ fails. (refl, refl)) (λ stands. (refl, refl))

    after_hold : after.hold ≡ told.hold
    after_hold = (stopped_way f.command t.places n ready told.calls).hold ∙ refused_so.0

    stop_hold : (report_stopped t.places t.commands f told n).hold ≡ told.hold
    stop_hold = line_kept (λ (v : RunReport). v.hold ≡ told.hold) after_hold after_hold

  -- ---- HOLD

  hold_next : (h : Happening) → (report_after t.places t.commands f told h).hold ≡ hold_by t.commands told.hold h
  hold_next (happenings.Begun c) = refl
  hold_next (happenings.Turn u) = (turn_way f.command (node_at f u.node) told u (outcome_at t.places f u)).hold
  hold_next (happenings.Cut a b) = refl
  hold_next (happenings.Join a b) = refl
  hold_next (happenings.Lost k) = refl
  hold_next (happenings.Stopped n) = stop_hold n
  hold_next (happenings.Started n boot) = refl

  -- ---- the pending calls

  -- nothing but the running command's call is pending, unless HOLD is on or that is HOLD OFF
  abbrev pub IsAlone : Past → Type 0
  IsAlone q = q.run_report.hold ≡ false → is_hold (command_at t.commands q.facts.command) ≡ false → HasItsCallAlone q

  -- a command of this number
  abbrev Of : ℕ → Call → Type 0
  Of c x = x.command ≡ c

  call_of_it : (c node session : ℕ) (s : Option Stmt) (has : Bool) → (call_of c node session s has).command ≡ c
  call_of_it c node session None has = refl
  call_of_it c node session (Some s) has = cond_both (commits_first s && has) _ _ (Of c) (λ first. refl) (λ own. refl)

  begun_calls : (c : ℕ) (x : Command) → told.calls ≡ [] → AllByRecursion (Of c) (calls_after f told c x)
  begun_calls c (commands.At node session s) none =
      cond_both (is_up f node && not (has_call told node session)) (told.calls ++ call_of c node session s (has_transaction (node_at f node) session) ∷ []) told.calls (AllByRecursion (Of c))
      (λ calls. subst (λ cs. AllByRecursion (Of c) (cs ++ call_of c node session s (has_transaction (node_at f node) session) ∷ [])) (sym none) (call_of_it c node session s (has_transaction (node_at f node) session), tt))
      (λ refuses. subst (AllByRecursion (Of c)) (sym none) tt)
  begun_calls c _ none = subst (AllByRecursion (Of c)) (sym none) tt

  hold_same : (hold : Bool) (x : Command) → is_hold x ≡ false → hold_after hold x ≡ hold
  hold_same hold (commands.Hold on) is = absurd cc
  hold_same hold _ is = refl

  calls_next : (h : Happening) → comes_next t.places t.commands p ≡ Some h → IsAlone p → IsAlone (record { facts = facts_after t.places t.commands f h; run_report = report_after t.places t.commands f told h })
  unfolding facts_after
  calls_next (happenings.Begun c) is now off other = begun_calls c (command_at t.commands c) (begun_over t.places t.commands p (sym (hold_same told.hold (command_at t.commands c) other) ∙ off) c is).0
  calls_next (happenings.Turn u) is now off other =
      turn_so (Of f.command) (λ c s so. so) f.command (node_at f u.node) told u (outcome_at t.places f u) (now (sym (turn_way f.command (node_at f u.node) told u (outcome_at t.places f u)).hold ∙ off) other)
  calls_next (happenings.Cut a b) is now off other = now off other
  calls_next (happenings.Join a b) is now off other = now off other
  calls_next (happenings.Lost k) is now off other = now off other
  calls_next (happenings.Stopped n) is now off other =
      let mine : AllByRecursion (Of f.command) told.calls = now (sym (stop_hold n) ∙ off) other in
      let all : AllByRecursion (Of f.command) (after n).calls = stopped_so (Of f.command) (λ c s so. so) f.command t.places n (ready n) told.calls (subst (AllByRecursion (Of f.command)) (sym (refused_so n).1) mine) in
      line_kept n (λ (v : RunReport). AllByRecursion (Of f.command) v.calls) all all
  calls_next (happenings.Started n boot) is now off other = now off other

  -- ---- deliveries

  -- none was made before something else happened
  abbrev pub IsFresh : Past → Type 0
  IsFresh q = q.run_report.acted ≡ false → q.run_report.deliveries ≡ 0

  fresh_next : (h : Happening) → IsFresh (record { facts = facts_after t.places t.commands f h; run_report = report_after t.places t.commands f told h })
  fresh_next (happenings.Begun c) = λ fresh. refl
  fresh_next (happenings.Turn u) = λ fresh. absurd cc
  fresh_next (happenings.Cut a b) = λ fresh. absurd cc
  fresh_next (happenings.Join a b) = λ fresh. absurd cc
  fresh_next (happenings.Lost k) = λ fresh. absurd cc
  fresh_next (happenings.Stopped n) = λ fresh. absurd cc
  fresh_next (happenings.Started n boot) = λ fresh. absurd cc

pub fresh_deliveries : (t : History) (i : ℕ) → (past_upto t i).run_report.acted ≡ false → (past_upto t i).run_report.deliveries ≡ 0
unfolding past
fresh_deliveries t zero = λ fresh. absurd cc
fresh_deliveries t (suc i) = by (slice_get t.trace i) refl (fresh_deliveries t i)
  where
    one : suc i ≡ i + 1
    one = omega arith

    by : (o : Option Happening) → slice_get t.trace i ≡ o → IsFresh t (past_upto t i) (past_upto t i) → IsFresh t (past_upto t i) (past_upto t (suc i))
    by None is now = subst (λ n. IsFresh t (past_upto t i) (past_upto t n)) (sym one) (subst (IsFresh t (past_upto t i)) (sym (none_more t i is)) now)
    by (Some h) is now =
        subst (λ n. IsFresh t (past_upto t i) (past_upto t n)) (sym one)
        (subst (IsFresh t (past_upto t i)) (sym (one_more t i h is ∙ next_is t.places t.commands (past_upto t i) h)) (fresh_next t (past_upto t i) h))

pub hold_is_kept : HoldIsKept
hold_is_kept t i h is = ap (λ (q : Past). q.run_report.hold) (one_more t i h is ∙ next_is t.places t.commands (past_upto t i) h) ∙ hold_next t (past_upto t i) h

pub commands_find_no_call : CommandsFindNoCall
commands_find_no_call t run i c is off = (begun_over t.places t.commands (past_upto t i) off c (due_at t run i (happenings.Begun c) is)).0

pub commands_find_nothing_in_flight : CommandsFindNothingInFlight
commands_find_nothing_in_flight t run i c is off = (begun_over t.places t.commands (past_upto t i) off c (due_at t run i (happenings.Begun c) is)).1

pub commands_hold_their_call : CommandsHoldTheirCall
unfolding past
commands_hold_their_call t run zero = λ off other. tt
commands_hold_their_call t run (suc i) = by (slice_get t.trace i) refl (commands_hold_their_call t run i)
  where
    one : suc i ≡ i + 1
    one = omega arith

    by : (o : Option Happening) → slice_get t.trace i ≡ o → IsAlone t (past_upto t i) (past_upto t i) → IsAlone t (past_upto t i) (past_upto t (suc i))
    by None is now = subst (λ n. IsAlone t (past_upto t i) (past_upto t n)) (sym one) (subst (IsAlone t (past_upto t i)) (sym (none_more t i is)) now)
    by (Some h) is now =
        subst (λ n. IsAlone t (past_upto t i) (past_upto t n)) (sym one)
        (subst (IsAlone t (past_upto t i)) (sym (one_more t i h is ∙ next_is t.places t.commands (past_upto t i) h)) (calls_next t (past_upto t i) h (due_at t run i h is) now))
