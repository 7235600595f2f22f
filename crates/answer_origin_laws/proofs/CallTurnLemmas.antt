-- In the run of a script each pending call has come, unless it comes next; and what comes as a client's call is pending.
use Rattle.std.proofs.Common.{◌≡◌, ℕ, ◌+◌, ◌&&◌, ◌||◌, ◌⊎◌, not, Bool, true, false, List, [], ◌∷◌, ◌++◌, find, slice_get, Option, Some, None, inl, inr, refl, sym, ap, subst, ◌∙◌, zero, suc, arith}
use Rattle.std.proofs.lemmas.Bool.{cond_both, eq-eqb}
use Rattle.node_rules.specs.Data.{Stmt}
use Rattle.node_rules.specs.Data.inputs
use Rattle.run_rules.specs.Calls.{is_call_at, call_at, stopped_calls}
use Rattle.run_rules.specs.Commands.{call_of, calls_after, has_call, has_transaction}
use Rattle.run_rules.specs.Data.{Command, Happening, Turn}
use Rattle.run_rules.specs.Data.commands
use Rattle.run_rules.specs.Data.happenings
use Rattle.run_rules.specs.Facts.{Facts, command_at, is_up, node_at, facts_after}
use Rattle.run_rules.specs.Scripts.{IsTheRunOf}
use Rattle.run_rules.specs.Lawful.{History}
use Rattle.run_rules.specs.Past.{is_call, acts, failed_start, start_refused, is_stop_of, stop_line, report_stopped, next, past}
use Rattle.run_claims.specs.Places.{past_upto}
use Rattle.run_rules.specs.RunReport.{Call, Past, RunReport, start}
use Rattle.run_rules.proofs.ListLemmas.{all_append}
use Rattle.run_ready_laws.proofs.CallEndLemmas.{same_number}
use Rattle.run_ready_laws.proofs.PendingLemmas.{follows_at, at_parts}
use Rattle.run_ready_laws.proofs.StandCallLemmas.{is_own, is_fresh}
use Rattle.run_ready_laws.proofs.OtherStandLemmas.{IsQuiet}
use Rattle.answer_origin_laws.specs.CallTurns.{TurnOf, CameBefore, IsYetToCome, PendingCallsCame, TurnsFindCallsCome, WhatComesIsPending}
use Rattle.answer_origin_laws.proofs.UptoLemmas.{one_more, none_more}
use Rattle.answer_origin_laws.proofs.DueCallLemmas.{DueIs}
use Rattle.answer_origin_laws.proofs.ComeLemmas.{CallsSo, further, due_there, its_turn, turn_finds, turn_so}
use Rattle.answer_origin_laws.proofs.CallAtLemmas.{HasShape, NextIs, AreShaped, made_shape, find_last, Fewer, same_fewer, fewer_then, stopped_fewer}

module _ (t : History) (run : IsTheRunOf t) (i : ℕ) (now : CallsSo t i (past_upto t i)) where
  abbrev p : Past
  p = past_upto t i

  abbrev f : Facts
  f = p.facts

  abbrev told : RunReport
  told = p.run_report

  -- ---- what comes beside turns

  module _ (h : Happening) (there : slice_get t.trace i ≡ Some h) (no_turn : (u : Turn) → h ≡ happenings.Turn u → ⊥) where
    -- one that has come
    stays_come : (n s : ℕ) (c : Call) → call_at told n s ≡ Some c → is_fresh f.command told n s ≡ false → CameBefore t (i + 1) n s c
    stays_come n s c at old =
        further t i n s c (now.came n s c at old) at (λ u is here st came. no_turn u (let it : Some h ≡ Some (happenings.Turn u) = sym there ∙ is in let same : h ≡ happenings.Turn u = cc in same))

    -- nothing is due but what follows
    other_so : (q : Past) → IsQuiet f told → Fewer t.commands told q.run_report → NextIs t.commands q.run_report → q.run_report.acted ≡ true → CallsSo t (i + 1) q
    other_so q quiet fewer next acted = record {
      shapes = fewer.shapes;
      next = next;
      came = λ n s c at old. (let was : follows_at told.next_call n s ≡ false = by (follows_at told.next_call n s) (not q.run_report.acted) (is_own q.facts.command (find (is_call_at n s) q.run_report.calls))
          (sym (ap (λ o. follows_at o n s || (not q.run_report.acted && is_own q.facts.command (find (is_call_at n s) q.run_report.calls))) fewer.next) ∙ old) in
          stays_come n s c (fewer.was n s c at) (quiet n s ∙ was));
    }
      where
        by : (a b c : Bool) → (a || (b && c)) ≡ false → a ≡ false
        by true b c is = absurd cc
        by false b c is = refl

    alone_next : (v : RunReport) → v.next_call ≡ None → NextIs t.commands v
    alone_next v alone c is = absurd (cc (alone, is))

  -- a command begins
  module _ (c : ℕ) where
    abbrev BegunSo : List Call → Type 0
    BegunSo cs = AreShaped t.commands cs × ((n s : ℕ) (d : Call) → find (is_call_at n s) cs ≡ Some d → (call_at told n s ≡ Some d) ⊎ (d.command ≡ c))

    same : BegunSo told.calls
    same = (now.shapes, (λ n s d at. inl at))

    made_command : (node session : ℕ) (text : Option Stmt) (has : Bool) → (call_of c node session text has).command ≡ c
    made_command node session None has = refl
    made_command node session (Some s) has = cond_both _ _ _ (λ (d : Call). d.command ≡ c) (λ first. refl) (λ alone. refl)

    begins : (command : Command) → command_at t.commands c ≡ command → BegunSo (calls_after f told c command)
    begins (commands.At node session text) is =
        let new : Call = call_of c node session text (has_transaction (node_at f node) session) in
        cond_both (is_up f node && not (has_call told node session)) (told.calls ++ new ∷ []) told.calls BegunSo
        (λ made. (
          all_append (HasShape t.commands) told.calls (new ∷ []) now.shapes (made_shape t.commands c node session text (has_transaction (node_at f node) session) is, tt),
          (λ n s d at. elim (find_last (is_call_at n s) told.calls new d at) [
            | inl here ↦ inl here
            | inr it ↦ inr (ap (λ (x : Call). x.command) (sym it) ∙ made_command node session text (has_transaction (node_at f node) session))
          ]),
        ))
        (λ other. same)
    begins _ is = same

    begun_so : slice_get t.trace i ≡ Some (happenings.Begun c) → CallsSo t (i + 1) (next t.places t.commands p (happenings.Begun c))
    unfolding next facts_after
    begun_so there =
        let due = due_there t run i now (happenings.Begun c) there in
        let cs : List Call = calls_after f told c (command_at t.commands c) in
        let so : BegunSo cs = begins (command_at t.commands c) refl in record {
          shapes = so.0;
          next = λ d is. (let none = due.1 in absurd (cc (none, is)));
          came = λ n s d at old. elim (so.1 n s d at) [
            | inl here ↦ stays_come (happenings.Begun c) there (λ u is. absurd cc) n s d here (due.0 n s ∙ ap (λ o. follows_at o n s) due.1)
            | inr its ↦ (let own : is_own c (find (is_call_at n s) cs) ≡ true = ap (is_own c) at ∙ eq-eqb d.command c its in
                let none : (follows_at told.next_call n s || is_own c (find (is_call_at n s) cs)) ≡ false = old in
                let fresh : (follows_at told.next_call n s || is_own c (find (is_call_at n s) cs)) ≡ true = ap (λ o. follows_at o n s || is_own c (find (is_call_at n s) cs)) due.1 ∙ own in
                absurd (cc (none, fresh)))
          ];
        }

  -- a node stops
  pub stop_fewer : (n : ℕ) → Fewer t.commands told (acts (report_stopped t.places t.commands f told n))
  stop_fewer n =
      let command : Command = command_at t.commands f.command in
      let refused : RunReport = start_refused t.places f told command n in
      let one : Fewer t.commands told refused = cond_both (failed_start f command n) _ told (Fewer t.commands told) (λ failed. same_fewer t.commands told _ now.shapes refl refl) (λ other. same_fewer t.commands told told now.shapes refl refl) in
      let falls : RunReport = record refused { start_to_stop = None } in
      let two : Fewer t.commands refused falls = same_fewer t.commands refused falls one.shapes refl refl in
      let left : RunReport = stopped_calls t.places f.command falls n told.calls in
      let three : Fewer t.commands falls left = stopped_fewer t.commands t.places f.command n falls told.calls two.shapes in
      let stop : RunReport = stop_line t.places left command n in
      let four : Fewer t.commands left stop = cond_both (is_stop_of command n) left _ (Fewer t.commands left) (λ own. same_fewer t.commands left left three.shapes refl refl) (λ other. same_fewer t.commands left _ three.shapes refl refl) in
      let five : Fewer t.commands stop (acts stop) = same_fewer t.commands stop (acts stop) four.shapes refl refl in
      fewer_then t.commands told refused (acts stop) one (fewer_then t.commands refused falls (acts stop) two (fewer_then t.commands falls left (acts stop) three (fewer_then t.commands left stop (acts stop) four five)))

  stopped_so : (n : ℕ) → slice_get t.trace i ≡ Some (happenings.Stopped n) → CallsSo t (i + 1) (next t.places t.commands p (happenings.Stopped n))
  unfolding next facts_after
  stopped_so n there =
      let due = due_there t run i now (happenings.Stopped n) there in
      let stop : RunReport = acts (report_stopped t.places t.commands f told n) in
      let fewer : Fewer t.commands told stop = stop_fewer n in
      other_so (happenings.Stopped n) there (λ u is. absurd cc) (next t.places t.commands p (happenings.Stopped n)) due.0 fewer (alone_next (happenings.Stopped n) there (λ u is. absurd cc) stop (fewer.next ∙ due.1)) refl

  happens_so : (h : Happening) → slice_get t.trace i ≡ Some h → CallsSo t (i + 1) (next t.places t.commands p h)
  unfolding next facts_after
  happens_so (happenings.Turn u) there = turn_so t run i now u there
  happens_so (happenings.Begun c) there = begun_so c there
  happens_so (happenings.Stopped n) there = stopped_so n there
  happens_so (happenings.Started n boot) there =
      let due = due_there t run i now (happenings.Started n boot) there in
      let q : Past = next t.places t.commands p (happenings.Started n boot) in
      other_so (happenings.Started n boot) there (λ u is. absurd cc) q due.0 (same_fewer t.commands told q.run_report now.shapes refl refl) (alone_next (happenings.Started n boot) there (λ u is. absurd cc) q.run_report due.1) refl
  happens_so (happenings.Cut a b) there =
      other_so (happenings.Cut a b) there (λ u is. absurd cc) (next t.places t.commands p (happenings.Cut a b)) (due_there t run i now (happenings.Cut a b) there).0 (same_fewer t.commands told (acts told) now.shapes refl refl) now.next refl
  happens_so (happenings.Join a b) there =
      other_so (happenings.Join a b) there (λ u is. absurd cc) (next t.places t.commands p (happenings.Join a b)) (due_there t run i now (happenings.Join a b) there).0 (same_fewer t.commands told (acts told) now.shapes refl refl) now.next refl
  happens_so (happenings.Lost k) there =
      other_so (happenings.Lost k) there (λ u is. absurd cc) (next t.places t.commands p (happenings.Lost k)) (due_there t run i now (happenings.Lost k) there) (same_fewer t.commands told (acts told) now.shapes refl refl) now.next refl

-- ---- each moment

module _ (t : History) where
  further_so : (i : ℕ) → CallsSo t i (past_upto t i) → slice_get t.trace i ≡ None → CallsSo t (i + 1) (past_upto t (i + 1))
  further_so i now none =
      subst (CallsSo t (i + 1)) (sym (none_more t i none)) (record {
        shapes = now.shapes;
        next = now.next;
        came = λ n s c at old. further t i n s c (now.came n s c at old) at (λ u is here st came. absurd (cc (none, is)));
      })

  first_so : CallsSo t 0 (start t.places)
  first_so = record { shapes = tt; next = λ c is. absurd cc; came = λ n s c at old. absurd cc }

  module _ (run : IsTheRunOf t) where
    one_so : (i : ℕ) → CallsSo t i (past_upto t i) → (o : Option Happening) → slice_get t.trace i ≡ o → CallsSo t (i + 1) (past_upto t (i + 1))
    one_so i now None none = further_so i now none
    one_so i now (Some h) there = subst (CallsSo t (i + 1)) (sym (one_more t i h there)) (happens_so t run i now h there)

    pub all_so : (i : ℕ) → CallsSo t i (past_upto t i)
    unfolding past
    all_so zero = first_so
    all_so (suc i) = let one : i + 1 ≡ suc i = omega arith in subst (λ j. CallsSo t j (past_upto t j)) one (one_so i (all_so i) (slice_get t.trace i) refl)

    module _ (i n s : ℕ) (c : Call) (at : call_at (past_upto t i).run_report n s ≡ Some c) where
      abbrev so_far : Past
      so_far = past_upto t i

      yet_to_come : is_fresh so_far.facts.command so_far.run_report n s ≡ true → IsYetToCome so_far c
      yet_to_come fresh = by so_far.run_report.next_call refl
        where
          own : (q : Bool) → so_far.run_report.acted ≡ q → (not q && is_own so_far.facts.command (find (is_call_at n s) so_far.run_report.calls)) ≡ true → IsYetToCome so_far c
          own true acted is = absurd cc
          own false acted is = inl (acted, sym (same_number c.command so_far.facts.command (sym (ap (is_own so_far.facts.command) at) ∙ is)))

          by : (o : Option Call) → so_far.run_report.next_call ≡ o → IsYetToCome so_far c
          by None none = own so_far.run_report.acted refl (sym (ap (λ o. follows_at o n s || (not so_far.run_report.acted && is_own so_far.facts.command (find (is_call_at n s) so_far.run_report.calls))) none) ∙ fresh)
          by (Some d) follows = here (is_call_at n s d) refl
            where
              here : (q : Bool) → is_call_at n s d ≡ q → IsYetToCome so_far c
              here true its =
                  let parts = at_parts n s d its in
                  let there : call_at so_far.run_report d.node d.session ≡ Some d = ((all_so i).next d follows).1 in
                  let same : call_at so_far.run_report n s ≡ Some d = subst (λ j. call_at so_far.run_report j s ≡ Some d) parts.0 (subst (λ j. call_at so_far.run_report d.node j ≡ Some d) parts.1 there) in
                  inr (follows ∙ (sym same ∙ at))
              here false other = own so_far.run_report.acted refl (sym (ap (λ o. follows_at o n s || (not so_far.run_report.acted && is_own so_far.facts.command (find (is_call_at n s) so_far.run_report.calls))) follows
                  ∙ ap (λ q. q || (not so_far.run_report.acted && is_own so_far.facts.command (find (is_call_at n s) so_far.run_report.calls))) other) ∙ fresh)

      came_or_comes : IsYetToCome so_far c ⊎ CameBefore t i n s c
      came_or_comes = by (is_fresh so_far.facts.command so_far.run_report n s) refl
        where
          by : (q : Bool) → is_fresh so_far.facts.command so_far.run_report n s ≡ q → IsYetToCome so_far c ⊎ CameBefore t i n s c
          by true fresh = inl (yet_to_come fresh)
          by false old = inr ((all_so i).came n s c at old)

pub pending_calls_came : PendingCallsCame
pending_calls_came t run i node session c at = came_or_comes t run i node session c at

pub turns_find_calls_come : TurnsFindCallsCome
turns_find_calls_come t run i u there node session c at = turn_finds t run i (all_so t run i) u there node session c at

pub what_comes_is_pending : WhatComesIsPending
what_comes_is_pending t run i u there session s came = by (due_there t run i (all_so t run i) (happenings.Turn u) there)
  where
    by : DueIs t.commands (past_upto t i) (happenings.Turn u) → (c : Call) × TurnOf t i u.node session c
    by (inl is) =
        let it : inputs.Call is.call.session is.call.statement ≡ inputs.Call session s = sym is.came ∙ came in
        let same : is.call.session ≡ session = cc in
        (is.call, subst (λ j. TurnOf t i j session is.call) (sym is.here) (subst (λ j. TurnOf t i is.call.node j is.call) same (its_turn t run i (all_so t run i) u there is)))
    by (inr none) = let call : is_call u.input ≡ true = ap is_call came in let no = none.2 in absurd (cc (no, call))
