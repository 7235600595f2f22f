-- What is told so far stays so as a node stops: its calls are answered.
use Rattle.std.proofs.Common.{◌≡◌, ℕ, ◌≤◌, ◌&&◌, Bool, true, false, if◌then◌else◌, List, [], ◌∷◌, is_none, slice_get, Option, Some, None, inl, refl, sym, ap, subst, ◌∙◌}
use Rattle.std.specs.Prelude.{is_some}
use Rattle.std.proofs.lemmas.Bool.{cond_both, eq-eqb}
use Rattle.node_rules.specs.NodeState.{NodeState}
use Rattle.run_rules.specs.Calls.{is_call_at, stopped_calls}
use Rattle.run_rules.specs.Data.{Command, Said}
use Rattle.run_rules.specs.Data.commands
use Rattle.run_rules.specs.Data.happenings
use Rattle.run_rules.specs.Facts.{Facts, command_at, facts_after, is_up, node_at}
use Rattle.run_rules.specs.Lawful.{History, MayStop}
use Rattle.run_rules.specs.Lines.{is_down, with_own, with_stop}
use Rattle.run_rules.specs.Past.{acts, failed_start, start_refused, is_stop_of, stop_line, report_after}
use Rattle.run_rules.specs.RunReport.{Past, RunReport}
use Rattle.run_rules.specs.Scripts.{IsTheRunOf}
use Rattle.run_rules.specs.Cuts.{appends}
use Rattle.run_claims.specs.Places.{past_upto}
use Rattle.run_ready_laws.proofs.OtherStandLemmas.{IsQuiet}
use Rattle.answer_origin_laws.proofs.ComeLemmas.{due_there}
use Rattle.answer_origin_laws.proofs.UptoLemmas.{may_at}
use Rattle.answer_done_laws.proofs.LineStayLemmas.{Has, found_has, stopped_grows}
use Rattle.answer_origin_laws.proofs.WayLemmas.{stopped_way}
use Rattle.answer_once_laws.specs.OnceLaws.{Ends_pending_call, Node_is_down}
use Rattle.answer_once_laws.proofs.CallListLemmas.{pends}
use Rattle.answer_once_laws.proofs.PageEndLemmas.{stopped_pages, stop_pages, start_pages}
use Rattle.answer_once_laws.proofs.PageLemmas.{IsStart, PagesSo, pages_same}
use Rattle.answer_once_laws.proofs.PageLessLemmas.{stopped_less, stopped_gone}
use Rattle.answer_once_laws.proofs.OnceStepLemmas.{OnceSo, IsUnsettled, Has_begun, Is_free, Follows_on, Falls_with, StartsNext, calls, stand, fresh_first, start_or_stop, was_start}

module _ (t : History) (run : IsTheRunOf t) (i : ℕ) (now : OnceSo t (past_upto t i)) where
  abbrev p : Past
  p = past_upto t i

  abbrev f : Facts
  f = p.facts

  abbrev told : RunReport
  told = p.run_report

  abbrev r : ℕ
  r = f.command

  -- ---- a node stops

  module _ (n : ℕ) (there : slice_get t.trace i ≡ Some (happenings.Stopped n)) where
    abbrev command_now : Command
    command_now = command_at t.commands r

    abbrev refused : RunReport
    refused = start_refused t.places f told command_now n

    abbrev falls : RunReport
    falls = record refused { start_to_stop = None }

    abbrev left : RunReport
    left = stopped_calls t.places r falls n told.calls

    abbrev stop : RunReport
    stop = acts (stop_line t.places left command_now n)

    failed_is_start : (c : Command) → failed_start f c n ≡ true → IsStart c
    failed_is_start (commands.Start m) is = tt
    failed_is_start _ is = absurd cc

    calls_refused : refused.calls ≡ told.calls
    calls_refused = cond_both (failed_start f command_now n) _ told (λ (q : RunReport). q.calls ≡ told.calls) (λ failed. refl) (λ other. refl)

    pages_refused : PagesSo t.places t.commands r refused
    pages_refused =
        cond_both (failed_start f command_now n) (with_own (appends told n 3) (is_down t.places n ∷ [])) told (PagesSo t.places t.commands r)
        (λ failed. start_pages t.places t.commands r (appends told n 3) (is_down t.places n) (pages_same t.places t.commands r told (appends told n 3) refl refl refl now.pages) (failed_is_start command_now failed)
        (Ends_pending_call (is_down t.places n) (Node_is_down n)))
        (λ other. now.pages)

    pages_falls : PagesSo t.places t.commands r falls
    pages_falls = pages_same t.places t.commands r refused falls refl refl refl pages_refused

    pages_left : PagesSo t.places t.commands r left
    pages_left = stopped_pages t.places t.commands r n falls told.calls calls_refused pages_falls

    abbrev same_line : RunReport → Type 0
    same_line q = (q.calls ≡ left.calls) × (q.page.own ≡ left.page.own) × (q.hold ≡ left.hold) × PagesSo t.places t.commands r q

    line : same_line (stop_line t.places left command_now n)
    line = cond_both (is_stop_of command_now n) left (with_stop t.places left n) same_line (λ own. (refl, refl, refl, pages_left)) (λ other. (refl, refl, refl, stop_pages t.places t.commands r left n pages_left))

    after : PagesSo t.places t.commands r stop
    after = pages_same t.places t.commands r (stop_line t.places left command_now n) stop refl refl refl line.3

    hold_refused : refused.hold ≡ told.hold
    hold_refused = cond_both (failed_start f command_now n) _ told (λ (q : RunReport). q.hold ≡ told.hold) (λ failed. refl) (λ other. refl)

    hold_stop : stop.hold ≡ told.hold
    hold_stop = line.2 ∙ ((stopped_way r t.places n falls told.calls).hold ∙ hold_refused)

    -- nothing was told before
    own_falls : stop.page.own ≡ [] → falls.page.own ≡ []
    own_falls empty = none_before falls.page.own refl
      where
        none_before : (xs : List Said) → falls.page.own ≡ xs → xs ≡ []
        none_before [] is = refl
        none_before (y ∷ ys) is =
            let has : Has left.page.own y = (stopped_grows r t.places n falls told.calls).own y (subst (λ zs. Has zs y) (sym is) (inl refl)) in absurd (subst (λ zs. Has zs y) (sym line.1 ∙ empty) has)

    not_failed : stop.page.own ≡ [] → failed_start f command_now n ≡ false
    not_failed empty = by (failed_start f command_now n) refl
      where
        by : (q : Bool) → failed_start f command_now n ≡ q → q ≡ false
        by false other = refl
        by true failed =
            let own : refused.page.own ≡ is_down t.places n ∷ [] = ap (λ q. (if q then with_own (appends told n 3) (is_down t.places n ∷ []) else told).page.own) failed in
            let none = own_falls empty in absurd (cc (own, none))

    empty_first : stop.page.own ≡ [] → told.page.own ≡ []
    empty_first empty = sym (ap (λ q. (if q then with_own (appends told n 3) (is_down t.places n ∷ []) else told).page.own) (not_failed empty)) ∙ own_falls empty

    pending_first : pends r stop.calls ≡ true → pends r told.calls ≡ true
    pending_first some = ap (pends r) (sym calls_refused) ∙ stopped_less t.places t.commands r n falls told.calls calls_refused pages_falls r (sym (ap (pends r) line.0) ∙ some)

    quiet : IsQuiet f told × (told.next_call ≡ None)
    quiet = let due = due_there t run i (calls t run i now) (happenings.Stopped n) there in (due.0, due.1)

    stops_there : (m : ℕ) → f.node_to_stop ≡ Some m → m ≡ n
    stops_there m is = let may = may_at t run i (happenings.Stopped n) there in (subst (MayStop f n) is may.1).1

    still : pends r stop.calls ≡ true → IsUnsettled p → told.hold ≡ false
    still some (Has_begun fresh) = absurd (fresh_first t run i now quiet.0 fresh (pending_first some))
    still some (Is_free off) = off
    still some (Follows_on d next own) = let none = quiet.1 in absurd (cc (none, next))
    still some (Falls_with c at own down) =
        let gone : pends r stop.calls ≡ true → ⊥ = λ is.
        stopped_gone t.places t.commands r n falls told.calls calls_refused pages_falls c (found_has (is_call_at c.node c.session) told.calls c at) (stops_there c.node down) (subst (λ m. pends m left.calls ≡ true) (sym own) (sym (ap (pends r) line.0) ∙ is)) in
        absurd (gone some)

    no_start : stop.page.own ≡ [] → StartsNext t.commands p → ⊥
    no_start empty s = start_or_stop t run i now (happenings.Stopped n) there (λ h. h ≡ happenings.Stopped n → ⊥) s (λ boot is. absurd cc) (λ is. fails (let same : s.node ≡ n = cc in same)) refl
      where
        fails : s.node ≡ n → ⊥
        fails same =
            let off : node_at f n ≡ None = none_up (node_at f n) (subst (λ m. is_up f m ≡ false) same s.off) in
            let upright = ((stand t run i now).fresh s.fresh).0.upright in
            let failed : failed_start f command_now n ≡ true
            = ap (λ c. failed_start f c n) s.starts ∙ (ap (λ q. q && (is_none (node_at f n) && is_none f.node_to_stop)) (eq-eqb s.node n same) ∙ (ap (λ o. is_none o && is_none f.node_to_stop) off ∙ ap is_none upright)) in
            let not = not_failed empty in
            cc (failed, not)
          where
            none_up : (o : Option NodeState) → is_some o ≡ false → o ≡ None
            none_up None is = refl
            none_up (Some k) is = absurd cc

    stops_so : (g : Facts) → g.command ≡ r → OnceSo t (record { facts = g; run_report = stop })
    stops_so g command = record {
      pages = subst (λ m. PagesSo t.places t.commands m stop) (sym command) after;
      silent = λ pending empty. (let some : pends r stop.calls ≡ true = subst (λ m. pends m stop.calls ≡ true) command pending in Is_free (hold_stop ∙ still some (now.silent (pending_first some) (empty_first empty))));
      starts = λ one none empty. absurd (no_start empty (was_start t run i now stop after (subst (λ m. 1 ≤ m) command one) (subst (λ m. pends m stop.calls ≡ false) command none) empty empty_first));
    }

    pub stopped_so : OnceSo t (record { facts = facts_after t.places t.commands f (happenings.Stopped n); run_report = report_after t.places t.commands f told (happenings.Stopped n) })
    unfolding facts_after
    stopped_so = stops_so (facts_after t.places t.commands f (happenings.Stopped n)) refl
