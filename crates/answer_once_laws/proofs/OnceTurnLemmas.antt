-- What is told so far stays so through a turn: the calls that it ends are answered, and the call that came in it is told to wait
-- where HOLD is on.
use Rattle.std.proofs.Common.{◌≡◌, ℕ, ◌≤◌, ◌&&◌, ◌⊎◌, Bool, true, false, if◌then◌else◌, List, [], ◌∷◌, find, is_none, slice_get, Option, Some, None, inl, inr, refl, sym, ap, subst, ◌∙◌}
use Rattle.node_rules.specs.NodeState.{TurnOutput}
use Rattle.run_rules.specs.Calls.{is_call_at, call_at, after_input, finished}
use Rattle.run_rules.specs.Data.{Happening, Said, Turn}
use Rattle.run_rules.specs.Data.happenings
use Rattle.run_rules.specs.Facts.{Facts, facts_after, node_at, outcome_at, place_at, served}
use Rattle.run_rules.specs.Lawful.{History}
use Rattle.run_rules.specs.Past.{acts, ends_calls, report_after}
use Rattle.run_rules.specs.RunReport.{Call, CommandOutput, Past, RunReport}
use Rattle.run_rules.specs.Scripts.{IsTheRunOf}
use Rattle.run_claims.specs.Places.{past_upto}
use Rattle.run_ready_laws.proofs.PendingLemmas.{at_parts}
use Rattle.run_rules.proofs.ListLemmas.{all_weaker}
use Rattle.run_ready_laws.proofs.RunLawfulLemmas.{the_run_is_lawful}
use Rattle.answer_origin_laws.proofs.CallAtLemmas.{HasShape, found_at}
use Rattle.answer_origin_laws.proofs.ComeLemmas.{input_same, due_there, its_turn, before_end, before_so}
use Rattle.answer_origin_laws.proofs.DueCallLemmas.{ComesNow, DueIs}
use Rattle.answer_origin_laws.proofs.SameToldLemmas.{ToldBefore}
use Rattle.answer_origin_laws.proofs.UptoLemmas.{facts_there, may_at}
use Rattle.answer_done_laws.proofs.LineStayLemmas.{Has, finished_grows}
use Rattle.answer_origin_laws.proofs.WayLemmas.{finished_way, input_way, turn_before}
use Rattle.answer_once_laws.proofs.CallListLemmas.{pends, pending_one, all_both, apart_found, one_session}
use Rattle.answer_once_laws.proofs.OwnEndLemmas.{completes_own}
use Rattle.answer_once_laws.proofs.PageEndLemmas.{finished_pages, input_pages}
use Rattle.answer_once_laws.proofs.PageLemmas.{PagesSo, pages_same}
use Rattle.answer_once_laws.proofs.PageLessLemmas.{IsRunning, finished_less, finished_next, Unsaid, unsaid}
use Rattle.answer_once_laws.proofs.OnceStepLemmas.{OnceSo, IsUnsettled, Has_begun, Is_free, Follows_on, Falls_with, StartsNext, calls, stand, fresh_first, start_or_stop, was_start}

-- it is no turn
abbrev IsNoTurn : Happening → Type 0
IsNoTurn (happenings.Turn u) = ⊥
IsNoTurn _ = Unit {0}

module _ (t : History) (run : IsTheRunOf t) (i : ℕ) (now : OnceSo t (past_upto t i)) where
  abbrev p : Past
  p = past_upto t i

  abbrev f : Facts
  f = p.facts

  abbrev told : RunReport
  told = p.run_report

  abbrev r : ℕ
  r = f.command

  -- ---- a turn

  module _ (u : Turn) (there : slice_get t.trace i ≡ Some (happenings.Turn u)) where
    abbrev v : Option TurnOutput → RunReport
    v o = before_end t run i (calls t run i now) u there o

    before : (o : Option TurnOutput) → ToldBefore told (v o)
    before o = before_so t run i (calls t run i now) u there o

    hold_before : (o : Option TurnOutput) → (v o).hold ≡ told.hold
    hold_before o = (turn_before told u.node u.input (node_at f u.node) o u.took).hold

    pages_before : (o : Option TurnOutput) → PagesSo t.places t.commands r (v o)
    pages_before o = pages_same t.places t.commands r told (v o) (before o).calls (before o).page (before o).lines now.pages

    up : (x : TurnOutput) × (outcome_at t.places f u ≡ Some x)
    up = let may = may_at t run i (happenings.Turn u) there in (_, ap (served (place_at t.places u.node) u.input) may.1.up)

    abbrev Why : Type 0
    Why = (told.acted ≡ false) ⊎ ((d : Call) × (told.next_call ≡ Some d) × (d.command ≡ r))

    -- the call of the command that runs comes in this turn
    comes_own : pends r told.calls ≡ true → Why → (is : ComesNow p u) × (is.call.command ≡ r)
    comes_own pending why = by (due_there t run i (calls t run i now) (happenings.Turn u) there) why
      where
        by : DueIs t.commands p (happenings.Turn u) → Why → (is : ComesNow p u) × (is.call.command ≡ r)
        by (inl is) because = (is, its is.there because)
          where
            its : ((call_at told is.call.node is.call.session ≡ Some is.call) × (r ≡ is.call.command)) ⊎ (told.next_call ≡ Some is.call) → Why → is.call.command ≡ r
            its (inl own) any = sym own.1
            its (inr follows) (inl fresh) = let none = ((stand t run i now).fresh fresh).2 in absurd (cc (none, follows))
            its (inr follows) (inr next) = let it : Some next.0 ≡ Some is.call = sym next.1 ∙ follows in let same : next.0 ≡ is.call = cc in sym (ap (λ (c : Call). c.command) same) ∙ next.2
        by (inr none) (inl fresh) = absurd (fresh_first t run i now none.0 fresh pending)
        by (inr none) (inr next) = let no = none.1 in let some = next.1 in absurd (cc (no, some))

    found : (is : ComesNow p u) → call_at told is.call.node is.call.session ≡ Some is.call
    found is = (its_turn t run i (calls t run i now) u there is).pending

    -- why it was silent, if it was
    coming : IsUnsettled p → (told.hold ≡ false) ⊎ Why
    coming (Has_begun fresh) = inr (inl fresh)
    coming (Is_free off) = inl off
    coming (Follows_on d next own) = inr (inr (d, next, own))
    coming (Falls_with c at own falls) = let may = may_at t run i (happenings.Turn u) there in let none = may.1.settled.upright in absurd (cc (none, falls))

    no_start : StartsNext t.commands p → ⊥
    no_start s = start_or_stop t run i now (happenings.Turn u) there IsNoTurn s (λ boot. tt) tt

    module _ (g : Facts) (command : g.command ≡ r) where
      -- it is cut
      cut_so : (o : Option TurnOutput) → g.node_to_stop ≡ Some u.node → OnceSo t (record { facts = g; run_report = acts (v o) })
      cut_so o falls =
          let after : PagesSo t.places t.commands r (acts (v o)) = pages_same t.places t.commands r (v o) (acts (v o)) refl refl refl (pages_before o) in
          record {
            pages = subst (λ n. PagesSo t.places t.commands n (acts (v o))) (sym command) after;
            silent = λ pending empty.
                let was : pends r told.calls ≡ true = ap (pends r) (sym (before o).calls) ∙ subst (λ n. pends n (v o).calls ≡ true) command pending in
                still was (coming (now.silent was (ap (λ (x : CommandOutput). x.own) (sym (before o).page) ∙ empty)));
            starts = λ one none empty. absurd (no_start (was_start t run i now (acts (v o)) after (subst (λ n. 1 ≤ n) command one) (subst (λ n. pends n (v o).calls ≡ false) command none) empty (λ is. ap (λ (x : CommandOutput). x.own) (sym (before o).page) ∙ is)));
          }
        where
          still : pends r told.calls ≡ true → (told.hold ≡ false) ⊎ Why → IsUnsettled (record { facts = g; run_report = acts (v o) })
          still was (inl off) = Is_free (hold_before o ∙ off)
          still was (inr why) =
              let is = comes_own was why in
              Falls_with is.0.call (ap (find (is_call_at is.0.call.node is.0.call.session)) (before o).calls ∙ found is.0) (is.1 ∙ sym command) (falls ∙ ap Some is.0.here)

      -- or whole
      module _ (x : TurnOutput) (comes : outcome_at t.places f u ≡ Some x) where
        abbrev v1 : RunReport
        v1 = v (Some x)

        abbrev w : RunReport
        w = finished r v1 u.node x.ended

        abbrev z : RunReport
        z = after_input r w u.node u.input

        pages_w : PagesSo t.places t.commands r w
        pages_w = finished_pages t.places t.commands r u.node v1 x.ended (pages_before (Some x))

        pages_z : PagesSo t.places t.commands r z
        pages_z = input_pages t.places t.commands r w u.node u.input pages_w

        after : PagesSo t.places t.commands r (acts z)
        after = pages_same t.places t.commands r z (acts z) refl refl refl pages_z

        same : (z.calls ≡ w.calls) × (z.next_call ≡ w.next_call)
        same = input_same w r u.node u.input

        hold_z : z.hold ≡ told.hold
        hold_z = (input_way r w u.node u.input).hold ∙ ((finished_way r u.node v1 x.ended).hold ∙ hold_before (Some x))

        said : z.page.own ≡ [] → Unsaid t.places t.commands r w u.node u.input
        said empty = unsaid t.places t.commands r w u.node u.input empty

        empty_first : z.page.own ≡ [] → told.page.own ≡ []
        empty_first empty = ap (λ (y : CommandOutput). y.own) (sym (before (Some x)).page) ∙ none_before v1.page.own refl
          where
            none_before : (xs : List Said) → v1.page.own ≡ xs → xs ≡ []
            none_before [] is = refl
            none_before (y ∷ ys) is =
                let has : Has w.page.own y = (finished_grows r u.node v1 x.ended).own y (subst (λ zs. Has zs y) (sym is) (inl refl)) in absurd (subst (λ zs. Has zs y) (said empty).before has)

        pending_first : pends r z.calls ≡ true → pends r told.calls ≡ true
        pending_first some = ap (pends r) (sym (before (Some x)).calls) ∙ finished_less t.places t.commands r u.node v1 x.ended (pages_before (Some x)) r (sym (ap (pends r) same.0) ∙ some)

        -- its call is told to wait, unless its second call follows
        still : pends r z.calls ≡ true → z.page.own ≡ [] → (told.hold ≡ false) ⊎ Why → IsUnsettled (record { facts = g; run_report = acts z })
        still some empty (inl off) = Is_free (hold_z ∙ off)
        still some empty (inr why) =
            let is = comes_own (pending_first some) why in
            let in_w : pends r w.calls ≡ true = sym (ap (pends r) same.0) ∙ some in
            let c = pending_one (λ (c : Call). HasShape t.commands c × (call_at w c.node c.session ≡ Some c)) r w.calls (all_both (HasShape t.commands) (λ (c : Call). call_at w c.node c.session ≡ Some c) w.calls pages_w.shapes (apart_found w.calls pages_w.apart)) in_w in
            let shape : HasShape t.commands is.0.call = (found_at t.commands told is.0.call.node is.0.call.session is.0.call now.pages.shapes (found is.0)).0 in
            let session = at_parts is.0.call.node is.0.call.session c.0 (one_session t.commands is.0.call c.0 shape c.1.0 (is.1 ∙ sym c.2)) in
            let at : call_at w u.node is.0.call.session ≡ Some c.0 = subst (λ n. call_at w n is.0.call.session ≡ Some c.0) (session.0 ∙ sym is.0.here) (subst (λ s. call_at w c.0.node s ≡ Some c.0) session.1 c.1.1) in
            let free : (w.hold && is_none w.next_call) ≡ false = (said empty).free is.0.call.session is.0.call.statement is.0.came c.0 at c.2 in
            by is.0 is.1 (w.hold) (w.next_call) refl refl free
          where
            -- a call of the session is the command's own
            running : (is : ComesNow p u) → is.call.command ≡ r → IsRunning t.places t.commands r u.node is.call.session v1.calls
            running is own =
                subst (λ cs. IsRunning t.places t.commands r u.node is.call.session cs) (sym (before (Some x)).calls)
                (all_weaker (λ (y : Call). call_at told y.node y.session ≡ Some y) (λ (y : Call). is_call_at u.node is.call.session y ≡ true → y.command ≡ r)
                (λ y at here. (let parts = at_parts u.node is.call.session y here in
                let there_too : call_at told is.call.node is.call.session ≡ Some y = subst (λ n. call_at told n is.call.session ≡ Some y) (parts.0 ∙ is.here) (subst (λ s. call_at told y.node s ≡ Some y) parts.1 at) in
                let it : Some y ≡ Some is.call = sym there_too ∙ found is in
                let one : y ≡ is.call = cc in
                ap (λ (d : Call). d.command) one ∙ own))
                told.calls (apart_found told.calls now.pages.apart))

            by : (is : ComesNow p u) → is.call.command ≡ r → (hold : Bool) (next : Option Call) → w.hold ≡ hold → w.next_call ≡ next → (w.hold && is_none w.next_call) ≡ false → IsUnsettled (record { facts = g; run_report = acts z })
            by is own false next off at free = Is_free ((input_way r w u.node u.input).hold ∙ off)
            by is own true None on at free = absurd (let yes : (w.hold && is_none w.next_call) ≡ true = ap (λ q. q && is_none w.next_call) on ∙ ap is_none at in cc (yes, free))
            by is own true (Some d) on at free =
                Follows_on d (same.1 ∙ at) (finished_next t.places t.commands r u.node is.call.session v1 x.ended (pages_before (Some x))
                (completes_own t (the_run_is_lawful t run) is.call.session is.call.statement i u there is.came x (ap (λ h. outcome_at t.places h u) (sym (facts_there t i)) ∙ comes))
                (running is own) (λ e none. (let no = (before (Some x)).alone in absurd (cc (no, none)))) d at ∙ sym command)

        whole_so : OnceSo t (record { facts = g; run_report = acts z })
        whole_so = record {
          pages = subst (λ n. PagesSo t.places t.commands n (acts z)) (sym command) after;
          silent = λ pending empty. (let some : pends r z.calls ≡ true = subst (λ n. pends n z.calls ≡ true) command pending in still some empty (coming (now.silent (pending_first some) (empty_first empty))));
          starts = λ one none empty. absurd (no_start (was_start t run i now (acts z) after (subst (λ n. 1 ≤ n) command one) (subst (λ n. pends n z.calls ≡ false) command none) empty empty_first));
        }

    abbrev ended : Bool → Option TurnOutput → RunReport
    ended b o = acts (ends_calls r (v o) u b o)

    turn_by : (g : Facts) → g.command ≡ r → g.node_to_stop ≡ (if u.cut then Some u.node else None) → (b : Bool) → u.cut ≡ b → OnceSo t (record { facts = g; run_report = ended b (outcome_at t.places f u) })
    turn_by g command stops true cut = cut_so g command (outcome_at t.places f u) (stops ∙ ap (λ q. if q then Some u.node else None) cut)
    turn_by g command stops false cut = subst (λ o. OnceSo t (record { facts = g; run_report = ended false o })) (sym up.1) (whole_so g command up.0 up.1)

    pub turn_so : OnceSo t (record { facts = facts_after t.places t.commands f (happenings.Turn u); run_report = report_after t.places t.commands f told (happenings.Turn u) })
    unfolding facts_after
    turn_so = subst (λ b. OnceSo t (record { facts = facts_after t.places t.commands f (happenings.Turn u); run_report = ended b (outcome_at t.places f u) })) refl (turn_by (facts_after t.places t.commands f (happenings.Turn u)) refl refl u.cut refl)
