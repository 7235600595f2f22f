-- What is told so far stays so through each happening of a script's run but the begin of a command: the pages, and why a command
-- that runs may have said nothing yet.
use Rattle.std.proofs.Common.{◌≡◌, ℕ, ◌≤◌, ◌&&◌, ◌||◌, not, true, false, List, [], ◌∷◌, find, length, slice_get, Option, Some, None, inl, inr, refl, sym, ap, subst, ◌∙◌}
use Rattle.std.proofs.lemmas.Bool.{cond_both, eq-eqb}
use Rattle.run_rules.specs.Calls.{is_call_at, call_at}
use Rattle.run_rules.specs.Data.{Command, Happening, Said}
use Rattle.run_rules.specs.Data.commands
use Rattle.run_rules.specs.Data.happenings
use Rattle.run_rules.specs.Disks.{Strike, struck}
use Rattle.run_rules.specs.Due.{start_by}
use Rattle.run_rules.specs.Facts.{Facts, command_at, facts_after, is_up}
use Rattle.run_rules.specs.Lawful.{History}
use Rattle.run_rules.specs.Lines.{is_down, with_own}
use Rattle.run_rules.specs.Past.{acts, started_says, report_started, report_after}
use Rattle.run_rules.specs.RunReport.{Call, Past, RunReport, orders_at}
use Rattle.run_rules.specs.Scripts.{IsTheRunOf}
use Rattle.run_rules.specs.Cuts.{appends}
use Rattle.run_claims.specs.Places.{past_upto}
use Rattle.run_ready_laws.proofs.OtherStandLemmas.{IsQuiet}
use Rattle.run_ready_laws.proofs.PendingLemmas.{follows_at}
use Rattle.run_ready_laws.proofs.StandCallLemmas.{is_own, is_fresh, CallsStand}
use Rattle.answer_origin_laws.proofs.CallTurnLemmas.{all_so}
use Rattle.answer_origin_laws.proofs.ComeLemmas.{CallsSo, due_there}
use Rattle.answer_origin_laws.proofs.UptoLemmas.{due_at, stand_at}
use Rattle.answer_once_laws.specs.OnceLaws.{IsAnswer, Ends_pending_call, Node_is_down, Is_fine}
use Rattle.answer_once_laws.proofs.BetweenLemmas.{start_comes}
use Rattle.answer_once_laws.proofs.CallListLemmas.{pends, pending_one, apart_found}
use Rattle.answer_once_laws.proofs.PageEndLemmas.{start_calls_nothing, start_pages}
use Rattle.answer_once_laws.proofs.PageLemmas.{IsStart, OwnIs, PagesSo, pages_same}
use Rattle.answer_once_laws.proofs.SaidLemmas.{some_said}

-- Why the command that runs may still be silent while its call is pending.
pub data IsUnsettled (p : Past) : Type 0 where
  Has_begun : p.run_report.acted ≡ false → IsUnsettled p  -- the call comes next
  Is_free : p.run_report.hold ≡ false → IsUnsettled p  -- the command goes on until the call ends
  Follows_on : (d : Call) → p.run_report.next_call ≡ Some d → d.command ≡ p.facts.command → IsUnsettled p  -- its second call comes next
  Falls_with : (c : Call) → call_at p.run_report c.node c.session ≡ Some c → c.command ≡ p.facts.command → p.facts.node_to_stop ≡ Some c.node → IsUnsettled p  -- its node stops next

-- A START that comes next.
pub record StartsNext (asked : List Command) (p : Past) : Type 0 where
  pub node : ℕ
  pub starts : command_at asked p.facts.command ≡ commands.Start node
  pub fresh : p.run_report.acted ≡ false
  pub off : is_up p.facts node ≡ false

module _ (t : History) where
  -- What stands of what is told.
  pub record OnceSo (p : Past) : Type 0 where
    pub pages : PagesSo t.places t.commands p.facts.command p.run_report
    pub silent : pends p.facts.command p.run_report.calls ≡ true → p.run_report.page.own ≡ [] → IsUnsettled p
    pub starts : 1 ≤ p.facts.command → pends p.facts.command p.run_report.calls ≡ false → p.run_report.page.own ≡ [] → StartsNext t.commands p

  module _ (run : IsTheRunOf t) (i : ℕ) (now : OnceSo (past_upto t i)) where
    abbrev pub p : Past
    p = past_upto t i

    abbrev pub f : Facts
    f = p.facts

    abbrev pub told : RunReport
    told = p.run_report

    abbrev pub r : ℕ
    r = f.command

    pub calls : CallsSo t i p
    calls = all_so t run i

    pub stand : CallsStand t.commands (length t.places) f told
    stand = (stand_at t run i).so.calls

    -- a call of the command that runs comes first
    pub fresh_first : IsQuiet f told → told.acted ≡ false → pends r told.calls ≡ true → ⊥
    fresh_first quiet fresh pending =
        let c = pending_one (λ (c : Call). call_at told c.node c.session ≡ Some c) r told.calls (apart_found told.calls now.pages.apart) pending in
        let own : is_own r (find (is_call_at c.0.node c.0.session) told.calls) ≡ true = ap (is_own r) c.1 ∙ eq-eqb c.0.command r c.2 in
        let none : told.next_call ≡ None = (stand.fresh fresh).2 in
        let comes : is_fresh r told c.0.node c.0.session ≡ true
        = ap (λ o. follows_at o c.0.node c.0.session || (not told.acted && is_own r (find (is_call_at c.0.node c.0.session) told.calls))) none
        ∙ (ap (λ q. not q && is_own r (find (is_call_at c.0.node c.0.session) told.calls)) fresh ∙ own) in
        let not_so : is_fresh r told c.0.node c.0.session ≡ false = quiet c.0.node c.0.session ∙ ap (λ o. follows_at o c.0.node c.0.session) none in
        cc (comes, not_so)

    -- what is told, by the pages, where a command has said nothing and has no call
    pub is_start : (q : RunReport) → PagesSo t.places t.commands r q → 1 ≤ r → pends r q.calls ≡ false → q.page.own ≡ [] → IsStart (command_at t.commands r)
    is_start q pages one none empty = by (subst (λ b. OwnIs t.places t.commands r b q.page.own) none (pages.own one))
      where
        by : OwnIs t.places t.commands r false q.page.own → IsStart (command_at t.commands r)
        by (inl silent) = silent.1
        by (inr answered) = absurd (some_said t.places (command_at t.commands r) answered empty)

    -- a START that has said nothing is made next
    module _ (h : Happening) (there : slice_get t.trace i ≡ Some h) where
      start_is : (s : StartsNext t.commands p) → start_by f s.node (struck 3 (orders_at told s.node)) ≡ h
      start_is s = let settled = stand.fresh s.fresh in start_comes t.places t.commands p s.node s.fresh s.starts s.off settled.0 settled.1 settled.2 h (due_at t run i h there)

      pub start_or_stop : (P : Happening → Type 0) → (s : StartsNext t.commands p) → ((boot : ℕ) → P (happenings.Started s.node boot)) → P (happenings.Stopped s.node) → P h
      start_or_stop P s starts stops = subst P (start_is s) (by (struck 3 (orders_at told s.node)))
        where
          by : (o : Option Strike) → P (start_by f s.node o)
          by None = starts _
          by (Some x) = cond_both x.stands _ _ P (λ stands. starts _) (λ falls. stops)

    -- what was silent
    pub was_start : (q : RunReport) → PagesSo t.places t.commands r q → 1 ≤ r → pends r q.calls ≡ false → q.page.own ≡ [] → (q.page.own ≡ [] → told.page.own ≡ []) → StartsNext t.commands p
    was_start q pages one none empty before =
        let starts : IsStart (command_at t.commands r) = is_start q pages one none empty in now.starts one (start_calls_nothing t.places t.commands r told now.pages starts) (before empty)

    -- no node starts or stops
    abbrev pub IsNoStart : Happening → Type 0
    IsNoStart (happenings.Started n boot) = ⊥
    IsNoStart (happenings.Stopped n) = ⊥
    IsNoStart _ = Unit {0}

    -- ---- nothing is told

    quiet_so : (h : Happening) → slice_get t.trace i ≡ Some h → IsQuiet f told → ((s : StartsNext t.commands p) → ⊥) → (g : Facts) → g.command ≡ r → g.node_to_stop ≡ f.node_to_stop → OnceSo (record { facts = g; run_report = acts told })
    quiet_so h there quiet no_start g command stop = record {
      pages = subst (λ n. PagesSo t.places t.commands n (acts told)) (sym command) (pages_same t.places t.commands r told (acts told) refl refl refl now.pages);
      silent = λ pending empty. still (now.silent (subst (λ n. pends n told.calls ≡ true) command pending) empty) (subst (λ n. pends n told.calls ≡ true) command pending);
      starts = λ one none empty. absurd (no_start (now.starts (subst (λ n. 1 ≤ n) command one) (subst (λ n. pends n told.calls ≡ false) command none) empty));
    }
      where
        still : IsUnsettled p → pends r told.calls ≡ true → IsUnsettled (record { facts = g; run_report = acts told })
        still (Has_begun fresh) pending = absurd (fresh_first quiet fresh pending)
        still (Is_free off) pending = Is_free off
        still (Follows_on d next own) pending = Follows_on d next (own ∙ sym command)
        still (Falls_with c at own falls) pending = Falls_with c at (own ∙ sym command) (stop ∙ falls)

    -- ---- a node starts

    module _ (n boot : ℕ) (there : slice_get t.trace i ≡ Some (happenings.Started n boot)) where
      its_start : command_at t.commands r ≡ commands.Start n
      its_start = (due_there t run i calls (happenings.Started n boot) there).2

      starts_so : (g : Facts) → g.command ≡ r → OnceSo (record { facts = g; run_report = acts (report_started t.places told n (struck 3 (orders_at told n))) })
      starts_so g command = by (struck 3 (orders_at told n))
        where
          is_one : IsStart (command_at t.commands r)
          is_one = subst IsStart (sym its_start) tt

          with_said : (o : Option Strike) (s : Said) → IsAnswer t.places (command_at t.commands r) s → started_says t.places n o ≡ s ∷ [] → OnceSo (record { facts = g; run_report = acts (report_started t.places told n o) })
          with_said o s answer says =
              let u : RunReport = appends told n 3 in
              let now_u : PagesSo t.places t.commands r u = pages_same t.places t.commands r told u refl refl refl now.pages in
              let w : RunReport = with_own u (s ∷ []) in
              let z : RunReport = acts (report_started t.places told n o) in
              let page : z.page ≡ w.page = ap (λ own. record u.page { own = own }) says in
              record {
                pages = subst (λ m. PagesSo t.places t.commands m z) (sym command) (pages_same t.places t.commands r w z refl page refl (start_pages t.places t.commands r u s now_u is_one answer));
                silent = λ pending empty. absurd (let own : z.page.own ≡ s ∷ [] = says in cc (own, empty));
                starts = λ one none empty. absurd (let own : z.page.own ≡ s ∷ [] = says in cc (own, empty));
              }

          by : (o : Option Strike) → OnceSo (record { facts = g; run_report = acts (report_started t.places told n o) })
          by None = with_said None _ Is_fine refl
          by (Some x) = with_said (Some x) (is_down t.places n) (Ends_pending_call (is_down t.places n) (Node_is_down n)) refl

      pub started_so : OnceSo (record { facts = facts_after t.places t.commands f (happenings.Started n boot); run_report = report_after t.places t.commands f told (happenings.Started n boot) })
      unfolding facts_after
      started_so = starts_so (facts_after t.places t.commands f (happenings.Started n boot)) refl

    -- ---- the rest

    module _ (h : Happening) (there : slice_get t.trace i ≡ Some h) where
      none_starts : IsNoStart h → StartsNext t.commands p → ⊥
      none_starts calm s = start_or_stop h there (λ x. IsNoStart x → ⊥) s (λ boot is. is) (λ is. is) calm

      pub rest_so : IsNoStart h → IsQuiet f told → (g : Facts) → g.command ≡ r → g.node_to_stop ≡ f.node_to_stop → OnceSo (record { facts = g; run_report = acts told })
      rest_so calm quiet g command stop = quiet_so h there quiet (none_starts calm) g command stop
