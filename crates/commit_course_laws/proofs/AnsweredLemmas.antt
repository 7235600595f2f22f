-- Where the call of a session has been answered, and nothing else was pending, no call is pending.
use Rattle.std.proofs.Common.{◌≡◌, ℕ, ◌==◌, not, Bool, true, false, if◌then◌else◌, List, [], ◌∷◌, ◌++◌, map, filter, find, Option, Some, None, refl, sym, ap, subst, ◌∙◌}
use Rattle.std.specs.List.{AllByRecursion}
use Rattle.std.proofs.lemmas.Bool.{eqb-true}
use Rattle.node_rules.specs.Data.{Answer, Place, Stmt}
use Rattle.node_rules.specs.declared.session.Finished.{Finished}
use Rattle.node_rules.specs.NodeState.{TurnOutput}
use Rattle.run_rules.specs.Calls.{is_call_at, call_at, without_call, ends_or_follows, finished_call, finished}
use Rattle.run_rules.specs.Cuts.{turn_appends}
use Rattle.run_rules.specs.Data.{Command, Happening, Turn}
use Rattle.run_rules.specs.Data.happenings
use Rattle.run_rules.specs.Facts.{Facts, node_at, outcome_at, facts_after}
use Rattle.run_rules.specs.Lines.{says_node}
use Rattle.run_rules.specs.Past.{delivered_more, without_following, ends_calls, report_turned, next, past}
use Rattle.run_rules.specs.RunReport.{Call, Past, RunReport}
use Rattle.run_rules.specs.Trail.{ended_by}
use Rattle.run_rules.proofs.FactLemmas.{facts_next}
use Rattle.run_ready_laws.proofs.PendingLemmas.{found_so, at_parts, line_same}
use Rattle.answer_origin_laws.proofs.ComeLemmas.{input_same}
use Rattle.run_claims.specs.Undisturbed.{answers_in, answers_from}
use Rattle.answer_origin_laws.proofs.WayLemmas.{finished_so, turn_so}
use Rattle.commit_course_laws.proofs.FlowLemmas.{IsItsCall, HasOne, one_ends, one_before, one_turn, IsWholeTurn}

-- no call is such
abbrev pub IsNoCall : Call → Type 0
IsNoCall c = ⊥

-- none is pending
abbrev pub HasNone : RunReport → Type 0
HasNone t = AllByRecursion IsNoCall t.calls

pub none_pending : (cs : List Call) → AllByRecursion IsNoCall cs → cs ≡ []
none_pending [] none = refl
none_pending (c ∷ cs) none = absurd none.0

-- ---- a call that is answered

module _ (node session : ℕ) where
  all_left : (n s : ℕ) → n ≡ node → s ≡ session → (cs : List Call) → AllByRecursion (IsItsCall node session) cs → AllByRecursion IsNoCall (filter (λ c. not (is_call_at n s c)) cs)
  all_left n s here its [] all = tt
  all_left n s here its (c ∷ cs) all =
      let same : is_call_at n s c ≡ true = subst (λ i. is_call_at i s c ≡ true) (sym here) (subst (λ i. is_call_at node i c ≡ true) (sym its) all.0.0) in
      subst (λ q. AllByRecursion IsNoCall (if q then c ∷ filter (λ d. not (is_call_at n s d)) cs else filter (λ d. not (is_call_at n s d)) cs)) (sym (ap not same)) (all_left n s here its cs all.1)

  none_found : (s : ℕ) → s ≡ session → (cs : List Call) → AllByRecursion (IsItsCall node session) cs → find (is_call_at node s) cs ≡ None → AllByRecursion IsNoCall cs
  none_found s its [] all is = tt
  none_found s its (c ∷ cs) all is =
      let same : is_call_at node s c ≡ true = subst (λ i. is_call_at node i c ≡ true) (sym its) all.0.0 in
      let first : find (is_call_at node s) (c ∷ cs) ≡ Some c = ap (λ q. if q then Some c else find (is_call_at node s) cs) same in
      absurd (cc (first, is))

  module _ (running : ℕ) where
    gone_none : (t : RunReport) (c : Call) (f : Finished) (o : Option Stmt) → o ≡ None → c.node ≡ node → c.session ≡ session → HasOne node session t → HasNone (ends_or_follows running t c f o)
    gone_none t c f None last here its one = subst (AllByRecursion IsNoCall) (sym (line_same running (without_call t c.node c.session) c.command (says_node f)).calls) (all_left c.node c.session here its t.calls one.calls)
    gone_none t c f (Some s) last here its one = absurd cc

    answered_call : (t : RunReport) (f : Finished) → HasOne node session t → f.session ≡ session → (o : Option Call) → call_at t node f.session ≡ o → HasNone (finished_call running t f o)
    answered_call t f one its None at = none_found f.session its t.calls one.calls at
    answered_call t f one its (Some c) at =
        let found = found_so (IsItsCall node session) (is_call_at node f.session) t.calls c one.calls at in
        let parts = at_parts node f.session c found.1 in
        gone_none t c f c.follows found.0.1 parts.0 (parts.1 ∙ its) one

    answered_calls : (t : RunReport) (fs : List Finished) → HasOne node session t → (filter (λ (x : Finished). x.session == session) fs ≡ [] → ⊥) → HasNone (finished running t node fs)
    answered_calls t [] one some = absurd (some refl)
    answered_calls t (f ∷ fs) one some = by (f.session == session) refl (λ more. answered_calls onward fs (one_ends node session running node t f one) more)
      where
        onward : RunReport
        onward = finished_call running t f (call_at t node f.session)

        by : (q : Bool) → (f.session == session) ≡ q → ((filter (λ (x : Finished). x.session == session) fs ≡ [] → ⊥) → HasNone (finished running onward node fs)) → HasNone (finished running onward node fs)
        by true its rest = finished_so IsNoCall (λ c s so. so) running node onward fs (answered_call t f one (eqb-true f.session session its) (call_at t node f.session) refl)
        by false other rest = rest (λ none. some (ap (λ q. if q then f ∷ filter (λ (x : Finished). x.session == session) fs else filter (λ (x : Finished). x.session == session) fs) other ∙ none))

    -- ---- in a turn

    pub answered_end : (t : RunReport) (u : Turn) (o : TurnOutput) → HasOne node session t → u.node ≡ node → (filter (λ (x : Finished). x.session == session) o.ended ≡ [] → ⊥) → HasNone (ends_calls running t u false (Some o))
    answered_end t u o one here some =
        let v : RunReport = finished running t u.node o.ended in
        let none : HasNone v = subst (λ n. HasNone (finished running t n o.ended)) (sym here) (answered_calls t o.ended one some) in
        subst (AllByRecursion IsNoCall) (sym (input_same v running u.node u.input).0) none

  module _ (places : List Place) (asked : List Command) where
    answered_turn : (f : Facts) (t : RunReport) (u : Turn) → HasOne node session t → (answers_in places f node session (happenings.Turn u) ≡ [] → ⊥) → HasNone (report_turned f.command (node_at f u.node) t u (outcome_at places f u))
    answered_turn f t u one some = by u.cut (u.node == node) (outcome_at places f u) refl refl refl
      where
        answers : Option TurnOutput → List Answer
        answers o = map (λ (x : Finished). x.answer) (filter (λ (x : Finished). x.session == session) (ended_by o))

        said : Bool → Bool → Option TurnOutput → List Answer
        said cut here o = if cut then [] else (if here then answers o else [])

        v : Option TurnOutput → RunReport
        v o = without_following (delivered_more (turn_appends t u.node u.input (node_at f u.node) o) u.took) u.input

        by : (cut here : Bool) (o : Option TurnOutput) → u.cut ≡ cut → (u.node == node) ≡ here → outcome_at places f u ≡ o → HasNone (report_turned f.command (node_at f u.node) t u (outcome_at places f u))
        by true here o cut_is here_is o_is = absurd (some (ap (λ q. said q (u.node == node) (outcome_at places f u)) cut_is))
        by false false o cut_is here_is o_is = absurd (some (ap (λ q. said q (u.node == node) (outcome_at places f u)) cut_is ∙ ap (λ q. said false q (outcome_at places f u)) here_is))
        by false true None cut_is here_is o_is =
            absurd (some (ap (λ q. said q (u.node == node) (outcome_at places f u)) cut_is ∙ (ap (λ q. said false q (outcome_at places f u)) here_is ∙ ap answers o_is)))
        by false true (Some o) cut_is here_is o_is =
            let ends : HasNone (ends_calls f.command (v (Some o)) u false (Some o))
            = answered_end f.command (v (Some o)) u o (one_before node session f.command (node_at f u.node) t u (Some o) one) (eqb-true u.node node here_is)
            (λ none. some (ap (λ q. said q (u.node == node) (outcome_at places f u)) cut_is ∙ (ap (λ q. said false q (outcome_at places f u)) here_is ∙ (ap answers o_is ∙ ap (map (λ (x : Finished). x.answer)) none)))) in
            subst (λ x. HasNone (report_turned f.command (node_at f u.node) t u x)) (sym o_is) (subst (λ q. HasNone (ends_calls f.command (v (Some o)) u q (Some o))) (sym cut_is) ends)

    -- ---- in a command

    none_stay : (p : Past) (hs : List Happening) → AllByRecursion IsWholeTurn hs → HasNone p.run_report → HasNone (past places asked p hs).run_report
    unfolding past next
    none_stay p [] whole none = none
    none_stay p (happenings.Turn u ∷ hs) whole none =
        none_stay (next places asked p (happenings.Turn u)) hs whole.1 (turn_so IsNoCall (λ c s so. so) p.facts.command (node_at p.facts u.node) p.run_report u (outcome_at places p.facts u) none)
    none_stay p (h ∷ hs) whole none = absurd whole.0

    pub answered_none : (p : Past) (hs : List Happening) → HasOne node session p.run_report → AllByRecursion IsWholeTurn hs → (answers_from places asked p.facts node session hs ≡ [] → ⊥) → HasNone (past places asked p hs).run_report
    unfolding past next
    answered_none p [] one whole some = absurd (some refl)
    answered_none p (happenings.Turn u ∷ hs) one whole some =
        by (answers_in places p.facts node session (happenings.Turn u)) refl
        (λ more. answered_none onward hs (one_turn node session p.facts.command (node_at p.facts u.node) p.run_report u (outcome_at places p.facts u) one) whole.1 more)
      where
        onward : Past
        onward = next places asked p (happenings.Turn u)

        rest : Facts → List Answer
        rest g = answers_from places asked g node session hs

        by : (xs : List Answer) → answers_in places p.facts node session (happenings.Turn u) ≡ xs → ((rest onward.facts ≡ [] → ⊥) → HasNone (past places asked onward hs).run_report) → HasNone (past places asked onward hs).run_report
        by [] is more = more (λ none. some (ap (λ xs. xs ++ rest (facts_after places asked p.facts (happenings.Turn u))) is ∙ (ap rest (sym (facts_next places asked p (happenings.Turn u))) ∙ none)))
        by (a ∷ others) is more = none_stay onward hs whole.1 (answered_turn p.facts p.run_report u one (λ none. absurd cc))
    answered_none p (h ∷ hs) one whole some = absurd whole.0
