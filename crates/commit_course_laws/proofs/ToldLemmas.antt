-- Where the call of a COMMIT has been answered in its command, the report has its line to the end of the run.
use Rattle.std.proofs.Common.{◌≡◌, ℕ, ◌+◌, ◌==◌, ◌&&◌, Bool, true, false, if◌then◌else◌, List, [], ◌∷◌, ◌++◌, map, filter, find, length, slice_get, Option, Some, None, refl, sym, ap, subst, ◌∙◌}
use Rattle.std.specs.Prelude.{take}
use Rattle.std.specs.List.{AllByRecursion}
use Rattle.std.proofs.lemmas.Bool.{eqb-true, eq-eqb}
use Rattle.std.proofs.lemmas.List.{append_assoc}
use Rattle.node_rules.specs.Data.{Answer, Stmt}
use Rattle.node_rules.specs.Data.stmts
use Rattle.node_rules.specs.Sessions.{commit_complete}
use Rattle.node_rules.specs.declared.session.Finished.{Finished}
use Rattle.node_rules.specs.NodeState.{TurnOutput}
use Rattle.run_rules.specs.Calls.{is_call_at, call_at, finished_call, finished}
use Rattle.run_rules.specs.Cuts.{turn_appends}
use Rattle.run_rules.specs.Data.{Happening, Turn}
use Rattle.run_rules.specs.Data.commands
use Rattle.run_rules.specs.Data.happenings
use Rattle.run_rules.specs.Data.said
use Rattle.run_rules.specs.Facts.{Facts, command_at, node_at, outcome_at, facts_after}
use Rattle.run_rules.specs.Scripts.{IsTheRunOf}
use Rattle.run_rules.specs.Lawful.{History}
use Rattle.run_rules.specs.Lines.{line}
use Rattle.run_rules.specs.Past.{delivered_more, without_following, ends_calls, next, past}
use Rattle.run_claims.specs.Places.{past_upto, reported_of}
use Rattle.run_rules.specs.RunReport.{Call, Past, RunReport, start}
use Rattle.run_rules.specs.Trail.{ended_by}
use Rattle.run_rules.proofs.FactLemmas.{facts_next}
use Rattle.run_base_laws.proofs.PastLemmas.{past_on}
use Rattle.run_ready_laws.proofs.PendingLemmas.{found_so, at_parts}
use Rattle.answer_origin_laws.proofs.CallTurnLemmas.{what_comes_is_pending}
use Rattle.answer_origin_laws.proofs.ComeLemmas.{input_same}
use Rattle.answer_done_laws.proofs.LineRunLemmas.{answer_told, told_at_last}
use Rattle.run_claims.specs.Undisturbed.{answers_from}
use Rattle.run_claims.specs.CommitCourse.{past_by, AnsweredCommitsAreReported}
use Rattle.answer_origin_laws.proofs.WayLemmas.{turn_before}
use Rattle.commit_course_laws.proofs.FlowLemmas.{IsWholeTurn, IsItsCall, HasOne, one_ends, one_before, one_turn}
use Rattle.commit_course_laws.proofs.CourseLemmas.{slice_mid, take_first, p, parts, upto, there, own, its, facts_before, plain, one_call, its_course}

-- nothing is put together of nothing alone
none_first : {A : Type 0} (xs ys : List A) → xs ++ ys ≡ [] → xs ≡ []
none_first [] ys is = refl
none_first (x ∷ xs) ys is = absurd cc

-- ---- a turn that does not answer the call

module _ (node session : ℕ) where
  none_elsewhere : (m s : ℕ) → ((m == node) && (s == session)) ≡ false → (cs : List Call) → AllByRecursion (IsItsCall node session) cs → find (is_call_at m s) cs ≡ None
  none_elsewhere m s other [] all = refl
  none_elsewhere m s other (c ∷ cs) all = by (is_call_at m s c) refl (none_elsewhere m s other cs all.1)
    where
      by : (q : Bool) → is_call_at m s c ≡ q → find (is_call_at m s) cs ≡ None → (if q then Some c else find (is_call_at m s) cs) ≡ None
      by true here rest =
          let one = at_parts m s c here in
          let two = at_parts node session c all.0.0 in
          let both : ((m == node) && (s == session)) ≡ true = ap (λ q. q && (s == session)) (eq-eqb m node (sym one.0 ∙ two.0)) ∙ eq-eqb s session (sym one.1 ∙ two.1) in
          absurd (cc (both, other))
      by false here rest = rest

  module _ (running m : ℕ) where
    left_call : (t : RunReport) (f : Finished) → HasOne node session t → ((m == node) && (f.session == session)) ≡ false → (finished_call running t f (call_at t m f.session)).calls ≡ t.calls
    left_call t f one other = ap (λ o. (finished_call running t f o).calls) (none_elsewhere m f.session other t.calls one.calls)

    -- none of these is the call's end
    abbrev IsOfOthers : List Finished → Type 0
    IsOfOthers fs = AllByRecursion (λ (f : Finished). ((m == node) && (f.session == session)) ≡ false) fs

    left_calls : (t : RunReport) (fs : List Finished) → HasOne node session t → IsOfOthers fs → (finished running t m fs).calls ≡ t.calls
    left_calls t [] one others = refl
    left_calls t (f ∷ fs) one others =
        left_calls (finished_call running t f (call_at t m f.session)) fs (one_ends node session running m t f one) others.1 ∙ left_call t f one others.0

    elsewhere_others : (m == node) ≡ false → (fs : List Finished) → IsOfOthers fs
    elsewhere_others other [] = tt
    elsewhere_others other (f ∷ fs) = (ap (λ q. q && (f.session == session)) other, elsewhere_others other fs)

    none_others : (m == node) ≡ true → (fs : List Finished) → map (λ (x : Finished). x.answer) (filter (λ (x : Finished). x.session == session) fs) ≡ [] → IsOfOthers fs
    none_others here [] none = tt
    none_others here (f ∷ fs) none = by (f.session == session) refl none (none_others here fs)
      where
        answers : List Finished → List Answer
        answers xs = map (λ (x : Finished). x.answer) xs

        rest : List Finished
        rest = filter (λ (x : Finished). x.session == session) fs

        by : (q : Bool) → (f.session == session) ≡ q → answers (if q then f ∷ rest else rest) ≡ [] → (answers rest ≡ [] → IsOfOthers fs) → (((m == node) && (f.session == session)) ≡ false) × IsOfOthers fs
        by true its some more = absurd cc
        by false its some more = (ap (λ q. (m == node) && q) its ∙ ap (λ q. q && false) here, more some)

  -- ---- what a turn answers

  -- The call is not answered, or it is, by what the turn comes to.
  data Says (f : Facts) (u : Turn) (o : Option TurnOutput) (answers : List Answer) : Type 0 where
    Nothing_said : answers ≡ [] → ((running : ℕ) (t : RunReport) → HasOne node session t → (ends_calls running t u false o).calls ≡ t.calls) → Says f u o answers
    Answers_it : (x : TurnOutput) (a : Answer) (others : List Answer) → o ≡ Some x → u.node ≡ node → map (λ (y : Finished). y.answer) (filter (λ (y : Finished). y.session == session) x.ended) ≡ a ∷ others → answers ≡ a ∷ others → Says f u o answers

  ends_left : (running : ℕ) (t : RunReport) (u : Turn) (o : TurnOutput) → HasOne node session t → IsOfOthers running u.node o.ended → (ends_calls running t u false (Some o)).calls ≡ t.calls
  ends_left running t u o one others = (input_same (finished running t u.node o.ended) running u.node u.input).0 ∙ left_calls running u.node t o.ended one others

  -- what it is answered
  abbrev answers_of : Option TurnOutput → List Answer
  answers_of o = map (λ (x : Finished). x.answer) (filter (λ (x : Finished). x.session == session) (ended_by o))

  says_so : (f : Facts) (u : Turn) (o : Option TurnOutput) → Says f u o (if u.node == node then answers_of o else [])
  says_so f u o = by (u.node == node) refl o
    where
      by : (here : Bool) → (u.node == node) ≡ here → (x : Option TurnOutput) → Says f u x (if here then answers_of x else [])
      by false other None = Nothing_said refl (λ running t one. refl)
      by false other (Some x) = Nothing_said refl (λ running t one. ends_left running t u x one (elsewhere_others running u.node other x.ended))
      by true here None = Nothing_said refl (λ running t one. refl)
      by true here (Some x) = some (answers_of (Some x)) refl
        where
          some : (xs : List Answer) → answers_of (Some x) ≡ xs → Says f u (Some x) (answers_of (Some x))
          some [] none = Nothing_said none (λ running t one. ends_left running t u x one (none_others running u.node here x.ended none))
          some (a ∷ others) is = Answers_it x a others refl (eqb-true u.node node here) is is

-- ---- the turn that answers it

module _ (t : History) (run : IsTheRunOf t) (command node session : ℕ) (text : Option Stmt) (named : command_at t.commands command ≡ commands.At node session text) (later : List Happening) where
  -- the line of the command is told
  abbrev pub IsReported : Type 0
  IsReported = (j : ℕ) × (slice_get (reported_of t) j ≡ Some (line command (said.Node commit_complete)))

  -- the call is pending, alone
  record Waits (q : Past) (x : Call) : Type 0 where
    one : HasOne node session q.run_report
    at : call_at q.run_report node session ≡ Some x
    mine : x.command ≡ command

  module _ (pre : List Happening) (u : Turn) (hs : List Happening) (is : pre ++ happenings.Turn u ∷ (hs ++ later) ≡ t.trace) (uncut : u.cut ≡ false) (x : Call) (now : Waits (past_by t.places t.commands pre) x) where
    abbrev q : Past
    q = past_by t.places t.commands pre

    abbrev i : ℕ
    i = length pre

    abbrev onward : Past
    onward = next t.places t.commands q (happenings.Turn u)

    abbrev o : Option TurnOutput
    o = outcome_at t.places q.facts u

    q_is : past_upto t i ≡ q
    q_is = ap (past t.places t.commands (start t.places)) (ap (take i) (sym is) ∙ take_first pre (happenings.Turn u ∷ (hs ++ later)))

    here : slice_get t.trace i ≡ Some (happenings.Turn u)
    here = ap (λ ys. slice_get ys i) (sym is) ∙ slice_mid pre (happenings.Turn u) (hs ++ later)

    last : x.follows ≡ None
    last = (found_so (IsItsCall node session) (is_call_at node session) q.run_report.calls x now.one.calls now.at).0.1

    tells_now : (y : TurnOutput) → o ≡ Some y → u.node ≡ node → (map (λ (z : Finished). z.answer) (filter (λ (z : Finished). z.session == session) y.ended) ≡ commit_complete ∷ []) → IsReported
    tells_now y comes at_node says =
        let moment : outcome_at t.places (past_upto t i).facts u ≡ Some y = ap (λ (r : Past). outcome_at t.places r.facts u) q_is ∙ comes in
        let pending : call_at (past_upto t i).run_report u.node session ≡ Some x = subst (λ n. call_at (past_upto t i).run_report n session ≡ Some x) (sym at_node) (ap (λ (r : Past). call_at r.run_report node session) q_is ∙ now.at) in
        told_at_last t run command node session text named (said.Node commit_complete) (i + 1)
        (answer_told t run command node session text named (said.Node commit_complete) i u here uncut y moment at_node x pending now.mine last commit_complete refl says).0

    abbrev before_end : RunReport
    before_end = without_following (delivered_more (turn_appends q.run_report u.node u.input (node_at q.facts u.node) o) u.took) u.input

    calls_before : before_end.calls ≡ q.run_report.calls
    calls_before = (turn_before q.run_report u.node u.input (node_at q.facts u.node) o u.took).calls

    waits_on : ((running : ℕ) (v : RunReport) → HasOne node session v → (ends_calls running v u false o).calls ≡ v.calls) → Waits onward x
    unfolding next
    waits_on left =
        let one : HasOne node session before_end = one_before node session q.facts.command (node_at q.facts u.node) q.run_report u o now.one in
        let same : (ends_calls q.facts.command before_end u u.cut o).calls ≡ q.run_report.calls = ap (λ c. (ends_calls q.facts.command before_end u c o).calls) uncut ∙ (left q.facts.command before_end one ∙ calls_before) in record {
          one = one_turn node session q.facts.command (node_at q.facts u.node) q.run_report u o now.one;
          at = ap (find (is_call_at node session)) same ∙ now.at;
          mine = now.mine;
        }

    onward_is : past_by t.places t.commands (pre ++ happenings.Turn u ∷ []) ≡ onward
    unfolding past
    onward_is = past_on t.places t.commands (start t.places) pre (happenings.Turn u ∷ [])

    abbrev rest : Facts → List Answer
    rest g = answers_from t.places t.commands g node session hs

    one_step : answers_from t.places t.commands q.facts node session (happenings.Turn u ∷ hs) ≡ commit_complete ∷ []
        → ((Waits (past_by t.places t.commands (pre ++ happenings.Turn u ∷ [])) x) → rest (past_by t.places t.commands (pre ++ happenings.Turn u ∷ [])).facts ≡ commit_complete ∷ [] → IsReported) → IsReported
    one_step answers more = by (if u.node == node then answers_of node session o else []) refl (says_so node session q.facts u o)
      where
        its_answers : (if u.node == node then answers_of node session o else []) ++ rest (facts_after t.places t.commands q.facts (happenings.Turn u)) ≡ commit_complete ∷ []
        its_answers = ap (λ c. (if c then [] else (if u.node == node then answers_of node session o else [])) ++ rest (facts_after t.places t.commands q.facts (happenings.Turn u))) (sym uncut) ∙ answers

        next_facts : rest (past_by t.places t.commands (pre ++ happenings.Turn u ∷ [])).facts ≡ rest (facts_after t.places t.commands q.facts (happenings.Turn u))
        next_facts = ap (λ (r : Past). rest r.facts) onward_is ∙ ap rest (facts_next t.places t.commands q (happenings.Turn u))

        by : (xs : List Answer) → (if u.node == node then answers_of node session o else []) ≡ xs → Says node session q.facts u o xs → IsReported
        by xs at (Nothing_said none left) =
            more (subst (λ r. Waits r x) (sym onward_is) (waits_on left)) (next_facts ∙ (ap (λ ys. ys ++ rest (facts_after t.places t.commands q.facts (happenings.Turn u))) (sym (at ∙ none)) ∙ its_answers))
        by xs at (Answers_it y a others comes at_node says is_them) =
            let all : (a ∷ others) ++ rest (facts_after t.places t.commands q.facts (happenings.Turn u)) ≡ commit_complete ∷ []
            = ap (λ ys. ys ++ rest (facts_after t.places t.commands q.facts (happenings.Turn u))) (sym (at ∙ is_them)) ∙ its_answers in
            let head : a ≡ commit_complete = cc in
            let tail : others ++ rest (facts_after t.places t.commands q.facts (happenings.Turn u)) ≡ [] = cc in
            tells_now y comes at_node (says ∙ (ap (λ b. b ∷ others) head ∙ ap (λ ys. commit_complete ∷ ys) (none_first others (rest (facts_after t.places t.commands q.facts (happenings.Turn u))) tail)))

  tells : (pre hs : List Happening) → pre ++ (hs ++ later) ≡ t.trace → AllByRecursion IsWholeTurn hs → (x : Call) → Waits (past_by t.places t.commands pre) x
      → answers_from t.places t.commands (past_by t.places t.commands pre).facts node session hs ≡ commit_complete ∷ [] → IsReported
  tells pre [] is whole x now answers = absurd cc
  tells pre (happenings.Turn u ∷ hs) is whole x now answers =
      one_step pre u hs is whole.0 x now answers (λ waits more. tells (pre ++ happenings.Turn u ∷ []) hs (append_assoc pre (happenings.Turn u ∷ []) (hs ++ later) ∙ is) whole.1 x waits more)
  tells pre (h ∷ hs) is whole x now answers = absurd whole.0

-- ---- the law

pub answered_commits_are_reported : AnsweredCommitsAreReported
answered_commits_are_reported t run front later c goes answered =
    let g = plain t run front later c goes in
    let before : Past = p t run front later c g in
    let i : ℕ = length c.before in
    let pending = what_comes_is_pending t run i c.call (there t run front later c g) c.session (Some (stmts.Commit c.comment)) c.asks in
    let at : call_at before.run_report c.call.node c.session ≡ Some pending.0 = ap (λ (r : Past). call_at r.run_report c.call.node c.session) (sym (upto t run front later c g)) ∙ pending.1.pending in
    let mine : pending.0.command ≡ before.facts.command = (found_so (λ (x : Call). x.command ≡ before.facts.command) (is_call_at c.call.node c.session) before.run_report.calls pending.0 (its t run front later c g) at).0 in
    let told = tells t run before.facts.command c.call.node c.session (Some (stmts.Commit c.comment)) (own t run front later c goes) later c.before (happenings.Turn c.call ∷ c.during) (parts t run front later c g)
    (goes.whole, (its_course t run front later c goes).whole) pending.0 (record { one = one_call t run front later c goes; at = at; mine = mine })
    (ap (λ f. answers_from t.places t.commands f c.call.node c.session (happenings.Turn c.call ∷ c.during)) (facts_before t run front later c g) ∙ answered) in
    subst (λ (f : Facts). (j : ℕ) × (slice_get (reported_of t) j ≡ Some (line f.command (said.Node commit_complete)))) (facts_before t run front later c g) told
