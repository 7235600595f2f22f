-- The answer of a call that was waiting stands with the command in whose course the call ended.
use Rattle.std.proofs.Common.{◌≡◌, ℕ, ◌+◌, ◌<◌, ◌≤◌, ◌==◌, Bool, true, false, List, [], ◌∷◌, ◌++◌, slice_get, Option, Some, None, refl, sym, ap, subst, ◌∙◌, arith}
use Rattle.std.proofs.lemmas.Bool.{cond_both, eqb-true}
use Rattle.node_rules.specs.Data.{Place, Refusal}
use Rattle.node_rules.specs.Ids.{decimal}
use Rattle.node_rules.specs.Refusals.{ora, dtx}
use Rattle.node_rules.specs.Words.{one}
use Rattle.node_rules.specs.NodeState.{TurnOutput}
use Rattle.run_rules.specs.Calls.{finished, stopped_calls}
use Rattle.run_rules.specs.Data.{Command, Happening, Said, Turn}
use Rattle.run_rules.specs.Data.happenings
use Rattle.run_rules.specs.Data.notices
use Rattle.run_rules.specs.Data.said
use Rattle.run_rules.specs.Facts.{Facts, command_at, facts_after, outcome_at}
use Rattle.run_rules.specs.Lawful.{History}
use Rattle.run_rules.specs.Lines.{page_lines}
use Rattle.run_rules.specs.Past.{failed_start, start_refused, is_stop_of, ends_calls, report_after}
use Rattle.run_rules.specs.RunReport.{Past, RunReport, node_name}
use Rattle.run_rules.specs.Scripts.{IsTheRunOf}
use Rattle.run_claims.specs.Places.{command_pends, past_upto}
use Rattle.answer_origin_laws.proofs.CallTurnLemmas.{all_so}
use Rattle.answer_origin_laws.proofs.ComeLemmas.{before_end, before_so, due_there}
use Rattle.answer_origin_laws.proofs.UptoLemmas.{none_more}
use Rattle.answer_done_laws.proofs.LineStayLemmas.{finished_grows, stopped_grows, input_follow}
use Rattle.answer_once_laws.specs.OnceLaws.{EndsPendingCall, By_node, Node_is_down, IsAnswer, Ends_pending_call, Is_fine, Is_refused, Is_shown, IsNotice, Point_is_reached, Node_stopped, Messages_are_left, AreNotices, AnswersOnce, At_once, Ends_later, waiting, said_of, EndsInThisCommand, LaterAnswersStandWhereCallsEnd, EveryCommandIsAnsweredOnce}
use Rattle.answer_once_laws.proofs.CallListLemmas.{pends}
use Rattle.answer_once_laws.proofs.OnceBeginLemmas.{said_page, calls_kept}
use Rattle.answer_once_laws.proofs.OnceLemmas.{after_is, begins_so, once_at, each_is_answered_once, all_are_answered_once}
use Rattle.answer_once_laws.proofs.PageLemmas.{EarlierIs, Still_waits, Ended_here, Was_answered}

-- ---- `waiting` and notices are no answer

module _ (places : List Place) where
  no_answer : (command : Command) (s : Said) → IsAnswer places command s → s ≡ waiting → ⊥
  no_answer command s (Ends_pending_call x (By_node a)) is = absurd cc
  no_answer command s (Ends_pending_call x (Node_is_down n)) is = absurd cc
  no_answer command s Is_fine is = absurd cc
  no_answer command s (Is_refused number words other) is = absurd cc
  no_answer command s (Is_shown f shows) is = absurd cc

  refusal_code : (r v : Refusal) → said.World (notices.Refused r) ≡ said.World (notices.Refused v) → r.code ≡ v.code
  refusal_code r v is = let same : r ≡ v = cc in ap (λ (x : Refusal). x.code) same

  no_notice : (s v : Said) → EndsPendingCall places s → IsNotice places v → s ≡ v → ⊥
  no_notice s v (By_node a) (Point_is_reached number) is = absurd cc
  no_notice s v (By_node a) (Node_stopped n) is = absurd cc
  no_notice s v (By_node a) Messages_are_left is = absurd cc
  no_notice s v (Node_is_down n) (Point_is_reached number) is =
      let code : 60001 ≡ 2059 = refusal_code (dtx 1 (one (node_name places n))) (ora 2059 (one (decimal number))) is in absurd (omega (arith, code))
  no_notice s v (Node_is_down n) (Node_stopped m) is = absurd cc
  no_notice s v (Node_is_down n) Messages_are_left is =
      let code : 60001 ≡ 60005 = refusal_code (dtx 1 (one (node_name places n))) (dtx 5 []) is in absurd (omega (arith, code))

  notice_in : (before after : List Said) (a : Said) → AreNotices places (before ++ a ∷ after) → IsNotice places a
  notice_in [] after a all = all.0
  notice_in (x ∷ before) after a all = notice_in before after a all.1

  module _ (command : Command) where
    -- what is told of a call that waits is no answer once
    waits_only : (xs beside : List Said) → AnswersOnce places command false xs → xs ≡ waiting ∷ beside → AreNotices places beside → ⊥
    waits_only xs beside (At_once a more answer told) is notices = no_answer command a answer (let it : a ∷ more ≡ waiting ∷ beside = is in cc)
    waits_only xs beside (Ends_later before a after first ends last) is notices =
        let it : before ++ a ∷ after ≡ beside = cc in
        no_notice a a ends (notice_in before after a (subst (AreNotices places) (sym it) notices)) refl

    waits_so : (r : ℕ) (asked : List Command) (b : Bool) (xs ys : List Said) → EarlierIs places asked r command b xs ys → b ≡ true → (beside : List Said) × AreNotices places beside × (xs ≡ waiting ∷ beside)
    waits_so r asked b xs ys (Still_waits beside notices) is = (beside, notices, refl)
    waits_so r asked b xs ys (Ended_here beside a after told ends then_told) is = absurd cc
    waits_so r asked b xs ys (Was_answered zs once) is = absurd cc

    -- The answer, and notices after it.
    pub record Answered (ys : List Said) : Type 0 where
      pub answer : Said
      pub ends : EndsPendingCall places answer
      pub after : List Said
      pub notices : AreNotices places after
      pub says : ys ≡ answer ∷ after

    ended_so : (r : ℕ) (asked : List Command) (b : Bool) (xs ys : List Said) → EarlierIs places asked r command b xs ys → b ≡ false → (beside : List Said) → AreNotices places beside → xs ≡ waiting ∷ beside → Answered ys
    ended_so r asked b xs ys (Still_waits beside told) is others notices same = absurd cc
    ended_so r asked b xs ys (Ended_here beside a after told ends after_told) is others notices same = record { answer = a; ends = ends; after = after; notices = after_told; says = refl }
    ended_so r asked b xs ys (Was_answered zs once) is others notices same = absurd (waits_only zs others once same notices)

-- ---- the lines of the commands before stay

-- it is no begin of a command
abbrev IsNoBegin : Happening → Type 0
IsNoBegin (happenings.Begun c) = ⊥
IsNoBegin _ = Unit {0}

module _ (t : History) (run : IsTheRunOf t) (i : ℕ) where
  abbrev p : Past
  p = past_upto t i

  abbrev f : Facts
  f = p.facts

  abbrev told : RunReport
  told = p.run_report

  turn_lines : (u : Turn) (there : slice_get t.trace i ≡ Some (happenings.Turn u)) (b : Bool) (o : Option TurnOutput) → (ends_calls f.command (before_end t run i (all_so t run i) u there o) u b o).lines ≡ told.lines
  turn_lines u there true o = (before_so t run i (all_so t run i) u there o).lines
  turn_lines u there false None = (before_so t run i (all_so t run i) u there None).lines
  turn_lines u there false (Some x) =
      let v : RunReport = before_end t run i (all_so t run i) u there (Some x) in
      let w : RunReport = finished f.command v u.node x.ended in
      (input_follow f.command w u.node u.input).lines ∙ ((finished_grows f.command u.node v x.ended).lines ∙ (before_so t run i (all_so t run i) u there (Some x)).lines)

  stop_lines : (n : ℕ) → (report_after t.places t.commands f told (happenings.Stopped n)).lines ≡ told.lines
  stop_lines n =
      let command : Command = command_at t.commands f.command in
      let refused : RunReport = start_refused t.places f told command n in
      let falls : RunReport = record refused { start_to_stop = None } in
      let left : RunReport = stopped_calls t.places f.command falls n told.calls in
      cond_both (is_stop_of command n) left _ (λ (q : RunReport). q.lines ≡ left.lines) (λ own. refl) (λ other. refl)
      ∙ ((stopped_grows f.command t.places n falls told.calls).lines ∙ cond_both (failed_start f command n) _ told (λ (q : RunReport). q.lines ≡ told.lines) (λ failed. refl) (λ other. refl))

  lines_stay : (h : Happening) → slice_get t.trace i ≡ Some h → IsNoBegin h → (report_after t.places t.commands f told h).lines ≡ told.lines
  lines_stay (happenings.Turn u) there calm = turn_lines u there u.cut (outcome_at t.places f u)
  lines_stay (happenings.Stopped n) there calm = stop_lines n
  lines_stay (happenings.Started n boot) there calm = refl
  lines_stay (happenings.Cut a b) there calm = refl
  lines_stay (happenings.Join a b) there calm = refl
  lines_stay (happenings.Lost k) there calm = refl
  lines_stay (happenings.Begun c) there calm = absurd calm

  runs_on : (h : Happening) → IsNoBegin h → (facts_after t.places t.commands f h).command ≡ f.command
  unfolding facts_after
  runs_on (happenings.Turn u) calm = refl
  runs_on (happenings.Stopped n) calm = refl
  runs_on (happenings.Started n boot) calm = refl
  runs_on (happenings.Cut a b) calm = refl
  runs_on (happenings.Join a b) calm = refl
  runs_on (happenings.Lost k) calm = refl
  runs_on (happenings.Begun c) calm = absurd calm

  -- ---- a call that ends

  module _ (c : ℕ) (first : 1 ≤ c) (less : c < f.command) (pending : command_pends t i c ≡ true) (over : command_pends t (i + 1) c ≡ false) where
    abbrev q : Past
    q = past_upto t (i + 1)

    ends_here : (h : Happening) → slice_get t.trace i ≡ Some h → IsNoBegin h → EndsInThisCommand t i c
    ends_here h there calm =
        let is = after_is t run i (once_at t run i) h there in
        let lines : q.run_report.lines ≡ told.lines = ap (λ (x : Past). x.run_report.lines) is ∙ lines_stay h there calm in
        let runs : q.facts.command ≡ f.command = ap (λ (x : Past). x.facts.command) is ∙ runs_on h calm in
        let before = waits_so t.places (command_at t.commands c) f.command t.commands (pends c told.calls) (said_of c told.lines) (said_of c told.page.others) ((once_at t run i).pages.each c first less) pending in
        let less_now : c < q.facts.command = subst (λ n. c < n) (sym runs) less in
        let pages = (once_at t run (i + 1)).pages in
        let now = ended_so t.places (command_at t.commands c) q.facts.command t.commands (pends c q.run_report.calls) (said_of c q.run_report.lines) (said_of c q.run_report.page.others) (pages.each c first less_now) over before.0 before.1 (ap (said_of c) lines ∙ before.2) in
        record {
          beside = before.0;
          notices = before.1;
          before = before.2;
          here = page_lines q.facts q.run_report;
          page = ap (λ ls. ls ++ page_lines q.facts q.run_report) lines;
          answer = now.answer;
          ends = now.ends;
          after = now.after;
          after_notices = now.notices;
          says = said_page t.places t.commands q.facts.command q.facts refl q.run_report pages c less_now ∙ now.says;
        }

    -- no command begins then
    no_begin : (b : ℕ) → slice_get t.trace i ≡ Some (happenings.Begun b) → ⊥
    no_begin b there =
        let next = (due_there t run i (all_so t run i) (happenings.Begun b) there).2 in
        let other : (c == b) ≡ false = by (c == b) refl next less in
        let kept : pends c q.run_report.calls ≡ pends c told.calls = ap (λ (x : Past). pends c x.run_report.calls) (after_is t run i (once_at t run i) (happenings.Begun b) there) ∙ calls_kept t p (once_at t run i) (begins_so t run i (once_at t run i) b there) b next c other in
        let yes : pends c q.run_report.calls ≡ true = kept ∙ pending in
        cc (yes, over)
      where
        by : (w : Bool) → (c == b) ≡ w → b ≡ f.command + 1 → c < f.command → w ≡ false
        by false is at low = refl
        by true is at low = let same : c ≡ b = eqb-true c b is in absurd (omega (arith, same, at, low))

    ends_by : (o : Option Happening) → slice_get t.trace i ≡ o → EndsInThisCommand t i c
    ends_by None none = absurd (let same : command_pends t (i + 1) c ≡ command_pends t i c = ap (λ (x : Past). pends c x.run_report.calls) (none_more t i none) in cc (same, pending, over))
    ends_by (Some (happenings.Begun b)) there = absurd (no_begin b there)
    ends_by (Some (happenings.Turn u)) there = ends_here (happenings.Turn u) there tt
    ends_by (Some (happenings.Stopped n)) there = ends_here (happenings.Stopped n) there tt
    ends_by (Some (happenings.Started n boot)) there = ends_here (happenings.Started n boot) there tt
    ends_by (Some (happenings.Cut a b)) there = ends_here (happenings.Cut a b) there tt
    ends_by (Some (happenings.Join a b)) there = ends_here (happenings.Join a b) there tt
    ends_by (Some (happenings.Lost k)) there = ends_here (happenings.Lost k) there tt

pub later_answers_stand : (t : History) → IsTheRunOf t → LaterAnswersStandWhereCallsEnd t
later_answers_stand t run i c first less pending over = ends_by t run i c first less pending over (slice_get t.trace i) refl

pub every_command_is_answered_once : EveryCommandIsAnsweredOnce
every_command_is_answered_once t run = (each_is_answered_once t run, all_are_answered_once t run, later_answers_stand t run)
