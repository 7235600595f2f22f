-- A statement that writes one record is answered in the turn that it comes to, and its line stays.
use Rattle.std.proofs.Common.{◌≡◌, ℕ, zero, suc, ◌+◌, ◌<◌, ◌≤◌, ◌==◌, ◌⊎◌, Bool, true, false, if◌then◌else◌, List, [], ◌∷◌, map, filter, find, slice_get, Option, Some, None, inl, inr, refl, sym, ap, subst, ◌∙◌, arith}
use Rattle.std.specs.Prelude.{take}
use Rattle.std.specs.List.{list_any}
use Rattle.std.proofs.lemmas.Bool.{eq-eqb}
use Rattle.node_rules.specs.Data.{Answer, Done, Place, RedoRecord, Refusal, Stmt}
use Rattle.node_rules.specs.Data.answers
use Rattle.node_rules.specs.Data.inputs
use Rattle.node_rules.specs.declared.session.Finished.{Finished}
use Rattle.node_rules.specs.Inputs.{IsCall}
use Rattle.node_rules.specs.NodeState.{NodeState, TurnOutput}
use Rattle.run_rules.specs.Calls.{is_call_at, call_at}
use Rattle.run_rules.specs.Data.{Command, Happening, Turn}
use Rattle.run_rules.specs.Data.commands
use Rattle.run_rules.specs.Data.happenings
use Rattle.run_rules.specs.Each.{facts_upto}
use Rattle.run_rules.specs.Facts.{Facts, command_at, node_at, outcome_at, place_at, first_facts, facts_after, facts_of, served, taken}
use Rattle.run_rules.specs.Scripts.{IsTheRunOf}
use Rattle.run_rules.specs.Lawful.{History, IsLawfulRun, IsOwed, MayBeLost, MayHappen, MayStop}
use Rattle.run_base_laws.specs.NodeLaws.{EachFactFrom, AtEachFact}
use Rattle.run_rules.specs.Data.said
use Rattle.run_rules.specs.Lines.{is_down, line}
use Rattle.run_rules.specs.Past.{ends_calls, next}
use Rattle.run_claims.specs.Places.{past_upto, node_line, reported_of}
use Rattle.run_rules.specs.Runs.{is_accepted}
use Rattle.run_rules.specs.RunReport.{Call, Past, RunReport}
use Rattle.net_bag.specs.Net.{lost_at_once}
use Rattle.run_rules.proofs.AtNodeLemmas.{stop_here}
use Rattle.run_ready_laws.proofs.PendingLemmas.{called_at, there_called}
use Rattle.run_ready_laws.proofs.RunLawfulLemmas.{the_run_is_lawful}
use Rattle.answer_origin_laws.specs.CallTurns.{CameBefore}
use Rattle.answer_origin_laws.proofs.CallTurnLemmas.{all_so}
use Rattle.answer_origin_laws.proofs.ComeLemmas.{below_or, before_end, before_so}
use Rattle.answer_origin_laws.proofs.UptoLemmas.{one_more, facts_there, stand_at, may_at}
use Rattle.answer_done_laws.specs.DoneLaws.{ended_by, ended_in, answers_to, is_done, Stands, AnswersAtOnce}
use Rattle.run_claims.specs.Recorded.{is_recorded, Records, A_table, A_link, A_synonym, A_setting, A_strength, A_commit_at, A_commit, A_rollback, A_mixed_row, A_lost_row}
use Rattle.answer_done_laws.proofs.DoneLemmas.{each_is_answered}
use Rattle.answer_done_laws.proofs.LineRunLemmas.{answer_told, stop_told, told_at_last}
use Rattle.answer_done_laws.proofs.LineStayLemmas.{Has}

-- ---- lists

there_before : {A : Type 0} (xs : List A) (i j : ℕ) (x : A) → i ≤ j → slice_get xs j ≡ Some x → (y : A) × (slice_get xs i ≡ Some y)
there_before [] i j x low at = absurd cc
there_before (z ∷ xs) zero j x low at = (z, refl)
there_before (z ∷ xs) (suc i) zero x low at = absurd (omega (arith, low))
there_before (z ∷ xs) (suc i) (suc j) x low at = there_before xs i j x (omega (arith, low)) at

-- the answer to a session is one of its answers
pub answer_among : (fs : List Finished) (i n : ℕ) (a : Answer) → slice_get fs i ≡ Some (record { session = n; answer = a }) → Has (answers_to n fs) a
answer_among [] i n a at = absurd cc
answer_among (f ∷ fs) zero n a at =
    let it : Some f ≡ Some (record { session = n; answer = a }) = at in
    let same : f ≡ record { session = n; answer = a } = cc in
    let mine : (f.session == n) ≡ true = eq-eqb f.session n (ap (λ (x : Finished). x.session) same) in
    subst (λ q. Has (map (λ x. x.answer) (if q then f ∷ filter (λ x. x.session == n) fs else filter (λ x. x.session == n) fs)) a) (sym mine) (inl (ap (λ (x : Finished). x.answer) same))
answer_among (f ∷ fs) (suc i) n a at = by (f.session == n) (answer_among fs i n a at)
  where
    by : (q : Bool) → Has (answers_to n fs) a → Has (map (λ x. x.answer) (if q then f ∷ filter (λ x. x.session == n) fs else filter (λ x. x.session == n) fs)) a
    by true has = inr has
    by false has = has

-- where a session has one answer, each of its answers is that one
pub one_answer : (xs : List Answer) (x a : Answer) → xs ≡ x ∷ [] → Has xs a → x ≡ a
one_answer xs x a is has = by (subst (λ ys. Has ys a) is has)
  where
    by : (x ≡ a) ⊎ ⊥ → x ≡ a
    by (inl same) = same
    by (inr none) = absurd none

-- a call whose one answer is that its statement was done is done
pub one_done : (fs : List Finished) (n : ℕ) (d : Done) → answers_to n fs ≡ answers.Did d 0 ∷ [] → is_done n fs ≡ true
one_done fs n d is = ap (list_any (λ a. is_accepted (Some a))) is

-- a statement with a record of its own
pub recorded : {p : Place} {k : NodeState} {s : Stmt} {r : RedoRecord} {d : Done} → Records p k s r d → is_recorded s ≡ true
recorded (A_table t) = refl
recorded (A_link l) = refl
recorded (A_synonym y) = refl
recorded (A_setting on) = refl
recorded (A_strength strength) = refl
recorded (A_commit_at id scn b named) = refl
recorded (A_commit id b named) = refl
recorded (A_rollback id b named) = refl
recorded (A_mixed_row id s found) = refl
recorded (A_lost_row id s found) = refl

-- ---- laws of happenings, at one of them

module _ (So : Facts → Happening → Type 0) (places : List Place) (asked : List Command) where
  each_at : (f : Facts) (hs : List Happening) (i : ℕ) (h : Happening) → EachFactFrom So places asked f hs → slice_get hs i ≡ Some h → So (facts_of places asked f (take i hs)) h
  unfolding facts_of
  each_at f [] i h each at = absurd cc
  each_at f (x ∷ hs) zero h each at = let it : Some x ≡ Some h = at in let same : x ≡ h = cc in subst (So f) same each.0
  each_at f (x ∷ hs) (suc i) h each at = each_at (facts_after places asked f x) hs i h each.1 at

pub fact_at : (t : History) (So : List Place → Facts → Happening → Type 0) → AtEachFact So t → (i : ℕ) (h : Happening) → slice_get t.trace i ≡ Some h → So t.places (facts_upto t i) h
fact_at t So each i h at = each_at (So t.places) t.places t.commands (first_facts t.places) t.trace i h each at

module _ (t : History) (run : IsTheRunOf t) where
  pub lawful : IsLawfulRun t
  lawful = the_run_is_lawful t run

  -- ---- a turn

  module _ (i : ℕ) (u : Turn) (there : slice_get t.trace i ≡ Some (happenings.Turn u)) where
    pub up_there : (k : NodeState) × (node_at (facts_upto t i) u.node ≡ Some k)
    up_there = let may = may_at t run i (happenings.Turn u) there in (may.0, subst (λ (f : Facts). node_at f u.node ≡ Some may.0) (facts_there t i) may.1.up)

    -- what a whole turn ends
    pub ended_is : (o : TurnOutput) → u.cut ≡ false → outcome_at t.places (facts_upto t i) u ≡ Some o → ended_in t.places (facts_upto t i) u ≡ o.ended
    ended_is o uncut comes = ap (λ q. if q then [] else ended_by (outcome_at t.places (facts_upto t i) u)) uncut ∙ ap ended_by comes

    outcome_there : (o : TurnOutput) × (outcome_at t.places (facts_upto t i) u ≡ Some o)
    outcome_there = let k = up_there in (_, ap (served (place_at t.places u.node) u.input) k.1)

    -- ---- a turn that is cut

    cut_facts : u.cut ≡ true → ((past_upto t (i + 1)).facts.node_to_stop ≡ Some u.node) × ((past_upto t (i + 1)).facts.losses_to_report ≡ [])
    unfolding next
    cut_facts cut =
        let may = may_at t run i (happenings.Turn u) there in
        let owed : IsOwed (place_at t.places u.node) may.0 u.input u.wrote u.sent true = subst (IsOwed (place_at t.places u.node) may.0 u.input u.wrote u.sent) cut may.1.owed in
        subst (λ (q : Past). (q.facts.node_to_stop ≡ Some u.node) × (q.facts.losses_to_report ≡ [])) (sym (one_more t i (happenings.Turn u) there))
        (ap (λ q. if q then Some u.node else None) cut, ap (lost_at_once (taken (past_upto t i).facts.net u.took)) owed.1)

    stops_next : u.cut ≡ true → (h : Happening) → MayHappen t.places t.commands (past_upto t (i + 1)).facts h → h ≡ happenings.Stopped u.node
    stops_next cut (happenings.Begun c) may = let none = may.0.upright in let stop = (cut_facts cut).0 in absurd (cc (none, stop))
    stops_next cut (happenings.Turn v) may = let none = may.1.settled.upright in let stop = (cut_facts cut).0 in absurd (cc (none, stop))
    stops_next cut (happenings.Cut a b) may = let none = may.0.upright in let stop = (cut_facts cut).0 in absurd (cc (none, stop))
    stops_next cut (happenings.Join a b) may = let none = may.0.upright in let stop = (cut_facts cut).0 in absurd (cc (none, stop))
    stops_next cut (happenings.Lost k) may =
        let is = cut_facts cut in
        let lost : MayBeLost (past_upto t (i + 1)).facts k [] = subst (MayBeLost (past_upto t (i + 1)).facts k) is.1 may in
        let none = lost.0 in
        let stop = is.0 in
        absurd (cc (none, stop))
    stops_next cut (happenings.Stopped n) may = let it : MayStop (past_upto t (i + 1)).facts n (Some u.node) = subst (MayStop (past_upto t (i + 1)).facts n) (cut_facts cut).0 may.1 in ap happenings.Stopped (sym it.1)
    stops_next cut (happenings.Started n boot) may = let none = may.settled.upright in let stop = (cut_facts cut).0 in absurd (cc (none, stop))

    -- no call of the node is pending once it has stopped
    stopped_none : slice_get t.trace (i + 1) ≡ Some (happenings.Stopped u.node) → (s : ℕ) → called_at (past_upto t (i + 1 + 1)).run_report.calls u.node s ≡ false
    unfolding next facts_after
    stopped_none after s =
        let may = may_at t run (i + 1) (happenings.Stopped u.node) after in
        let stands = stand_at t run (i + 1) in
        let is = one_more t (i + 1) (happenings.Stopped u.node) after in
        (stand_at t run (i + 1 + 1)).so.calls.down u.node
        (subst (λ (q : Past). node_at q.facts u.node ≡ None) (sym is) (stop_here t.places t.commands (past_upto t (i + 1)).facts stands.born.0.0.even u.node may.0.0 (let many = stands.so.many in omega (arith, may.0.1, many))).0)
        (subst (λ (q : Past). q.facts.node_to_stop ≡ Some u.node → ⊥) (sym is) (λ stop. none_stops stop)) s
      where
        none_stops : None ≡ Some u.node → ⊥
        none_stops stop = absurd cc

    -- so none is found later
    pub none_after : u.cut ≡ true → (j : ℕ) (v : Turn) → slice_get t.trace j ≡ Some (happenings.Turn v) → i < j → (s : ℕ) (c : Call) → ((k : ℕ) → i ≤ k → k < j + 1 → call_at (past_upto t k).run_report u.node s ≡ Some c) → ⊥
    none_after cut j v later low s c pends = by (below_or (i + 1) j (omega (arith, low)))
      where
        after : (h : Happening) × (slice_get t.trace (i + 1) ≡ Some h)
        after = there_before t.trace (i + 1) j (happenings.Turn v) (omega (arith, low)) later

        stops : after.0 ≡ happenings.Stopped u.node
        stops = stops_next cut after.0 (may_at t run (i + 1) after.0 after.1)

        by : (i + 1 < j) ⊎ (i + 1 ≡ j) → ⊥
        by (inr same) =
            let it : Some after.0 ≡ Some (happenings.Turn v) = sym after.1 ∙ (ap (slice_get t.trace) same ∙ later) in
            let turn : after.0 ≡ happenings.Turn v = cc in
            absurd (cc (turn, stops))
        by (inl more) =
            let none : called_at (past_upto t (i + 1 + 1)).run_report.calls u.node s ≡ false = stopped_none (after.1 ∙ ap Some stops) s in
            let some : called_at (past_upto t (i + 1 + 1)).run_report.calls u.node s ≡ true
            = there_called u.node s (past_upto t (i + 1 + 1)).run_report.calls c (pends (i + 1 + 1) (omega arith) (omega (arith, more))) in
            absurd (cc (none, some))

    -- ---- a whole turn answers at once

    pub answers_so : u.cut ≡ false → (s : ℕ) (st : Stmt) → IsCall u.input s st → is_recorded st ≡ true
        → ((u.wrote ≡ None) × (r : Refusal) × (answers_to s (ended_in t.places (facts_upto t i) u) ≡ answers.Refused r ∷ [])) ⊎ Stands (place_at t.places u.node) up_there.0 s st u.wrote (ended_in t.places (facts_upto t i) u)
    answers_so uncut s st call one = fact_at t AnswersAtOnce (each_is_answered t lawful) i (happenings.Turn u) there up_there.0 up_there.1 s st call one uncut

    -- the call of a command that is answered so is pending no more, and its line is told at the end
    pub gone_and_told : u.cut ≡ false → (s command : ℕ) (text : Option Stmt) → command_at t.commands command ≡ commands.At u.node s text → (c : Call) → call_at (past_upto t i).run_report u.node s ≡ Some c → c.command ≡ command
        → c.follows ≡ None → (a : Answer) → answers_to s (ended_in t.places (facts_upto t i) u) ≡ a ∷ []
        → ((j : ℕ) × (slice_get (reported_of t) j ≡ Some (node_line command a))) × (call_at (past_upto t (i + 1)).run_report u.node s ≡ None)
    gone_and_told uncut s command text named c at its alone a is =
        let o = outcome_there in
        let ended : answers_to s o.0.ended ≡ a ∷ [] = ap (answers_to s) (sym (ended_is o.0 uncut o.1)) ∙ is in
        let told = answer_told t run command u.node s text named (said.Node a) i u there uncut o.0 (ap (λ f. outcome_at t.places f u) (facts_there t i) ∙ o.1) refl c at its alone a refl ended in
        (told_at_last t run command u.node s text named (said.Node a) (i + 1) told.0, told.1)

    -- a call whose turn is cut is told that the node is down
    cut_keeps : u.cut ≡ true → (s : ℕ) → call_at (past_upto t (i + 1)).run_report u.node s ≡ call_at (past_upto t i).run_report u.node s
    unfolding next
    cut_keeps cut s =
        let p : Past = past_upto t i in
        let o : Option TurnOutput = outcome_at t.places p.facts u in
        let v : RunReport = before_end t run i (all_so t run i) u there o in
        ap (λ (q : Past). call_at q.run_report u.node s) (one_more t i (happenings.Turn u) there)
        ∙ (ap (λ q. call_at (ends_calls p.facts.command v u q o) u.node s) cut ∙ ap (find (is_call_at u.node s)) (before_so t run i (all_so t run i) u there o).calls)

    pub cut_told : u.cut ≡ true → (h : Happening) → slice_get t.trace (i + 1) ≡ Some h → (s command : ℕ) (text : Option Stmt) → command_at t.commands command ≡ commands.At u.node s text → (c : Call)
        → call_at (past_upto t i).run_report u.node s ≡ Some c → c.command ≡ command → (j : ℕ) × (slice_get (reported_of t) j ≡ Some (line command (is_down t.places u.node)))
    cut_told cut h after s command text named c at its =
        let stops : slice_get t.trace (i + 1) ≡ Some (happenings.Stopped u.node) = after ∙ ap Some (stops_next cut h (may_at t run (i + 1) h after)) in
        let none : call_at (past_upto t (i + 1 + 1)).run_report u.node s ≡ None = none_by (call_at (past_upto t (i + 1 + 1)).run_report u.node s) refl (stopped_none stops s) in
        told_at_last t run command u.node s text named (is_down t.places u.node) (i + 1 + 1)
        (stop_told t run command u.node s text named (is_down t.places u.node) (i + 1) u.node stops refl refl c (cut_keeps cut s ∙ at) its none)
      where
        none_by : (o : Option Call) → call_at (past_upto t (i + 1 + 1)).run_report u.node s ≡ o → called_at (past_upto t (i + 1 + 1)).run_report.calls u.node s ≡ false → o ≡ None
        none_by None is none = refl
        none_by (Some d) is none = let some : called_at (past_upto t (i + 1 + 1)).run_report.calls u.node s ≡ true = there_called u.node s (past_upto t (i + 1 + 1)).run_report.calls d is in absurd (cc (none, some))

  -- ---- the turn of a recorded statement is the one that ends its call

  module _ (j : ℕ) (v : Turn) (later : slice_get t.trace j ≡ Some (happenings.Turn v)) (s n : ℕ) (c : Call) (came : CameBefore t (j + 1) n s c) (st : Stmt) (is : c.statement ≡ Some st) (one : is_recorded st ≡ true)
      (alone : c.follows ≡ None) where
    abbrev u : Turn
    u = came.turn.turn

    pub brought : IsCall u.input s st
    brought = came.turn.came ∙ ap (inputs.Call s) is

    pends : (k : ℕ) → came.moment ≤ k → k < j + 1 → call_at (past_upto t k).run_report u.node s ≡ Some c
    pends k low high = subst (λ m. call_at (past_upto t k).run_report m s ≡ Some c) (sym came.turn.here) (came.stays k low high)

    not_later : came.moment < j → (cut : Bool) → u.cut ≡ cut → ⊥
    not_later low true cut = none_after came.moment u came.turn.there cut j v later low s c pends
    not_later low false uncut = elim (answers_so came.moment u came.turn.there uncut s st brought one) [
      | inl out ↦ gone (answers.Refused out.1) out.2
      | inr stands ↦ gone (answers.Did stands.done 0) stands.answered
    ]
      where
        gone : (a : Answer) → answers_to s (ended_in t.places (facts_upto t came.moment) u) ≡ a ∷ [] → ⊥
        gone a answered =
            let named : command_at t.commands c.command ≡ commands.At u.node s came.turn.text = came.turn.asked ∙ ap (λ m. commands.At m s came.turn.text) (sym came.turn.here) in
            let none = (gone_and_told came.moment u came.turn.there uncut s c.command came.turn.text named c (pends came.moment (omega arith) (omega (arith, low))) refl alone a answered).1 in
            let some = pends (came.moment + 1) (omega arith) (omega (arith, low)) in
            absurd (cc (none, some))

    pub at_once : came.moment ≡ j
    at_once = elim (below_or came.moment j came.before) [ inl low ↦ absurd (not_later low u.cut refl) | inr same ↦ same ]

    pub same_turn : u ≡ v
    same_turn = let it : Some (happenings.Turn u) ≡ Some (happenings.Turn v) = sym came.turn.there ∙ (ap (slice_get t.trace) at_once ∙ later) in let turn : u ≡ v = cc in turn
