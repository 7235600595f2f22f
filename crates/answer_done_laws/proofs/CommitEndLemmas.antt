-- In the run of a script the COMMIT before a CREATE leaves no line but a refusal: where it is complete, the CREATE comes.
use Rattle.std.proofs.Common.{◌≡◌, ℕ, ◌+◌, ◌<◌, ◌≤◌, Bool, true, false, if◌then◌else◌, List, [], ◌∷◌, find, slice_get, IfSome, Option, Some, None, inl, inr, refl, sym, ap, subst, ◌∙◌, arith}
use Rattle.node_rules.specs.Data.{Answer, Input, Phase, Stmt}
use Rattle.node_rules.specs.declared.work.Going.{Going}
use Rattle.node_rules.specs.Data.inputs
use Rattle.node_rules.specs.Data.stmts
use Rattle.node_rules.specs.declared.session.PendingCall.{PendingCall}
use Rattle.node_rules.specs.declared.session.PendingCall.TheVariants as pending
use Rattle.node_rules.specs.NodeState.{NodeState, TurnOutput}
use Rattle.node_rules.specs.Sessions.{session_at}
use Rattle.node_rules.specs.Turn.{turn_of, heard}
use Rattle.run_base_laws.specs.CallLaws.{RootWaits}
use Rattle.run_rules.specs.Calls.{is_call_at, call_at, is_complete, second_of, finished}
use Rattle.run_rules.specs.Data.{Turn}
use Rattle.run_rules.specs.Data.happenings
use Rattle.run_rules.specs.Facts.{node_at, outcome_at, place_at, served}
use Rattle.run_rules.specs.Scripts.{IsTheRunOf}
use Rattle.run_rules.specs.Lawful.{History, MayTurn}
use Rattle.run_rules.specs.Past.{ends_calls, report_turned, next}
use Rattle.run_claims.specs.Places.{past_upto}
use Rattle.run_rules.specs.Runs.{is_accepted}
use Rattle.run_rules.specs.RunReport.{Call, Past, RunReport}
use Rattle.run_base_laws.proofs.LawfulLemmas.{serves}
use Rattle.run_base_laws.proofs.RestLemmas.{Before, branch_root}
use Rattle.run_base_laws.proofs.RestRunLemmas.{NodeRests, before_so}
use Rattle.answer_origin_laws.specs.CallTurns.{CameBefore}
use Rattle.answer_origin_laws.proofs.CallAtLemmas.{AreShaped}
use Rattle.answer_origin_laws.proofs.CallTurnLemmas.{all_so}
use Rattle.answer_origin_laws.proofs.ComeLemmas.{CallsSo, below_or, input_same, before_end, before_so as page_before}
use Rattle.answer_origin_laws.proofs.SameToldLemmas.{ToldBefore}
use Rattle.answer_origin_laws.proofs.UptoLemmas.{StandsAt, one_more, facts_there, stand_at, may_at}
use Rattle.answer_origin_laws.specs.ToldLaws.{EndedBy}
use Rattle.answer_done_laws.specs.DoneLaws.{answers_to}
use Rattle.answer_done_laws.proofs.AtOnceLemmas.{answer_among, one_answer}
use Rattle.answer_done_laws.proofs.CallDoneLemmas.{after_answer, answered_call}
use Rattle.answer_done_laws.proofs.CommitStepLemmas.{EndsCommit, CommitSo, Commits, commit_on, commit_comes}
use Rattle.answer_done_laws.proofs.LineStayLemmas.{Has}
use Rattle.answer_done_laws.proofs.WhilePendingLemmas.{WholeTurn, at_first, holds_while_pending}

-- ---- a node

waits_none : (c : PendingCall) (phase : Phase) (going : Option Going) → RootWaits c phase going → c ≡ pending.Commit → going ≡ None
waits_none pending.NoCall phase going waits is = absurd cc
waits_none pending.Statement phase going waits is = absurd cc
waits_none pending.Commit phase going waits is = waits

commits_of : (m : ℕ) (input : Input) (k : NodeState) → NodeRests k → Before input k → (session_at k.sessions m).call ≡ pending.Commit → Commits m input k
commits_of m input k rests before commits = record {
  commits = commits;
  roots = rests.0.roots.each;
  below = before.asked;
  rests = λ no_call x found root same. waits_none (session_at k.sessions x.live.me.session).call x.live.phase x.work.going (branch_root k rests.1 x found root).waits (ap (λ i. (session_at k.sessions i).call) same ∙ commits);
}

heard_commits : (m : ℕ) (k : NodeState) (input what : Input) → Commits m what k → Commits m what (heard k input)
heard_commits m k (inputs.Message msg) what now = record { commits = now.commits; roots = now.roots; below = now.below; rests = now.rests }
heard_commits m k (inputs.Call n s) what now = now
heard_commits m k (inputs.GiveUp n) what now = now
heard_commits m k inputs.Reco what now = now
heard_commits m k inputs.Checkpoint what now = now

module _ (t : History) (run : IsTheRunOf t) where
  module _ (i : ℕ) (u : Turn) (there : slice_get t.trace i ≡ Some (happenings.Turn u)) where
    stands : StandsAt t.places t.commands t.of_a_script (past_upto t i)
    stands = stand_at t run i

    -- a turn of a node where the COMMIT of a session is pending
    turn_so : (k : NodeState) → MayTurn t.places (past_upto t i).facts u k → (m : ℕ) → ((s : Option Stmt) → u.input ≡ inputs.Call m s → ⊥) → (session_at k.sessions m).call ≡ pending.Commit
        → CommitSo m (turn_of (place_at t.places u.node) k u.input).after.sessions (turn_of (place_at t.places u.node) k u.input).ended
    unfolding turn_of
    turn_so k may m other commits =
        let rests : NodeRests k = subst (λ o. IfSome o NodeRests) may.up (stands.roots u.node) in
        let before : Before u.input k = before_so t.places t.commands t.of_a_script.each (past_upto t i).facts stands.events stands.births stands.born stands.roots u k may in
        commit_on m (place_at t.places u.node) u.input other (serves t.places (past_upto t i).facts u k may).step (heard_commits m k u.input u.input (commits_of m u.input k rests before commits))

    -- the turn that it comes in
    comes_so : (k : NodeState) (m : ℕ) (given : Option (List ℕ)) → u.input ≡ inputs.Call m (Some (stmts.Commit given))
        → CommitSo m (turn_of (place_at t.places u.node) k u.input).after.sessions (turn_of (place_at t.places u.node) k u.input).ended
    unfolding turn_of
    comes_so k m given call =
        subst (λ i. CommitSo m (turn_of (place_at t.places u.node) k i).after.sessions (turn_of (place_at t.places u.node) k i).ended) (sym call) (commit_comes k m given)

    -- ---- what is pending after a whole turn that answers a call

    answered_after : u.cut ≡ false → (o : TurnOutput) → outcome_at t.places (past_upto t i).facts u ≡ Some o → (s : ℕ) (c : Call) → call_at (past_upto t i).run_report u.node s ≡ Some c → (a : Answer) → answers_to s o.ended ≡ a ∷ []
        → call_at (past_upto t (i + 1)).run_report u.node s ≡ after_answer c a c.follows
    unfolding next
    answered_after uncut o comes s c at a is =
        let p : Past = past_upto t i in
        let now : CallsSo t i p = all_so t run i in
        let v : RunReport = before_end t run i now u there (Some o) in
        let same : ToldBefore p.run_report v = page_before t run i now u there (Some o) in
        let w : RunReport = finished p.facts.command v u.node o.ended in
        let shapes : AreShaped t.commands v.calls = subst (AreShaped t.commands) (sym same.calls) now.shapes in
        let after : call_at w u.node s ≡ after_answer c a c.follows = answered_call t.commands p.facts.command u.node v o.ended shapes s c (ap (find (is_call_at u.node s)) same.calls ∙ at) a is in
        ap (λ (q : Past). call_at q.run_report u.node s) (one_more t i (happenings.Turn u) there)
        ∙ (ap (λ x. call_at (report_turned p.facts.command (node_at p.facts u.node) p.run_report u x) u.node s) comes
        ∙ (ap (λ q. call_at (ends_calls p.facts.command v u q (Some o)) u.node s) uncut ∙ (ap (find (is_call_at u.node s)) (input_same w p.facts.command u.node u.input).0 ∙ after)))

  -- ---- a COMMIT from its turn on

  changed : (c : Call) (a : Answer) (o : Option Stmt) → c.follows ≡ o → after_answer c a o ≡ Some c → ⊥
  changed c a None is same = absurd cc
  changed c a (Some st) is same = by (is_complete a) same
    where
      by : (q : Bool) → (if q then Some (second_of c st) else None) ≡ Some c → ⊥
      by false at = absurd cc
      by true at =
          let it : second_of c st ≡ c = cc in
          let none : None ≡ c.follows = ap (λ (x : Call). x.follows) it in
          absurd (cc (none, is))

  module _ (bound n s : ℕ) (c : Call) (came : CameBefore t bound n s c) (given : Option (List ℕ)) (own : c.statement ≡ Some (stmts.Commit given)) where
    abbrev Pends_in : NodeState → Type 0
    Pends_in k = (session_at k.sessions s).call ≡ pending.Commit

    -- what a turn does about it
    turn_does : (j : ℕ) → came.moment ≤ j → j < bound → (u : Turn) → slice_get t.trace j ≡ Some (happenings.Turn u) → u.node ≡ n → (k : NodeState) → MayTurn t.places (past_upto t j).facts u k → (came.moment < j → Pends_in k)
        → CommitSo s (turn_of (place_at t.places u.node) k u.input).after.sessions (turn_of (place_at t.places u.node) k u.input).ended
    turn_does j from below u there here k may pends = elim (below_or came.moment j (omega (arith, from))) [
      | inl later ↦ turn_so j u there k may s (λ st call. came.last j later below u there here st call) (pends later)
      | inr now ↦ (let it : Some (happenings.Turn came.turn.turn) ≡ Some (happenings.Turn u) = sym came.turn.there ∙ (ap (slice_get t.trace) now ∙ there) in
          let same : came.turn.turn ≡ u = cc in
          comes_so j u there k s given (ap (λ (x : Turn). x.input) (sym same) ∙ (came.turn.came ∙ ap (inputs.Call s) own)))
    ]

    -- a turn that answers it leaves no such call
    still_pends : (j : ℕ) → came.moment ≤ j → j + 1 < bound → (u : Turn) (k : NodeState) → WholeTurn t n j u k → (came.moment < j → Pends_in k) → Pends_in (turn_of (place_at t.places u.node) k u.input).after
    still_pends j from below u k turn pends = elim (turn_does j from (omega (arith, below)) u turn.there turn.here k turn.may pends) [
      | inl still ↦ still.1
      | inr answered ↦ (let o : TurnOutput = turn_of (place_at t.places u.node) k u.input in
          let comes : outcome_at t.places (past_upto t j).facts u ≡ Some o = ap (served (place_at t.places u.node) u.input) turn.may.up in
          let at : call_at (past_upto t j).run_report u.node s ≡ Some c = ap (λ m. call_at (past_upto t j).run_report m s) turn.here ∙ came.stays j from (omega (arith, below)) in
          let left = answered_after j u turn.there turn.uncut o comes s c at answered.0 answered.1 in
          absurd (changed c answered.0 c.follows refl (sym left ∙ (ap (λ m. call_at (past_upto t (j + 1)).run_report m s) turn.here ∙ came.stays (j + 1) (omega (arith, from)) below))))
    ]

    pub pends_at : (j : ℕ) → came.moment < j → j < bound → (k : NodeState) → node_at (past_upto t j).facts n ≡ Some k → (session_at k.sessions s).call ≡ pending.Commit
    pends_at = holds_while_pending t run bound n s c came Pends_in
        (λ below turn. still_pends came.moment (omega arith) below came.turn.turn (at_first t run bound n s c came).0 turn (λ low. absurd (omega (arith, low))))
        (λ j low below u k turn pends. still_pends j (omega (arith, low)) below u k turn (λ later. pends))

  -- ---- the line of a CREATE is no answer to its COMMIT

  pub commit_refused : (command : ℕ) (a : Answer) (e : EndedBy t command a) → CameBefore t (e.ended + 1) e.turn.node e.session e.call → (st : Stmt) → e.call.statement ≡ Some (stmts.Commit None) → e.call.follows ≡ Some st
      → is_accepted (Some a) ≡ true → ⊥
  commit_refused command a e came st own follows accepted =
      elim (turn_does (e.ended + 1) e.turn.node e.session e.call came None own e.ended (omega (arith, came.before)) (omega arith) e.turn e.there refl may.0 may.1
      (λ later. pends_at (e.ended + 1) e.turn.node e.session e.call came None own e.ended later (omega arith) may.0 may.1.up)) [
        | inl still ↦ none_there (subst (λ xs. Has xs a) still.0 among)
        | inr answered ↦ (let same : answered.0 ≡ a = one_answer _ answered.0 a answered.1 among in
            let left = answered_after e.ended e.turn e.there e.uncut (turn_of (place_at t.places e.turn.node) may.0 e.turn.input) comes e.session e.call e.pending answered.0 answered.1 in
            by (subst EndsCommit same answered.2) answered.0 (ap (after_answer e.call answered.0) (sym follows) ∙ (sym left ∙ e.over)) same)
      ]
    where
      may : (k : NodeState) × MayTurn t.places (past_upto t e.ended).facts e.turn k
      may = may_at t run e.ended (happenings.Turn e.turn) e.there

      comes : outcome_at t.places (past_upto t e.ended).facts e.turn ≡ Some (turn_of (place_at t.places e.turn.node) may.0 e.turn.input)
      comes = ap (served (place_at t.places e.turn.node) e.turn.input) may.1.up

      outcome : e.outcome ≡ turn_of (place_at t.places e.turn.node) may.0 e.turn.input
      outcome = let it : Some e.outcome ≡ Some (turn_of (place_at t.places e.turn.node) may.0 e.turn.input) = sym e.comes ∙ (ap (λ f. outcome_at t.places f e.turn) (sym (facts_there t e.ended)) ∙ comes) in cc

      among : Has (answers_to e.session (turn_of (place_at t.places e.turn.node) may.0 e.turn.input).ended) a
      among = subst (λ (o : TurnOutput). Has (answers_to e.session o.ended) a) outcome (answer_among e.outcome.ended e.number e.session a e.answers)

      none_there : ⊥ → ⊥
      none_there none = none

      by : EndsCommit a → (x : Answer) → (if is_complete x then Some (second_of e.call st) else None) ≡ None → x ≡ a → ⊥
      by (inl complete) x none same = absurd (let some : Some (second_of e.call st) ≡ None = sym (ap (λ q. if q then Some (second_of e.call st) else None) (ap is_complete same ∙ complete)) ∙ none in cc)
      by (inr refused) x none same = let no : is_accepted (Some a) ≡ false = ap (λ z. is_accepted (Some z)) refused.1 in absurd (cc (no, accepted))
