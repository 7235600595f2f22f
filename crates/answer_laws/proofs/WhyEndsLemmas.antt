-- Why a call of a client ends in a turn: it came in this turn, its statement waited for what came, or its COMMIT was pending.
use Rattle.std.proofs.Common.{◌≡◌, ℕ, ◌+◌, ◌⊎◌, Bool, true, false, if◌then◌else◌, List, [], ◌∷◌, ◌++◌, Option, Some, None, inl, inr, refl, sym, ap, subst, ◌∙◌}
use Rattle.std.proofs.lemmas.Bool.{cond_both, and_parts}
use Rattle.commit_forget.specs.declared.next.Next.TheVariants as nexts
use Rattle.node_rules.specs.Data.{Edge, Stmt, Answer, BranchId, Decision, Refusal, Live, Act, Place, Input}
use Rattle.node_rules.specs.Data.acts
use Rattle.node_rules.specs.Data.answers
use Rattle.node_rules.specs.Data.decisions
use Rattle.node_rules.specs.Data.inputs
use Rattle.node_rules.specs.Data.stmts
use Rattle.node_rules.specs.Data.tasks
use Rattle.node_rules.specs.declared.work.Errand.TheVariants as errands
use Rattle.node_rules.specs.declared.work.Going.{Going}
use Rattle.node_rules.specs.declared.session.Finished.{Finished}
use Rattle.node_rules.specs.declared.session.PendingCall.{PendingCall}
use Rattle.node_rules.specs.declared.session.PendingCall.TheVariants as pending
use Rattle.node_rules.specs.declared.session.Session.{Session}
use Rattle.node_rules.specs.Words.{one, set_numbered}
use Rattle.node_rules.specs.Calls.{answer_ends, heard_answer, hears_reply}
use Rattle.node_rules.specs.Client.{new_root, begun_by, counted, waited_link}
use Rattle.node_rules.specs.Marks.{node_back, next_back}
use Rattle.node_rules.specs.Commit.{decision_answers}
use Rattle.node_rules.specs.NodeState.{NodeState, Branch, TurnDraft, branch_at}
use Rattle.node_rules.specs.Prepare.{abandon_ends, is_alone, act_turn}
use Rattle.node_rules.specs.Sessions.{session_at, with_call, is_commit, commit_is_pending, commit_answer}
use Rattle.node_rules.specs.Refusals.{dtx}
use Rattle.node_rules.specs.Statement.{ran, after_run}
use Rattle.node_rules.proofs.StandLemmas.{live_so}
use Rattle.node_rules.proofs.Steps as steps
use Rattle.node_rules.proofs.Steps.{Step, Asked, Goes_to, Calls_back}
use Rattle.run_base_laws.proofs.RootLemmas.{SessionsFit, session_or_before, counted_session, begun_so, counted_so, back_so, pends_so}
use Rattle.session_tree.specs.Live.{is_branch}
use Rattle.run_rules.specs.Facts.{Facts}
use Rattle.answer_origin_laws.proofs.ExecLemmas.{ExecsBelow}
use Rattle.answer_origin_laws.specs.ReplyLaws.{went_back}
use Rattle.answer_laws.specs.EndLaws.{EndsFor, Is_own, Was_commit, forces_outcome, EndsFew, Ends_none, Ends_one, Ends_forced}

is_commit_call : (c : PendingCall) → is_commit c ≡ true → c ≡ pending.Commit
is_commit_call pending.NoCall is = absurd cc
is_commit_call pending.Statement is = absurd cc
is_commit_call pending.Commit is = refl

pub no_exec : {input : Input} {n : ℕ} {s : Option Stmt} (k : NodeState) → input ≡ inputs.Call n s → ExecsBelow input k
no_exec {n = n} {s = q} k call from to number task came l live none = let both : inputs.Call n q ≡ inputs.Message _ = sym call ∙ came.is in absurd cc

-- a message is no call
reply_no_call : {input : Input} {n : ℕ} {s : Option Stmt} {k : NodeState} {x : Branch} {weight : Option ℕ} {count : ℕ} {a : Answer} {i : ℕ} {e : Edge} → input ≡ inputs.Call n s → steps.Is_answered k input x weight count a i e → ⊥
reply_no_call call answered = (let came = answered.came.is in absurd (cc (came, call)))

-- a session that is set
pub set_commit : (ss : List Session) (n m : ℕ) (s : Session) → (s.call ≡ pending.Commit → (session_at ss n).call ≡ pending.Commit) → (session_at (set_numbered ss n s) m).call ≡ pending.Commit → (session_at ss m).call ≡ pending.Commit
set_commit ss n m s so is = elim (session_or_before ss n m s) [
  | inl still ↦ ap (λ z. z.call) (sym still) ∙ is
  | inr new ↦ subst (λ i. (session_at ss i).call ≡ pending.Commit) new.0 (so (ap (λ z. z.call) (sym new.1) ∙ is))
]

-- The calls that a turn to which this came ends, by the node as the turn began: a step finds it as it was, or changed by the turn's own
-- call.
module _ (f : Facts) (k0 : NodeState) (p : Place) (input : Input) (ended : List Finished) where
  -- What a step finds.
  pub record Finds (k : NodeState) : Type 0 where
    pub commit : (m : ℕ) → (session_at k.sessions m).call ≡ pending.Commit → ((session_at k0.sessions m).call ≡ pending.Commit) ⊎ ((comment : Option (List ℕ)) × (input ≡ inputs.Call m (Some (stmts.Commit comment))))
    pub reply : (x : Branch) (weight : Option ℕ) (count : ℕ) (a : Answer) (i : ℕ) (e : Edge) → steps.Is_answered k input x weight count a i e → x.live.parent ≡ None
        → answer_ends (hears_reply x i weight count e).live (heard_answer (hears_reply x i weight count e).live e.link a) x.live.parent ≡ ended
        → EndsFor f k0 input (record { session = x.live.me.session; answer = heard_answer (hears_reply x i weight count e).live e.link a })
    pub back : (x : Branch) (weight : Option ℕ) (count : ℕ) (a : Answer) (i : ℕ) (e : Edge) → steps.Is_answered k input x weight count a i e → x.live.parent ≡ None
        → (g : Going) (step : ℕ) → x.work.going ≡ Some g → g.errand ≡ errands.GoBack step → steps.IsNoRefusal a → next_back x.work step (i + 1) ≡ None
        → EndsFor f k0 input (record { session = x.live.me.session; answer = went_back })
    pub given : (n : ℕ) (x : Branch) → input ≡ inputs.GiveUp n → steps.HasRoot k n x.live.me → (session_at k.sessions n).call ≡ pending.Statement → branch_at k x.live.me ≡ Some x
        → EndsFor f k0 input (record { session = n; answer = answers.Refused (dtx 3 (one (waited_link x.live x.work.going))) })

  -- by a call nothing is heard and nothing is given up
  call_finds : (k : NodeState) (n : ℕ) (s : Option Stmt) → input ≡ inputs.Call n s
      → ((m : ℕ) → (session_at k.sessions m).call ≡ pending.Commit → ((session_at k0.sessions m).call ≡ pending.Commit) ⊎ ((comment : Option (List ℕ)) × (input ≡ inputs.Call m (Some (stmts.Commit comment))))) → Finds k
  call_finds k n s call commit = record { commit = commit; reply = λ x weight count a i e answered root ends. absurd (reply_no_call call answered); back = λ x weight count a i e answered root g step going errand plain none. absurd (reply_no_call call answered); given = λ m x gives has waits live. absurd (cc (gives, call)) }

  module _ (k : NodeState) (now : Finds k) where
    -- a COMMIT that was pending
    commit_for : (x : Finished) → (session_at k.sessions x.session).call ≡ pending.Commit → EndsFor f k0 input x
    commit_for x is = elim (now.commit x.session is) [ inl was ↦ Was_commit was | inr own ↦ Is_own (Some (stmts.Commit own.0)) own.1 ]

    commit_pends : (b : BranchId) → commit_is_pending k.sessions b ≡ true → (session_at k.sessions b.session).call ≡ pending.Commit
    commit_pends b is = is_commit_call (session_at k.sessions b.session).call (and_parts (is_branch b (session_at k.sessions b.session).root) (is_commit (session_at k.sessions b.session).call) is).1

    commit_few : (b : BranchId) (a : Answer) → EndsFew f k0 input (commit_answer k.sessions b a)
    commit_few b a = by (commit_is_pending k.sessions b) refl
      where
        by : (q : Bool) → commit_is_pending k.sessions b ≡ q → EndsFew f k0 input (if q then (record { session = b.session; answer = a }) ∷ [] else [])
        by true is = Ends_one (record { session = b.session; answer = a }) (commit_for (record { session = b.session; answer = a }) (commit_pends b is))
        by false is = Ends_none

    alone_few : (here : Bool) (b : BranchId) (a : Answer) → EndsFew f k0 input (if here then commit_answer k.sessions b a else [])
    alone_few true b a = commit_few b a
    alone_few false b a = Ends_none

    decision_few : (b : BranchId) (d : Decision) → EndsFew f k0 input (decision_answers k.sessions b d)
    decision_few b (decisions.Commit n) = Ends_none
    decision_few b decisions.Rollback = commit_few b _

    abandon_few : (l : Live) (o : Option BranchId) → EndsFew f k0 input (abandon_ends k.sessions l o)
    abandon_few l None = commit_few l.me _
    abandon_few l (Some parent) = Ends_none

    -- one that is forced, and the call of the user
    forced_few : (b : BranchId) (r : Refusal) (n : ℕ) (s : Stmt) (a : Answer) → input ≡ inputs.Call n (Some s) → forces_outcome s ≡ true
        → EndsFew f k0 input (commit_answer k.sessions b (answers.Refused r) ++ (record { session = n; answer = a }) ∷ [])
    forced_few b r n s a call forces =
        cond_both (commit_is_pending k.sessions b) ((record { session = b.session; answer = answers.Refused r }) ∷ []) [] (λ xs. EndsFew f k0 input (xs ++ (record { session = n; answer = a }) ∷ []))
        (λ is. elim (now.commit b.session (commit_pends b is)) [
          | inl was ↦ Ends_forced (record { session = b.session; answer = answers.Refused r }) n s a refl was call forces
          | inr own ↦ absurd (let both : inputs.Call n (Some s) ≡ inputs.Call b.session (Some (stmts.Commit own.0)) = sym call ∙ own.1 in
              let same : s ≡ stmts.Commit own.0 = cc in
              let none : forces_outcome s ≡ false = ap forces_outcome same in
              cc (none, forces))
        ])
        (λ none. Ends_one (record { session = n; answer = a }) (Is_own (Some s) call))

    -- an answer at a root
    answer_few : (l : Live) (a : Answer) (o : Option BranchId) → (o ≡ None → EndsFor f k0 input (record { session = l.me.session; answer = a })) → EndsFew f k0 input (answer_ends l a o)
    answer_few l a None why = Ends_one (record { session = l.me.session; answer = a }) (why refl)
    answer_few l a (Some parent) why = Ends_none

    act_few : (l : Live) (site_below : Bool) (a : Act) → EndsFew f k0 input (act_turn k l site_below a).ended
    act_few l site_below acts.Decide = alone_few (is_alone l) l.me _
    act_few l site_below acts.Finish = commit_few l.me _
    act_few l site_below acts.Abandon = abandon_few l l.parent
    act_few l site_below acts.Rest = Ends_none
    act_few l site_below acts.AskDown = Ends_none
    act_few l site_below acts.SayReadOnly = Ends_none
    act_few l site_below acts.SayReady = Ends_none
    act_few l site_below acts.Seal = Ends_none
    act_few l site_below (acts.SealAndPass i) = Ends_none

    -- a statement that came to a root is its client's
    asked_own : {x : Branch} {s : Stmt} {given : ℕ} → SessionsFit k → ExecsBelow input k → Asked k input x s given → (l : Live) → l.me ≡ x.live.me → l.parent ≡ x.live.parent → (a : Answer) → l.parent ≡ None
        → EndsFor f k0 input (record { session = l.me.session; answer = a })
    asked_own fit below (steps.By_call n x s call rows has code live may) l me parent a none = Is_own (Some s) (call ∙ ap (λ m. inputs.Call m (Some s)) (sym (ap (λ (b : BranchId). b.session) me ∙ fit.roots.each n x.live.me has)))
    asked_own fit below (steps.By_exec x from call given advice s came live runs) l me parent a none = absurd (below from x.live.me call (tasks.Run given advice s) came x.live (live_so k x.live.me x live) (sym parent ∙ none))

    -- so is ROLLBACK TO
    goes_own : {x : Branch} {step : ℕ} → SessionsFit k → ExecsBelow input k → Goes_to k input x step → (a : Answer) → x.live.parent ≡ None → EndsFor f k0 input (record { session = x.live.me.session; answer = a })
    goes_own fit below (steps.By_rollback_to n x name _ call has code live set) a none = Is_own (Some (stmts.RollbackTo name)) (call ∙ ap (λ m. inputs.Call m (Some (stmts.RollbackTo name))) (sym (fit.roots.each n x.live.me has)))
    goes_own fit below (steps.By_back x from call keep came live runs) a none = absurd (below from x.live.me call (tasks.GoBack keep) came x.live (live_so k x.live.me x live) none)

  -- ---- each step

  -- what a step of this branch changes first leaves what is found
  same_finds : (k j : NodeState) → j.sessions ≡ k.sessions → ((b : BranchId) → branch_at j b ≡ branch_at k b) → Finds k → Finds j
  same_finds k j sessions branches now = record {
    commit = λ m is. now.commit m (subst (λ ss. (session_at ss m).call ≡ pending.Commit) sessions is);
    reply = λ x weight count a i e answered root. now.reply x weight count a i e (record { from = answered.from; call = answered.call; came = answered.came; live = sym (branches x.live.me) ∙ answered.live; waits = answered.waits }) root;
    back = λ x weight count a i e answered root. now.back x weight count a i e (record { from = answered.from; call = answered.call; came = answered.came; live = sym (branches x.live.me) ∙ answered.live; waits = answered.waits }) root;
    given = λ n x gives has waits live. now.given n x gives (subst (λ ss. (session_at ss n).root ≡ Some x.live.me) sessions has) (subst (λ ss. (session_at ss n).call ≡ pending.Statement) sessions waits) (sym (branches x.live.me) ∙ live);
  }

  -- a root whose children are to go back, and that is back
  calling_own : {k : NodeState} {x : Branch} {step from : ℕ} → Finds k → SessionsFit k → ExecsBelow input k → Calls_back k input x step from → next_back x.work step from ≡ None → x.live.parent ≡ None
      → EndsFor f k0 input (record { session = x.live.me.session; answer = went_back })
  calling_own now fit below (steps.Has_gone j x step goes is) none root =
      let back : SessionsFit (node_back j x step) = subst SessionsFit is fit in
      goes_own j (same_finds (node_back j x step) j refl (λ b. refl) (subst Finds is now)) (record { roots = back.roots; above = back.above }) (subst (ExecsBelow input) is below) goes went_back root
  calling_own now fit below (steps.Has_heard x weight count a i e g step answered going errand plain) none root = now.back x weight count a i e answered root g step going errand plain none

  pub few_on : {k : NodeState} {d : TurnDraft} → Step p input k d → SessionsFit k → ExecsBelow input k → Finds k → d.ended ≡ ended → EndsFew f k0 input d.ended
  few_on (steps.Begins {k = k} n s read_at call begins range none step) fit below now ends =
      few_on step (begun_so k fit p n read_at) (no_exec (begun_by p k n read_at None) call)
      (call_finds (begun_by p k n read_at None) n (Some s) call (λ m is. now.commit m (set_commit k.sessions n m (record (session_at k.sessions n) { seq = (new_root p k n).seq; root = Some (new_root p k n); calls = 0 }) (λ was. was) is))) ends
  few_on (steps.Counts_call {k = k} n s call counts step) fit below now ends =
      few_on step (counted_so k fit n) (no_exec (counted k n) call)
      (call_finds (counted k n) n (Some s) call (λ m is. now.commit m (ap (λ z. z.call) (sym (counted_session k.sessions n m (session_at k.sessions n).root).1) ∙ is))) ends
  few_on (steps.Goes_back {k = k} x step goes next) fit below now ends = few_on next (back_so k fit x step) below (same_finds k _ refl (λ b. refl) now) ends
  few_on (steps.Pends {k = k} n l given call has live code writer step) fit below now ends =
      few_on step (pends_so k fit n pending.Commit) below
      (call_finds (record k { sessions = with_call k.sessions n pending.Commit }) n (Some (stmts.Commit given)) call
      (λ m is. elim (session_or_before k.sessions n m (record (session_at k.sessions n) { call = pending.Commit })) [
        | inl same ↦ now.commit m (ap (λ z. z.call) (sym same) ∙ is)
        | inr new ↦ inr (given, subst (λ i. input ≡ inputs.Call i (Some (stmts.Commit given))) new.0 call)
      ])) ends
  few_on (steps.Lets_reads_go {k = k} l comment site_below live begins step) fit below now ends = few_on step (record { roots = fit.roots; above = fit.above }) below (same_finds k _ refl (λ b. refl) now) ends
  few_on (steps.Counts_ack {k = k} s from kept came counts step) fit below now ends = few_on step (record { roots = fit.roots; above = fit.above }) below (same_finds k _ refl (λ b. refl) now) ends
  few_on (steps.Runs {k = k} x s given t asked way) fit below now ends =
      let l : Live = after_run x.live (ran p k x.live.me s t) in answer_few k now l _ x.live.parent (asked_own k now fit below asked l refl refl _)
  few_on (steps.Goes_nowhere {k = k} x s given r asked way) fit below now ends = answer_few k now x.live _ x.live.parent (asked_own k now fit below asked x.live refl refl _)
  few_on (steps.Hears_reply {k = k} x weight count a i e answered) fit below now ends = answer_few k now (hears_reply x i weight count e).live _ x.live.parent (λ none. now.reply x weight count a i e answered none ends)
  few_on (steps.Acts {k = k} l site_below a why) fit below now ends = act_few k now l site_below a
  few_on (steps.Does {k = k} s from (nexts.End d) kept why) fit below now ends = decision_few k now s.me d
  few_on (steps.Does {k = k} s from (nexts.Meet d mixed) kept why) fit below now ends = decision_few k now s.me d
  few_on (steps.Does {k = k} s from nexts.Forget kept why) fit below now ends = commit_few k now s.me _
  few_on (steps.Does s from nexts.Rest kept why) fit below now ends = Ends_none
  few_on (steps.Does s from nexts.AckToward kept why) fit below now ends = Ends_none
  few_on (steps.Does s from nexts.SayForgotten kept why) fit below now ends = Ends_none
  few_on (steps.Does s from nexts.SayAck kept why) fit below now ends = Ends_none
  few_on (steps.Refuses n s r is) fit below now ends = Ends_one _ (Is_own s is)
  few_on (steps.Completes_at_once n s d call completes none) fit below now ends = Ends_one _ (Is_own (Some s) call)
  few_on (steps.Makes_record n s r d call makes) fit below now ends = Ends_one _ (Is_own (Some s) call)
  few_on (steps.Forces_given {k = k} n id m b call named) fit below now ends = forced_few k now b _ n (stmts.CommitForce id (Some m)) _ call refl
  few_on (steps.Forces_commit {k = k} n id b call named) fit below now ends = forced_few k now b _ n (stmts.CommitForce id None) _ call refl
  few_on (steps.Forces_rollback {k = k} n id b call named) fit below now ends = forced_few k now b _ n (stmts.RollbackForce id) _ call refl
  few_on (steps.Hides n mixed id s call found) fit below now ends = Ends_one _ (Is_own (Some _) call)
  few_on (steps.Advises n a call) fit below now ends = Ends_one _ (Is_own (Some (stmts.Advise a)) call)
  few_on (steps.Leaves n s d x call leaves has live) fit below now ends = Ends_one _ (Is_own (Some s) call)
  few_on (steps.Sets_read_only n call) fit below now ends = Ends_one _ (Is_own (Some stmts.SetReadOnly) call)
  few_on (steps.Sets_savepoint n x name call has code live) fit below now ends = Ends_one _ (Is_own (Some (stmts.Savepoint name)) call)
  few_on (steps.Images checkpoint) fit below now ends = Ends_none
  few_on (steps.Backs x step from i calls next) fit below now ends = Ends_none
  few_on (steps.Is_back {k = k} x step from calls none) fit below now ends = answer_few k now x.live _ x.live.parent (λ root. calling_own now fit below calls none root)
  few_on (steps.Gives_up n x gives has calls live) fit below now ends = Ends_one _ (now.given n x gives has calls live)
  few_on (steps.Gives_up_commit {k = k} n b (Some l) gives has calls live) fit below now ends = commit_few k now l.me _
  few_on (steps.Gives_up_commit {k = k} n b None gives has calls live) fit below now ends = commit_few k now b _
  few_on (steps.Rests) fit below now ends = Ends_none
  few_on (steps.Sends says why) fit below now ends = Ends_none
  few_on (steps.Calls x s given i table asked way) fit below now ends = Ends_none
  few_on (steps.Opens x s given node link table asked way) fit below now ends = Ends_none
  few_on (steps.Goes_on x from strength g link opened) fit below now ends = Ends_none
  few_on (steps.Opens_branch to parent edge root depth read_at came new) fit below now ends = Ends_none
  few_on (steps.Drops_told l live drops) fit below now ends = Ends_none
  few_on (steps.Drops_asked l from live came parent) fit below now ends = Ends_none
