-- Which calls of sessions a turn ends: a call that is answered is pending no more, and all other calls stay as they were.
use Rattle.std.proofs.Common.{◌≡◌, ◌≢◌, ℕ, ◌==◌, ◌&&◌, ◌||◌, not, Bool, true, false, if◌then◌else◌, List, [], ◌∷◌, is_none, unwrap_or, Option, Some, None, inl, inr, refl, sym, ap, subst, ◌∙◌, arith}
use Rattle.std.proofs.lemmas.Bool.Decides.{nat_tests}
use Rattle.std.proofs.lemmas.Bool.{cond_both, and_parts}
use Rattle.std.specs.List.{list_any}
use Rattle.commit_forget.specs.declared.next.Next.TheVariants as nexts
use Rattle.node_rules.specs.Data.{Stmt, Answer, BranchId, Decision, KeptRow, Phase, Live, Act, Place, Input}
use Rattle.node_rules.specs.Data.acts
use Rattle.node_rules.specs.Data.answers
use Rattle.node_rules.specs.Data.decisions
use Rattle.node_rules.specs.Data.inputs
use Rattle.node_rules.specs.Data.kinds
use Rattle.node_rules.specs.Data.tasks
use Rattle.node_rules.specs.declared.session.PendingCall.{PendingCall}
use Rattle.node_rules.specs.declared.session.PendingCall.TheVariants as pending
use Rattle.node_rules.specs.declared.session.Session.{Session}
use Rattle.node_rules.specs.declared.session.Finished.{Finished}
use Rattle.node_rules.specs.declared.work.Going.{Going}
use Rattle.node_rules.specs.Words.{numbered, set_numbered}
use Rattle.node_rules.specs.Refusals.{dtx}
use Rattle.session_tree.specs.Live.{is_branch, new_edge}
use Rattle.node_rules.specs.NodeState.{NodeState, Branch, TurnDraft, kept_row_id, live_at, with_kept_row}
use Rattle.node_rules.specs.Statement.{ran, after_run}
use Rattle.node_rules.specs.Marks.{node_back}
use Rattle.node_rules.specs.Sessions.{fresh_session, session_at, with_call, needs_rollback, no_transaction, is_commit, commit_is_pending, commit_ended, commit_answer}
use Rattle.node_rules.specs.Calls.{call_pends, answered_sessions, answer_ends, heard_sessions, heard_answer, is_gone, with_edge, hears_reply}
use Rattle.node_rules.specs.Prepare.{abandoned_sessions, abandon_ends, is_alone, act_turn}
use Rattle.node_rules.specs.Commit.{acked_by, decided_sessions, decision_answers}
use Rattle.node_rules.specs.Inputs.{Came}
use Rattle.node_rules.proofs.Steps as steps
use Rattle.node_rules.proofs.Steps.{Step, Asked, Goes_to, Calls_back}
use Rattle.node_rules.proofs.StepLemmas.{branch_found}
use Rattle.node_rules.proofs.StandLemmas.{live_so, session_set}
use Rattle.run_base_laws.specs.CallLaws.{RootWaits}
use Rattle.run_base_laws.proofs.OwnLemmas.{all_found, all_with}
use Rattle.run_base_laws.proofs.RootLemmas.{session_or_before}
use Rattle.run_base_laws.proofs.RestLemmas.{Before, NodeRoots, Works, branch_root, back_before, going_works}
use Rattle.run_base_laws.proofs.RestStepLemmas.{going_of}

-- whether a call is pending
abbrev pub is_pending : PendingCall → Bool
is_pending pending.NoCall = false
is_pending pending.Statement = true
is_pending pending.Commit = true

-- whether the call of a session is pending
abbrev pub pends_at : List Session → ℕ → Bool
pends_at ss n = is_pending (session_at ss n).call

-- whether a call of a session is answered
abbrev pub is_ended : ℕ → List Finished → Bool
is_ended n fs = list_any (λ f. f.session == n) fs

-- what was pending is still, unless it is answered
abbrev pub EndsSo : (ℕ → Bool) → List Session → List Finished → Type 0
EndsSo was zs fs = (n : ℕ) → pends_at zs n ≡ (was n && not (is_ended n fs))

-- the answer of a call
abbrev pub answer_to : ℕ → Answer → List Finished
answer_to n a = (record { session = n; answer = a }) ∷ []

-- ---- tests

pub and_true : (b : Bool) → b ≡ (b && true)
and_true true = refl
and_true false = refl

pub and_false : (b : Bool) → (b && false) ≡ false
and_false true = refl
and_false false = refl

pub ends_by : (q was now : Bool) → (q ≡ true → now ≡ false) → (q ≡ false → now ≡ was) → now ≡ (was && not (q || false))
ends_by true was now one two = one refl ∙ sym (and_false was)
ends_by false was now one two = two refl ∙ and_true was

pub same_number : (n m : ℕ) → (n == m) ≡ true → n ≡ m
same_number n m is = grind (arith, nat_tests)

pub none_of : {A : Type 0} (o : Option A) → is_none o ≡ true → o ≡ None
none_of None is = refl
none_of (Some a) is = absurd cc

-- a session that has a transaction is there
set_at : (ss : List Session) (n : ℕ) (b : BranchId) (s : Session) (o : Option Session) → numbered ss n ≡ o → (session_at ss n).root ≡ Some b → session_at (set_numbered ss n s) n ≡ s
set_at ss n b s None is has = let none : (session_at ss n).root ≡ None = ap (λ o. (unwrap_or o fresh_session).root) is in absurd (cc (none, has))
set_at ss n b s (Some x) is has = session_set ss n x s is

pub set_here : (ss : List Session) (n : ℕ) (b : BranchId) (s : Session) → (session_at ss n).root ≡ Some b → session_at (set_numbered ss n s) n ≡ s
set_here ss n b s has = set_at ss n b s (numbered ss n) refl has

-- ---- changes of sessions

-- the same once more
pub ends_after : (was now : ℕ → Bool) (zs : List Session) (fs : List Finished) → ((n : ℕ) → now n ≡ was n) → EndsSo now zs fs → EndsSo was zs fs
ends_after was now zs fs same ends n = ends n ∙ ap (λ q. q && not (is_ended n fs)) (same n)

module _ (ss : List Session) where
  pub ends_same : EndsSo (pends_at ss) ss []
  ends_same n = and_true (pends_at ss n)

  -- a session with the same call
  pub keeps_call : (n : ℕ) (s : Session) → s.call ≡ (session_at ss n).call → (m : ℕ) → pends_at (set_numbered ss n s) m ≡ pends_at ss m
  keeps_call n s same m = elim (session_or_before ss n m s) [
    | inl still ↦ ap (λ z. is_pending z.call) still
    | inr new ↦ ap (λ z. is_pending z.call) new.1 ∙ (ap is_pending same ∙ ap (pends_at ss) new.0)
  ]

  -- a call that is answered
  pub ends_here : (n : ℕ) (b : BranchId) (s : Session) → s.call ≡ pending.NoCall → (a : Answer) → (session_at ss n).root ≡ Some b → EndsSo (pends_at ss) (set_numbered ss n s) (answer_to n a)
  ends_here n b s free a has m =
      ends_by (n == m) (pends_at ss m) (pends_at (set_numbered ss n s) m)
      (λ here. ap (pends_at (set_numbered ss n s)) (sym (same_number n m here)) ∙ (ap (λ z. is_pending z.call) (set_here ss n b s has) ∙ ap is_pending free))
      (λ other. elim (session_or_before ss n m s) [
        | inl still ↦ ap (λ z. is_pending z.call) still
        | inr new ↦ absurd (let is : n ≡ m = new.0 in grind (arith, nat_tests))
      ])

  -- a call that is made
  pub pends_here : (n : ℕ) (b : BranchId) (s : Session) → is_pending s.call ≡ true → (session_at ss n).root ≡ Some b → EndsSo (λ m. pends_at ss m || (n == m)) (set_numbered ss n s) []
  pends_here n b s made has m = by (n == m) refl
    where
      by : (q : Bool) → (n == m) ≡ q → pends_at (set_numbered ss n s) m ≡ ((pends_at ss m || (n == m)) && true)
      by true here =
          ap (pends_at (set_numbered ss n s)) (sym (same_number n m here)) ∙ (ap (λ z. is_pending z.call) (set_here ss n b s has) ∙ (made ∙ (let all : true ≡ ((pends_at ss m || (n == m)) && true) = grind (arith, here) in all)))
      by false other = elim (session_or_before ss n m s) [
        | inl still ↦ ap (λ z. is_pending z.call) still ∙ (let all : pends_at ss m ≡ ((pends_at ss m || (n == m)) && true) = grind (arith, other) in all)
        | inr new ↦ absurd (let is : n ≡ m = new.0 in grind (arith, nat_tests))
      ]

  -- one that pends already
  pends_still : (n : ℕ) (s : Session) → is_pending s.call ≡ true → pends_at ss n ≡ true → EndsSo (pends_at ss) (set_numbered ss n s) []
  pends_still n s made was m = elim (session_or_before ss n m s) [
    | inl still ↦ ap (λ z. is_pending z.call) still ∙ and_true (pends_at ss m)
    | inr new ↦ ap (λ z. is_pending z.call) new.1 ∙ (made ∙ (sym (subst (λ i. pends_at ss i ≡ true) new.0 was) ∙ and_true (pends_at ss m)))
  ]

  -- the COMMIT of a branch
  pub commit_ends : (b : BranchId) (a : Answer) → EndsSo (pends_at ss) (commit_ended ss b) (commit_answer ss b a)
  commit_ends b a = by (commit_is_pending ss b) refl
    where
      by : (q : Bool) → commit_is_pending ss b ≡ q
          → EndsSo (pends_at ss) (if q then set_numbered ss b.session (no_transaction (session_at ss b.session)) else ss) (if q then answer_to b.session a else [])
      by true is = ends_here b.session b (no_transaction (session_at ss b.session)) refl a (branch_found b (session_at ss b.session).root (and_parts (is_branch b (session_at ss b.session).root) (is_commit (session_at ss b.session).call) is).0)
      by false is = ends_same

  pub commit_if_ends : (here : Bool) (b : BranchId) (a : Answer) → EndsSo (pends_at ss) (if here then commit_ended ss b else ss) (if here then commit_answer ss b a else [])
  commit_if_ends true b a = commit_ends b a
  commit_if_ends false b a = ends_same

  pub answered_ends : (l : Live) (a : Answer) (o : Option BranchId) → (o ≡ None → (session_at ss l.me.session).root ≡ Some l.me) → EndsSo (pends_at ss) (answered_sessions ss l o) (answer_ends l a o)
  answered_ends l a None has = ends_here l.me.session l.me (record (session_at ss l.me.session) { call = pending.NoCall }) refl a (has refl)
  answered_ends l a (Some parent) has = ends_same

  pub going_ends : (l : Live) → (l.parent ≡ None → pends_at ss l.me.session ≡ true) → EndsSo (pends_at ss) (call_pends ss l) []
  going_ends l was =
      cond_both (is_none l.parent) (with_call ss l.me.session pending.Statement) ss (λ zs. EndsSo (pends_at ss) zs [])
      (λ root. pends_still l.me.session (record (session_at ss l.me.session) { call = pending.Statement }) refl (was (none_of l.parent root))) (λ below. ends_same)

  pub heard_calls : (l : Live) (a : Answer) (m : ℕ) → pends_at (heard_sessions ss l a) m ≡ pends_at ss m
  heard_calls l a m =
      cond_both (is_none l.parent && is_gone a) (needs_rollback ss l.me.session (dtx 8 []).code) ss (λ zs. pends_at zs m ≡ pends_at ss m)
      (λ gone. keeps_call l.me.session (record (session_at ss l.me.session) { code = Some (dtx 8 []).code }) refl m) (λ other. refl)

  pub decision_ends : (b : BranchId) (d : Decision) → EndsSo (pends_at ss) (decided_sessions ss b d) (decision_answers ss b d)
  decision_ends b (decisions.Commit n) = ends_same
  decision_ends b decisions.Rollback = commit_ends b _

  pub abandoned_ends : (l : Live) (o : Option BranchId) → EndsSo (pends_at ss) (abandoned_sessions ss l o) (abandon_ends ss l o)
  abandoned_ends l None = commit_ends l.me _
  abandoned_ends l (Some parent) = ends_same

-- the refusal of a gone branch leaves the transaction
pub heard_root : (ss : List Session) (l : Live) (a : Answer) → (session_at ss l.me.session).root ≡ Some l.me → (session_at (heard_sessions ss l a) l.me.session).root ≡ Some l.me
heard_root ss l a has =
    cond_both (is_none l.parent && is_gone a) (needs_rollback ss l.me.session (dtx 8 []).code) ss (λ zs. (session_at zs l.me.session).root ≡ Some l.me)
    (λ gone. ap (λ s. s.root) (set_here ss l.me.session l.me (record (session_at ss l.me.session) { code = Some (dtx 8 []).code }) has) ∙ has) (λ other. has)

-- an act of the prepare phase
pub act_ends : (k : NodeState) (l : Live) (site_below : Bool) (a : Act) → EndsSo (pends_at k.sessions) (act_turn k l site_below a).after.sessions (act_turn k l site_below a).ended
act_ends k l site_below acts.Rest = ends_same k.sessions
act_ends k l site_below acts.AskDown = ends_same k.sessions
act_ends k l site_below acts.SayReadOnly = ends_same k.sessions
act_ends k l site_below acts.SayReady = ends_same k.sessions
act_ends k l site_below acts.Seal = ends_same k.sessions
act_ends k l site_below (acts.SealAndPass i) = ends_same k.sessions
act_ends k l site_below acts.Decide = commit_if_ends k.sessions (is_alone l) l.me _
act_ends k l site_below acts.Finish = commit_ends k.sessions l.me _
act_ends k l site_below acts.Abandon = abandoned_ends k.sessions l l.parent

-- ---- steps

pub acked_before : (input : Input) (k : NodeState) (s : KeptRow) (from : BranchId) → steps.IsKept k s → Came input from s.me kinds.Ack → Before input k → Before input (with_kept_row k (acked_by s from))
acked_before input k s from kept came before = record {
  free = before.free;
  asked = before.asked;
  prepared = before.prepared;
  either = λ not. all_with (λ x. live_at k x.me ≡ None) kept_row_id k.stored.durable.kept (acked_by s from) (before.either not)
      (all_found (λ x. live_at k x.me ≡ None) kept_row_id k.stored.durable.kept s.me s (before.either not) kept);
}

-- a root whose statement goes on has a call pending
going_pends : (c : PendingCall) (phase : Phase) (o : Option Going) (g : Going) → RootWaits c phase o → o ≡ Some g → is_pending c ≡ true
going_pends pending.NoCall phase o g is going = let none = is.1 in absurd (cc (none, going))
going_pends pending.Statement phase o g is going = refl
going_pends pending.Commit phase o g is going = refl

-- an Exec comes to no root, and without a call none goes back
module _ {k : NodeState} {input : Input} (before : Before input k) (no_call : (n : ℕ) (s : Option Stmt) → input ≡ inputs.Call n s → ⊥) where
  asked_below : {x : Branch} {s : Stmt} {given : ℕ} → Asked k input x s given → x.live.parent ≢ None
  asked_below (steps.By_call n x s call rows has code live may) = absurd (no_call n (Some s) call)
  asked_below (steps.By_exec x from call given advice s came live runs) = before.asked from x.live.me call (tasks.Run given advice s) came x.live (live_so k x.live.me x live)

  goes_below : {x : Branch} {step : ℕ} → Goes_to k input x step → x.live.parent ≢ None
  goes_below (steps.By_rollback_to n x name step call has code live set) = absurd (no_call n _ call)
  goes_below (steps.By_back x from call keep came live runs) = before.asked from x.live.me call (tasks.GoBack keep) came x.live (live_so k x.live.me x live)

-- a root whose children are to go back without a call has one pending
pub calling_root : {k : NodeState} {input : Input} → Before input k → ((n : ℕ) (s : Option Stmt) → input ≡ inputs.Call n s → ⊥) → NodeRoots k → {x : Branch} {step from : ℕ} → Calls_back k input x step from → x.live.parent ≡ None
    → (pends_at k.sessions x.live.me.session ≡ true) × ((session_at k.sessions x.live.me.session).root ≡ Some x.live.me)
calling_root {k = k} {input = input} before no_call now (steps.Has_gone j x step goes is) root =
    let was : Before input (node_back j x step) = subst (Before input) is before in
    absurd (goes_below {k = j} {input = input} (record { free = was.free; asked = was.asked; prepared = was.prepared; either = was.either }) no_call goes root)
calling_root {k = k} before no_call now (steps.Has_heard x weight count a i e g step answered going errand plain) root =
    let is = branch_root k now x answered.live root in (going_pends (session_at k.sessions x.live.me.session).call x.live.phase x.work.going g is.waits going, is.root)

module _ (p : Place) (input : Input) (no_call : (n : ℕ) (s : Option Stmt) → input ≡ inputs.Call n s → ⊥) where
  -- each step of an input that is no call
  pub ends_on : {k : NodeState} {d : TurnDraft} → Step p input k d → Before input k → NodeRoots k → EndsSo (pends_at k.sessions) d.after.sessions d.ended
  ends_on (steps.Begins n s read_at call begins range none step) before now = absurd (no_call n (Some s) call)
  ends_on (steps.Counts_call n s call counts step) before now = absurd (no_call n (Some s) call)
  ends_on (steps.Goes_back {k = k} x step goes next) before now = ends_on next (back_before input k x step before) now
  ends_on (steps.Pends n l given call has live code writer step) before now = absurd (no_call n _ call)
  ends_on (steps.Lets_reads_go l comment site_below live begins step) before now = ends_on step (record { free = before.free; asked = before.asked; prepared = before.prepared; either = before.either }) now
  ends_on (steps.Counts_ack {k = k} s from kept came counts step) before now = ends_on step (acked_before input k s from kept came before) now
  ends_on (steps.Runs {k = k} x s given t asked way) before now =
      let l : Live = after_run x.live (ran p k x.live.me s t) in answered_ends k.sessions l _ x.live.parent (λ root. absurd (asked_below before no_call asked root))
  ends_on (steps.Goes_nowhere {k = k} x s given r asked way) before now = answered_ends k.sessions x.live _ x.live.parent (λ root. absurd (asked_below before no_call asked root))
  ends_on (steps.Calls {k = k} x s given i table asked way) before now = going_ends k.sessions x.live (λ root. absurd (asked_below before no_call asked root))
  ends_on (steps.Opens {k = k} x s given node link table asked way) before now = going_ends k.sessions x.live (λ root. absurd (asked_below before no_call asked root))
  ends_on (steps.Goes_on {k = k} x from strength g link opened) before now =
      going_ends k.sessions (with_edge x (new_edge from link strength)).live (λ root. going_pends (session_at k.sessions x.live.me.session).call x.live.phase x.work.going g (branch_root k now x opened.live root).waits opened.going)
  ends_on (steps.Hears_reply {k = k} x weight count a i e answered) before now =
      let y : Branch = hears_reply x i weight count e in
      let zs : List Session = heard_sessions k.sessions y.live a in
      let g = going_of x answered.from answered.call i e answered.waits in
      let was : Works k.sessions x = going_works k now x g.0 answered.live g.1 in
      ends_after (pends_at k.sessions) (pends_at zs) _ _ (heard_calls k.sessions y.live a) (answered_ends zs y.live (heard_answer y.live e.link a) x.live.parent (λ root. heard_root k.sessions y.live a (was.root root)))
  ends_on (steps.Backs {k = k} x step from i calls next) before now = going_ends k.sessions x.live (λ root. (calling_root before no_call now calls root).0)
  ends_on (steps.Is_back {k = k} x step from calls none) before now = answered_ends k.sessions x.live _ x.live.parent (λ root. (calling_root before no_call now calls root).1)
  ends_on (steps.Opens_branch {k = k} to parent edge root depth read_at came new) before now = ends_same k.sessions
  ends_on (steps.Acts {k = k} l site_below a why) before now = act_ends k l site_below a
  ends_on (steps.Does {k = k} s from (nexts.End d) kept why) before now = decision_ends k.sessions s.me d
  ends_on (steps.Does {k = k} s from (nexts.Meet d mixed) kept why) before now = decision_ends k.sessions s.me d
  ends_on (steps.Does {k = k} s from nexts.Forget kept why) before now = commit_ends k.sessions s.me _
  ends_on (steps.Does {k = k} s from nexts.Rest kept why) before now = ends_same k.sessions
  ends_on (steps.Does {k = k} s from nexts.AckToward kept why) before now = ends_same k.sessions
  ends_on (steps.Does {k = k} s from nexts.SayForgotten kept why) before now = ends_same k.sessions
  ends_on (steps.Does {k = k} s from nexts.SayAck kept why) before now = ends_same k.sessions
  ends_on (steps.Refuses n s r is) before now = absurd (no_call n s is)
  ends_on (steps.Completes_at_once n s d call completes none) before now = absurd (no_call n _ call)
  ends_on (steps.Makes_record n s r d call makes) before now = absurd (no_call n _ call)
  ends_on (steps.Forces_given n id m b call named) before now = absurd (no_call n _ call)
  ends_on (steps.Forces_commit n id b call named) before now = absurd (no_call n _ call)
  ends_on (steps.Forces_rollback n id b call named) before now = absurd (no_call n _ call)
  ends_on (steps.Hides n mixed id s call found) before now = absurd (no_call n _ call)
  ends_on (steps.Advises n a call) before now = absurd (no_call n _ call)
  ends_on (steps.Leaves n s d x call ends has live) before now = absurd (no_call n _ call)
  ends_on (steps.Sets_read_only n call) before now = absurd (no_call n _ call)
  ends_on (steps.Sets_savepoint n x name call has code live) before now = absurd (no_call n _ call)
  ends_on (steps.Gives_up {k = k} n x gives has calls live) before now =
      let zs : List Session = with_call k.sessions n pending.NoCall in
      let code : Session = record (session_at zs n) { code = Some (dtx 3 []).code } in
      λ m. keeps_call zs n code refl m ∙ ends_here k.sessions n x.live.me (record (session_at k.sessions n) { call = pending.NoCall }) refl (answers.Refused (dtx 3 [])) has m
  ends_on (steps.Gives_up_commit {k = k} n b (Some l) gives has calls live) before now = commit_ends k.sessions l.me _
  ends_on (steps.Gives_up_commit {k = k} n b None gives has calls live) before now = commit_ends k.sessions b _
  ends_on (steps.Drops_told {k = k} l live drops) before now = ends_same k.sessions
  ends_on (steps.Drops_asked {k = k} l from live came parent) before now = ends_same k.sessions
  ends_on (steps.Images {k = k} is) before now = ends_same k.sessions
  ends_on (steps.Rests {k = k}) before now = ends_same k.sessions
  ends_on (steps.Sends {k = k} says why) before now = ends_same k.sessions
