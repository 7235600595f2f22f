-- The advice of a session: ALTER SESSION ADVISE sets it, and nothing else that a node does touches it.
use Rattle.std.proofs.Common.{◌≡◌, ℕ, zero, suc, ◌+◌, ◌&&◌, Bool, true, false, if◌then◌else◌, is_none, List, [], replicate, slice_get, unwrap_or, Option, Some, None, inl, inr, refl, ap, ◌∙◌}
use Rattle.std.proofs.lemmas.Bool.{cond_both}
use Rattle.node_rules.specs.Data.{Advice, Answer, BranchId, Decision, Input, Live, Place}
use Rattle.node_rules.specs.Data.acts
use Rattle.node_rules.specs.Data.decisions
use Rattle.node_rules.specs.Data.nexts
use Rattle.node_rules.specs.Data.stmts
use Rattle.node_rules.specs.declared.session.PendingCall.{PendingCall}
use Rattle.node_rules.specs.declared.session.PendingCall.TheVariants as pending
use Rattle.node_rules.specs.declared.session.Session.{Session}
use Rattle.node_rules.specs.Words.{set_numbered}
use Rattle.node_rules.specs.Refusals.{dtx}
use Rattle.node_rules.specs.Calls.{answered_sessions, call_pends, heard_sessions, is_gone}
use Rattle.node_rules.specs.Client.{new_root}
use Rattle.node_rules.specs.Commit.{decided_sessions}
use Rattle.node_rules.specs.Inputs.{IsCall}
use Rattle.node_rules.specs.NodeState.{NodeState, TurnDraft}
use Rattle.node_rules.specs.Prepare.{abandoned_sessions, is_alone}
use Rattle.node_rules.specs.Sessions.{commit_ended, commit_is_pending, fresh_session, needs_rollback, no_transaction, session_at, with_call, with_call_of, with_root}
use Rattle.node_rules.proofs.Steps as steps
use Rattle.node_rules.proofs.Steps.{Step}
use Rattle.run_base_laws.proofs.RootLemmas.{session_or_before}

-- the advice of a session
abbrev pub advice_at : List Session → ℕ → Option Advice
advice_at ss n = (session_at ss n).advice

-- each session has the same advice
abbrev pub SameAdvice : List Session → List Session → Type 0
SameAdvice ss rs = (m : ℕ) → advice_at rs m ≡ advice_at ss m

module _ (ss : List Session) where
  -- a session that is set keeps its advice
  set_advice : (n : ℕ) (s : Session) → s.advice ≡ advice_at ss n → SameAdvice ss (set_numbered ss n s)
  set_advice n s same m = elim (session_or_before ss n m s) [
    | inl before ↦ ap (λ (x : Session). x.advice) before
    | inr new ↦ ap (λ (x : Session). x.advice) new.1 ∙ (same ∙ ap (advice_at ss) new.0)
  ]

  call_advice : (n : ℕ) (c : PendingCall) → SameAdvice ss (with_call ss n c)
  call_advice n c = set_advice n (record (session_at ss n) { call = c }) refl

  needs_advice : (n code : ℕ) → SameAdvice ss (needs_rollback ss n code)
  needs_advice n code = set_advice n (record (session_at ss n) { code = Some code }) refl

  done_advice : (n : ℕ) → SameAdvice ss (set_numbered ss n (no_transaction (session_at ss n)))
  done_advice n = set_advice n (no_transaction (session_at ss n)) refl

  root_advice : (n : ℕ) (b : BranchId) → SameAdvice ss (with_root ss n b)
  root_advice n b = set_advice n (record (session_at ss n) { seq = b.seq; root = Some b; calls = 0 }) refl

  counted_advice : (n : ℕ) (root : Option BranchId) → SameAdvice ss (with_call_of ss n root)
  counted_advice n None = λ m. refl
  counted_advice n (Some root) = set_advice n (record (session_at ss n) { calls = (session_at ss n).calls + 1 }) refl

  ended_advice : (root : BranchId) → SameAdvice ss (commit_ended ss root)
  ended_advice root = cond_both (commit_is_pending ss root) (set_numbered ss root.session (no_transaction (session_at ss root.session))) ss (SameAdvice ss) (λ is. done_advice root.session) (λ other m. refl)

  pub pends_advice : (l : Live) → SameAdvice ss (call_pends ss l)
  pends_advice l = cond_both (is_none l.parent) (with_call ss l.me.session pending.Statement) ss (SameAdvice ss) (λ root. call_advice l.me.session pending.Statement) (λ below m. refl)

  answered_advice : (l : Live) (parent : Option BranchId) → SameAdvice ss (answered_sessions ss l parent)
  answered_advice l None = call_advice l.me.session pending.NoCall
  answered_advice l (Some parent) = λ m. refl

  heard_advice : (l : Live) (a : Answer) → SameAdvice ss (heard_sessions ss l a)
  heard_advice l a =
      cond_both (is_none l.parent && is_gone a) (needs_rollback ss l.me.session (dtx 8 []).code) ss (SameAdvice ss) (λ gone. needs_advice l.me.session (dtx 8 []).code) (λ other m. refl)

  decided_advice : (b : BranchId) (d : Decision) → SameAdvice ss (decided_sessions ss b d)
  decided_advice b (decisions.Commit n) = λ m. refl
  decided_advice b decisions.Rollback = ended_advice b

  abandoned_advice : (l : Live) (parent : Option BranchId) → SameAdvice ss (abandoned_sessions ss l parent)
  abandoned_advice l None = ended_advice l.me
  abandoned_advice l (Some parent) = λ m. refl

  ended_if_advice : (here : Bool) (root : BranchId) → SameAdvice ss (if here then commit_ended ss root else ss)
  ended_if_advice true root = ended_advice root
  ended_if_advice false root = λ m. refl

-- in two changes
both : (ss rs qs : List Session) → SameAdvice ss rs → SameAdvice rs qs → SameAdvice ss qs
both ss rs qs first second m = second m ∙ first m

module _ (p : Place) (input : Input) (none : (n : ℕ) (a : Option Advice) → IsCall input n (stmts.Advise a) → ⊥) where
  pub advice_on : {k : NodeState} {d : TurnDraft} → Step p input k d → SameAdvice k.sessions d.after.sessions
  advice_on (steps.Begins {k = k} n s read_at call begins range free step) = both _ _ _ (root_advice k.sessions n (new_root p k n)) (advice_on step)
  advice_on (steps.Counts_call {k = k} n s call counts step) = both _ _ _ (counted_advice k.sessions n (session_at k.sessions n).root) (advice_on step)
  advice_on (steps.Goes_back x step goes next) = advice_on next
  advice_on (steps.Pends {k = k} n l given call has live code writer step) = both _ _ _ (call_advice k.sessions n pending.Commit) (advice_on step)
  advice_on (steps.Lets_reads_go l comment q live begins step) = advice_on step
  advice_on (steps.Counts_ack s from kept came counts step) = advice_on step
  advice_on (steps.Runs {k = k} x s given t asked way) = answered_advice k.sessions x.live x.live.parent
  advice_on (steps.Goes_nowhere {k = k} x s given r asked way) = answered_advice k.sessions x.live x.live.parent
  advice_on (steps.Calls {k = k} x s given i table asked way) = pends_advice k.sessions x.live
  advice_on (steps.Opens {k = k} x s given node link table asked way) = pends_advice k.sessions x.live
  advice_on (steps.Goes_on {k = k} x from strength g link opened) = pends_advice k.sessions x.live
  advice_on (steps.Hears_reply {k = k} x weight count a i e answered) = both _ _ _ (heard_advice k.sessions x.live a) (answered_advice (heard_sessions k.sessions x.live a) x.live x.live.parent)
  advice_on (steps.Backs {k = k} x step from i calls next) = pends_advice k.sessions x.live
  advice_on (steps.Is_back {k = k} x step from calls none) = answered_advice k.sessions x.live x.live.parent
  advice_on (steps.Opens_branch to parent edge root depth read_at came new) = λ m. refl
  advice_on (steps.Acts {k = k} l q acts.Decide why) = ended_if_advice k.sessions (is_alone l) l.me
  advice_on (steps.Acts {k = k} l q acts.Finish why) = ended_advice k.sessions l.me
  advice_on (steps.Acts {k = k} l q acts.Abandon why) = abandoned_advice k.sessions l l.parent
  advice_on (steps.Acts l q acts.Rest why) = λ m. refl
  advice_on (steps.Acts l q acts.AskDown why) = λ m. refl
  advice_on (steps.Acts l q acts.SayReady why) = λ m. refl
  advice_on (steps.Acts l q acts.SayReadOnly why) = λ m. refl
  advice_on (steps.Acts l q acts.Seal why) = λ m. refl
  advice_on (steps.Acts l q (acts.SealAndPass i) why) = λ m. refl
  advice_on (steps.Drops_told l live drops) = λ m. refl
  advice_on (steps.Drops_asked l from live came parent) = λ m. refl
  advice_on (steps.Does s from nexts.Rest kept why) = λ m. refl
  advice_on (steps.Does s from nexts.AckToward kept why) = λ m. refl
  advice_on (steps.Does s from nexts.SayForgotten kept why) = λ m. refl
  advice_on (steps.Does s from nexts.SayAck kept why) = λ m. refl
  advice_on (steps.Does {k = k} s from (nexts.End d) kept why) = decided_advice k.sessions s.me d
  advice_on (steps.Does {k = k} s from (nexts.Meet d mixed) kept why) = decided_advice k.sessions s.me d
  advice_on (steps.Does {k = k} s from nexts.Forget kept why) = ended_advice k.sessions s.me
  advice_on (steps.Forces_given {k = k} n id m b call named) = ended_advice k.sessions b
  advice_on (steps.Forces_commit {k = k} n id b call named) = ended_advice k.sessions b
  advice_on (steps.Forces_rollback {k = k} n id b call named) = ended_advice k.sessions b
  advice_on (steps.Advises n a call) = absurd (none n a call)
  advice_on (steps.Leaves {k = k} n s d x call ends has live) = done_advice k.sessions n
  advice_on (steps.Gives_up {k = k} n x gives has calls live) = both _ _ _ (call_advice k.sessions n pending.NoCall) (needs_advice (with_call k.sessions n pending.NoCall) n (dtx 3 []).code)
  advice_on (steps.Gives_up_commit {k = k} n b (Some l) gives has calls live) = ended_advice k.sessions l.me
  advice_on (steps.Gives_up_commit {k = k} n b None gives has calls live) = ended_advice k.sessions b
  advice_on (steps.Makes_record n s r d call makes) = λ m. refl
  advice_on (steps.Hides n mixed id s call found) = λ m. refl
  advice_on (steps.Rests) = λ m. refl
  advice_on (steps.Sends says why) = λ m. refl
  advice_on (steps.Refuses n s r is) = λ m. refl
  advice_on (steps.Completes_at_once n s d call completes free) = λ m. refl
  advice_on (steps.Sets_read_only n call) = λ m. refl
  advice_on (steps.Sets_savepoint n x name call has code live) = λ m. refl
  advice_on (steps.Images checkpoint) = λ m. refl

-- ---- sessions that have done nothing

fresh_slice : (m i : ℕ) → (unwrap_or (slice_get (replicate m fresh_session) i) fresh_session).advice ≡ None
fresh_slice zero i = refl
fresh_slice (suc m) zero = refl
fresh_slice (suc m) (suc i) = fresh_slice m i

pub fresh_advice : (n : ℕ) → advice_at (replicate 64 fresh_session) n ≡ None
fresh_advice zero = refl
fresh_advice (suc i) = fresh_slice 64 i
