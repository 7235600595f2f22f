-- The calls of a transaction that a session counts: with a plain input, which is neither a call within a transaction nor BACK, their number stays.
use Rattle.std.proofs.Common.{◌≡◌, ℕ, ◌&&◌, ◌||◌, not, Bool, true, false, if◌then◌else◌, is_none, List, [], Option, Some, None, inl, inr, refl, ap, subst, ◌∙◌}
use Rattle.std.proofs.lemmas.Bool.{cond_both, or_left, or_right}
use Rattle.node_rules.specs.Data.{Answer, BranchId, Decision, Input, Live, Place, Stmt}
use Rattle.node_rules.specs.Data.acts
use Rattle.node_rules.specs.Data.decisions
use Rattle.node_rules.specs.Data.nexts
use Rattle.node_rules.specs.declared.session.PendingCall.{PendingCall}
use Rattle.node_rules.specs.declared.session.PendingCall.TheVariants as pending
use Rattle.node_rules.specs.declared.session.Session.{Session}
use Rattle.node_rules.specs.Words.{set_numbered}
use Rattle.node_rules.specs.Refusals.{dtx}
use Rattle.node_rules.specs.Calls.{answered_sessions, call_pends, heard_sessions, is_gone}
use Rattle.node_rules.specs.Commit.{decided_sessions}
use Rattle.node_rules.specs.Inputs.{IsCall}
use Rattle.node_rules.specs.NodeState.{NodeState, TurnDraft}
use Rattle.node_rules.specs.Prepare.{abandoned_sessions, is_alone}
use Rattle.node_rules.specs.Sessions.{commit_ended, commit_is_pending, needs_rollback, no_transaction, session_at, with_call}
use Rattle.node_rules.proofs.Steps as steps
use Rattle.node_rules.proofs.Steps.{Step}
use Rattle.run_base_laws.proofs.BeginLemmas.{begins_are}
use Rattle.run_base_laws.proofs.RootLemmas.{session_or_before}
use Rattle.run_rules.specs.Runs.{begins_transaction, is_counted}
use Rattle.tree_trail_laws.proofs.LowerLivesLemmas.{bool_cases}
use Rattle.tree_trail_laws.proofs.OwnStepLemmas.{IsPlain, counted_is}

-- the calls that a session counts
abbrev calls_of : List Session → ℕ → ℕ
calls_of ss n = (session_at ss n).calls

-- each session counts as many
abbrev pub SameCalls : List Session → List Session → Type 0
SameCalls ss rs = (m : ℕ) → calls_of rs m ≡ calls_of ss m

module _ (ss : List Session) where
  -- a session that is set keeps the number of its calls
  set_calls : (n : ℕ) (s : Session) → s.calls ≡ calls_of ss n → SameCalls ss (set_numbered ss n s)
  set_calls n s same m = elim (session_or_before ss n m s) [
    | inl before ↦ ap (λ (x : Session). x.calls) before
    | inr new ↦ ap (λ (x : Session). x.calls) new.1 ∙ (same ∙ ap (calls_of ss) new.0)
  ]

  call_calls : (n : ℕ) (c : PendingCall) → SameCalls ss (with_call ss n c)
  call_calls n c = set_calls n (record (session_at ss n) { call = c }) refl

  needs_calls : (n code : ℕ) → SameCalls ss (needs_rollback ss n code)
  needs_calls n code = set_calls n (record (session_at ss n) { code = Some code }) refl

  done_calls : (n : ℕ) → SameCalls ss (set_numbered ss n (no_transaction (session_at ss n)))
  done_calls n = set_calls n (no_transaction (session_at ss n)) refl

  ended_calls : (root : BranchId) → SameCalls ss (commit_ended ss root)
  ended_calls root = cond_both (commit_is_pending ss root) (set_numbered ss root.session (no_transaction (session_at ss root.session))) ss (SameCalls ss) (λ is. done_calls root.session) (λ other m. refl)

  pends_calls : (l : Live) → SameCalls ss (call_pends ss l)
  pends_calls l = cond_both (is_none l.parent) (with_call ss l.me.session pending.Statement) ss (SameCalls ss) (λ root. call_calls l.me.session pending.Statement) (λ below m. refl)

  pub answered_calls : (l : Live) (parent : Option BranchId) → SameCalls ss (answered_sessions ss l parent)
  answered_calls l None = call_calls l.me.session pending.NoCall
  answered_calls l (Some parent) = λ m. refl

  heard_calls : (l : Live) (a : Answer) → SameCalls ss (heard_sessions ss l a)
  heard_calls l a =
      cond_both (is_none l.parent && is_gone a) (needs_rollback ss l.me.session (dtx 8 []).code) ss (SameCalls ss) (λ gone. needs_calls l.me.session (dtx 8 []).code) (λ other m. refl)

  decided_calls : (b : BranchId) (d : Decision) → SameCalls ss (decided_sessions ss b d)
  decided_calls b (decisions.Commit n) = λ m. refl
  decided_calls b decisions.Rollback = ended_calls b

  abandoned_calls : (l : Live) (parent : Option BranchId) → SameCalls ss (abandoned_sessions ss l parent)
  abandoned_calls l None = ended_calls l.me
  abandoned_calls l (Some parent) = λ m. refl

  ended_if_calls : (here : Bool) (root : BranchId) → SameCalls ss (if here then commit_ended ss root else ss)
  ended_if_calls true root = ended_calls root
  ended_if_calls false root = λ m. refl

-- in two changes
both : (ss rs qs : List Session) → SameCalls ss rs → SameCalls rs qs → SameCalls ss qs
both ss rs qs first second m = second m ∙ first m

-- ---- a plain input

module _ (p : Place) (input : Input) (plain : IsPlain input) where
  -- it begins no transaction, and no call of one comes with it
  pub begins_none : (n : ℕ) (s : Stmt) → IsCall input n s → begins_transaction s ≡ true → ⊥
  begins_none n s call begins =
      let not_so : not (begins_transaction s || is_counted s) ≡ true = subst IsPlain call plain in
      let so : (begins_transaction s || is_counted s) ≡ true = or_left (begins_transaction s) (is_counted s) begins in
      absurd (cc (not_so, so))

  plain_counts : (n : ℕ) (s : Stmt) → IsCall input n s → is_counted s ≡ true → ⊥
  plain_counts n s call counts =
      let not_so : not (begins_transaction s || is_counted s) ≡ true = subst IsPlain call plain in
      let so : (begins_transaction s || is_counted s) ≡ true = or_right (begins_transaction s) (is_counted s) counts in
      absurd (cc (not_so, so))

  pub counts_none : (n : ℕ) (s : Stmt) → IsCall input n s → is_counted s ≡ false
  counts_none n s call = bool_cases (is_counted s) _ (λ counts. absurd (plain_counts n s call counts)) (λ other. other)

  -- and each session has as many calls after it
  pub same_on : {k : NodeState} {d : TurnDraft} → Step p input k d → SameCalls k.sessions d.after.sessions
  same_on (steps.Begins n s read_at call begins range free step) = absurd (begins_none n s call (begins_are begins))
  same_on (steps.Counts_call n s call counts step) = absurd (plain_counts n s call (counted_is s counts))
  same_on (steps.Goes_back x step goes next) = same_on next
  same_on (steps.Pends {k = k} n l given call has live code writer step) = both _ _ _ (call_calls k.sessions n pending.Commit) (same_on step)
  same_on (steps.Lets_reads_go l comment q live begins step) = same_on step
  same_on (steps.Counts_ack s from kept came counts step) = same_on step
  same_on (steps.Runs {k = k} x s given t asked way) = answered_calls k.sessions x.live x.live.parent
  same_on (steps.Goes_nowhere {k = k} x s given r asked way) = answered_calls k.sessions x.live x.live.parent
  same_on (steps.Calls {k = k} x s given i table asked way) = pends_calls k.sessions x.live
  same_on (steps.Opens {k = k} x s given node link table asked way) = pends_calls k.sessions x.live
  same_on (steps.Goes_on {k = k} x from strength g link opened) = pends_calls k.sessions x.live
  same_on (steps.Hears_reply {k = k} x weight count a i e answered) = both _ _ _ (heard_calls k.sessions x.live a) (answered_calls (heard_sessions k.sessions x.live a) x.live x.live.parent)
  same_on (steps.Backs {k = k} x step from i calls next) = pends_calls k.sessions x.live
  same_on (steps.Is_back {k = k} x step from calls none) = answered_calls k.sessions x.live x.live.parent
  same_on (steps.Opens_branch to parent edge root depth read_at came new) = λ m. refl
  same_on (steps.Acts {k = k} l q acts.Decide why) = ended_if_calls k.sessions (is_alone l) l.me
  same_on (steps.Acts {k = k} l q acts.Finish why) = ended_calls k.sessions l.me
  same_on (steps.Acts {k = k} l q acts.Abandon why) = abandoned_calls k.sessions l l.parent
  same_on (steps.Acts l q acts.Rest why) = λ m. refl
  same_on (steps.Acts l q acts.AskDown why) = λ m. refl
  same_on (steps.Acts l q acts.SayReady why) = λ m. refl
  same_on (steps.Acts l q acts.SayReadOnly why) = λ m. refl
  same_on (steps.Acts l q acts.Seal why) = λ m. refl
  same_on (steps.Acts l q (acts.SealAndPass i) why) = λ m. refl
  same_on (steps.Drops_told l live drops) = λ m. refl
  same_on (steps.Drops_asked l from live came parent) = λ m. refl
  same_on (steps.Does s from nexts.Rest kept why) = λ m. refl
  same_on (steps.Does s from nexts.AckToward kept why) = λ m. refl
  same_on (steps.Does s from nexts.SayForgotten kept why) = λ m. refl
  same_on (steps.Does s from nexts.SayAck kept why) = λ m. refl
  same_on (steps.Does {k = k} s from (nexts.End d) kept why) = decided_calls k.sessions s.me d
  same_on (steps.Does {k = k} s from (nexts.Meet d mixed) kept why) = decided_calls k.sessions s.me d
  same_on (steps.Does {k = k} s from nexts.Forget kept why) = ended_calls k.sessions s.me
  same_on (steps.Forces_given {k = k} n id m b call named) = ended_calls k.sessions b
  same_on (steps.Forces_commit {k = k} n id b call named) = ended_calls k.sessions b
  same_on (steps.Forces_rollback {k = k} n id b call named) = ended_calls k.sessions b
  same_on (steps.Advises {k = k} n a call) = set_calls k.sessions n (record (session_at k.sessions n) { advice = a }) refl
  same_on (steps.Leaves {k = k} n s d x call ends has live) = done_calls k.sessions n
  same_on (steps.Gives_up {k = k} n x gives has calls live) = both _ _ _ (call_calls k.sessions n pending.NoCall) (needs_calls (with_call k.sessions n pending.NoCall) n (dtx 3 []).code)
  same_on (steps.Gives_up_commit {k = k} n b (Some l) gives has calls live) = ended_calls k.sessions l.me
  same_on (steps.Gives_up_commit {k = k} n b None gives has calls live) = ended_calls k.sessions b
  same_on (steps.Makes_record n s r d call makes) = λ m. refl
  same_on (steps.Hides n mixed id s call found) = λ m. refl
  same_on (steps.Rests) = λ m. refl
  same_on (steps.Sends says why) = λ m. refl
  same_on (steps.Refuses n s r is) = λ m. refl
  same_on (steps.Completes_at_once n s d call completes free) = λ m. refl
  same_on (steps.Sets_read_only n call) = λ m. refl
  same_on (steps.Sets_savepoint n x name call has code live) = λ m. refl
  same_on (steps.Images checkpoint) = λ m. refl
