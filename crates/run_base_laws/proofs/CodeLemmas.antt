-- A transaction that needs a rollback needs it until it ends: no step of a node takes the code from its session before.
use Rattle.std.proofs.Common.{◌≡◌, ℕ, ◌&&◌, Bool, true, false, if◌then◌else◌, List, [], is_none, Option, Some, None, inl, inr, refl, sym, ap, subst, ◌∙◌, ◌+◌}
use Rattle.std.proofs.lemmas.Bool.{cond_both}
use Rattle.commit_forget.specs.declared.next.Next.TheVariants as nexts
use Rattle.node_rules.specs.Data.{Answer, BranchId, Decision, Live, Place, Input}
use Rattle.node_rules.specs.Data.acts
use Rattle.node_rules.specs.Data.decisions
use Rattle.node_rules.specs.declared.session.PendingCall.{PendingCall}
use Rattle.node_rules.specs.declared.session.PendingCall.TheVariants as pending
use Rattle.node_rules.specs.declared.session.Session.{Session}
use Rattle.node_rules.specs.Words.{set_numbered}
use Rattle.node_rules.specs.Refusals.{dtx}
use Rattle.session_tree.specs.Live.{new_edge}
use Rattle.node_rules.specs.NodeState.{NodeState, TurnDraft}
use Rattle.node_rules.specs.Statement.{ran, after_run}
use Rattle.node_rules.specs.Sessions.{session_at, with_call, needs_rollback, no_transaction, commit_is_pending, commit_ended, with_call_of}
use Rattle.node_rules.specs.Calls.{call_pends, answered_sessions, heard_sessions, is_gone, with_edge, hears_reply}
use Rattle.node_rules.specs.Prepare.{abandoned_sessions, is_alone}
use Rattle.node_rules.specs.Commit.{decided_sessions}
use Rattle.node_rules.proofs.Steps as steps
use Rattle.node_rules.proofs.Steps.{Step}
use Rattle.node_rules.specs.Client.{counted}
use Rattle.run_base_laws.proofs.RootLemmas.{session_or_before}

-- a session with the same transaction, which needs a rollback where it did
abbrev SameTran : Session → Session → Type 0
SameTran s z = (z.root ≡ s.root) × (z.code ≡ None → s.code ≡ None)

-- where the transaction is the same, it needs a rollback where it did
abbrev Needs : Session → Session → Type 0
Needs s z = (b : BranchId) → s.root ≡ Some b → z.root ≡ Some b → z.code ≡ None → s.code ≡ None

-- of all sessions
abbrev AllSame : List Session → List Session → Type 0
AllSame ss zs = (n : ℕ) → SameTran (session_at ss n) (session_at zs n)

abbrev pub AllNeed : List Session → List Session → Type 0
AllNeed ss zs = (n : ℕ) → Needs (session_at ss n) (session_at zs n)

same_need : (ss zs : List Session) → AllSame ss zs → AllNeed ss zs
same_need ss zs same n b was is none = (same n).1 none

no_change : (ss : List Session) → AllNeed ss ss
no_change ss n b was is none = none

-- first the same, and then another change
then_need : (ss zs xs : List Session) → AllSame ss zs → AllNeed zs xs → AllNeed ss xs
then_need ss zs xs same need n b was is none = (same n).1 (need n b ((same n).0 ∙ was) is none)

module _ (ss : List Session) where
  set_same : (n : ℕ) (s : Session) → SameTran (session_at ss n) s → AllSame ss (set_numbered ss n s)
  set_same n s same m = elim (session_or_before ss n m s) [
    | inl still ↦ subst (λ z. SameTran (session_at ss m) z) (sym still) (refl, (λ none. none))
    | inr new ↦ subst (λ z. SameTran (session_at ss m) z) (sym new.1) (subst (λ i. SameTran (session_at ss i) s) new.0 same)
  ]

  call_same : (n : ℕ) (c : PendingCall) → AllSame ss (with_call ss n c)
  call_same n c = set_same n (record (session_at ss n) { call = c }) (refl, (λ none. none))

  counted_same : (n : ℕ) (o : Option BranchId) → AllSame ss (with_call_of ss n o)
  counted_same n None = λ m. (refl, (λ none. none))
  counted_same n (Some root) = set_same n (record (session_at ss n) { calls = (session_at ss n).calls + 1 }) (refl, (λ none. none))

  needs_same : (n code : ℕ) → AllSame ss (needs_rollback ss n code)
  needs_same n code = set_same n (record (session_at ss n) { code = Some code }) (refl, (λ none. absurd cc))

  -- a transaction ends
  done_needs : (n : ℕ) → AllNeed ss (set_numbered ss n (no_transaction (session_at ss n)))
  done_needs n m b was is none = elim (session_or_before ss n m (no_transaction (session_at ss n))) [
    | inl still ↦ ap (λ s. s.code) (sym still) ∙ none
    | inr new ↦ (let gone : (session_at (set_numbered ss n (no_transaction (session_at ss n))) m).root ≡ None = ap (λ s. s.root) new.1 in absurd (cc (gone, is)))
  ]

  ended_needs : (root : BranchId) → AllNeed ss (commit_ended ss root)
  ended_needs root = cond_both (commit_is_pending ss root) (set_numbered ss root.session (no_transaction (session_at ss root.session))) ss (AllNeed ss) (λ is. done_needs root.session) (λ other. no_change ss)

  pends_same : (l : Live) → AllSame ss (call_pends ss l)
  pends_same l = cond_both (is_none l.parent) (with_call ss l.me.session pending.Statement) ss (AllSame ss) (λ root. call_same l.me.session pending.Statement) (λ below n. (refl, (λ none. none)))

  answered_same : (l : Live) (parent : Option BranchId) → AllSame ss (answered_sessions ss l parent)
  answered_same l None = call_same l.me.session pending.NoCall
  answered_same l (Some parent) = λ n. (refl, (λ none. none))

  heard_same : (l : Live) (a : Answer) → AllSame ss (heard_sessions ss l a)
  heard_same l a = cond_both (is_none l.parent && is_gone a) (needs_rollback ss l.me.session (dtx 8 []).code) ss (AllSame ss) (λ gone. needs_same l.me.session (dtx 8 []).code) (λ other n. (refl, (λ none. none)))

  decided_needs : (b : BranchId) (d : Decision) → AllNeed ss (decided_sessions ss b d)
  decided_needs b (decisions.Commit n) = no_change ss
  decided_needs b decisions.Rollback = ended_needs b

  abandoned_needs : (l : Live) (parent : Option BranchId) → AllNeed ss (abandoned_sessions ss l parent)
  abandoned_needs l None = ended_needs l.me
  abandoned_needs l (Some parent) = no_change ss

  ended_if_needs : (here : Bool) (root : BranchId) → AllNeed ss (if here then commit_ended ss root else ss)
  ended_if_needs true root = ended_needs root
  ended_if_needs false root = no_change ss

  -- a session without a transaction begins one
  begun_needs : (n : ℕ) (s : Session) (xs : List Session) → (session_at ss n).root ≡ None → AllNeed (set_numbered ss n s) xs → AllNeed ss xs
  begun_needs n s xs free need m b was is none = elim (session_or_before ss n m s) [
    | inl still ↦ ap (λ z. z.code) (sym still) ∙ need m b (ap (λ z. z.root) still ∙ was) is none
    | inr new ↦ (let has : (session_at ss n).root ≡ Some b = subst (λ i. (session_at ss i).root ≡ Some b) (sym new.0) was in absurd (cc (has, free)))
  ]

-- each step
pub codes_on : (p : Place) (input : Input) {k : NodeState} {d : TurnDraft} → Step p input k d → AllNeed k.sessions d.after.sessions
codes_on p input (steps.Begins {k = k} {d = d} n s read_at call begins fit none step) = begun_needs k.sessions n _ d.after.sessions none (codes_on p input step)
codes_on p input (steps.Counts_call {k = k} {d = d} n s call counts step) =
    then_need k.sessions (counted k n).sessions d.after.sessions (counted_same k.sessions n (session_at k.sessions n).root) (codes_on p input step)
codes_on p input (steps.Goes_back x step goes next) = codes_on p input next
codes_on p input (steps.Pends {k = k} {d = d} n l given call has live code writer step) = then_need k.sessions (with_call k.sessions n pending.Commit) d.after.sessions (call_same k.sessions n pending.Commit) (codes_on p input step)
codes_on p input (steps.Lets_reads_go l comment site_below live begins step) = codes_on p input step
codes_on p input (steps.Counts_ack s from kept came counts step) = codes_on p input step
codes_on p input (steps.Runs {k = k} x s given t asked way) = let l : Live = after_run x.live (ran p k x.live.me s t) in same_need k.sessions _ (answered_same k.sessions l x.live.parent)
codes_on p input (steps.Goes_nowhere {k = k} x s given r asked way) = same_need k.sessions _ (answered_same k.sessions x.live x.live.parent)
codes_on p input (steps.Calls {k = k} x s given i table asked way) = same_need k.sessions _ (pends_same k.sessions x.live)
codes_on p input (steps.Opens {k = k} x s given node link table asked way) = same_need k.sessions _ (pends_same k.sessions x.live)
codes_on p input (steps.Goes_on {k = k} x from strength g link opened) = same_need k.sessions _ (pends_same k.sessions (with_edge x (new_edge from link strength)).live)
codes_on p input (steps.Hears_reply {k = k} x weight count a i e answered) =
    let l : Live = (hears_reply x i weight count e).live in
    let zs : List Session = heard_sessions k.sessions l a in
    then_need k.sessions zs _ (heard_same k.sessions l a) (same_need zs _ (answered_same zs l x.live.parent))
codes_on p input (steps.Backs {k = k} x step from i calls next) = same_need k.sessions _ (pends_same k.sessions x.live)
codes_on p input (steps.Is_back {k = k} x step from calls none) = same_need k.sessions _ (answered_same k.sessions x.live x.live.parent)
codes_on p input (steps.Acts {k = k} l site_below acts.Rest why) = no_change k.sessions
codes_on p input (steps.Acts {k = k} l site_below acts.AskDown why) = no_change k.sessions
codes_on p input (steps.Acts {k = k} l site_below acts.SayReady why) = no_change k.sessions
codes_on p input (steps.Acts {k = k} l site_below acts.SayReadOnly why) = no_change k.sessions
codes_on p input (steps.Acts {k = k} l site_below acts.Seal why) = no_change k.sessions
codes_on p input (steps.Acts {k = k} l site_below (acts.SealAndPass i) why) = no_change k.sessions
codes_on p input (steps.Acts {k = k} l site_below acts.Decide why) = ended_if_needs k.sessions (is_alone l) l.me
codes_on p input (steps.Acts {k = k} l site_below acts.Finish why) = ended_needs k.sessions l.me
codes_on p input (steps.Acts {k = k} l site_below acts.Abandon why) = abandoned_needs k.sessions l l.parent
codes_on p input (steps.Does {k = k} s from (nexts.End d) kept why) = decided_needs k.sessions s.me d
codes_on p input (steps.Does {k = k} s from (nexts.Meet d mixed) kept why) = decided_needs k.sessions s.me d
codes_on p input (steps.Does {k = k} s from nexts.Forget kept why) = ended_needs k.sessions s.me
codes_on p input (steps.Does {k = k} s from nexts.Rest kept why) = no_change k.sessions
codes_on p input (steps.Does {k = k} s from nexts.AckToward kept why) = no_change k.sessions
codes_on p input (steps.Does {k = k} s from nexts.SayForgotten kept why) = no_change k.sessions
codes_on p input (steps.Does {k = k} s from nexts.SayAck kept why) = no_change k.sessions
codes_on p input (steps.Forces_given {k = k} n id m b call named) = ended_needs k.sessions b
codes_on p input (steps.Forces_commit {k = k} n id b call named) = ended_needs k.sessions b
codes_on p input (steps.Forces_rollback {k = k} n id b call named) = ended_needs k.sessions b
codes_on p input (steps.Advises {k = k} n a call) = same_need k.sessions _ (set_same k.sessions n (record (session_at k.sessions n) { advice = a }) (refl, (λ none. none)))
codes_on p input (steps.Leaves {k = k} n s d x call ends has live) = done_needs k.sessions n
codes_on p input (steps.Gives_up {k = k} n x gives has calls live) =
    let zs : List Session = with_call k.sessions n pending.NoCall in then_need k.sessions zs _ (call_same k.sessions n pending.NoCall) (same_need zs _ (needs_same zs n _))
codes_on p input (steps.Gives_up_commit {k = k} n b (Some l) gives has calls live) = ended_needs k.sessions l.me
codes_on p input (steps.Gives_up_commit {k = k} n b None gives has calls live) = ended_needs k.sessions b
codes_on p input {k = k} _ = no_change k.sessions
