-- A session whose transaction is another's, or that has none, stays as it was where a COMMIT or a statement ends, and the
-- COMMIT of its own transaction ends once, with its answer.
use Rattle.std.proofs.Common.{◌≡◌, ◌≢◌, ℕ, ◌==◌, ◌&&◌, Bool, true, false, if◌then◌else◌, List, [], ◌∷◌, map, filter, is_none, unwrap_or, Option, Some, None, inl, inr, refl, sym, ap, subst, ◌∙◌}
use Rattle.std.proofs.lemmas.Bool.{cond_both, and_parts, eqb-true, eq-eqb}
use Rattle.tran_ids.proofs.BranchLemmas.{same_from_equal}
use Rattle.node_rules.specs.Data.{Answer, BranchId, Decision, Live}
use Rattle.node_rules.specs.Data.decisions
use Rattle.node_rules.specs.declared.session.PendingCall.TheVariants as pending
use Rattle.node_rules.specs.declared.session.Session.{Session}
use Rattle.node_rules.specs.declared.session.Finished.{Finished}
use Rattle.node_rules.specs.Calls.{answered_sessions, answer_ends, call_pends, heard_sessions, is_gone}
use Rattle.node_rules.specs.Commit.{decided_sessions, decision_answers}
use Rattle.node_rules.specs.Prepare.{abandoned_sessions, abandon_ends}
use Rattle.node_rules.specs.Refusals.{dtx}
use Rattle.node_rules.specs.Sessions.{fresh_session, session_at, with_call, needs_rollback, no_transaction, is_commit, commit_is_pending, commit_ended, commit_answer, tran_refusal}
use Rattle.node_rules.specs.Words.{numbered, set_numbered}
use Rattle.session_tree.specs.Live.{is_branch}
use Rattle.node_rules.proofs.StandLemmas.{session_set}
use Rattle.run_base_laws.proofs.RootLemmas.{session_or_before}
use Rattle.node_rules.proofs.StepLemmas.{branch_found as branch_here}

-- the answers of a session among the calls that end
abbrev pub answers_of : ℕ → List Finished → List Answer
answers_of m fs = map (λ x. x.answer) (filter (λ x. x.session == m) fs)

-- A session stays as it was, and no call of it ends.
pub record Keeps (m : ℕ) (ss zs : List Session) (fs : List Finished) : Type 0 where
  pub quiet : answers_of m fs ≡ []
  pub same : session_at zs m ≡ session_at ss m

none_of : {A : Type 0} (o : Option A) → is_none o ≡ true → o ≡ None
none_of None is = refl
none_of (Some x) is = absurd cc

apart : (n m : ℕ) → n ≢ m → (n == m) ≡ false
apart n m other = by (n == m) refl
  where
    by : (q : Bool) → (n == m) ≡ q → q ≡ false
    by true is = absurd (other (eqb-true n m is))
    by false is = refl

-- an answer of another session
other_answer : (m n : ℕ) (a : Answer) → n ≢ m → answers_of m ((record { session = n; answer = a }) ∷ []) ≡ []
other_answer m n a other = ap (λ q. map (λ (x : Finished). x.answer) (if q then (record { session = n; answer = a }) ∷ [] else [])) (apart n m other)

-- an answer of this one
own_answer : (m n : ℕ) (a : Answer) → n ≡ m → answers_of m ((record { session = n; answer = a }) ∷ []) ≡ a ∷ []
own_answer m n a own = ap (λ q. map (λ (x : Finished). x.answer) (if q then (record { session = n; answer = a }) ∷ [] else [])) (eq-eqb n m own)

module _ (m : ℕ) (ss : List Session) where
  pub same_keeps : Keeps m ss ss []
  same_keeps = record { quiet = refl; same = refl }

  set_other : (n : ℕ) (s : Session) → n ≢ m → session_at (set_numbered ss n s) m ≡ session_at ss m
  set_other n s other = elim (session_or_before ss n m s) [
    | inl still ↦ still
    | inr new ↦ absurd (other new.0)
  ]

  -- another session ends a call
  set_keeps : (n : ℕ) (s : Session) (a : Answer) → n ≢ m → Keeps m ss (set_numbered ss n s) ((record { session = n; answer = a }) ∷ [])
  set_keeps n s a other = record { quiet = other_answer m n a other; same = set_other n s other }

  -- the COMMIT of a branch ends that is not this session's transaction
  pub commit_keeps : (b : BranchId) (a : Answer) → (session_at ss m).root ≢ Some b → Keeps m ss (commit_ended ss b) (commit_answer ss b a)
  commit_keeps b a other = by (commit_is_pending ss b) refl
    where
      not_mine : commit_is_pending ss b ≡ true → b.session ≢ m
      not_mine is mine =
          let parts = and_parts (is_branch b (session_at ss b.session).root) (is_commit (session_at ss b.session).call) is in
          let root : (session_at ss b.session).root ≡ Some b = branch_here b (session_at ss b.session).root parts.0 in
          other (subst (λ n. (session_at ss n).root ≡ Some b) mine root)

      by : (q : Bool) → commit_is_pending ss b ≡ q
          → Keeps m ss (if q then set_numbered ss b.session (no_transaction (session_at ss b.session)) else ss) (if q then (record { session = b.session; answer = a }) ∷ [] else [])
      by false is = same_keeps
      by true is = set_keeps b.session (no_transaction (session_at ss b.session)) a (not_mine is)

  pub alone_keeps : (here : Bool) (b : BranchId) (a : Answer) → (session_at ss m).root ≢ Some b → Keeps m ss (if here then commit_ended ss b else ss) (if here then commit_answer ss b a else [])
  alone_keeps true b a other = commit_keeps b a other
  alone_keeps false b a other = same_keeps

  pub decision_keeps : (b : BranchId) (d : Decision) → (d ≡ decisions.Rollback → (session_at ss m).root ≢ Some b) → Keeps m ss (decided_sessions ss b d) (decision_answers ss b d)
  decision_keeps b (decisions.Commit n) other = same_keeps
  decision_keeps b decisions.Rollback other = commit_keeps b (tran_refusal 2050 b) (other refl)

  pub abandon_keeps : (l : Live) (o : Option BranchId) → (session_at ss m).root ≢ Some l.me → Keeps m ss (abandoned_sessions ss l o) (abandon_ends ss l o)
  abandon_keeps l None other = commit_keeps l.me (tran_refusal 2050 l.me) other
  abandon_keeps l (Some parent) other = same_keeps

  -- a statement is answered, or goes on, at a root of another session
  pub answered_keeps : (l : Live) (a : Answer) (o : Option BranchId) → (o ≡ None → l.me.session ≢ m) → Keeps m ss (answered_sessions ss l o) (answer_ends l a o)
  answered_keeps l a None other = set_keeps l.me.session (record (session_at ss l.me.session) { call = pending.NoCall }) a (other refl)
  answered_keeps l a (Some parent) other = same_keeps

  pub going_keeps : (l : Live) → (l.parent ≡ None → l.me.session ≢ m) → Keeps m ss (call_pends ss l) []
  going_keeps l other =
      cond_both (is_none l.parent) (with_call ss l.me.session pending.Statement) ss (λ zs. Keeps m ss zs [])
      (λ root. record { quiet = refl; same = set_other l.me.session (record (session_at ss l.me.session) { call = pending.Statement }) (other (none_of l.parent root)) }) (λ below. same_keeps)

  pub heard_same : (l : Live) (a : Answer) → (l.parent ≡ None → l.me.session ≢ m) → session_at (heard_sessions ss l a) m ≡ session_at ss m
  heard_same l a other =
      cond_both (is_none l.parent && is_gone a) (needs_rollback ss l.me.session (dtx 8 []).code) ss (λ zs. session_at zs m ≡ session_at ss m)
      (λ gone. set_other l.me.session (record (session_at ss l.me.session) { code = Some (dtx 8 []).code }) (other (none_of l.parent (and_parts (is_none l.parent) (is_gone a) gone).0))) (λ still. refl)

  -- the session's own COMMIT ends
  module _ (r : BranchId) (own : r.session ≡ m) (root : (session_at ss m).root ≡ Some r) (commits : (session_at ss m).call ≡ pending.Commit) where
    pends : commit_is_pending ss r ≡ true
    pends =
        let there : (session_at ss r.session).root ≡ Some r = subst (λ n. (session_at ss n).root ≡ Some r) (sym own) root in
        let call : (session_at ss r.session).call ≡ pending.Commit = subst (λ n. (session_at ss n).call ≡ pending.Commit) (sym own) commits in
        ap (λ o. is_branch r o && is_commit (session_at ss r.session).call) there ∙ (ap (λ q. q && is_commit (session_at ss r.session).call) (same_from_equal r r refl) ∙ ap is_commit call)

    pub own_ends : (a : Answer) → answers_of m (commit_answer ss r a) ≡ a ∷ []
    own_ends a = ap (λ q. answers_of m (if q then (record { session = r.session; answer = a }) ∷ [] else [])) pends ∙ own_answer m r.session a own

    set_at : (o : Option Session) → numbered ss r.session ≡ o → (unwrap_or o fresh_session).root ≡ Some r → session_at (set_numbered ss r.session (no_transaction (session_at ss r.session))) r.session ≡ no_transaction (session_at ss r.session)
    set_at None is has = absurd cc
    set_at (Some s) is has = session_set ss r.session s (no_transaction (session_at ss r.session)) is

    pub own_free : (session_at (commit_ended ss r) m).root ≡ None
    own_free =
        let there : (session_at ss r.session).root ≡ Some r = subst (λ n. (session_at ss n).root ≡ Some r) (sym own) root in
        let set : (session_at (set_numbered ss r.session (no_transaction (session_at ss r.session))) r.session).root ≡ None = ap (λ (s : Session). s.root) (set_at (numbered ss r.session) refl there) in
        ap (λ q. (session_at (if q then set_numbered ss r.session (no_transaction (session_at ss r.session)) else ss) m).root) pends
        ∙ subst (λ n. (session_at (set_numbered ss r.session (no_transaction (session_at ss r.session))) n).root ≡ None) own set
