-- A COMMIT that is pending after a change of sessions was pending before, of the same root; where the transaction of a branch ended,
-- of another root than this.
use Rattle.std.proofs.Common.{◌≡◌, ◌≢◌, ℕ, ◌+◌, ◌&&◌, Bool, true, false, if◌then◌else◌, is_none, List, [], unwrap_or, Option, Some, None, inl, inr, refl, sym, ap, subst, ◌∙◌}
use Rattle.std.proofs.lemmas.Bool.{and_parts, cond_both}
use Rattle.tran_ids.proofs.BranchLemmas.{same_from_equal}
use Rattle.session_tree.specs.Live.{is_branch}
use Rattle.node_rules.specs.Data.{Answer, BranchId, Live}
use Rattle.node_rules.specs.declared.session.PendingCall.TheVariants as pending
use Rattle.node_rules.specs.declared.session.Session.{Session}
use Rattle.node_rules.specs.Calls.{answered_sessions, call_pends, heard_sessions, is_gone}
use Rattle.node_rules.specs.Prepare.{abandoned_sessions}
use Rattle.node_rules.specs.Refusals.{dtx}
use Rattle.node_rules.specs.Sessions.{session_at, fresh_session, with_call, with_call_of, needs_rollback, no_transaction, is_commit, commit_is_pending, commit_ended}
use Rattle.node_rules.specs.Words.{numbered, set_numbered}
use Rattle.node_rules.proofs.StandLemmas.{session_set}
use Rattle.node_rules.proofs.StepLemmas.{branch_found}
use Rattle.run_base_laws.proofs.RootLemmas.{RootsFit, session_or_before}

module _ (ss : List Session) (m : ℕ) where
  -- a COMMIT that is pending after a change was pending before, with the same root
  abbrev pub Still : List Session → Type 0
  Still zs = (b : BranchId) → (session_at zs m).root ≡ Some b → (session_at zs m).call ≡ pending.Commit → ((session_at ss m).root ≡ Some b) × ((session_at ss m).call ≡ pending.Commit)

  -- and the root is not this branch
  abbrev pub Less : BranchId → List Session → Type 0
  Less c zs = (b : BranchId) → (session_at zs m).root ≡ Some b → (session_at zs m).call ≡ pending.Commit → ((session_at ss m).root ≡ Some b) × ((session_at ss m).call ≡ pending.Commit) × (b ≢ c)

  pub set_other : (n : ℕ) (s : Session) → s.call ≢ pending.Commit → Still (set_numbered ss n s)
  set_other n s other b has commits = elim (session_or_before ss n m s) [
    | inl still ↦ (sym (ap (λ (x : Session). x.root) still) ∙ has, sym (ap (λ (x : Session). x.call) still) ∙ commits)
    | inr new ↦ absurd (other (sym (ap (λ (x : Session). x.call) new.1) ∙ commits))
  ]

  pub set_same : (n : ℕ) (s : Session) → s.root ≡ (session_at ss n).root → s.call ≡ (session_at ss n).call → Still (set_numbered ss n s)
  set_same n s root call b has commits = elim (session_or_before ss n m s) [
    | inl still ↦ (sym (ap (λ (x : Session). x.root) still) ∙ has, sym (ap (λ (x : Session). x.call) still) ∙ commits)
    | inr new ↦ (
      ap (λ i. (session_at ss i).root) (sym new.0) ∙ (sym root ∙ (sym (ap (λ (x : Session). x.root) new.1) ∙ has)),
      ap (λ i. (session_at ss i).call) (sym new.0) ∙ (sym call ∙ (sym (ap (λ (x : Session). x.call) new.1) ∙ commits)),
    )
  ]

  -- a session with a transaction is there
  cleared : (n : ℕ) (o : Option Session) → numbered ss n ≡ o → (c : BranchId) → (unwrap_or o fresh_session).root ≡ Some c → session_at (set_numbered ss n (no_transaction (session_at ss n))) n ≡ no_transaction (session_at ss n)
  cleared n None is c has = absurd cc
  cleared n (Some s) is c has = session_set ss n s (no_transaction (session_at ss n)) is

  -- the transaction of a session ends
  pub done_less : RootsFit ss → (n : ℕ) (c : BranchId) → (session_at ss n).root ≡ Some c → Less c (set_numbered ss n (no_transaction (session_at ss n)))
  done_less fit n c root b has commits =
      let was = set_other n (no_transaction (session_at ss n)) (λ none. absurd cc) b has commits in (
        was.0,
        was.1,
        λ same. (let at : n ≡ m = sym (fit.each n c root) ∙ (ap (λ (x : BranchId). x.session) (sym same) ∙ fit.each m b was.0) in
            let gone : (session_at (set_numbered ss n (no_transaction (session_at ss n))) n).root ≡ None = ap (λ (s : Session). s.root) (cleared n (numbered ss n) refl c root) in
            let none : (session_at (set_numbered ss n (no_transaction (session_at ss n))) m).root ≡ None = subst (λ i. (session_at (set_numbered ss n (no_transaction (session_at ss n))) i).root ≡ None) at gone in
            absurd (cc (none, has))),
      )

  pub ended_less : RootsFit ss → (c : BranchId) → Less c (commit_ended ss c)
  ended_less fit c = by (commit_is_pending ss c) refl
    where
      its : (session_at ss m).root ≡ Some c → c.session ≡ m
      its has = fit.each m c has

      pends : (session_at ss m).root ≡ Some c → (session_at ss m).call ≡ pending.Commit → commit_is_pending ss c ≡ true
      pends has commits =
          ap (λ o. is_branch c o && is_commit (session_at ss c.session).call) (subst (λ i. (session_at ss i).root ≡ Some c) (sym (its has)) has)
          ∙ (ap (λ q. q && is_commit (session_at ss c.session).call) (same_from_equal c c refl) ∙ ap is_commit (subst (λ i. (session_at ss i).call ≡ pending.Commit) (sym (its has)) commits))

      by : (q : Bool) → commit_is_pending ss c ≡ q → Less c (if q then set_numbered ss c.session (no_transaction (session_at ss c.session)) else ss)
      by true is = done_less fit c.session c (branch_found c (session_at ss c.session).root (and_parts (is_branch c (session_at ss c.session).root) (is_commit (session_at ss c.session).call) is).0)
      by false is = λ b has commits. (has, commits, λ same. (let yes = pends (has ∙ ap Some same) commits in absurd (cc (yes, is))))

  -- the COMMIT of a branch ends, or no COMMIT is pending of it
  pub abandoned_less : RootsFit ss → (l : Live) (o : Option BranchId) → ((session_at ss m).root ≡ Some l.me → o ≡ None) → Less l.me (abandoned_sessions ss l o)
  abandoned_less fit l None top = ended_less fit l.me
  abandoned_less fit l (Some parent) top = λ b has commits. (has, commits, λ same. (let none : Some parent ≡ None = top (has ∙ ap Some same) in absurd cc))

  pub none_still : Still ss
  none_still b has commits = (has, commits)

  -- a call is counted
  pub counted_still : (n : ℕ) (o : Option BranchId) → Still (with_call_of ss n o)
  counted_still n None = none_still
  counted_still n (Some root) = set_same n (record (session_at ss n) { calls = (session_at ss n).calls + 1 }) refl refl

  pub answered_still : (l : Live) (o : Option BranchId) → Still (answered_sessions ss l o)
  answered_still l None = set_other l.me.session (record (session_at ss l.me.session) { call = pending.NoCall }) (λ is. absurd cc)
  answered_still l (Some parent) = none_still

  pub goes_still : (l : Live) → Still (call_pends ss l)
  goes_still l = cond_both (is_none l.parent) (with_call ss l.me.session pending.Statement) ss Still (λ root. set_other l.me.session (record (session_at ss l.me.session) { call = pending.Statement }) (λ is. absurd cc)) (λ below. none_still)

  pub heard_still : (l : Live) (a : Answer) → Still (heard_sessions ss l a)
  heard_still l a =
      cond_both (is_none l.parent && is_gone a) (needs_rollback ss l.me.session (dtx 8 []).code) ss Still
      (λ gone. set_same l.me.session (record (session_at ss l.me.session) { code = Some (dtx 8 []).code }) refl refl) (λ other. none_still)
