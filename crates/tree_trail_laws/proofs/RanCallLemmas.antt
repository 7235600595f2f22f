-- The step that is told of a root after a turn is the number of calls of its session, once the call that came is counted.
use Rattle.std.proofs.Common.{◌≡◌, ◌≢◌, ℕ, ◌+◌, ◌==◌, ◌&&◌, ◌⊎◌, true, false, if◌then◌else◌, is_none, List, ◌∷◌, ◌++◌, unwrap_or, Option, Some, None, inl, inr, refl, sym, ap, subst, ◌∙◌, arith}
use Rattle.std.proofs.lemmas.Bool.{eq-eqb, ne_eqb, and_from, and_right, cases_eq}
use Rattle.tran_ids.proofs.ListedLemmas.{item_is}
use Rattle.tran_ids.proofs.NumberedLemmas.{set_found}
use Rattle.node_rules.specs.Data.{Stmt, BranchId, Live, Task}
use Rattle.node_rules.specs.Data.inputs
use Rattle.node_rules.specs.Data.kinds
use Rattle.node_rules.specs.declared.session.Session.{Session}
use Rattle.node_rules.specs.Words.{item_at, set_numbered}
use Rattle.node_rules.specs.Inputs.{IsSession, Came, IsCall}
use Rattle.node_rules.specs.NodeState.{NodeState, Branch, TurnDraft, live_id, live_at, branch_at, work_at, with_work}
use Rattle.node_rules.specs.Client.{new_root, begun_sessions, begun}
use Rattle.node_rules.specs.Sessions.{session_at, fresh_session, with_call_of}
use Rattle.node_rules.specs.Turn.{heard, draft_of}
use Rattle.run_rules.specs.Branches.{seen_id, is_live, is_live_at, is_root_of}
use Rattle.run_rules.specs.Data.{Turn, Happening}
use Rattle.run_rules.specs.Data.happenings
use Rattle.run_rules.specs.Lawful.{MayHappen, History, IsLawfulRun}
use Rattle.run_rules.specs.Runs.{is_counted}
use Rattle.run_rules.specs.Trail.{taken_after}
use Rattle.run_rules.proofs.AtNodeLemmas.{item_there}
use Rattle.run_base_laws.proofs.NodeLemmas.{kept_alone}
use Rattle.run_base_laws.proofs.RestRunLemmas.{roots_wait}
use Rattle.run_base_laws.proofs.RootLemmas.{RootsFit, SessionsFit, sessions_keep, session_or_before, begun_so}
use Rattle.tree_laws.proofs.AtTurn.{at_turn}
use Rattle.tree_laws.proofs.PrefixLemmas.{f_at}
use Rattle.tree_trail_laws.specs.OwnLaws.{TracesRoots}
use Rattle.tree_trail_laws.proofs.AtTrail.{at_trail}
use Rattle.tree_trail_laws.proofs.HeardNodeLemmas.{heard_fits}
use Rattle.tree_trail_laws.proofs.MomentLemmas.{tr_at}
use Rattle.tree_trail_laws.proofs.OwnKnowLemmas.{Knows}
use Rattle.tree_trail_laws.proofs.OwnLiveLemmas.{NewRoot, IsOfThese, lives_on, new_is, root_there}
use Rattle.tree_trail_laws.proofs.OwnTurnLemmas as turns
use Rattle.tree_trail_laws.proofs.OwnTurnLemmas.{Owns, taken_same}

-- ---- sessions

set_here : (ss : List Session) (n : ℕ) (s : Session) → RootsFit ss → IsSession n → session_at (set_numbered ss n s) n ≡ s
set_here ss n s fits range =
    let there = item_there ss n range.0 (omega (arith, range.1, fits.many)) in
    ap (λ o. unwrap_or o fresh_session) (set_found ss n there.0 s there.1)

set_other : (ss : List Session) (n m : ℕ) (s : Session) → n ≢ m → session_at (set_numbered ss n s) m ≡ session_at ss m
set_other ss n m s other = elim (session_or_before ss n m s) [ inl still ↦ still | inr new ↦ absurd (other new.0) ]

counted_here : (ss : List Session) (n : ℕ) (r : BranchId) → RootsFit ss → IsSession n → (session_at (with_call_of ss n (Some r)) n).calls ≡ (session_at ss n).calls + 1
counted_here ss n r fits range = ap (λ (s : Session). s.calls) (set_here ss n (record (session_at ss n) { calls = (session_at ss n).calls + 1 }) fits range)

counted_other : (ss : List Session) (n m : ℕ) (o : Option BranchId) → n ≢ m → session_at (with_call_of ss n o) m ≡ session_at ss m
counted_other ss n m None other = refl
counted_other ss n m (Some r) other = set_other ss n m (record (session_at ss n) { calls = (session_at ss n).calls + 1 }) other

-- ---- a turn

module _ (t : History) (whole : IsLawfulRun t) where
  module _ (hs : List Happening) (u : Turn) (more : List Happening) (is : hs ++ happenings.Turn u ∷ more ≡ t.trace) (roots : TracesRoots t.places (f_at t hs) (tr_at t hs)) (now : Owns (f_at t hs) (tr_at t hs)) (uncut : u.cut ≡ false) where
    open at_turn t whole hs u more is use {s as s0, f as f0, p}
    open at_trail t hs u use {begun_tr as trb}

    lawful0 : IsLawfulRun s0
    lawful0 = turns.lawful0 t whole hs u more is roots now

    abbrev may : MayHappen t.places t.commands f0 (happenings.Turn u)
    may = turns.may t whole hs u more is roots now

    abbrev k : NodeState
    k = (turns.may t whole hs u more is roots now).0

    abbrev k1 : NodeState
    k1 = heard k u.input

    abbrev d : TurnDraft
    d = draft_of p k u.input

    fits1 : SessionsFit k1
    fits1 = heard_fits k (kept_alone SessionsFit sessions_keep s0 lawful0 u.node k may.1.up) u.input

    -- a root that is live after it
    module _ (l : Live) (live : live_at d.after l.me ≡ Some l) (top : l.parent ≡ None) (node : l.me.node ≡ u.node) where
      abbrev it : Knows k1 trb l.me
      it = turns.knows_after t whole hs u more is roots now uncut l live

      above : it.seen.parent ≡ None
      above = turns.parents_after t whole hs u more is roots now uncut l live ∙ top

      me : it.seen.me ≡ l.me
      me = item_is seen_id trb.seen l.me it.seen it.at

      -- it was live, or begins
      was : ((z : Live) × (live_at k1 l.me ≡ Some z)) ⊎ NewRoot p u.input k1 l.me
      was = by (lives_on p u.input l.me (turns.step t whole hs u more is roots now) l live)
        where
          by : IsOfThese p u.input l.me k1 l → ((z : Live) × (live_at k1 l.me ≡ Some z)) ⊎ NewRoot p u.input k1 l.me
          by (inl there) = inl there
          by (inr (inl root)) = inr root
          by (inr (inr below)) = absurd (below top)

      -- where it was live it is the transaction of its session
      old_root : (z : Live) → live_at k1 l.me ≡ Some z → (session_at k1.sessions l.me.session).root ≡ Some l.me
      old_root z there =
          let heard_it = turns.heard_same t whole hs u more is roots now u.input in
          let at : live_at k l.me ≡ Some z = ap (λ (ls : List Live). item_at live_id ls l.me) (sym heard_it.2) ∙ there in
          let z_me : z.me ≡ l.me = item_is live_id k.lives l.me z at in
          let z_top : z.parent ≡ None = sym ((turns.opens_by t whole hs u more is roots now uncut l live).old z at).1 ∙ top in
          let x : Branch = record { live = z; work = work_at k z.me } in
          let found : branch_at k z.me ≡ Some x = ap (with_work k) (subst (λ c. live_at k c ≡ Some z) (sym z_me) at) in
          let root : (session_at k.sessions z.me.session).root ≡ Some z.me = (roots_wait s0 lawful0 u.node k may.1.up x found z_top).root in
          subst (λ (ss : List Session). (session_at ss l.me.session).root ≡ Some l.me) (sym heard_it.0) (subst (λ c. (session_at k.sessions c.session).root ≡ Some c) z_me root)

      -- ---- no call came

      pub uncalled_root : ((n : ℕ) (st : Stmt) → IsCall u.input n st → ⊥) → taken_after u.node it.seen u.input ≡ (session_at k1.sessions l.me.session).calls
      uncalled_root no_call = elim was [
        | inr root ↦ absurd (no_call root.session root.statement root.call)
        | inl there ↦ taken_same u.node it.seen u.input (not_to there.0 there.1) (λ m st call. absurd (no_call m st call)) ∙ it.counts above there.0 there.1
      ]
        where
          not_to : (z : Live) → live_at k1 l.me ≡ Some z → (from : BranchId) (call : ℕ) (task : Task) → Came u.input from it.seen.me (kinds.Exec call task) → ⊥
          not_to z there from call task came =
              turns.exec_below t whole hs u more is roots now uncut from l.me call task (subst (λ c. Came u.input from c (kinds.Exec call task)) me came) z there it above

      -- ---- a call came that counts, once its transaction has begun

      module _ (n : ℕ) (st : Stmt) (call : IsCall u.input n st) (counts : is_counted st ≡ true) where
        range : IsSession n
        range = turns.range t whole hs u more is roots now n st call

        -- a root that begins is of the session that calls
        new_session : NewRoot p u.input k1 l.me → (l.me.session ≡ n) × ((session_at k1.sessions n).root ≡ None)
        new_session root =
            let calls : inputs.Call root.session (Some root.statement) ≡ inputs.Call n (Some st) = sym root.call ∙ call in
            let same_session : root.session ≡ n = cc in
            let new = new_is p u.input (turns.range t whole hs u more is roots now) k1 fits1 l.me root in
            (ap (λ (c : BranchId). c.session) new.0 ∙ same_session, subst (λ m. (session_at k1.sessions m).root ≡ None) same_session new.1)

        -- that of another session
        other_session : l.me.session ≢ n → taken_after u.node it.seen u.input ≡ (session_at (begun p k1 n).sessions l.me.session).calls
        other_session other =
            let not_root : is_root_of u.node n it.seen ≡ false = and_right (is_live_at u.node it.seen) (is_none it.seen.parent && (it.seen.me.session == n))
            (and_right (is_none it.seen.parent) (it.seen.me.session == n) (ne_eqb it.seen.me.session n (λ equal. other (sym (ap (λ (c : BranchId). c.session) me) ∙ equal)))) in
            let told : it.seen.taken ≡ (session_at k1.sessions l.me.session).calls = elim was [ inl there ↦ it.counts above there.0 there.1 | inr root ↦ absurd (other (new_session root).0) ] in
            let stays : session_at (begun p k1 n).sessions l.me.session ≡ session_at k1.sessions l.me.session
            = counted_other (begun_sessions p k1 n (session_at k1.sessions n).root) n l.me.session (session_at (begun_sessions p k1 n (session_at k1.sessions n).root) n).root (λ equal. other (sym equal))
            ∙ begun_other (session_at k1.sessions n).root in
            ap (taken_after u.node it.seen) call ∙ (ap (λ q. if q && is_counted st then it.seen.taken + 1 else it.seen.taken) not_root ∙ (told ∙ sym (ap (λ (s : Session). s.calls) stays)))
          where
            begun_other : (o : Option BranchId) → session_at (begun_sessions p k1 n o) l.me.session ≡ session_at k1.sessions l.me.session
            begun_other (Some r) = refl
            begun_other None = set_other k1.sessions n l.me.session _ (λ equal. other (sym equal))

        -- its session has a transaction then, with as many calls as are told
        abbrev HasSession : Option BranchId → Type 0
        HasSession o = ((r : BranchId) × ((session_at (begun_sessions p k1 n o) n).root ≡ Some r)) × ((session_at (begun_sessions p k1 n o) n).calls ≡ it.seen.taken) × RootsFit (begun_sessions p k1 n o)

        has_session : l.me.session ≡ n → (o : Option BranchId) → (session_at k1.sessions n).root ≡ o → HasSession o
        has_session here (Some r) has =
            let told : it.seen.taken ≡ (session_at k1.sessions l.me.session).calls = elim was [ inl there ↦ it.counts above there.0 there.1 | inr root ↦ (let none = (new_session root).1 in absurd (cc (has, none))) ] in
            ((r, has), sym (told ∙ ap (λ m. (session_at k1.sessions m).calls) here), fits1.roots)
        has_session here None none = (
          (new_root p k1 n, root_there k1.sessions n (new_root p k1 n) fits1.roots range),
          ap (λ (s : Session). s.calls) (set_here k1.sessions n (record (session_at k1.sessions n) { seq = (new_root p k1 n).seq; root = Some (new_root p k1 n); calls = 0 }) fits1.roots range) ∙ sym (fresh (live_at k1 l.me) refl),
          (begun_so k1 fits1 p n None).roots,
        )
          where
            fresh : (o : Option Live) → live_at k1 l.me ≡ o → it.seen.taken ≡ 0
            fresh None gone = it.fresh gone
            fresh (Some z) there = (let has = subst (λ m. (session_at k1.sessions m).root ≡ Some l.me) here (old_root z there) in absurd (cc (has, none)))

        own_session : l.me.session ≡ n → taken_after u.node it.seen u.input ≡ (session_at (begun p k1 n).sessions l.me.session).calls
        own_session here =
            let is_root : is_root_of u.node n it.seen ≡ true = and_from (is_live_at u.node it.seen) (is_none it.seen.parent && (it.seen.me.session == n))
            (and_from (it.seen.me.node == u.node) (is_live it.seen) (eq-eqb it.seen.me.node u.node (ap (λ (c : BranchId). c.node) me ∙ node)) (ap is_none it.live))
            (and_from (is_none it.seen.parent) (it.seen.me.session == n) (ap is_none above) (eq-eqb it.seen.me.session n (ap (λ (c : BranchId). c.session) me ∙ here))) in
            let ss : List Session = begun_sessions p k1 n (session_at k1.sessions n).root in
            let has = has_session here (session_at k1.sessions n).root refl in
            let more_calls : (session_at (with_call_of ss n (session_at ss n).root) n).calls ≡ it.seen.taken + 1
            = ap (λ o. (session_at (with_call_of ss n o) n).calls) has.0.1 ∙ (counted_here ss n has.0.0 has.2 range ∙ ap (λ m. m + 1) has.1) in
            ap (taken_after u.node it.seen) call ∙ (ap (λ q. if q then it.seen.taken + 1 else it.seen.taken) (and_from (is_root_of u.node n it.seen) (is_counted st) is_root counts)
            ∙ (sym more_calls ∙ ap (λ m. (session_at (begun p k1 n).sessions m).calls) (sym here)))

        pub called_root : taken_after u.node it.seen u.input ≡ (session_at (begun p k1 n).sessions l.me.session).calls
        called_root = elim (cases_eq l.me.session n) [ inl here ↦ own_session here | inr other ↦ other_session other ]
