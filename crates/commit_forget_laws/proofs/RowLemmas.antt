-- What the row of a branch tells, as records change it: seals, decisions, what it learns, forced outcomes, and Forgot.
use Rattle.std.proofs.Common.{◌≡◌, ℕ, ◌&&◌, ◌||◌, not, Bool, true, false, List, [], ◌∷◌, ◌++◌, map, filter, is_some, slice_get, Option, Some, None, inl, inr, refl, sym, ap, subst, ◌∙◌}
use Rattle.std.specs.List.{AllByRecursion, list_all}
use Rattle.std.proofs.lemmas.Bool.{cond_both, and_parts}
use Rattle.tran_ids.proofs.BranchLemmas.{same_from_equal}
use Rattle.commit_forget.specs.declared.next.Beyond.{Beyond}
use Rattle.commit_forget.specs.Beyond.{beyond, parent_beyond, kid_beyond, all_acked}
use Rattle.redo_record.specs.Kept.{ended_commit, forced_state, in_state, met_as, forgot_as, is_done, hidden_as, forgotten}
use Rattle.redo_record.specs.Rows.{kid_of, sealed_as, decided_as, has_neighbors}
use Rattle.session_tree.specs.Live.{is_branch}
use Rattle.agreement.specs.Events.{Event, Sealed, Seal, Decide, Force, Learn, Forget, Has}
use Rattle.agreement.proofs.EventLemmas.{exit_stays}
use Rattle.node_rules.specs.Data.{BranchId, Decision, Kid, Peer, Post, KeptRow, Sealed as SealedRecord, Decided as DecidedRecord}
use Rattle.node_rules.specs.Data.decisions
use Rattle.node_rules.specs.Data.kinds
use Rattle.node_rules.specs.Data.states
use Rattle.node_rules.specs.Words.{same, drop_where}
use Rattle.node_rules.specs.Commit.{passes, passes_commit}
use Rattle.run_branch_laws.specs.WalkLaws.{was_sent}
use Rattle.run_rules.proofs.ListLemmas.{all_weaker, all_filter, all_append, all_map, all_each}
use Rattle.tree_laws.proofs.AskLemmas.{sent_new}
use Rattle.commit_laws.proofs.ReadyStepLemmas.{one_sent}
use Rattle.commit_forget_laws.specs.RowLaws.{is_ack, is_forced, IsSealed, SaidAck}
use Rattle.commit_forget_laws.proofs.TellLemmas.{Plain, Tells, TellsBut, rows_changed, rows_left, Stays, stays_with, plain_stays, acks_more, ended_beyond, met_beyond, state_beyond, forgot_beyond, hidden_beyond}

-- ---- a new row

kid_unacked : (toward : Option BranchId) (ps : List Peer) → AllByRecursion (λ (y : Beyond). y.acked ≡ false) (map kid_beyond (filter (λ c. not (is_branch c.branch toward)) (map kid_of ps)))
kid_unacked toward ps =
    all_map (λ (y : Beyond). y.acked ≡ false) kid_beyond (filter (λ c. not (is_branch c.branch toward)) (map kid_of ps))
    (all_filter (λ (c : Kid). c.acked ≡ false) (λ (c : Kid). c.acked ≡ false) (λ c. not (is_branch c.branch toward)) (λ c off is. is) (map kid_of ps) (all_each (λ (c : Kid). c.acked ≡ false) kid_of ps (λ q. refl)))

parent_unacked : (s : KeptRow) → s.parent_acked ≡ false → (o : Option BranchId) → AllByRecursion (λ (y : Beyond). y.acked ≡ false) (parent_beyond s o)
parent_unacked s none None = tt
parent_unacked s none (Some b) = cond_both (is_branch b s.toward) _ _ (AllByRecursion (λ (y : Beyond). y.acked ≡ false)) (λ on. tt) (λ off. (none, tt))

sealed_unacked : (r : SealedRecord) → AllByRecursion (λ (y : Beyond). y.acked ≡ false) (beyond (sealed_as r))
unfolding beyond
sealed_unacked r = all_append (λ (y : Beyond). y.acked ≡ false) (parent_beyond (sealed_as r) r.parent) _ (parent_unacked (sealed_as r) refl r.parent) (kid_unacked (sealed_as r).toward r.children)

-- somebody beyond has not acknowledged
none_acked : (bs : List Beyond) → AllByRecursion (λ y. y.acked ≡ false) bs → list_all (λ y. y.acked) bs ≡ true → bs ≡ []
none_acked [] none all = refl
none_acked (y ∷ ys) none all = (let parts = and_parts y.acked (list_all (λ z. z.acked) ys) all in let no = none.0 in let yes = parts.0 in absurd (cc (no, yes)))

decided_beyond : (r : DecidedRecord) → has_neighbors (decided_as r) ≡ true → all_acked (decided_as r) ≡ true → ⊥
unfolding beyond
decided_beyond r some all = by r.parent r.children some all
  where
    by : (o : Option BranchId) (ps : List Peer) → (is_some o || is_some (slice_get (map kid_of ps) 0)) ≡ true
        → list_all (λ (y : Beyond). y.acked) (parent_beyond (decided_as r) o ++ map kid_beyond (filter (λ c. not (is_branch c.branch None)) (map kid_of ps))) ≡ true → ⊥
    by (Some q) ps is every = absurd cc
    by None (p ∷ ps) is every = absurd cc
    by None [] is every = absurd cc

module _ (said : List Post) (t : List Event) (bound : ℕ) where
  -- a branch that becomes sealed
  pub sealed_tells : (says : List Post) (r : SealedRecord) → (Has (Forget r.me) t → ⊥) → AllByRecursion (λ y. IsSealed t y.branch) (beyond (sealed_as r)) → Tells (said ++ says) (Seal r.me r.root r.scn r.changes ∷ t) bound (sealed_as r)
  sealed_tells says r fresh voted =
      let e : Event = Seal r.me r.root r.scn r.changes in
      inl (
        record {
          sealed = all_weaker _ _ (λ y is. (is.0, exit_stays e t y.branch (Sealed is.0) is.1)) (beyond (sealed_as r)) voted;
          unheard = λ none. sealed_unacked r;
          whole = λ un. (refl, refl);
          forgets = λ has. elim has [ inl here ↦ absurd cc | inr there ↦ absurd (fresh there) ];
        },
        λ knows new all. absurd cc,
      )

  -- a branch that decides
  pub decided_tells : (says : List Post) (r : DecidedRecord) → (Has (Forget r.me) t → ⊥) → AllByRecursion (λ y. IsSealed t y.branch) (beyond (decided_as r)) → has_neighbors (decided_as r) ≡ true
      → Tells (said ++ says) (Decide r.me r.root r.scn r.changes ∷ t) bound (decided_as r)
  decided_tells says r fresh voted some =
      let e : Event = Decide r.me r.root r.scn r.changes in
      inl (
        record {
          sealed = all_weaker _ _ (λ y is. (is.0, exit_stays e t y.branch (Sealed is.0) is.1)) (beyond (decided_as r)) voted;
          unheard = λ none. absurd cc;
          whole = λ un. (refl, refl);
          forgets = λ has. elim has [ inl here ↦ absurd cc | inr there ↦ absurd (fresh there) ];
        },
        λ knows new all. absurd (decided_beyond r some all),
      )

  -- ---- the commit is learned

  -- what is passed on where nobody is beyond
  passed_ack : (s : KeptRow) (n : ℕ) (bs : List Beyond) → bs ≡ [] → (q : BranchId) → s.toward ≡ Some q → was_sent is_ack (passes_commit s n bs) s.me q ≡ true
  passed_ack s n [] none q at = one_sent is_ack s.me kinds.Ack s.toward q refl at
  passed_ack s n (y ∷ ys) none q at = absurd cc

  learnt_acks : (s : KeptRow) (n : ℕ) (y : KeptRow) → y.me ≡ s.me → y.toward ≡ s.toward → beyond y ≡ beyond s → AllByRecursion (λ z. z.acked ≡ false) (beyond s) → (q : BranchId) → s.toward ≡ Some q
      → all_acked y ≡ true → SaidAck (said ++ passes s (decisions.Commit n)) y
  learnt_acks s n y me toward same_beyond none q at all =
      let empty : beyond s ≡ [] = none_acked (beyond s) none (subst (λ (bs : List Beyond). list_all (λ z. z.acked) bs ≡ true) same_beyond all) in
      let told : was_sent is_ack (passes_commit s n (beyond s)) s.me q ≡ true = passed_ack s n (beyond s) empty q at in
      (q, toward ∙ at, subst (λ b. was_sent is_ack (said ++ passes s (decisions.Commit n)) b q ≡ true) (sym me) (sent_new is_ack said (passes s (decisions.Commit n)) s.me q told))

  -- a sealed branch learns the commit
  pub ended_tells : (n : ℕ) (s : KeptRow) → s.decision ≡ None → s.state ≡ states.Sealed → (q : BranchId) → s.toward ≡ Some q → Tells said t bound s
      → Tells (said ++ passes s (decisions.Commit n)) (Learn s.me (decisions.Commit n) None ∷ t) bound (ended_commit n s)
  ended_tells n s none sealed q at (inr old) = inr old
  ended_tells n s none sealed q at (inl is) =
      let e : Event = Learn s.me (decisions.Commit n) None in
      let stays : Stays t (e ∷ t) s.me = stays_with t e s.me (λ no. absurd cc) in
      inl (
        record {
          sealed = subst (λ (bs : List Beyond). AllByRecursion (λ y. IsSealed (e ∷ t) y.branch) bs) (sym (ended_beyond n s)) (plain_stays t (e ∷ t) s stays is.0).sealed;
          unheard = λ no. absurd cc;
          whole = λ un. is.0.whole (ap is_forced sealed);
          forgets = λ has. is.0.forgets (stays.forgets has);
        },
        λ knows new all. learnt_acks s n (ended_commit n s) refl refl (ended_beyond n s) (is.0.unheard none) q at all,
      )

  -- so does a forced one
  pub met_tells : (n : ℕ) (mixed : Bool) (s : KeptRow) → s.decision ≡ None → is_forced s.state ≡ true → (q : BranchId) → s.toward ≡ Some q → Tells said t bound s
      → Tells (said ++ passes s (decisions.Commit n)) (Learn s.me (decisions.Commit n) (Some mixed) ∷ t) bound (met_as (decisions.Commit n) mixed s)
  met_tells n mixed s none was q at (inr old) = inr old
  met_tells n mixed s none was q at (inl is) =
      let e : Event = Learn s.me (decisions.Commit n) (Some mixed) in
      let stays : Stays t (e ∷ t) s.me = stays_with t e s.me (λ no. absurd cc) in
      inl (
        record {
          sealed = subst (λ (bs : List Beyond). AllByRecursion (λ y. IsSealed (e ∷ t) y.branch) bs) (sym (met_beyond (decisions.Commit n) mixed s)) (plain_stays t (e ∷ t) s stays is.0).sealed;
          unheard = λ no. absurd cc;
          whole = λ un. absurd (cc (un, was));
          forgets = λ has. is.0.forgets (stays.forgets has);
        },
        λ knows new all. learnt_acks s n (met_as (decisions.Commit n) mixed s) refl refl (met_beyond (decisions.Commit n) mixed s) (is.0.unheard none) q at all,
      )

  -- a mixed branch learns the rollback
  pub met_rollback_tells : (says : List Post) (mixed : Bool) (s : KeptRow) → is_forced s.state ≡ true → Tells said t bound s → Tells (said ++ says) (Learn s.me decisions.Rollback (Some mixed) ∷ t) bound (met_as decisions.Rollback mixed s)
  met_rollback_tells says mixed s was (inr old) = inr old
  met_rollback_tells says mixed s was (inl is) =
      let e : Event = Learn s.me decisions.Rollback (Some mixed) in
      let stays : Stays t (e ∷ t) s.me = stays_with t e s.me (λ no. absurd cc) in
      inl (
        record {
          sealed = subst (λ (bs : List Beyond). AllByRecursion (λ y. IsSealed (e ∷ t) y.branch) bs) (sym (met_beyond decisions.Rollback mixed s)) (plain_stays t (e ∷ t) s stays is.0).sealed;
          unheard = λ no. absurd cc;
          whole = λ un. absurd (cc (un, was));
          forgets = λ has. is.0.forgets (stays.forgets has);
        },
        λ knows new all. absurd cc,
      )

  -- ---- forced, hidden

  forced_is : (d : Decision) → is_forced (forced_state d) ≡ true
  forced_is (decisions.Commit n) = refl
  forced_is decisions.Rollback = refl

  pub forced_tells : (says : List Post) (d : Decision) (s : KeptRow) → Tells said t bound s → Tells (said ++ says) (Force s.me d ∷ t) bound (in_state (forced_state d) s)
  forced_tells says d s (inr old) = inr old
  forced_tells says d s (inl is) =
      let e : Event = Force s.me d in
      let stays : Stays t (e ∷ t) s.me = stays_with t e s.me (λ no. absurd cc) in
      let next : Plain (e ∷ t) s = plain_stays t (e ∷ t) s stays is.0 in
      inl (
        record {
          sealed = subst (λ (bs : List Beyond). AllByRecursion (λ y. IsSealed (e ∷ t) y.branch) bs) (sym (state_beyond (forced_state d) s)) next.sealed;
          unheard = λ none. subst (λ (bs : List Beyond). AllByRecursion (λ y. y.acked ≡ false) bs) (sym (state_beyond (forced_state d) s)) (next.unheard none);
          whole = λ un. (let was : is_forced (forced_state d) ≡ true = forced_is d in absurd (cc (un, was)));
          forgets = next.forgets;
        },
        λ knows new all. acks_more said says s is.1 knows new (subst (λ (bs : List Beyond). list_all (λ z. z.acked) bs ≡ true) (state_beyond (forced_state d) s) all),
      )

  pub hidden_tells : (says : List Post) (s : KeptRow) → Tells said t bound s → Tells (said ++ says) t bound (hidden_as s)
  hidden_tells says s (inr old) = inr old
  hidden_tells says s (inl is) =
      inl (
        record {
          sealed = subst (λ (bs : List Beyond). AllByRecursion (λ y. IsSealed t y.branch) bs) (sym (hidden_beyond s)) is.0.sealed;
          unheard = λ none. subst (λ (bs : List Beyond). AllByRecursion (λ y. y.acked ≡ false) bs) (sym (hidden_beyond s)) (is.0.unheard none);
          whole = is.0.whole;
          forgets = is.0.forgets;
        },
        λ knows new all. acks_more said says s is.1 knows new (subst (λ (bs : List Beyond). list_all (λ z. z.acked) bs ≡ true) (hidden_beyond s) all),
      )

  -- ---- Forgot

  mixed_if : (q m : Bool) → (q && not m) ≡ false → q ≡ true → m ≡ true
  mixed_if true true is here = refl
  mixed_if true false is here = absurd cc
  mixed_if false m is here = absurd cc

  -- the row of a branch that forgets goes, or it was mixed
  pub forgot_tells : (says : List Post) (b : BranchId) (ks : List KeptRow) → AllByRecursion (TellsBut said t bound b) ks → AllByRecursion (Tells (said ++ says) (Forget b ∷ t) bound) (forgotten ks b)
  forgot_tells says b ks all =
      rows_changed Left (Tells (said ++ says) (Forget b ∷ t) bound) b forgot_as own other (drop_where (is_done b) ks)
      (rows_left (TellsBut said t bound b) Left (is_done b) (λ x stays is. (is, λ me. mixed_if (same x.me b) x.mixed stays (same_from_equal x.me b me))) ks all)
    where
      Left : KeptRow → Type 0
      Left x = TellsBut said t bound b x × (x.me ≡ b → x.mixed ≡ true)

      own : (x : KeptRow) → x.me ≡ b → Left x → Tells (said ++ says) (Forget b ∷ t) bound (forgot_as x)
      own x me is = elim is.0 [
        | inr old ↦ inr old
        | inl so ↦ inl (
          record {
            sealed = subst (λ (bs : List Beyond). AllByRecursion (λ y. IsSealed (Forget b ∷ t) y.branch) bs) (sym (forgot_beyond x)) (all_weaker _ _ (λ y at. (at.0, exit_stays (Forget b) t y.branch (Sealed at.0) at.1)) (beyond x) so.0.sealed);
            unheard = λ none. subst (λ (bs : List Beyond). AllByRecursion (λ y. y.acked ≡ false) bs) (sym (forgot_beyond x)) (so.0.unheard none);
            whole = λ un. (let no = (so.0.whole un).0 in let yes = is.1 me in absurd (cc (no, yes)));
            forgets = λ has. refl;
          },
          λ knows new every. absurd cc,
        )
      ]

      other : (x : KeptRow) → same x.me b ≡ false → Left x → Tells (said ++ says) (Forget b ∷ t) bound x
      other x apart is = elim is.0 [
        | inr old ↦ inr old
        | inl so ↦ (let stays : Stays t (Forget b ∷ t) x.me = stays_with t (Forget b) x.me (λ at. (let it : b ≡ x.me = cc in let yes : same x.me b ≡ true = same_from_equal x.me b (sym it) in absurd (cc (apart, yes)))) in
            inl (plain_stays t (Forget b ∷ t) x stays so.0, acks_more said says x (so.1 apart)))
      ]
