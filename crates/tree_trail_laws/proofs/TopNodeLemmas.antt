-- A session without a pending call has a live root, where it has a transaction; where its COMMIT is pending its live root is not working.
use Rattle.std.proofs.Common.{◌≡◌, ◌≢◌, ℕ, ◌&&◌, Bool, true, false, if◌then◌else◌, List, [], ◌∷◌, ◌++◌, is_none, unwrap_or, Option, Some, None, inl, inr, refl, sym, ap, subst, ◌∙◌, ◌⊎◌}
use Rattle.tran_ids.proofs.BranchLemmas.{equal_from_same, same_from_equal}
use Rattle.tran_ids.proofs.ListedLemmas.{put_found, put_leaves, drop_gone, drop_leaves}
use Rattle.node_rules.specs.Data.{Answer, BranchId, Live}
use Rattle.node_rules.specs.Data.phases
use Rattle.node_rules.specs.declared.session.PendingCall.TheVariants as pending
use Rattle.node_rules.specs.declared.session.Session.{Session}
use Rattle.node_rules.specs.Words.{same, is_item_of, item_at, put_item, drop_item, numbered, set_numbered}
use Rattle.node_rules.specs.Refusals.{dtx}
use Rattle.node_rules.specs.NodeState.{live_id}
use Rattle.node_rules.specs.Sessions.{fresh_session, session_at, needs_rollback, no_transaction, commit_is_pending, commit_ended}
use Rattle.node_rules.specs.Calls.{heard_sessions, is_gone}
use Rattle.node_rules.proofs.StandLemmas.{session_set}
use Rattle.run_base_laws.proofs.RootLemmas.{session_or_before}
use Rattle.tree_trail_laws.proofs.PlanLemmas.{find_more}

-- ---- sessions and live branches

-- where no call is pending the transaction is live, and where COMMIT is pending it is not working
abbrev pub RootGoes : List Session → List Live → Type 0
RootGoes ss ls = (m : ℕ) (b : BranchId) → (session_at ss m).root ≡ Some b
    → ((session_at ss m).call ≡ pending.NoCall → (l : Live) × (item_at live_id ls b ≡ Some l)) × ((session_at ss m).call ≡ pending.Commit → (l : Live) → item_at live_id ls b ≡ Some l → l.phase ≢ phases.Working)

-- a session as it was, but for its code, its advice and its last number
abbrev pub Alike : Session → Session → Type 0
Alike s t = (t.root ≡ s.root) × (t.call ≡ s.call)

-- sessions that are as they were, but for those of one transaction, and those that have none now
abbrev pub ButOf : BranchId → List Session → List Session → Type 0
ButOf c ss ts = (m : ℕ) → Alike (session_at ss m) (session_at ts m) ⊎ (((session_at ts m).root ≡ None) ⊎ ((session_at ts m).root ≡ Some c))

one_some : {A : Type 0} (x y : A) (o : Option A) → o ≡ Some x → o ≡ Some y → x ≡ y
one_some x y o one two = let it : Some x ≡ Some y = sym one ∙ two in cc

module _ (ss : List Session) (ls : List Live) (now : RootGoes ss ls) where
  same_at : (ts : List Session) (m : ℕ) (b : BranchId) → Alike (session_at ss m) (session_at ts m) → (session_at ts m).root ≡ Some b
      → ((session_at ts m).call ≡ pending.NoCall → (l : Live) × (item_at live_id ls b ≡ Some l)) × ((session_at ts m).call ≡ pending.Commit → (l : Live) → item_at live_id ls b ≡ Some l → l.phase ≢ phases.Working)
  same_at ts m b alike root = (let was = now m b (sym alike.0 ∙ root) in ((λ free. was.0 (sym alike.1 ∙ free)), (λ commits. was.1 (sym alike.1 ∙ commits))))

  -- no branch changes
  pub same_goes : (ts : List Session) → ((m : ℕ) → Alike (session_at ss m) (session_at ts m) ⊎ ((session_at ts m).root ≡ None)) → RootGoes ts ls
  same_goes ts but m b root = elim (but m) [ inl alike ↦ same_at ts m b alike root | inr none ↦ absurd (cc (root, none)) ]

  -- a branch is put
  pub put_goes : (y : Live) (ts : List Session) → ButOf y.me ss ts → ((m : ℕ) → (session_at ts m).root ≡ Some y.me → (session_at ts m).call ≡ pending.Commit → y.phase ≢ phases.Working) → RootGoes ts (put_item live_id ls y)
  put_goes y ts but busy m b root = by (same y.me b) refl
    where
      by : (q : Bool) → same y.me b ≡ q
          → ((session_at ts m).call ≡ pending.NoCall → (l : Live) × (item_at live_id (put_item live_id ls y) b ≡ Some l))
          × ((session_at ts m).call ≡ pending.Commit → (l : Live) → item_at live_id (put_item live_id ls y) b ≡ Some l → l.phase ≢ phases.Working)
      by true here =
          let me : y.me ≡ b = equal_from_same y.me b here in
          let found : item_at live_id (put_item live_id ls y) b ≡ Some y = subst (λ c. item_at live_id (put_item live_id ls y) c ≡ Some y) me (put_found live_id ls y) in
          ((λ free. (y, found)), (λ commits l at. subst (λ (z : Live). z.phase ≢ phases.Working) (one_some y l (item_at live_id (put_item live_id ls y) b) found at) (busy m (root ∙ ap Some (sym me)) commits)))
      by false other =
          let leaves : item_at live_id (put_item live_id ls y) b ≡ item_at live_id ls b = put_leaves live_id ls y b other in
          elim (but m) [
            | inl alike ↦ (let was = same_at ts m b alike root in ((λ free. (let it = was.0 free in (it.0, leaves ∙ it.1))), (λ commits l at. was.1 commits l (sym leaves ∙ at))))
            | inr more ↦ elim more [
              | inl none ↦ absurd (cc (root, none))
              | inr its ↦ (let me : y.me ≡ b = one_some y.me b (session_at ts m).root its root in let here : same y.me b ≡ true = same_from_equal y.me b me in absurd (cc (here, other)))
            ]
          ]

  -- a branch leaves that is no transaction of a session without a pending call
  pub gone_goes : (c : BranchId) (ts : List Session) → ButOf c ss ts → ((m : ℕ) → (session_at ts m).root ≡ Some c → (session_at ts m).call ≡ pending.NoCall → ⊥) → RootGoes ts (drop_item live_id ls c)
  gone_goes c ts but held m b root = by (same c b) refl
    where
      by : (q : Bool) → same c b ≡ q
          → ((session_at ts m).call ≡ pending.NoCall → (l : Live) × (item_at live_id (drop_item live_id ls c) b ≡ Some l))
          × ((session_at ts m).call ≡ pending.Commit → (l : Live) → item_at live_id (drop_item live_id ls c) b ≡ Some l → l.phase ≢ phases.Working)
      by true here =
          let me : c ≡ b = equal_from_same c b here in
          let none : item_at live_id (drop_item live_id ls c) b ≡ None = subst (λ d. item_at live_id (drop_item live_id ls c) d ≡ None) me (drop_gone live_id ls c) in
          ((λ free. absurd (held m (root ∙ ap Some (sym me)) free)), (λ commits l at. absurd (cc (none, at))))
      by false other =
          let leaves : item_at live_id (drop_item live_id ls c) b ≡ item_at live_id ls b = drop_leaves live_id ls c b other in
          elim (but m) [
            | inl alike ↦ (let was = same_at ts m b alike root in ((λ free. (let it = was.0 free in (it.0, leaves ∙ it.1))), (λ commits l at. was.1 commits l (sym leaves ∙ at))))
            | inr more ↦ elim more [
              | inl none ↦ absurd (cc (root, none))
              | inr its ↦ (let me : c ≡ b = one_some c b (session_at ts m).root its root in let here : same c b ≡ true = same_from_equal c b me in absurd (cc (here, other)))
            ]
          ]

  -- one begins that is working
  pub more_goes : (y : Live) (ts : List Session) → ButOf y.me ss ts → ((m : ℕ) → (session_at ts m).root ≡ Some y.me → (session_at ts m).call ≡ pending.Commit → ⊥) → RootGoes ts (ls ++ y ∷ [])
  more_goes y ts but free m b root = by (item_at live_id ls b) refl
    where
      last_of : (xs : List Live) → item_at live_id xs b ≡ None → (l : Live) → item_at live_id (xs ++ y ∷ []) b ≡ Some l → y.me ≡ b
      last_of [] none l at = last (same y.me b) refl at
        where
          last : (q : Bool) → same y.me b ≡ q → (if q then Some y else None) ≡ Some l → y.me ≡ b
          last true here at = equal_from_same y.me b here
          last false other at = absurd cc
      last_of (x ∷ xs) none l at = next (same x.me b) none at (last_of xs)
        where
          next : (q : Bool) → (if q then Some x else item_at live_id xs b) ≡ None → (if q then Some x else item_at live_id (xs ++ y ∷ []) b) ≡ Some l
              → (item_at live_id xs b ≡ None → (l : Live) → item_at live_id (xs ++ y ∷ []) b ≡ Some l → y.me ≡ b) → y.me ≡ b
          next true none at rest = absurd cc
          next false none at rest = rest none l at

      is_last : (xs : List Live) → y.me ≡ b → item_at live_id xs b ≡ None → item_at live_id (xs ++ y ∷ []) b ≡ Some y
      is_last [] me none = ap (λ q. if q then Some y else None) (same_from_equal y.me b me)
      is_last (x ∷ xs) me none = next (same x.me b) none (is_last xs me)
        where
          next : (q : Bool) → (if q then Some x else item_at live_id xs b) ≡ None → (item_at live_id xs b ≡ None → item_at live_id (xs ++ y ∷ []) b ≡ Some y) → (if q then Some x else item_at live_id (xs ++ y ∷ []) b) ≡ Some y
          next true none rest = absurd cc
          next false none rest = rest none

      by : (o : Option Live) → item_at live_id ls b ≡ o
          → ((session_at ts m).call ≡ pending.NoCall → (l : Live) × (item_at live_id (ls ++ y ∷ []) b ≡ Some l))
          × ((session_at ts m).call ≡ pending.Commit → (l : Live) → item_at live_id (ls ++ y ∷ []) b ≡ Some l → l.phase ≢ phases.Working)
      by (Some z) found =
          let there : item_at live_id (ls ++ y ∷ []) b ≡ Some z = find_more (is_item_of live_id b) ls (y ∷ []) z found in (
            (λ none. (z, there)),
            (λ commits l at. elim (but m) [
              | inl alike ↦ (same_at ts m b alike root).1 commits l (found ∙ ap Some (one_some z l (item_at live_id (ls ++ y ∷ []) b) there at))
              | inr more ↦ elim more [
                | inl none ↦ absurd (cc (root, none))
                | inr its ↦ absurd (free m its commits)
              ]
            ]),
          )
      by None none = elim (but m) [
        | inl alike ↦ (let was = same_at ts m b alike root in
            ((λ is_free. (let it = was.0 is_free in absurd (let at = it.1 in cc (none, at)))), (λ commits l at. absurd (free m (root ∙ ap Some (sym (last_of ls none l at))) commits))))
        | inr more ↦ elim more [
          | inl gone ↦ absurd (cc (root, gone))
          | inr its ↦ (let me : y.me ≡ b = one_some y.me b (session_at ts m).root its root in ((λ is_free. (y, is_last ls me none)), (λ commits l at. absurd (free m its commits))))
        ]
      ]

-- ---- changes of sessions

-- a session that has a transaction is set
pub session_put : (ss : List Session) (n : ℕ) (b : BranchId) (s : Session) → (session_at ss n).root ≡ Some b → session_at (set_numbered ss n s) n ≡ s
session_put ss n b s has = by (numbered ss n) refl has
  where
    by : (o : Option Session) → numbered ss n ≡ o → (unwrap_or o fresh_session).root ≡ Some b → session_at (set_numbered ss n s) n ≡ s
    by None at none = absurd cc
    by (Some t) at some = session_set ss n t s at

module _ (ss : List Session) where
  like : (m : ℕ) (t : Session) → t ≡ session_at ss m → Alike (session_at ss m) t
  like m t is = (ap (λ (s : Session). s.root) is, ap (λ (s : Session). s.call) is)

  pub all_alike : (c : BranchId) → ButOf c ss ss
  all_alike c m = inl (refl, refl)

  -- a session of this transaction is set
  pub set_but : (c : BranchId) (n : ℕ) (s : Session) → s.root ≡ Some c → ButOf c ss (set_numbered ss n s)
  set_but c n s root m = elim (session_or_before ss n m s) [ inl still ↦ inl (like m _ still) | inr new ↦ inr (inr (ap (λ (x : Session). x.root) new.1 ∙ root)) ]

  -- a session ends
  pub none_but : (c : BranchId) (n : ℕ) (s : Session) → s.root ≡ None → ButOf c ss (set_numbered ss n s)
  none_but c n s root m = elim (session_or_before ss n m s) [ inl still ↦ inl (like m _ still) | inr new ↦ inr (inl (ap (λ (x : Session). x.root) new.1 ∙ root)) ]

  -- one is set that stays alike
  pub alike_set : (n : ℕ) (s : Session) → Alike (session_at ss n) s → (m : ℕ) → Alike (session_at ss m) (session_at (set_numbered ss n s) m)
  alike_set n s alike m = elim (session_or_before ss n m s) [
    | inl still ↦ like m _ still
    | inr new ↦ (ap (λ (x : Session). x.root) new.1 ∙ (alike.0 ∙ ap (λ i. (session_at ss i).root) new.0), ap (λ (x : Session). x.call) new.1 ∙ (alike.1 ∙ ap (λ i. (session_at ss i).call) new.0))
  ]

  -- the COMMIT of a transaction ends
  pub ended_alike : (c : BranchId) (m : ℕ) → Alike (session_at ss m) (session_at (commit_ended ss c) m) ⊎ ((session_at (commit_ended ss c) m).root ≡ None)
  ended_alike c m = by (commit_is_pending ss c)
    where
      by : (q : Bool) → Alike (session_at ss m) (session_at (if q then set_numbered ss c.session (no_transaction (session_at ss c.session)) else ss) m)
          ⊎ ((session_at (if q then set_numbered ss c.session (no_transaction (session_at ss c.session)) else ss) m).root ≡ None)
      by true = elim (session_or_before ss c.session m (no_transaction (session_at ss c.session))) [ inl still ↦ inl (like m _ still) | inr new ↦ inr (ap (λ (x : Session). x.root) new.1) ]
      by false = inl (refl, refl)

  pub ended_but : (c d : BranchId) → ButOf d ss (commit_ended ss c)
  ended_but c d m = elim (ended_alike c m) [ inl alike ↦ inl alike | inr none ↦ inr (inl none) ]

  pub heard_alike : (l : Live) (a : Answer) (m : ℕ) → Alike (session_at ss m) (session_at (heard_sessions ss l a) m)
  heard_alike l a m = by (is_none l.parent && is_gone a)
    where
      by : (q : Bool) → Alike (session_at ss m) (session_at (if q then needs_rollback ss l.me.session (dtx 8 []).code else ss) m)
      by true = alike_set l.me.session (record (session_at ss l.me.session) { code = Some (dtx 8 []).code }) (refl, refl) m
      by false = (refl, refl)
