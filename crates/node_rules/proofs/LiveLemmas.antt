-- Live branches with their calls: what holds of each, where one is changed, leaves or begins.
use Rattle.std.proofs.Common.{◌≡◌, Bool, true, false, if◌then◌else◌, List, [], ◌∷◌, ◌++◌, Option, Some, None, inl, inr, refl, sym, ap, subst, ◌∙◌, ◌⊎◌}
use Rattle.tran_ids.proofs.ListedLemmas.{item_is, put_found, put_leaves, put_or_before, drop_gone, drop_leaves}
use Rattle.tran_ids.proofs.BranchLemmas.{equal_from_same}
use Rattle.node_rules.specs.Data.{BranchId, Live}
use Rattle.node_rules.specs.declared.work.Work.{Work}
use Rattle.node_rules.specs.Words.{same, item_at, put_item, drop_item}
use Rattle.node_rules.specs.NodeState.{NodeState, Branch, live_id, work_id, no_work, work_or, work_at, with_work, branch_at}
use Rattle.node_rules.specs.LiveBranches.{works_of, EachLive}

-- an item behind the others is found where no other of its branch is
last_found : {A : Type 0} (id : A → BranchId) (xs : List A) (y : A) (b : BranchId) (x : A) → item_at id (xs ++ y ∷ []) b ≡ Some x → (item_at id xs b ≡ Some x) ⊎ ((item_at id xs b ≡ None) × (y ≡ x))
last_found id [] y b x found = by (same (id y) b) found
  where
    by : (here : Bool) → (if here then Some y else item_at id [] b) ≡ Some x → (item_at id [] b ≡ Some x) ⊎ ((item_at id [] b ≡ None) × (y ≡ x))
    by true is = inr (refl, (let it : Some y ≡ Some x = is in cc))
    by false is = absurd cc
last_found id (z ∷ zs) y b x found = by (same (id z) b) found (last_found id zs y b x)
  where
    by : (here : Bool) → (if here then Some z else item_at id (zs ++ y ∷ []) b) ≡ Some x → (item_at id (zs ++ y ∷ []) b ≡ Some x → (item_at id zs b ≡ Some x) ⊎ ((item_at id zs b ≡ None) × (y ≡ x)))
        → ((if here then Some z else item_at id zs b) ≡ Some x) ⊎ (((if here then Some z else item_at id zs b) ≡ None) × (y ≡ x))
    by true is later = inl is
    by false is later = later is

-- nor is one found before where none is found with one more
none_before : {A : Type 0} (id : A → BranchId) (xs : List A) (y : A) (b : BranchId) → item_at id (xs ++ y ∷ []) b ≡ None → item_at id xs b ≡ None
none_before id [] y b none = refl
none_before id (z ∷ zs) y b none = by (same (id z) b) none (none_before id zs y b)
  where
    by : (here : Bool) → (if here then Some z else item_at id (zs ++ y ∷ []) b) ≡ None → (item_at id (zs ++ y ∷ []) b ≡ None → item_at id zs b ≡ None) → (if here then Some z else item_at id zs b) ≡ None
    by true is later = absurd cc
    by false is later = later is

pub none_live : (P : Live → Work → Type 0) → EachLive P [] []
none_live P = record { there = λ b none. refl; each = λ b l found. absurd cc }

-- Each live branch was so, by Q, and is so, by P. A change of one branch shows P of that branch, and of the others from Q.
module _ (Q P : Live → Work → Type 0) (ls : List Live) (ws : List Work) (now : EachLive Q ls ws) where
  -- what becomes of live branches
  abbrev pub Others : (Live → Type 0) → Type 0
  Others Other = (y : Live) (v : Work) → item_at live_id ls y.me ≡ Some y → Other y → Q y v → P y v

  -- not this one
  abbrev pub Not : BranchId → Live → Type 0
  Not c y = same c y.me ≡ false

  abbrev pub Any_live : Live → Type 0
  Any_live y = Unit {0}

  -- one that is live is as before
  other_so : (Other : Live → Type 0) → Others Other → (b : BranchId) (x : Live) (v : Work) → item_at live_id ls b ≡ Some x → Other x → Q x v → P x v
  other_so Other others b x v found other so = others x v (subst (λ m. item_at live_id ls m ≡ Some x) (sym (item_is live_id ls b x found)) found) other so

  not_so : (c b : BranchId) (x : Live) → item_at live_id ls b ≡ Some x → same c b ≡ false → Not c x
  not_so c b x found is = subst (λ m. same c m ≡ false) (sym (item_is live_id ls b x found)) is

  -- a branch that is changed with its calls
  pub each_put : (l : Live) (w : Work) → w.branch ≡ l.me → P l w → Others (Not l.me) → EachLive P (put_item live_id ls l) (put_item work_id ws w)
  each_put l w mine so others = record { there = there; each = each }
    where
      there : (b : BranchId) → item_at live_id (put_item live_id ls l) b ≡ None → item_at work_id (put_item work_id ws w) b ≡ None
      there b none = by (same l.me b) refl
        where
          by : (here : Bool) → same l.me b ≡ here → item_at work_id (put_item work_id ws w) b ≡ None
          by true is = let me : l.me ≡ b = equal_from_same l.me b is in let found : item_at live_id (put_item live_id ls l) b ≡ Some l = subst (λ m. item_at live_id (put_item live_id ls l) m ≡ Some l) me (put_found live_id ls l) in absurd (cc (found, none))
          by false is = put_leaves work_id ws w b (ap (λ m. same m b) mine ∙ is) ∙ now.there b (sym (put_leaves live_id ls l b is) ∙ none)

      each : (b : BranchId) (x : Live) → item_at live_id (put_item live_id ls l) b ≡ Some x → P x (works_of (put_item work_id ws w) b)
      each b x found = by (same l.me b) refl
        where
          by : (here : Bool) → same l.me b ≡ here → P x (works_of (put_item work_id ws w) b)
          by true is =
              let me : l.me ≡ b = equal_from_same l.me b is in
              let it : Some l ≡ Some x = sym (put_found live_id ls l) ∙ (ap (λ m. item_at live_id (put_item live_id ls l) m) me ∙ found) in
              let here : l ≡ x = cc in
              let work : item_at work_id (put_item work_id ws w) b ≡ Some w = subst (λ m. item_at work_id (put_item work_id ws w) m ≡ Some w) (mine ∙ me) (put_found work_id ws w) in
              subst (λ o. P x (work_or b o)) (sym work) (subst (λ y. P y w) here so)
          by false is =
              let was : item_at live_id ls b ≡ Some x = sym (put_leaves live_id ls l b is) ∙ found in
              subst (λ o. P x (work_or b o)) (sym (put_leaves work_id ws w b (ap (λ m. same m b) mine ∙ is)))
              (other_so (Not l.me) others b x (works_of ws b) was (not_so l.me b x was is) (now.each b x was))

  -- one that is changed alone
  pub each_changed : (l : Live) → P l (works_of ws l.me) → Others (Not l.me) → EachLive P (put_item live_id ls l) ws
  each_changed l so others = record { there = there; each = each }
    where
      there : (b : BranchId) → item_at live_id (put_item live_id ls l) b ≡ None → item_at work_id ws b ≡ None
      there b none = elim (put_or_before live_id ls l b) [ inl before ↦ now.there b (sym before ∙ none) | inr new ↦ absurd (let found = new.1 in cc (found, none)) ]

      each : (b : BranchId) (x : Live) → item_at live_id (put_item live_id ls l) b ≡ Some x → P x (works_of ws b)
      each b x found = by (same l.me b) refl
        where
          by : (here : Bool) → same l.me b ≡ here → P x (works_of ws b)
          by true is =
              let me : l.me ≡ b = equal_from_same l.me b is in
              let it : Some l ≡ Some x = sym (put_found live_id ls l) ∙ (ap (λ m. item_at live_id (put_item live_id ls l) m) me ∙ found) in
              let here : l ≡ x = cc in
              subst (λ y. P y (works_of ws b)) here (subst (λ m. P l (works_of ws m)) me so)
          by false is =
              let was : item_at live_id ls b ≡ Some x = sym (put_leaves live_id ls l b is) ∙ found in
              other_so (Not l.me) others b x (works_of ws b) was (not_so l.me b x was is) (now.each b x was)

  -- one that leaves
  pub each_left : (c : BranchId) → Others (Not c) → EachLive P (drop_item live_id ls c) (drop_item work_id ws c)
  each_left c others = record { there = there; each = each }
    where
      there : (b : BranchId) → item_at live_id (drop_item live_id ls c) b ≡ None → item_at work_id (drop_item work_id ws c) b ≡ None
      there b none = by (same c b) refl
        where
          by : (here : Bool) → same c b ≡ here → item_at work_id (drop_item work_id ws c) b ≡ None
          by true is = subst (λ m. item_at work_id (drop_item work_id ws c) m ≡ None) (equal_from_same c b is) (drop_gone work_id ws c)
          by false is = drop_leaves work_id ws c b is ∙ now.there b (sym (drop_leaves live_id ls c b is) ∙ none)

      each : (b : BranchId) (x : Live) → item_at live_id (drop_item live_id ls c) b ≡ Some x → P x (works_of (drop_item work_id ws c) b)
      each b x found = by (same c b) refl
        where
          by : (here : Bool) → same c b ≡ here → P x (works_of (drop_item work_id ws c) b)
          by true is = let gone : item_at live_id (drop_item live_id ls c) b ≡ None = subst (λ m. item_at live_id (drop_item live_id ls c) m ≡ None) (equal_from_same c b is) (drop_gone live_id ls c) in absurd (cc (gone, found))
          by false is =
              let was : item_at live_id ls b ≡ Some x = sym (drop_leaves live_id ls c b is) ∙ found in
              subst (λ o. P x (work_or b o)) (sym (drop_leaves work_id ws c b is)) (other_so (Not c) others b x (works_of ws b) was (not_so c b x was is) (now.each b x was))

  -- one that begins
  pub each_begun : (l : Live) → P l (no_work l.me) → Others Any_live → EachLive P (ls ++ l ∷ []) ws
  each_begun l so others = record { there = λ b none. now.there b (none_before live_id ls l b none); each = each }
    where
      each : (b : BranchId) (x : Live) → item_at live_id (ls ++ l ∷ []) b ≡ Some x → P x (works_of ws b)
      each b x found = elim (last_found live_id ls l b x found) [
        | inl before ↦ other_so Any_live others b x (works_of ws b) before tt (now.each b x before)
        | inr new ↦ (let me : x.me ≡ b = item_is live_id (ls ++ l ∷ []) b x found in
            subst (λ o. P x (work_or b o)) (sym (now.there b new.0)) (subst (λ m. P x (no_work m)) me (subst (λ y. P y (no_work y.me)) new.1 so)))
      ]

  -- no branch changes
  pub each_same : Others Any_live → EachLive P ls ws
  each_same others = record { there = now.there; each = λ b x found. other_so Any_live others b x (works_of ws b) found tt (now.each b x found) }

-- the calls of a branch that is found
work_by : (k : NodeState) (b : BranchId) (x : Branch) (o : Option Live) → (o ≡ Some x.live → x.live.me ≡ b) → with_work k o ≡ Some x → (o ≡ Some x.live) × (x.work ≡ work_at k b)
work_by k b x None me found = absurd cc
work_by k b x (Some l) me found =
    let it : Some (record { live = l; work = work_at k l.me }) ≡ Some x = found in
    let live : l ≡ x.live = ap (λ (y : Branch). y.live) (let here : record { live = l; work = work_at k l.me } ≡ x = cc in here) in
    let work : work_at k l.me ≡ x.work = ap (λ (y : Branch). y.work) (let here : record { live = l; work = work_at k l.me } ≡ x = cc in here) in
    (ap Some live, sym work ∙ ap (λ m. work_at k m) (ap (λ y. y.me) live ∙ me (ap Some live)))

pub branch_parts : (k : NodeState) (b : BranchId) (x : Branch) → branch_at k b ≡ Some x → (item_at live_id k.lives b ≡ Some x.live) × (x.work ≡ works_of k.works b)
branch_parts k b x found = work_by k b x (item_at live_id k.lives b) (λ is. item_is live_id k.lives b x.live is) found

-- the calls are of the branch
works_are : (ws : List Work) (b : BranchId) (o : Option Work) → item_at work_id ws b ≡ o → (work_or b o).branch ≡ b
works_are ws b None is = refl
works_are ws b (Some w) is = item_is work_id ws b w is

pub work_is : (k : NodeState) (b : BranchId) (x : Branch) → branch_at k b ≡ Some x → x.work.branch ≡ x.live.me
work_is k b x found =
    let parts = branch_parts k b x found in
    ap (λ w. w.branch) parts.1 ∙ (works_are k.works b (item_at work_id k.works b) refl ∙ sym (item_is live_id k.lives b x.live parts.0))
