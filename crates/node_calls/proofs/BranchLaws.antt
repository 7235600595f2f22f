-- A live branch where it stands, and where it is changed there.
use Rattle.std.proofs.Common.{◌≡◌, ◌<◌, ◌^◌, Bool, true, false, if◌then◌else◌, List, [], ◌∷◌, Option, None, Some, IfSome, refl, sym, ap, subst, ◌∙◌}
use Rattle.tran_ids.specs.declared.branch.BranchId.{BranchId}
use Rattle.tran_ids.specs.Branch.{same}
use Rattle.tran_ids.specs.Listed.{item_at, put_item}
use Rattle.tran_ids.proofs.BranchLemmas.{same_from_equal}
use Rattle.tran_ids.proofs.ListedLemmas.{item_is, put_found}
use Rattle.session_tree.specs.Tree.{count}
use Rattle.node_rules.specs.Data.{Live}
use Rattle.node_rules.specs.declared.work.Work.{Work}
use Rattle.node_rules.specs.NodeState.{NodeState, Branch, TurnDraft as DraftByRules, live_id, work_id, work_or, with_work, branch_at, with_branch, nothing}
use Rattle.node_state.specs.Changed.{change_item, with_item}
use Rattle.node_state.specs.Works.{work_of, change_work}
use Rattle.node_drafts.specs.declared.draft.TurnDraft.{TurnDraft}
use Rattle.node_drafts.specs.Gives.{GivesDraft}
use Rattle.node_calls.specs.Handled.{at_live}

module _ {A : Type 0} (id : A → BranchId) where
  back_if : (y x : A) (ys : List A) (here : Bool) → (if here then Some y else item_at id ys (id x)) ≡ Some x → (item_at id ys (id x) ≡ Some x → put_item id ys x ≡ ys)
      → (if here then x ∷ ys else y ∷ put_item id ys x) ≡ y ∷ ys
  back_if y x ys true found later = let it : x ≡ y = (let e : Some y ≡ Some x = found in cc) in ap (λ z. z ∷ ys) it
  back_if y x ys false found later = ap (λ zs. y ∷ zs) (later found)

  back_me : (xs : List A) (x : A) → item_at id xs (id x) ≡ Some x → put_item id xs x ≡ xs
  back_me [] x found = absurd cc
  back_me (y ∷ ys) x found = back_if y x ys (same (id y) (id x)) found (back_me ys x)

  -- an item that is there, put where it stands
  pub put_back : (xs : List A) (b : BranchId) (x : A) → item_at id xs b ≡ Some x → put_item id xs x ≡ xs
  put_back xs b x found = back_me xs x (subst (λ c. item_at id xs c ≡ Some x) (sym (item_is id xs b x found)) found)

  twice_step : (x y z : A) (xs : List A) → id x ≡ id y → (hit : Bool) → same (id z) (id x) ≡ hit → put_item id (put_item id xs x) y ≡ put_item id xs y
      → put_item id (if hit then x ∷ xs else z ∷ put_item id xs x) y ≡ (if same (id z) (id y) then y ∷ xs else z ∷ put_item id xs y)
  twice_step x y z xs is true at later =
      ap (λ hit. if hit then y ∷ xs else x ∷ put_item id xs y) (same_from_equal (id x) (id y) is)
      ∙ sym (ap (λ hit. if hit then y ∷ xs else z ∷ put_item id xs y) (ap (same (id z)) (sym is) ∙ at))
  twice_step x y z xs is false at later =
      let apart : same (id z) (id y) ≡ false = ap (same (id z)) (sym is) ∙ at in
      ap (λ hit. if hit then y ∷ put_item id xs x else z ∷ put_item id (put_item id xs x) y) apart
      ∙ ap (λ (ys : List A). z ∷ ys) later
      ∙ sym (ap (λ hit. if hit then y ∷ xs else z ∷ put_item id xs y) apart)

  -- an item put in the place of one that was put there before
  pub put_twice : (xs : List A) (x y : A) → id x ≡ id y → put_item id (put_item id xs x) y ≡ put_item id xs y
  put_twice [] x y is = ap (λ hit. if hit then y ∷ [] else x ∷ y ∷ []) (same_from_equal (id x) (id y) is)
  put_twice (z ∷ zs) x y is = twice_step x y z zs is (same (id z) (id x)) refl (put_twice zs x y is)

  -- the same item put in its place
  pub still_there : (xs : List A) (b : BranchId) (o : Option A) → item_at id xs b ≡ o → with_item id (λ x. x) xs o ≡ xs
  still_there xs b None is = refl
  still_there xs b (Some x) is = put_back xs b x is

-- what a branch does that is not live
nobody : (k : NodeState) (b : BranchId) (f : Branch → DraftByRules) → item_at live_id k.lives b ≡ None → at_live k f (branch_at k b) ≡ nothing k
nobody k b f none = ap (λ o. at_live k f (with_work k o)) none

pub nothing_so : (k : NodeState) (b : BranchId) (f : Branch → DraftByRules) (draft : TurnDraft) → item_at live_id k.lives b ≡ None → GivesDraft (nothing k) k draft → GivesDraft (at_live k f (branch_at k b)) k draft
nothing_so k b f draft none does = subst (λ d. GivesDraft d k draft) (sym (nobody k b f none)) does

-- the live branch of an id, with its calls
abbrev pub branch_here : NodeState → BranchId → Live → Branch
branch_here k b l = record { live = l; work = work_of k.works b }

-- what it does
pub somebody : (k : NodeState) (b : BranchId) (l : Live) (f : Branch → DraftByRules) → item_at live_id k.lives b ≡ Some l → at_live k f (branch_at k b) ≡ f (branch_here k b l)
somebody k b l f is = ap (λ o. at_live k f (with_work k o)) is ∙ ap (λ c. f (record { live = l; work = work_of k.works c })) (item_is live_id k.lives b l is)

of_found : (b : BranchId) (o : Option Work) → ((w : Work) → o ≡ Some w → w.branch ≡ b) → (work_or b o).branch ≡ b
of_found b None is = refl
of_found b (Some w) is = is w refl

-- calls are of their branch
pub work_branch : (ws : List Work) (b : BranchId) → (work_of ws b).branch ≡ b
work_branch ws b = of_found b (item_at work_id ws b) (item_is work_id ws b)

-- ---- a branch that was changed where it stands

-- it is found
pub found_changed : (k : NodeState) (b : BranchId) (x : Branch) → x.live.me ≡ b → x.work.branch ≡ x.live.me → branch_at (with_branch k x) b ≡ Some x
found_changed k b x me mine =
    ap (λ o. with_work (with_branch k x) o) (subst (λ c. item_at live_id (put_item live_id k.lives x.live) c ≡ Some x.live) me (put_found live_id k.lives x.live))
    ∙ ap (λ w. Some (record { live = x.live; work = work_or x.live.me w }))
    (subst (λ c. item_at work_id (put_item work_id k.works x.work) c ≡ Some x.work) mine (put_found work_id k.works x.work))

-- and changed once more
pub changed_twice : (k : NodeState) (x y : Branch) → x.live.me ≡ y.live.me → x.work.branch ≡ y.work.branch → with_branch (with_branch k x) y ≡ with_branch k y
changed_twice k x y me mine =
    ap (λ ls. record k { lives = ls; works = put_item work_id (put_item work_id k.works x.work) y.work }) (put_twice live_id k.lives x.live y.live me)
    ∙ ap (λ ws. record k { lives = put_item live_id k.lives y.live; works = ws }) (put_twice work_id k.works x.work y.work mine)

-- ---- what holds of a branch that is changed

module _ (f : Live → Live) (stays : (l : Live) → (f l).me ≡ l.me) where
  -- it is found
  pub changed_there : (ls : List Live) (b : BranchId) (l : Live) → item_at live_id ls b ≡ Some l → item_at live_id (change_item live_id f ls b) b ≡ Some (f l)
  changed_there ls b l is =
      ap (λ o. item_at live_id (with_item live_id f ls o) b) is
      ∙ subst (λ c. item_at live_id (put_item live_id ls (f l)) c ≡ Some (f l)) (stays l ∙ item_is live_id ls b l is) (put_found live_id ls (f l))

  holds_at : (P Q : Live → Type 0) → ((l : Live) → P l → Q (f l)) → (ls : List Live) (b : BranchId) (o : Option Live) → item_at live_id ls b ≡ o → IfSome o P
      → IfSome (item_at live_id (change_item live_id f ls b) b) Q
  holds_at P Q keeps ls b None is holds = subst (λ o. IfSome (item_at live_id (with_item live_id f ls o) b) Q) (sym is) (subst (λ o. IfSome o Q) (sym is) tt)
  holds_at P Q keeps ls b (Some l) is holds = subst (λ o. IfSome o Q) (sym (changed_there ls b l is)) (keeps l holds)

  -- and what holds of it before makes hold what is to hold of it afterwards
  pub holds_changed : (P Q : Live → Type 0) → ((l : Live) → P l → Q (f l)) → (ls : List Live) (b : BranchId) → IfSome (item_at live_id ls b) P → IfSome (item_at live_id (change_item live_id f ls b) b) Q
  holds_changed P Q keeps ls b holds = holds_at P Q keeps ls b (item_at live_id ls b) refl holds

  -- so a branch that tells no more branches than before tells few
  pub few_changed : ((l : Live) → count (f l) ≡ count l) → (ls : List Live) (b : BranchId) → IfSome (item_at live_id ls b) (λ l. count l < 2 ^ 16)
      → IfSome (item_at live_id (change_item live_id f ls b) b) (λ l. count l < 2 ^ 16)
  few_changed same ls b few = holds_changed (λ l. count l < 2 ^ 16) (λ l. count l < 2 ^ 16) (λ l holds. subst (λ n. n < 2 ^ 16) (sym (same l)) holds) ls b few

-- the calls of a branch, changed
pub calls_changed : (f : Work → Work) → ((w : Work) → (f w).branch ≡ w.branch) → (ws : List Work) (b : BranchId) → work_of (change_work f ws b) b ≡ f (work_of ws b)
calls_changed f stays ws b =
    ap (work_or b) (subst (λ c. item_at work_id (put_item work_id ws (f (work_of ws b))) c ≡ Some (f (work_of ws b))) (stays (work_of ws b) ∙ work_branch ws b) (put_found work_id ws (f (work_of ws b))))
