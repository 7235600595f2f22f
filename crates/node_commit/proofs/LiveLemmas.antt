-- A live branch that was put in its place already: where it is put there again, and where it leaves.
use Rattle.std.proofs.Common.{◌≡◌, Bool, true, false, not, if◌then◌else◌, cond, List, [], ◌∷◌, Some, refl, sym, ap, subst, ◌∙◌}
use Rattle.tran_ids.specs.declared.branch.BranchId.{BranchId}
use Rattle.tran_ids.specs.Branch.{same}
use Rattle.tran_ids.specs.Listed.{item_at, put_item, drop_item}
use Rattle.tran_ids.proofs.BranchLemmas.{same_from_equal}
use Rattle.tran_ids.proofs.ListedLemmas.{item_is}
use Rattle.session_tree.specs.declared.live.Live.{Live}
use Rattle.session_tree.specs.declared.act.Act.{Act}
use Rattle.session_tree.specs.declared.act.Act.TheVariants as acts
use Rattle.prepare_phase.specs.Acts.{after_act}
use Rattle.node_rules.specs.NodeState.{NodeState, TurnDraft, live_id, with_live}
use Rattle.node_rules.specs.Prepare.{ready, act_turn}

module _ {A : Type 0} (id : A → BranchId) where
  put_same_if : (y x : A) (ys : List A) (here : Bool) → (if here then Some y else item_at id ys (id x)) ≡ Some x → (item_at id ys (id x) ≡ Some x → put_item id ys x ≡ ys)
      → (if here then x ∷ ys else y ∷ put_item id ys x) ≡ y ∷ ys
  put_same_if y x ys true found later = let some : Some y ≡ Some x = found in let it : y ≡ x = cc in ap (λ (z : A). z ∷ ys) (sym it)
  put_same_if y x ys false found later = ap (λ (zs : List A). y ∷ zs) (later found)

  -- an item that stands in its place
  put_same : (xs : List A) (x : A) → item_at id xs (id x) ≡ Some x → put_item id xs x ≡ xs
  put_same [] x found = absurd cc
  put_same (y ∷ ys) x found = put_same_if y x ys (same (id y) (id x)) found (put_same ys x)

  put_twice_if : (z x y : A) (xs : List A) → id x ≡ id y → (here : Bool) → same (id z) (id x) ≡ here → put_item id (put_item id xs x) y ≡ put_item id xs y
      → put_item id (if here then x ∷ xs else z ∷ put_item id xs x) y ≡ (if same (id z) (id y) then y ∷ xs else z ∷ put_item id xs y)
  put_twice_if z x y xs is true at later =
      ap (λ here. if here then y ∷ xs else x ∷ put_item id xs y) (same_from_equal (id x) (id y) is)
      ∙ sym (ap (λ here. if here then y ∷ xs else z ∷ put_item id xs y) (ap (same (id z)) (sym is) ∙ at))
  put_twice_if z x y xs is false at later =
      let apart : same (id z) (id y) ≡ false = ap (same (id z)) (sym is) ∙ at in
      ap (λ here. if here then y ∷ put_item id xs x else z ∷ put_item id (put_item id xs x) y) apart
      ∙ ap (λ (ys : List A). z ∷ ys) later
      ∙ sym (ap (λ here. if here then y ∷ xs else z ∷ put_item id xs y) apart)

  -- an item put in the place of one that was put there before
  put_twice : (xs : List A) (x y : A) → id x ≡ id y → put_item id (put_item id xs x) y ≡ put_item id xs y
  put_twice [] x y is = ap (λ here. if here then y ∷ [] else x ∷ y ∷ []) (same_from_equal (id x) (id y) is)
  put_twice (z ∷ zs) x y is = put_twice_if z x y zs is (same (id z) (id x)) refl (put_twice zs x y is)

  drop_put_if : (y x : A) (ys : List A) (here : Bool) → same (id y) (id x) ≡ here → drop_item id (put_item id ys x) (id x) ≡ drop_item id ys (id x)
      → drop_item id (if here then x ∷ ys else y ∷ put_item id ys x) (id x) ≡ cond (not here) (y ∷ drop_item id ys (id x)) (drop_item id ys (id x))
  drop_put_if y x ys true is later = ap (λ here. cond (not here) (x ∷ drop_item id ys (id x)) (drop_item id ys (id x))) (same_from_equal (id x) (id x) refl)
  drop_put_if y x ys false is later =
      ap (λ here. cond (not here) (y ∷ drop_item id (put_item id ys x) (id x)) (drop_item id (put_item id ys x) (id x))) is
      ∙ ap (λ (zs : List A). y ∷ zs) later

  -- a branch that is left out after its item was put
  drop_put : (xs : List A) (x : A) → drop_item id (put_item id xs x) (id x) ≡ drop_item id xs (id x)
  drop_put [] x = ap (λ here. cond (not here) (x ∷ []) []) (same_from_equal (id x) (id x) refl)
  drop_put (y ∷ ys) x = drop_put_if y x ys (same (id y) (id x)) refl (drop_put ys x)

-- what a turn does, with these live branches after it
abbrev with_lives : TurnDraft → List Live → TurnDraft
with_lives d ls = record d { after = record d.after { lives = ls } }

-- a branch that leaves
leaves_as : (k : NodeState) (l : Live) (d : TurnDraft) → with_lives d (drop_item live_id (put_item live_id k.lives l) l.me) ≡ with_lives d (drop_item live_id k.lives l.me)
leaves_as k l d = ap (with_lives d) (drop_put live_id k.lives l)

-- What a branch does next is the same where it stands among the live branches already as it is from then on.
pub act_again : (k : NodeState) (l : Live) (site_below : Bool) (act : Act) → act_turn (with_live k (after_act l act)) (after_act l act) site_below act ≡ act_turn k l site_below act
act_again k l site_below acts.Rest = ap (with_lives (act_turn k l site_below acts.Rest)) (put_twice live_id k.lives l l refl)
act_again k l site_below acts.AskDown = ap (with_lives (act_turn k l site_below acts.AskDown)) (put_twice live_id k.lives l l refl)
act_again k l site_below acts.SayReadOnly = leaves_as k l (act_turn k l site_below acts.SayReadOnly)
act_again k l site_below acts.SayReady = ap (with_lives (act_turn k l site_below acts.SayReady)) (put_twice live_id k.lives (ready l) (ready l) refl)
act_again k l site_below acts.Seal = leaves_as k l (act_turn k l site_below acts.Seal)
act_again k l site_below (acts.SealAndPass i) = leaves_as k l (act_turn k l site_below (acts.SealAndPass i))
act_again k l site_below acts.Decide = leaves_as k l (act_turn k l site_below acts.Decide)
act_again k l site_below acts.Finish = leaves_as k l (act_turn k l site_below acts.Finish)
act_again k l site_below acts.Abandon = leaves_as k l (act_turn k l site_below acts.Abandon)

-- ---- a branch that is looked up

-- it has the id that was asked for
pub is_its : (ls : List Live) (b : BranchId) (l : Live) → Some l ≡ item_at live_id ls b → l.me ≡ b
is_its ls b l found = item_is live_id ls b l (sym found)

-- and stands in its place
pub stays : (ls : List Live) (b : BranchId) (l : Live) → Some l ≡ item_at live_id ls b → put_item live_id ls l ≡ ls
stays ls b l found = put_same live_id ls l (subst (λ c. item_at live_id ls c ≡ Some l) (sym (is_its ls b l found)) (sym found))
