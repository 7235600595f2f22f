-- The undo extents of branches: what one more set, a branch that leaves or one that seals makes of their sum.
use Rattle.std.proofs.Common.{◌≡◌, ℕ, ◌+◌, ◌≤◌, Bool, true, false, not, if◌then◌else◌, List, [], ◌∷◌, nat_lt, Option, Some, None, refl, sym, ap, ◌∙◌, arith}
use Rattle.std.specs.Prelude.{sum_by}
use Rattle.std.proofs.lemmas.Bool.Decides.{nat_tests}
use Rattle.std.proofs.lemmas.List.Sums.{sum_by-cons}
use Rattle.sql_check.specs.Refusals.{ora, dtx, refuse_if, else_refuse}
use Rattle.tran_ids.specs.Numbers.{decimal}
use Rattle.tran_ids.specs.Branch.{branch_below, put_by_branch}
use Rattle.row_store.specs.Store.{own_extents, doubt_extents, extents_of_sets}
use Rattle.stmt_run.specs.Run.{StmtContext, needed_extents, too_many_changes, space_refusal}
use Rattle.node_rules.specs.Data.{Change, ChangeSet, BranchId, Owned, Doubt}
use Rattle.node_rules.specs.Words.{same, item_at, put_item, drop_item}
use Rattle.node_rules.specs.Rows.{changes_length, extents, undo_of}
use Rattle.node_rules.specs.NodeState.{own_id, doubt_id, sets_of, sets_at}

-- ---- sums over a list with one item for each branch

module _ {A : Type 0} (id : A → BranchId) (f : A → ℕ) where
  -- what an item counts, where there is one
  abbrev counted : Option A → ℕ
  counted None = 0
  counted (Some x) = f x

  -- an item in the place of its branch's
  sum_put : (xs : List A) (x : A) → sum_by f (put_item id xs x) + counted (item_at id xs (id x)) ≡ sum_by f xs + f x
  sum_put [] x = let one = sum_by-cons f x [] in let none : sum_by f [] ≡ 0 = refl in omega (arith, one, none)
  sum_put (y ∷ ys) x = by (same (id y) (id x)) (sum_put ys x)
    where
      by : (here : Bool) → sum_by f (put_item id ys x) + counted (item_at id ys (id x)) ≡ sum_by f ys + f x
          → sum_by f (if here then x ∷ ys else y ∷ put_item id ys x) + counted (if here then Some y else item_at id ys (id x)) ≡ sum_by f (y ∷ ys) + f x
      by true rest = let new = sum_by-cons f x ys in let old = sum_by-cons f y ys in omega (arith, new, old)
      by false rest = let new = sum_by-cons f y (put_item id ys x) in let old = sum_by-cons f y ys in omega (arith, new, old, rest)

  fewer : (xs : List A) (b : BranchId) → sum_by f (drop_item id xs b) ≤ sum_by f xs
  fewer [] b = omega arith
  fewer (y ∷ ys) b = by (same (id y) b) (fewer ys b)
    where
      by : (here : Bool) → sum_by f (drop_item id ys b) ≤ sum_by f ys → sum_by f (if not here then y ∷ drop_item id ys b else drop_item id ys b) ≤ sum_by f (y ∷ ys)
      by true rest = let old = sum_by-cons f y ys in omega (arith, old, rest)
      by false rest = let new = sum_by-cons f y (drop_item id ys b) in let old = sum_by-cons f y ys in omega (arith, new, old, rest)

  -- a branch that leaves
  sum_drop : (xs : List A) (b : BranchId) → sum_by f (drop_item id xs b) + counted (item_at id xs b) ≤ sum_by f xs
  sum_drop [] b = omega arith
  sum_drop (y ∷ ys) b = by (same (id y) b) (fewer ys b) (sum_drop ys b)
    where
      by : (here : Bool) → sum_by f (drop_item id ys b) ≤ sum_by f ys → sum_by f (drop_item id ys b) + counted (item_at id ys b) ≤ sum_by f ys
          → sum_by f (if not here then y ∷ drop_item id ys b else drop_item id ys b) + counted (if here then Some y else item_at id ys b) ≤ sum_by f (y ∷ ys)
      by true less rest = let old = sum_by-cons f y ys in omega (arith, old, less)
      by false less rest = let new = sum_by-cons f y (drop_item id ys b) in let old = sum_by-cons f y ys in omega (arith, new, old, rest)

-- ---- the extents of live branches

abbrev own_undo : Owned → ℕ
own_undo o = extents (changes_length (undo_of o.sets))

counted_is : (o : Option Owned) → counted own_id own_undo o ≡ extents_of_sets (sets_of o)
counted_is None = refl
counted_is (Some o) = refl

-- with other sets of a branch
pub room_put : (owns : List Owned) (b : BranchId) (sets : List ChangeSet)
    → own_extents (put_item own_id owns (record { branch = b; sets = sets })) + extents_of_sets (sets_at owns b) ≡ own_extents owns + extents_of_sets sets
room_put owns b sets =
    ap (λ n. own_extents (put_item own_id owns (record { branch = b; sets = sets })) + n) (sym (counted_is (item_at own_id owns b))) ∙ sum_put own_id own_undo owns (record { branch = b; sets = sets })

-- without those of a branch
pub room_drop : (owns : List Owned) (b : BranchId) → own_extents (drop_item own_id owns b) + extents_of_sets (sets_at owns b) ≤ own_extents owns
room_drop owns b = let is = counted_is (item_at own_id owns b) in let less = sum_drop own_id own_undo owns b in omega (arith, is, less)

-- ---- the extents of branches in doubt

abbrev doubt_undo : Doubt → ℕ
doubt_undo d = extents (changes_length d.undo)

pub doubts_fewer : (ds : List Doubt) (b : BranchId) → doubt_extents (drop_item doubt_id ds b) ≤ doubt_extents ds
doubts_fewer ds b = fewer doubt_id doubt_undo ds b

pub doubts_with : (ds : List Doubt) (d : Doubt) → doubt_extents (put_by_branch doubt_id ds d) ≡ doubt_extents ds + extents (changes_length d.undo)
doubts_with [] d = let one = sum_by-cons doubt_undo d [] in let none : sum_by doubt_undo [] ≡ 0 = refl in omega (arith, one, none)
doubts_with (e ∷ ds) d = by (branch_below d.branch e.branch) (doubts_with ds d)
  where
    by : (here : Bool) → doubt_extents (put_by_branch doubt_id ds d) ≡ doubt_extents ds + extents (changes_length d.undo)
        → sum_by doubt_undo (if here then d ∷ e ∷ ds else e ∷ put_by_branch doubt_id ds d) ≡ sum_by doubt_undo (e ∷ ds) + extents (changes_length d.undo)
    by true rest = let one = sum_by-cons doubt_undo d (e ∷ ds) in omega (arith, one)
    by false rest = let new = sum_by-cons doubt_undo e (put_by_branch doubt_id ds d) in let old = sum_by-cons doubt_undo e ds in omega (arith, new, old, rest)

-- ---- a run that is not refused for space

not_refused : (a b : Bool) (need free : ℕ) → else_refuse (refuse_if a (dtx 16 [])) (refuse_if b (ora 30036 (decimal need ∷ decimal free ∷ []))) ≡ None → b ≡ false
not_refused true b need free none = absurd cc
not_refused false true need free none = absurd cc
not_refused false false need free none = refl

-- the extents that it needs are free
pub has_room : (g : StmtContext) (cs : List Change) → space_refusal g cs ≡ None → needed_extents g cs ≤ g.free
has_room g cs none =
    let enough : nat_lt g.free (needed_extents g cs) ≡ false = not_refused (too_many_changes g cs) (nat_lt g.free (needed_extents g cs)) (needed_extents g cs) g.free none in
    grind (arith, nat_tests, enough)
