-- The tried undo, by computation.
use Rattle.std.proofs.Common.{◌≡◌, ◌&&◌, Bool, true, false, if◌then◌else◌, Some, None, refl, ap, subst, arith}
use Rattle.std.specs.List.{IsDistinct, AllByRecursion}
use Rattle.std.specs.List.Sorted.{IsStrictlySortedBy}
use Rattle.node_rules.specs.Data.{BranchId, Live}
use Rattle.node_rules.specs.Words.{same, item_at}
use Rattle.node_rules.specs.Rows.{changes_of}
use Rattle.node_rules.specs.NodeState.{live_id, own_id, sets_of, sets_at}
use Rattle.node_undo_laws.specs.Changed.{changes_at, IsMarked, ChangesAreOfLives}
use Rattle.node_undo_laws.specs.Keys.{is_written_by, AreHeld, KeysHeld}
use Rattle.node_undo_laws.specs.Kept.{UndoIsOf, UndoStands, IsEven}
use Rattle.node_undo_laws.specs.TriedUndo.{rows, live, own, root, place, state, TheTriedUndo}

of_live : (b : BranchId) → item_at live_id state.lives b ≡ None → item_at own_id state.owns b ≡ None
of_live b none = by (same live b) none
  where
    by : (here : Bool) → (if here then Some root else None) ≡ None → (if here then Some own else None) ≡ None
    by true none = absurd cc
    by false none = refl

marked : (b : BranchId) (l : Live) → item_at live_id state.lives b ≡ Some l → IsMarked state.owns l
marked b l found = by (same live b) found
  where
    by : (here : Bool) → (if here then Some root else None) ≡ Some l → IsMarked state.owns l
    by true found = let it : root ≡ l = cc in subst (IsMarked state.owns) it refl
    by false found = absurd cc

own_held : (b : BranchId) → AreHeld (is_written_by b) state.locks (changes_at state.owns b)
own_held b = by (same live b) refl
  where
    by : (here : Bool) → same live b ≡ here → AreHeld (is_written_by b) state.locks (changes_of (sets_of (if here then Some own else None)))
    by true is = let writes : (same live b && true) ≡ true = ap (λ here. here && true) is in (writes, (writes, tt))
    by false is = tt

own_undo : (b : BranchId) → UndoIsOf rows (sets_at state.owns b)
own_undo b = by (same live b)
  where
    by : (here : Bool) → UndoIsOf rows (sets_of (if here then Some own else None))
    by true = refl
    by false = refl

lives : ChangesAreOfLives state.lives state.owns
lives = record { live = of_live; marked = marked }

keys : KeysHeld state.locks state.owns state.stored.doubts
unfolding IsDistinct
keys = record { apart = ((refl, tt), (tt, tt)); own = own_held; doubts = ((refl, tt), tt) }

stands : UndoStands place.undo state.stored.rows state.owns state.stored.doubts
unfolding IsStrictlySortedBy
stands = record { ordered = ((tt, tt), tt); own = own_undo; held_back = (refl, tt); room = omega arith }

even : (b : BranchId) → AllByRecursion IsEven (sets_at state.owns b)
even b = by (same live b)
  where
    by : (here : Bool) → AllByRecursion IsEven (sets_of (if here then Some own else None))
    by true = (refl, (refl, tt))
    by false = tt

pub the_tried_undo : TheTriedUndo
the_tried_undo = record {
  has = record { lives = lives; keys = keys; stands = stands; even = even };
  undo = refl;
  used = refl;
  committed = refl;
  sealed_so = refl;
  sealed_uses = refl;
  unlocked = refl;
}
