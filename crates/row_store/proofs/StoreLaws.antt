-- Changes that have places, and the rows that a branch sees.
use Rattle.std.proofs.Common.{◌≡◌, ℕ, ◌+◌, ◌<◌, zero, suc, Bool, true, false, cond, not, List, [], ◌∷◌, ◌++◌, take, drop, length, get_or, None, Some, Option, refl, sym, ap, subst, ◌∙◌, arith}
use Rattle.std.proofs.lemmas.List.{take-append-drop}
use Rattle.std.proofs.lemmas.Grind.{flat_map-append}
use Rattle.dtx_values.specs.declared.value.Value.{Value}
use Rattle.dtx_values.specs.declared.row.Change.{Change}
use Rattle.tran_ids.specs.declared.branch.BranchId.{BranchId}
use Rattle.tran_ids.specs.Branch.{same}
use Rattle.tran_ids.specs.Listed.{item_at, put_item, drop_item}
use Rattle.row_store.specs.declared.pending.ChangeSet.{ChangeSet}
use Rattle.row_store.specs.declared.pending.Owned.{Owned}
use Rattle.std.proofs.lemmas.List.Sums.{sum_by-append}
use Rattle.sql_eval.specs.Rows.{change_length}
use Rattle.row_store.specs.Own.{changes_length}
use Rattle.row_store.specs.Pending.{changes_of, undo_of}
use Rattle.row_store.specs.Tables.{TableRows}
use Rattle.row_store.specs.TablePlaces.{Shelf, has_place_in}
use Rattle.row_store.specs.AllPlaced.{ArePlaced, AllPlaced}
use Rattle.row_store.specs.Store.{own_id, sets_of, sets_at, less_last, without_last, but_last, has_table, AreOfTables}

module _ (sh : List Shelf) where
  at_if : (o : Owned) (owns : List Owned) (b : BranchId) (hit : Bool) → ArePlaced sh (changes_of o.sets) → ArePlaced sh (changes_of (sets_of (item_at own_id owns b)))
      → ArePlaced sh (changes_of (sets_of (cond hit (Some o) (item_at own_id owns b))))
  at_if o owns b true one rest = one
  at_if o owns b false one rest = rest

  -- those of one branch
  pub placed_at : (owns : List Owned) (b : BranchId) → AllPlaced sh owns → ArePlaced sh (changes_of (sets_at owns b))
  placed_at [] b all = tt
  placed_at (o ∷ owns) b all = at_if o owns b (same o.branch b) all.0 (placed_at owns b all.1)

  put_if : (o p : Owned) (owns more : List Owned) (hit : Bool) → ArePlaced sh (changes_of p.sets) → ArePlaced sh (changes_of o.sets) → AllPlaced sh owns → AllPlaced sh more
      → AllPlaced sh (cond hit (p ∷ owns) (o ∷ more))
  put_if o p owns more true one other rest later = (one, rest)
  put_if o p owns more false one other rest later = (other, later)

  -- with a branch's put in
  pub placed_put : (owns : List Owned) (o : Owned) → AllPlaced sh owns → ArePlaced sh (changes_of o.sets) → AllPlaced sh (put_item own_id owns o)
  placed_put [] o all one = (one, tt)
  placed_put (p ∷ owns) o all one = put_if p o owns (put_item own_id owns o) (same p.branch o.branch) one all.0 all.1 (placed_put owns o all.1 one)

  drop_if : (o : Owned) (more : List Owned) (stays : Bool) → ArePlaced sh (changes_of o.sets) → AllPlaced sh more → AllPlaced sh (cond stays (o ∷ more) more)
  drop_if o more true one later = (one, later)
  drop_if o more false one later = later

  -- without a branch
  pub placed_drop : (owns : List Owned) (b : BranchId) → AllPlaced sh owns → AllPlaced sh (drop_item own_id owns b)
  placed_drop [] b all = tt
  placed_drop (o ∷ owns) b all = drop_if o (drop_item own_id owns b) (not (same o.branch b)) all.0 (placed_drop owns b all.1)

  pub placed_both : (cs ds : List Change) → ArePlaced sh cs → ArePlaced sh ds → ArePlaced sh (cs ++ ds)
  placed_both [] ds a b = b
  placed_both (c ∷ cs) ds a b = (a.0, placed_both cs ds a.1 b)

  placed_front : (cs ds : List Change) → ArePlaced sh (cs ++ ds) → ArePlaced sh cs
  placed_front [] ds all = tt
  placed_front (c ∷ cs) ds all = (all.0, placed_front cs ds all.1)

  placed_take : (n : ℕ) (sets : List ChangeSet) → ArePlaced sh (changes_of sets) → ArePlaced sh (changes_of (take n sets))
  placed_take n sets all =
      placed_front (changes_of (take n sets)) (changes_of (drop n sets))
      (subst (ArePlaced sh) (ap changes_of (sym (take-append-drop n sets)) ∙ flat_map-append (λ (s : ChangeSet). s.changes) (take n sets) (drop n sets)) all)

  less_if : (owns : List Owned) (found : Option Owned) → AllPlaced sh owns → ArePlaced sh (changes_of (sets_of found)) → AllPlaced sh (less_last owns found)
  less_if owns None all one = all
  less_if owns (Some o) all one = placed_put owns (record o { sets = but_last o.sets }) all (placed_take _ o.sets one)

  -- without a branch's last set
  pub placed_less : (owns : List Owned) (b : BranchId) → AllPlaced sh owns → AllPlaced sh (without_last owns b)
  placed_less owns b all = less_if owns (item_at own_id owns b) all (placed_at owns b all)

  module _ (now : List Shelf) (keeps : (name : List ℕ) (key : Value) → has_place_in sh name key ≡ true → has_place_in now name key ≡ true) where
    -- places that stay
    pub placed_still : (cs : List Change) → ArePlaced sh cs → ArePlaced now cs
    placed_still [] all = tt
    placed_still (c ∷ cs) all = (keeps c.table c.key all.0, placed_still cs all.1)

    pub all_still : (owns : List Owned) → AllPlaced sh owns → AllPlaced now owns
    all_still [] all = tt
    all_still (o ∷ owns) all = (placed_still (changes_of o.sets) all.0, all_still owns all.1)

pub no_items : (cs : List Change) → length cs ≡ 0 → cs ≡ []
no_items [] e = refl
no_items (c ∷ cs) e = absurd (omega arith)

-- ---- what a set adds

append_none : (cs : List Change) → cs ++ [] ≡ cs
append_none [] = refl
append_none (c ∷ cs) = ap (λ ds. c ∷ ds) (append_none cs)

-- the undo of one set more
pub undo_of_more : (sets : List ChangeSet) (s : ChangeSet) → undo_of (sets ++ s ∷ []) ≡ undo_of sets ++ s.undo
undo_of_more sets s = flat_map-append (λ (t : ChangeSet). t.undo) sets (s ∷ []) ∙ ap (λ cs. undo_of sets ++ cs) (append_none s.undo)

-- and its bytes
pub undo_more : (sets : List ChangeSet) (s : ChangeSet) → changes_length (undo_of (sets ++ s ∷ [])) ≡ changes_length (undo_of sets) + changes_length s.undo
undo_more sets s = ap changes_length (undo_of_more sets s) ∙ sum_by-append change_length (undo_of sets) s.undo

-- and its changes
pub changes_more : (sets : List ChangeSet) (s : ChangeSet) → changes_of (sets ++ s ∷ []) ≡ changes_of sets ++ s.changes
changes_more sets s = flat_map-append (λ (t : ChangeSet). t.changes) sets (s ∷ []) ∙ ap (λ cs. changes_of sets ++ cs) (append_none s.changes)

-- ---- changes of tables

pub of_table_at : (rows : List TableRows) (cs : List Change) (i : ℕ) (c : Change) → AreOfTables rows cs → i < length cs → c ≡ get_or cs i c → has_table rows c.table ≡ true
of_table_at rows [] i c all within is = absurd (omega arith)
of_table_at rows (d ∷ cs) zero c all within is = ap (λ o. has_table rows o.table) is ∙ all.0
of_table_at rows (d ∷ cs) (suc i) c all within is = of_table_at rows cs i c all.1 (omega arith) is

-- one more change that has a place
pub placed_push : (sh : List Shelf) (cs : List Change) (c : Change) → ArePlaced sh cs → has_place_in sh c.table c.key ≡ true → ArePlaced sh (cs ++ c ∷ [])
placed_push sh [] c all one = (one, tt)
placed_push sh (d ∷ cs) c all one = (all.0, placed_push sh cs c all.1 one)
