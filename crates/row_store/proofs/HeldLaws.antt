-- Changes of branches in doubt have places, and changes that have places are of tables.
use Rattle.std.proofs.Common.{◌≡◌, ℕ, Bool, true, false, cond, not, List, [], ◌∷◌, ◌++◌, None, Some, Option, is_some, refl, sym, subst, ◌∙◌, true≢false}
use Rattle.std.specs.Map.{lookup}
use Rattle.std.specs.Str.{bytes_eq}
use Rattle.dtx_values.specs.declared.value.Value.{Value}
use Rattle.dtx_values.specs.declared.row.Change.{Change}
use Rattle.tran_ids.specs.declared.branch.BranchId.{BranchId}
use Rattle.tran_ids.specs.Branch.{same, put_by_branch}
use Rattle.tran_ids.specs.Listed.{item_at, drop_item}
use Rattle.row_store.proofs.OrderLemmas.{all_placed}
use Rattle.row_store.specs.declared.pending.ChangeSet.{ChangeSet}
use Rattle.row_store.specs.declared.pending.Doubt.{Doubt}
use Rattle.row_store.specs.declared.pending.Owned.{Owned}
use Rattle.row_store.specs.Pending.{changes_of}
use Rattle.row_store.specs.Places.{Place}
use Rattle.row_store.specs.TablePlaces.{Shelf, rows_in, has_place_on, has_place_in}
use Rattle.row_store.specs.AllPlaced.{ArePlaced, AllHeld, HavePlaces}
use Rattle.row_store.specs.Tables.{TableRows}
use Rattle.row_store.specs.ByBranch.{PendingState}
use Rattle.row_store.specs.Store.{Contents, own_id, doubt_id, sets_at, held_back, AreOfTables, with_set, without_last, sealed_doubt}
use Rattle.row_store.proofs.TableLaws.{table_is}
use Rattle.row_store.proofs.StoreLaws.{placed_still, all_still, placed_at, placed_put, placed_both, placed_drop, placed_less, changes_more}

module _ (sh : List Shelf) where
  at_if : (d : Doubt) (ds : List Doubt) (b : BranchId) (hit : Bool) → ArePlaced sh d.changes → ArePlaced sh (held_back (item_at doubt_id ds b))
      → ArePlaced sh (held_back (cond hit (Some d) (item_at doubt_id ds b)))
  at_if d ds b true one rest = one
  at_if d ds b false one rest = rest

  -- those of one branch
  pub held_at : (ds : List Doubt) (b : BranchId) → AllHeld sh ds → ArePlaced sh (held_back (item_at doubt_id ds b))
  held_at [] b all = tt
  held_at (d ∷ ds) b all = at_if d ds b (same d.branch b) all.0 (held_at ds b all.1)

  drop_if : (d : Doubt) (more : List Doubt) (stays : Bool) → ArePlaced sh d.changes → AllHeld sh more → AllHeld sh (cond stays (d ∷ more) more)
  drop_if d more true one later = (one, later)
  drop_if d more false one later = later

  -- without a branch
  pub held_drop : (ds : List Doubt) (b : BranchId) → AllHeld sh ds → AllHeld sh (drop_item doubt_id ds b)
  held_drop [] b all = tt
  held_drop (d ∷ ds) b all = drop_if d (drop_item doubt_id ds b) (not (same d.branch b)) all.0 (held_drop ds b all.1)

  -- with a branch more
  pub held_put : (ds : List Doubt) (d : Doubt) → AllHeld sh ds → ArePlaced sh d.changes → AllHeld sh (put_by_branch doubt_id ds d)
  held_put ds d all one = all_placed doubt_id (λ e. ArePlaced sh e.changes) ds d all one

  module _ (now : List Shelf) (keeps : (name : List ℕ) (key : Value) → has_place_in sh name key ≡ true → has_place_in now name key ≡ true) where
    held_still : (ds : List Doubt) → AllHeld sh ds → AllHeld now ds
    held_still [] all = tt
    held_still (d ∷ ds) all = (placed_still sh now keeps d.changes all.0, held_still ds all.1)

    -- places that stay
    pub have_still : (owns : List Owned) (ds : List Doubt) → HavePlaces sh owns ds → HavePlaces now owns ds
    have_still owns ds have = record { own = all_still sh now keeps owns have.own; held = held_still ds have.held }

-- ---- a change that has a place is of a table

table_if : (o : Option (List Place)) (key : Value) → has_place_on o key ≡ true → is_some o ≡ true
table_if None key has = absurd (true≢false (sym has))
table_if (Some ps) key has = refl

pub of_tables : (sh : List Shelf) (cs : List Change) → ArePlaced sh cs → AreOfTables (rows_in sh) cs
of_tables sh [] all = tt
of_tables sh (c ∷ cs) all = (sym (table_is sh c.table) ∙ table_if (lookup (bytes_eq c.table) sh) c.key all.0, of_tables sh cs all.1)

-- ---- a branch that is not in doubt

pub not_found : (o : Option Doubt) → is_some o ≡ false → o ≡ None
not_found None e = refl
not_found (Some d) e = absurd (true≢false e)

-- ---- places for what is kept beside the rows

-- the contents with these rows
abbrev pub contents_of : List TableRows → PendingState → Contents
contents_of rows s = record { rows = rows; owns = s.owns; doubts = s.doubts; extents = s.extents }

abbrev pub HaveFor : List Shelf → PendingState → Type 0
HaveFor sh s = HavePlaces sh s.owns s.doubts

-- places that stay
pub still_for : (sh now : List Shelf) → ((name : List ℕ) (key : Value) → has_place_in sh name key ≡ true → has_place_in now name key ≡ true)
    → (s : PendingState) → HaveFor sh s → HaveFor now s
still_for sh now keeps s have = have_still sh now keeps s.owns s.doubts have

-- a live branch leaves
pub leave_for : (sh : List Shelf) (s t : PendingState) (b : BranchId) → t ≡ record s { owns = drop_item own_id s.owns b } → HaveFor sh s → HaveFor sh t
leave_for sh s t b is have = subst (HaveFor sh) (sym is) (record { own = placed_drop sh s.owns b have.own; held = have.held })

-- a branch in doubt leaves
pub settle_for : (sh : List Shelf) (s t : PendingState) (b : BranchId) → t ≡ record s { doubts = drop_item doubt_id s.doubts b } → HaveFor sh s → HaveFor sh t
settle_for sh s t b is have = subst (HaveFor sh) (sym is) (record { own = have.own; held = held_drop sh s.doubts b have.held })

-- a live branch's last set is taken back
pub less_for : (sh : List Shelf) (s t : PendingState) (b : BranchId) → t ≡ record s { owns = without_last s.owns b } → HaveFor sh s → HaveFor sh t
less_for sh s t b is have = subst (HaveFor sh) (sym is) (record { own = placed_less sh s.owns b have.own; held = have.held })

-- a live branch becomes one in doubt
pub seal_for : (sh : List Shelf) (s : PendingState) (b : BranchId) → HaveFor sh s
    → HaveFor sh (record s { owns = drop_item own_id s.owns b; doubts = put_by_branch doubt_id s.doubts (sealed_doubt s.owns b) })
seal_for sh s b have = record {
  own = placed_drop sh s.owns b have.own;
  held = held_put sh s.doubts (sealed_doubt s.owns b) have.held (placed_at sh s.owns b have.own);
}

-- a live branch has one set more
pub more_for : (sh : List Shelf) (s : PendingState) (b : BranchId) (set : ChangeSet) → HaveFor sh s → ArePlaced sh set.changes
    → HaveFor sh (record s { owns = with_set s.owns b set })
more_for sh s b set have one =
    let sets = sets_at s.owns b in
    let all = subst (ArePlaced sh) (sym (changes_more sets set)) (placed_both sh (changes_of sets) set.changes (placed_at sh s.owns b have.own) one) in
    record { own = placed_put sh s.owns (record { branch = b; sets = sets ++ set ∷ [] }) have.own all; held = have.held }

-- a branch in doubt comes
pub doubt_for : (sh : List Shelf) (s : PendingState) (d : Doubt) → HaveFor sh s → ArePlaced sh d.changes → HaveFor sh (record s { doubts = put_by_branch doubt_id s.doubts d })
doubt_for sh s d have one = record { own = have.own; held = held_put sh s.doubts d have.held one }
