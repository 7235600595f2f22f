-- The extents that the undo of all branches takes, where a branch changes, leaves or comes.
use Rattle.std.proofs.Common.{◌≡◌, ℕ, ◌+◌, Bool, true, false, cond, List, [], ◌∷◌, ◌++◌, Some, refl, sym, ap, ◌∙◌, arith}
use Rattle.std.specs.Prelude.{sum_by}
use Rattle.std.specs.Int.{div_ceil}
use Rattle.std.specs.Map.{lookup, remove_entry}
use Rattle.std.proofs.lemmas.List.Sums.{sum_by-cons, sum_by_push}
use Rattle.dtx_values.specs.declared.row.Change.{Change}
use Rattle.dtx_values.specs.Limits.{extent_size}
use Rattle.tran_ids.specs.declared.branch.BranchId.{BranchId}
use Rattle.tran_ids.specs.Branch.{same, put_by_branch}
use Rattle.tran_ids.specs.Listed.{item_at, put_item}
use Rattle.row_store.proofs.OrderLemmas.{sum_placed}
use Rattle.row_size_laws.proofs.LengthLaws.{changes_length_is}
use Rattle.undo_pool.specs.Pool.{PoolState}
use Rattle.undo_book.specs.Undo.{undo_of as undo_at, undo_extents}
use Rattle.row_store.specs.declared.pending.Owned.{Owned}
use Rattle.row_store.specs.declared.pending.Doubt.{Doubt}
use Rattle.row_store.specs.Own.{changes_length, extents}
use Rattle.row_store.specs.ByBranch.{KeptSets, KeptDoubt, cut, own_in, owns_in, doubt_in, doubts_in}
use Rattle.row_store.specs.Store.{own_id, doubt_id, sets_of, sets_at, extents_of_sets, own_extents, doubt_extents}
use Rattle.row_store.proofs.KeptLaws.{Entry, Held}
use Rattle.row_store.proofs.Totals.{total_removed}

-- the extents by the lengths of changes are those by their bytes
pub extents_are : (us : List Change) → undo_extents us ≡ extents (changes_length us)
extents_are us = ap (λ n. div_ceil n extent_size) (sym (changes_length_is us))

abbrev taken : Owned → ℕ
taken o = extents_of_sets o.sets

abbrev held : Doubt → ℕ
held d = extents (changes_length d.undo)

-- ---- a live branch that changes or comes

own_first : (o : Owned) (owns : List Owned) → own_extents (o ∷ owns) ≡ taken o + own_extents owns
own_first o owns = sum_by-cons taken o owns

put_step : (hit : Bool) (o : Owned) (owns more : List Owned) (b : BranchId) (z : Owned)
    → own_extents more + extents_of_sets (sets_at owns b) ≡ own_extents owns + taken z
    → own_extents (cond hit (z ∷ owns) (o ∷ more)) + extents_of_sets (sets_of (cond hit (Some o) (item_at own_id owns b))) ≡ own_extents (o ∷ owns) + taken z
put_step true o owns more b z later =
    let a = own_first z owns in
    let b = own_first o owns in
    omega arith
put_step false o owns more b z later =
    let a = own_first o more in
    let b = own_first o owns in
    omega arith

pub put_total : (owns : List Owned) (z : Owned) → own_extents (put_item own_id owns z) + extents_of_sets (sets_at owns z.branch) ≡ own_extents owns + extents_of_sets z.sets
put_total [] z =
    let a = own_first z [] in
    let none : own_extents [] ≡ 0 = refl in
    let empty : extents_of_sets [] ≡ 0 = refl in
    omega arith
put_total (o ∷ owns) z = put_step (same o.branch z.branch) o owns (put_item own_id owns z) z.branch z (put_total owns z)

-- ---- one that leaves

module _ (p : PoolState) where
  own_total : (es : List Entry) → own_extents (owns_in p es) ≡ sum_by (λ e. extents_of_sets (cut e.1.sizes e.1.changes (undo_at p e.1.owner))) es
  own_total [] = refl
  own_total (e ∷ es) =
      own_first (own_in p e) (owns_in p es)
      ∙ ap (λ n. taken (own_in p e) + n) (own_total es)
      ∙ sym (sum_by-cons (λ (d : Entry). extents_of_sets (cut d.1.sizes d.1.changes (undo_at p d.1.owner))) e es)

  pub own_less : (test : BranchId → Bool) (es : List Entry) (x : KeptSets) → lookup test es ≡ Some x
      → own_extents (owns_in p (remove_entry test es)) + extents_of_sets (cut x.sizes x.changes (undo_at p x.owner)) ≡ own_extents (owns_in p es)
  own_less test es x there =
      let f : KeptSets → ℕ = λ y. extents_of_sets (cut y.sizes y.changes (undo_at p y.owner)) in
      ap (λ n. n + f x) (own_total (remove_entry test es)) ∙ total_removed f test es x there ∙ sym (own_total es)

  doubt_total : (es : List Held) → doubt_extents (doubts_in p es) ≡ sum_by (λ e. extents (changes_length (undo_at p e.1.owner))) es
  doubt_total [] = refl
  doubt_total (e ∷ es) =
      sum_by-cons held (doubt_in p e) (doubts_in p es)
      ∙ ap (λ n. held (doubt_in p e) + n) (doubt_total es)
      ∙ sym (sum_by-cons (λ (d : Held). extents (changes_length (undo_at p d.1.owner))) e es)

  pub doubt_less : (test : BranchId → Bool) (es : List Held) (x : KeptDoubt) → lookup test es ≡ Some x
      → doubt_extents (doubts_in p (remove_entry test es)) + extents (changes_length (undo_at p x.owner)) ≡ doubt_extents (doubts_in p es)
  doubt_less test es x there =
      let f : KeptDoubt → ℕ = λ y. extents (changes_length (undo_at p y.owner)) in
      ap (λ n. n + f x) (doubt_total (remove_entry test es)) ∙ total_removed f test es x there ∙ sym (doubt_total es)

-- one in doubt that comes
pub doubt_more : (ds : List Doubt) (d : Doubt) → doubt_extents (put_by_branch doubt_id ds d) ≡ doubt_extents ds + extents (changes_length d.undo)
doubt_more ds d = sum_placed doubt_id held ds d

pub own_more : (owns : List Owned) (o : Owned) → own_extents (owns ++ o ∷ []) ≡ own_extents owns + extents_of_sets o.sets
own_more owns o = sum_by_push taken owns o
