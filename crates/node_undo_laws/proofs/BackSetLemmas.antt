-- The sets of changes of branches where one goes back: of its own the last ones are gone, those of the others stay.
pub use Rattle.node_ready_laws.proofs.RowStepLemmas.{first_changes}
use Rattle.std.proofs.Common.{◌≡◌, ℕ, zero, suc, ◌-◌, false, List, length, take, Option, Some, None, refl, sym, ap, subst, ◌∙◌}
use Rattle.tran_ids.proofs.ListedLemmas.{item_is, put_found, put_leaves}
use Rattle.row_store.specs.Store.{less_sets, without_sets}
use Rattle.node_rules.specs.Data.{BranchId, Owned}
use Rattle.node_rules.specs.Words.{same, item_at, put_item}
use Rattle.node_rules.specs.NodeState.{own_id, sets_of, sets_at}

none_left : (n : ℕ) → take n (sets_of None) ≡ sets_of None
none_left zero = refl
none_left (suc n) = refl

module _ (owns : List Owned) (b : BranchId) (n : ℕ) where
  -- what another branch has changed stays
  pub back_leaves : (c : BranchId) → same b c ≡ false → item_at own_id (without_sets owns b n) c ≡ item_at own_id owns c
  back_leaves c other = by (item_at own_id owns b) refl
    where
      by : (o : Option Owned) → item_at own_id owns b ≡ o → item_at own_id (less_sets n owns o) c ≡ item_at own_id owns c
      by None is = refl
      by (Some o) is = put_leaves own_id owns (record o { sets = take (length o.sets - n) o.sets }) c (subst (λ m. same m c ≡ false) (sym (item_is own_id owns b o is)) other)

  -- the first sets of the branch are left
  pub back_sets : sets_at (without_sets owns b n) b ≡ take (length (sets_at owns b) - n) (sets_at owns b)
  back_sets = by (item_at own_id owns b) refl
    where
      by : (o : Option Owned) → item_at own_id owns b ≡ o → sets_of (item_at own_id (less_sets n owns o) b) ≡ take (length (sets_of o) - n) (sets_of o)
      by None is = ap sets_of is ∙ sym (none_left (length (sets_of None) - n))
      by (Some o) is =
          let more : Owned = record o { sets = take (length o.sets - n) o.sets } in
          ap sets_of (subst (λ m. item_at own_id (put_item own_id owns more) m ≡ Some more) (item_is own_id owns b o is) (put_found own_id owns more))
