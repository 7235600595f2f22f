-- Changes keep a table's rows in the order of their keys.
use Rattle.std.proofs.Common.{◌≡◌, ℕ, Bool, true, false, cond, not, List, [], ◌∷◌, None, Some, Option, refl, subst}
use Rattle.std.specs.declared.cmp.Ordering.TheVariants.{Less}
use Rattle.std.specs.List.{AllByRecursion}
use Rattle.std.specs.List.Sorted.{IsStrictlySortedBy}
use Rattle.dtx_values.specs.declared.value.Value.{Value}
use Rattle.dtx_values.specs.declared.row.Row.{Row}
use Rattle.dtx_values.specs.declared.row.Change.{Change}
use Rattle.dtx_values.specs.Order.{value_cmp}
use Rattle.dtx_values.proofs.RowLookups.{values_total}
use Rattle.sql_eval.specs.declared.keyed.Keyed.{Keyed}
use Rattle.sql_check.specs.Words.{same_text}
use Rattle.dtx_values.specs.Order.{same_value, value_below}
use Rattle.sql_eval.specs.Rows.{put, without, set_to, change_one, apply, keys_of}
use Rattle.dtx_values.proofs.ValueOrder.{equal_from_same, below_less, apart_less}

-- the keys of these rows rise
abbrev pub are_in_order : List Keyed → Type 0
are_in_order rows = IsStrictlySortedBy value_cmp (keys_of rows)

-- a key is below those of all these rows
abbrev pub is_below : Value → List Keyed → Type 0
is_below k rows = AllByRecursion (λ q. value_cmp k q ≡ Less) (keys_of rows)

-- a key below another is below all that the other is below
pub below_further : (k p : Value) (rows : List Keyed) → value_cmp k p ≡ Less → is_below p rows → is_below k rows
below_further k p [] less all = tt
below_further k p (r ∷ rs) less all = (values_total.trans k p r.key less all.0, below_further k p rs less all.1)

-- ---- a row is put in

module _ (k : Value) (row : Row) where
  placed_below : (p : Value) (r : Keyed) (rs more : List Keyed) (same before : Bool) → value_cmp p k ≡ Less → is_below p (r ∷ rs) → is_below p more
      → is_below p (cond same (record { key = k; row = row } ∷ rs) (cond before (record { key = k; row = row } ∷ r ∷ rs) (r ∷ more)))
  placed_below p r rs more true before less all rest = (less, all.1)
  placed_below p r rs more false true less all rest = (less, all)
  placed_below p r rs more false false less all rest = (all.0, rest)

  below_put : (p : Value) (rows : List Keyed) → value_cmp p k ≡ Less → is_below p rows → is_below p (put rows k row)
  below_put p [] less all = (less, tt)
  below_put p (r ∷ rs) less all = placed_below p r rs (put rs k row) (same_value r.key k) (value_below k r.key) less all (below_put p rs less all.1)

  put_first : (r : Keyed) (rs : List Keyed) (same before : Bool) → same_value r.key k ≡ same → value_below k r.key ≡ before
      → is_below r.key rs → are_in_order rs → are_in_order (put rs k row)
      → are_in_order (cond same (record { key = k; row = row } ∷ rs) (cond before (record { key = k; row = row } ∷ r ∷ rs) (r ∷ put rs k row)))
  unfolding IsStrictlySortedBy
  put_first r rs true before same where_ rise rest more = (subst (λ (q : Value). is_below q rs) (equal_from_same r.key k same) rise, rest)
  put_first r rs false true same where_ rise rest more =
      let less = below_less k r.key where_ in
      ((less, below_further k r.key rs less rise), (rise, rest))
  put_first r rs false false same where_ rise rest more = (below_put r.key rs (apart_less r.key k same where_) rise, more)

  pub put_in_order : (rows : List Keyed) → are_in_order rows → are_in_order (put rows k row)
  unfolding IsStrictlySortedBy
  put_in_order [] ordered = (tt, tt)
  put_in_order (r ∷ rs) ordered = put_first r rs (same_value r.key k) (value_below k r.key) refl refl ordered.0 ordered.1 (put_in_order rs ordered.1)

-- ---- a row is removed

module _ (k : Value) where
  kept_below : (p : Value) (r : Keyed) (more : List Keyed) (stays : Bool) → value_cmp p r.key ≡ Less → is_below p more → is_below p (cond stays (r ∷ more) more)
  kept_below p r more true less rest = (less, rest)
  kept_below p r more false less rest = rest

  below_without : (p : Value) (rows : List Keyed) → is_below p rows → is_below p (without rows k)
  below_without p [] all = tt
  below_without p (r ∷ rs) all = kept_below p r (without rs k) (not (same_value r.key k)) all.0 (below_without p rs all.1)

  kept_first : (r : Keyed) (more : List Keyed) (stays : Bool) → is_below r.key more → are_in_order more → are_in_order (cond stays (r ∷ more) more)
  unfolding IsStrictlySortedBy
  kept_first r more true rise rest = (rise, rest)
  kept_first r more false rise rest = rest

  pub without_in_order : (rows : List Keyed) → are_in_order rows → are_in_order (without rows k)
  unfolding IsStrictlySortedBy
  without_in_order [] ordered = tt
  without_in_order (r ∷ rs) ordered =
      kept_first r (without rs k) (not (same_value r.key k)) (below_without r.key rs ordered.0) (without_in_order rs ordered.1)

-- ---- changes

pub set_in_order : (rows : List Keyed) (k : Value) (after : Option Row) → are_in_order rows → are_in_order (set_to rows k after)
set_in_order rows k None ordered = without_in_order k rows ordered
set_in_order rows k (Some row) ordered = put_in_order k row rows ordered

changed_in_order : (here : Bool) (rows : List Keyed) (c : Change) → are_in_order rows → are_in_order (cond here (set_to rows c.key c.after) rows)
changed_in_order true rows c ordered = set_in_order rows c.key c.after ordered
changed_in_order false rows c ordered = ordered

pub apply_in_order : (table : List ℕ) (rows : List Keyed) (cs : List Change) → are_in_order rows → are_in_order (apply table rows cs)
apply_in_order table rows [] ordered = ordered
apply_in_order table rows (c ∷ cs) ordered =
    apply_in_order table (change_one table rows c) cs (changed_in_order (same_text c.table table) rows c ordered)
