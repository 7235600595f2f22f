-- Rows in key order: two lists of them that have the same row at each key are one list.
use Rattle.std.proofs.Common.{◌≡◌, Bool, true, false, if◌then◌else◌, List, [], ◌∷◌, None, Some, refl, sym, ap, subst, ◌∙◌}
use Rattle.std.specs.declared.cmp.Ordering.{Ordering}
use Rattle.std.specs.declared.cmp.Ordering.TheVariants.{Less, Equal, Greater}
use Rattle.std.specs.Ordering.{is_eq, ordering_reverse}
use Rattle.std.specs.List.{AllByRecursion}
use Rattle.std.specs.List.Sorted.{IsStrictlySortedBy}
use Rattle.dtx_values.specs.Order.{value_cmp}
use Rattle.dtx_values.proofs.RowLookups.{values_total, values_exact}
use Rattle.dtx_values.proofs.ValueOrder.{same_is, equal_from_same}
use Rattle.node_rules.specs.Data.{Value, Keyed}
use Rattle.node_rules.specs.Rows.{same_value, get, keys_of}

-- the keys of these rows rise
abbrev pub AreInKeyOrder : List Keyed → Type 0
AreInKeyOrder rows = IsStrictlySortedBy value_cmp (keys_of rows)

-- a key is below those of all these rows
abbrev IsBelow : Value → List Keyed → Type 0
IsBelow k rows = AllByRecursion (λ q. value_cmp k q ≡ Less) (keys_of rows)

-- a key below another is below all that the other is below
below_further : (k p : Value) (rows : List Keyed) → value_cmp k p ≡ Less → IsBelow p rows → IsBelow k rows
below_further k p [] less all = tt
below_further k p (r ∷ rs) less all = (values_total.trans k p r.key less all.0, below_further k p rs less all.1)

-- no row is at a key below all
none_below : (k : Value) (rows : List Keyed) → IsBelow k rows → get rows k ≡ None
none_below k [] all = refl
none_below k (r ∷ rs) all = ap (λ here. if here then Some r.row else get rs k) (sym (same_is r.key k) ∙ ap is_eq all.0) ∙ none_below k rs all.1

-- nor at a key below the first
none_before : (k : Value) (r : Keyed) (rs : List Keyed) → AreInKeyOrder (r ∷ rs) → value_cmp k r.key ≡ Less → get (r ∷ rs) k ≡ None
unfolding IsStrictlySortedBy
none_before k r rs ordered less = none_below k (r ∷ rs) (less, below_further k r.key rs less ordered.0)

itself : (o : Ordering) → o ≡ ordering_reverse o → is_eq o ≡ true
itself Less turned = absurd cc
itself Equal turned = refl
itself Greater turned = absurd cc

-- at its own key the first row is found
first_found : (r : Keyed) (rs : List Keyed) → get (r ∷ rs) r.key ≡ Some r.row
first_found r rs = ap (λ here. if here then Some r.row else get rs r.key) (sym (same_is r.key r.key) ∙ itself (value_cmp r.key r.key) (values_total.antisymm r.key r.key))

row_is : (r q : Keyed) → r.key ≡ q.key → r.row ≡ q.row → r ≡ q
row_is r q key row i = record { key = key i; row = row i }

-- behind the first row, what is found at a key does not hang on it
module _ (r q : Keyed) (rs qs : List Keyed) (key : r.key ≡ q.key) (first : AreInKeyOrder (r ∷ rs)) (second : AreInKeyOrder (q ∷ qs)) (alike : (k : Value) → get (r ∷ rs) k ≡ get (q ∷ qs) k) where
  behind_if : (k : Value) (here : Bool) → same_value r.key k ≡ here → get rs k ≡ get qs k
  unfolding IsStrictlySortedBy
  behind_if k true is =
      let at : r.key ≡ k = equal_from_same r.key k is in
      none_below k rs (subst (λ p. IsBelow p rs) at first.0) ∙ sym (none_below k qs (subst (λ p. IsBelow p qs) (sym key ∙ at) second.0))
  behind_if k false is =
      let other : same_value q.key k ≡ false = ap (λ p. same_value p k) (sym key) ∙ is in
      sym (ap (λ here. if here then Some r.row else get rs k) is) ∙ (alike k ∙ ap (λ here. if here then Some q.row else get qs k) other)

  behind : (k : Value) → get rs k ≡ get qs k
  behind k = behind_if k (same_value r.key k) refl

  first_is : r ≡ q
  first_is = row_is r q key (let it : Some r.row ≡ Some q.row = sym (first_found r rs) ∙ (alike r.key ∙ (ap (get (q ∷ qs)) key ∙ first_found q qs)) in cc)

-- two lists that differ in their first keys differ at the lower one
apart : (r q : Keyed) (rs qs : List Keyed) → AreInKeyOrder (q ∷ qs) → value_cmp r.key q.key ≡ Less → get (r ∷ rs) r.key ≡ get (q ∷ qs) r.key → ⊥
apart r q rs qs ordered less alike = let none : Some r.row ≡ None = sym (first_found r rs) ∙ (alike ∙ none_before r.key q qs ordered less) in absurd cc

-- so they are one where they have the same row at each key
pub same_rows : (rows more : List Keyed) → AreInKeyOrder rows → AreInKeyOrder more → ((k : Value) → get rows k ≡ get more k) → rows ≡ more
unfolding IsStrictlySortedBy
same_rows [] [] first second alike = refl
same_rows [] (q ∷ qs) first second alike = let none : None ≡ Some q.row = alike q.key ∙ first_found q qs in absurd cc
same_rows (r ∷ rs) [] first second alike = let none : Some r.row ≡ None = sym (first_found r rs) ∙ alike r.key in absurd cc
same_rows (r ∷ rs) (q ∷ qs) first second alike = by (value_cmp r.key q.key) refl (same_rows rs qs first.1 second.1)
  where
    by : (o : Ordering) → value_cmp r.key q.key ≡ o → (((k : Value) → get rs k ≡ get qs k) → rs ≡ qs) → r ∷ rs ≡ q ∷ qs
    by Less is rest = absurd (apart r q rs qs second is (alike r.key))
    by Greater is rest = absurd (apart q r qs rs first (values_total.antisymm q.key r.key ∙ ap ordering_reverse is) (sym (alike q.key)))
    by Equal is rest =
        let key : r.key ≡ q.key = values_exact r.key q.key is in
        ap (λ x. x ∷ rs) (first_is r q rs qs key first second alike) ∙ ap (λ xs. q ∷ xs) (rest (behind r q rs qs key first second alike))
