-- The derived comparisons of values are the stated ones, and values are equal exactly where they are the same.
use Rattle.std.proofs.Common.{◌≡◌, Bool, true, false, refl, sym, ap, subst, ◌∙◌}
use Rattle.std.specs.declared.cmp.Ordering.{Ordering}
use Rattle.std.specs.declared.cmp.Ordering.TheVariants.{Less, Equal, Greater}
use Rattle.std.specs.Ordering.{is_eq, is_lt, ordering_reverse}
use Rattle.std.specs.Cmp.{eq_by_cmp_equiv}
use Rattle.dtx_values.specs.declared.value.Value.{Value}
use Rattle.dtx_values.specs.Order.{value_cmp, value_below, same_value}
use Rattle.dtx_values.specs.contracts.value.ValuePartialEq.TheImpl as of_value
use Rattle.dtx_values.specs.contracts.value.ValueOrd.TheImpl.Laws.{matches_eq-law}
use Rattle.dtx_values.proofs.RowLookups.{derived, derived_is, values_total, values_exact}

-- the order by the derived comparison
pub derived_below : (a b : Value) → is_lt (derived a b) ≡ value_below a b
derived_below a b = ap (λ (R : Value → Value → Ordering). is_lt (R a b)) derived_is

-- equality by the derived test
pub derived_same : (a b : Value) → of_value.eq-value.it a b ≡ same_value a b
derived_same a b = matches_eq-law a b ∙ ap (λ (R : Value → Value → Ordering). is_eq (R a b)) derived_is

-- equality the other way round
pub same_is : (k q : Value) → is_eq (value_cmp q k) ≡ same_value k q
same_is k q = (eq_by_cmp_equiv values_total).symm q k

equal_from : (o : Ordering) → is_eq o ≡ true → o ≡ Equal
equal_from Less e = absurd cc
equal_from Equal e = refl
equal_from Greater e = absurd cc

-- values that compare as equal are one
pub equal_from_same : (a b : Value) → same_value a b ≡ true → a ≡ b
equal_from_same a b same = values_exact a b (equal_from (value_cmp a b) same)

-- and one value compares as equal to itself
pub same_from_equal : (a b : Value) → a ≡ b → same_value a b ≡ true
same_from_equal a b e = subst (λ (x : Value). same_value a x ≡ true) e ((eq_by_cmp_equiv values_total).refl a)

less_from : (o : Ordering) → is_lt o ≡ true → o ≡ Less
less_from Less e = refl
less_from Equal e = absurd cc
less_from Greater e = absurd cc

-- a value below another compares as less
pub below_less : (a b : Value) → value_below a b ≡ true → value_cmp a b ≡ Less
below_less a b below = less_from (value_cmp a b) below

less_from_apart : (o : Ordering) → is_eq o ≡ false → is_lt (ordering_reverse o) ≡ false → o ≡ Less
less_from_apart Less apart none = refl
less_from_apart Equal apart none = absurd cc
less_from_apart Greater apart none = absurd cc

-- of two values that differ the first is below, where the second is not
pub apart_less : (a b : Value) → same_value a b ≡ false → value_below b a ≡ false → value_cmp a b ≡ Less
apart_less a b apart none =
    less_from_apart (value_cmp a b) apart (ap is_lt (sym (values_total.antisymm b a)) ∙ none)
