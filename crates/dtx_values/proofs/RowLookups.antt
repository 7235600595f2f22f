-- A `BTreeMap` of rows by values, as a finite map.
use Rattle.std.proofs.Common.{◌≡◌, cond, List, [], ◌∷◌, Some, refl, ap, sym, subst, ◌∙◌}
use Rattle.std.specs.declared.cmp.Ordering.{Ordering}
use Rattle.std.specs.Ordering.{eq_by_cmp}
use Rattle.std.specs.Cmp.{IsTotalOrder, eq_by_cmp_equiv}
use Rattle.std.specs.BTreeMap.{is_at}
use Rattle.std.specs.Map.{lookup}
use Rattle.std.specs.FinMap.{IsAntisymmetric, from_entries, find, get, insert, get-from_entries, get-insert, same_map, nat_cmp-IsAntisymmetric, int_cmp-IsAntisymmetric, slice_cmp-IsAntisymmetric}
use Rattle.dtx_values.specs.declared.value.Value.{Value}
use Rattle.dtx_values.specs.declared.value.Value.TheVariants.{Null, Number, Text}
use Rattle.dtx_values.specs.Order.{value_cmp}
use Rattle.dtx_values.specs.contracts.value.ValueOrd.TheImpl.{cmp-value}
use Rattle.dtx_values.specs.contracts.value.ValueOrd.TheImpl.Laws.{total-law}

-- the derived order is the stated one
abbrev pub derived : Value → Value → Ordering
derived = cmp-value.it

derived_at : (a b : Value) → derived a b ≡ value_cmp a b
derived_at Null Null = refl
derived_at Null (Number b) = refl
derived_at Null (Text b) = refl
derived_at (Number a) Null = refl
derived_at (Number a) (Number b) = refl
derived_at (Number a) (Text b) = refl
derived_at (Text a) Null = refl
derived_at (Text a) (Number b) = refl
derived_at (Text a) (Text b) = refl

pub derived_is : derived ≡ value_cmp
derived_is i a b = derived_at a b i

pub values_total : IsTotalOrder value_cmp
values_total = subst IsTotalOrder derived_is total-law

pub values_exact : IsAntisymmetric value_cmp
values_exact Null Null e = refl
values_exact Null (Number b) e = absurd cc
values_exact Null (Text b) e = absurd cc
values_exact (Number a) Null e = absurd cc
values_exact (Number a) (Number b) e = ap Number (int_cmp-IsAntisymmetric a b e)
values_exact (Number a) (Text b) e = absurd cc
values_exact (Text a) Null e = absurd cc
values_exact (Text a) (Number b) e = absurd cc
values_exact (Text a) (Text b) e = ap Text (slice_cmp-IsAntisymmetric nat_cmp-IsAntisymmetric a b e)

module _ {X : Type 0} where
  find_lookup : (es : List (Value × X)) (q : Value) → find value_cmp q es ≡ lookup (is_at (value_cmp q)) es
  find_lookup [] q = refl
  find_lookup (e ∷ es) q = ap (cond (is_at (value_cmp q) e.0) (Some e.1)) (find_lookup es q)

  -- what the map that the entries make has at a key
  pub get_lookup : (es : List (Value × X)) (q : Value) → get (from_entries {R = value_cmp} es) q ≡ lookup (is_at (value_cmp q)) es
  get_lookup es q = get-from_entries values_total es q ∙ find_lookup es q

  -- entries that differ at one key make maps that differ there
  pub one_given : (es fs : List (Value × X)) (k : Value) (x : X) → ((q : Value) → lookup (is_at (value_cmp q)) fs ≡ cond (is_at (value_cmp k) q) (Some x) (lookup (is_at (value_cmp q)) es)) → from_entries {R = value_cmp} fs ≡ insert (from_entries es) k x
  one_given es fs k x h = same_map values_total values_exact _ _ (λ q.
      get_lookup fs q ∙ h q ∙ ap (λ b. cond b (Some x) (lookup (is_at (value_cmp q)) es)) ((eq_by_cmp_equiv values_total).symm k q)
      ∙ sym (get-insert values_total (from_entries es) k x q ∙ ap (cond (eq_by_cmp value_cmp q k) (Some x)) (get_lookup es q)))

module _ {X : Type 0} where
  pub get_derived : (es : List (Value × X)) (q : Value) → lookup (is_at (derived q)) es ≡ get (from_entries {R = value_cmp} es) q
  get_derived es q = ap (λ (R : Value → Value → Ordering). lookup (is_at (R q)) es) derived_is ∙ sym (get_lookup es q)

  pub insert_derived : (es fs : List (Value × X)) (k : Value) (x : X) → ((q : Value) → lookup (is_at (derived q)) fs ≡ cond (is_at (derived k) q) (Some x) (lookup (is_at (derived q)) es)) → from_entries {R = value_cmp} fs ≡ insert (from_entries es) k x
  insert_derived es fs k x h = one_given es fs k x (subst (λ (R : Value → Value → Ordering). (q : Value) → lookup (is_at (R q)) fs ≡ cond (is_at (R k) q) (Some x) (lookup (is_at (R q)) es)) derived_is h)
