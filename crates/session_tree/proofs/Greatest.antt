-- The greatest weight among children: one child after the other, and that it is the greatest and stands first.
use Rattle.std.proofs.Common.{◌≡◌, ℕ, zero, suc, ◌+◌, ◌<◌, ◌≤◌, Bool, true, false, if◌then◌else◌, List, [], ◌∷◌, Option, Some, None, inl, inr, refl, ap, ◌∙◌, sym, subst, arith}
use Rattle.std.proofs.lemmas.Bool.Decides.{nat_tests}
use Rattle.std.specs.Prelude.{◌⊎◌, nat_lt, slice_get}
use Rattle.session_tree.specs.Tree.{place_of_greatest}

-- the first child, and then the others
pub greatest_goes_on : (i : ℕ) (w : Option ℕ) (ws : List (Option ℕ)) (best : Option (ℕ × ℕ))
    → place_of_greatest i (w ∷ ws) best ≡ place_of_greatest (i + 1) ws (place_of_greatest i (w ∷ []) best)
greatest_goes_on i None ws best = refl
greatest_goes_on i (Some w) ws None = refl
greatest_goes_on i (Some w) ws (Some b) = refl

-- A weight and its number are the greatest among a best so far and the weights behind it, and the first that is as great.
pub record IsGreatest (i : ℕ) (ws : List (Option ℕ)) (best : Option (ℕ × ℕ)) (w j : ℕ) : Type 0 where
  pub over_best : (b : ℕ × ℕ) → best ≡ Some b → (b.0 ≤ w) × (b.1 < j → b.0 < w)
  pub over_all : (k v : ℕ) → slice_get ws k ≡ Some (Some v) → (v ≤ w) × (i + k < j → v < w)
  pub found : (best ≡ Some (w, j)) ⊎ ((k : ℕ) × (j ≡ i + k) × (slice_get ws k ≡ Some (Some w)))

module _ (i w j : ℕ) where
  shifted : (k v : ℕ) → (v ≤ w) × ((i + 1) + k < j → v < w) → (v ≤ w) × (i + suc k < j → v < w)
  shifted k v p = (p.0, λ lt. p.1 (omega arith))

  itself : (best : Option (ℕ × ℕ)) → best ≡ Some (w, j) → IsGreatest i [] best w j
  itself best is = record {
    over_best = λ b same. let e : b ≡ (w, j) = cc in (omega (arith, ap (λ p. p.0) e), λ lt. absurd (let same_number : b.1 ≡ j = ap (λ p. p.1) e in omega arith));
    over_all = λ k v got. absurd cc;
    found = inl is;
  }

  module _ (ws : List (Option ℕ)) where
    none_over : (best : Option (ℕ × ℕ)) → IsGreatest (i + 1) ws best w j → (k v : ℕ) → slice_get (None ∷ ws) k ≡ Some (Some v) → (v ≤ w) × (i + k < j → v < w)
    none_over best g zero v got = absurd cc
    none_over best g (suc k) v got = shifted k v (g.over_all k v got)

    -- a child without a weight changes nothing
    with_none : (best : Option (ℕ × ℕ)) → IsGreatest (i + 1) ws best w j → IsGreatest i (None ∷ ws) best w j
    with_none best g = record {
      over_best = g.over_best;
      over_all = none_over best g;
      found = elim g.found [ inl is ↦ inl is | inr new ↦ inr (suc new.0, omega (arith, new.1), new.2) ];
    }

    module _ (x : ℕ) where
      -- what is said of a weight at this number
      abbrev pub At : ℕ → Type 0
      At v = (v ≤ w) × (i < j → v < w)

      some_over : (best : Option (ℕ × ℕ)) → IsGreatest (i + 1) ws best w j → At x → (k v : ℕ) → slice_get (Some x ∷ ws) k ≡ Some (Some v) → (v ≤ w) × (i + k < j → v < w)
      some_over best g here zero v got = let same : x ≡ v = cc in (omega (arith, here.0, same), λ lt. let first : x < w = here.1 (omega arith) in omega (arith, same, first))
      some_over best g here (suc k) v got = shifted k v (g.over_all k v got)

      -- a child that weighs more than those before it
      with_greater : (best : Option (ℕ × ℕ)) → ((b : ℕ × ℕ) → best ≡ Some b → b.0 < x) → IsGreatest (i + 1) ws (Some (x, i)) w j → IsGreatest i (Some x ∷ ws) best w j
      with_greater best less g =
          let here : At x = g.over_best (x, i) refl in
          record {
            over_best = λ b is. let lt : b.0 < x = less b is in (omega (arith, lt, here.0), λ any. omega (arith, lt, here.0));
            over_all = some_over (Some (x, i)) g here;
            found = elim g.found [
              | inl is ↦ let best : ℕ × ℕ = (x, i) in let e : best ≡ (w, j) = cc in let j_is : i ≡ j = ap (λ p. p.1) e in inr (zero, omega (arith, j_is), ap (λ p. Some (Some p.0)) e)
              | inr new ↦ inr (suc new.0, omega (arith, new.1), new.2)
            ];
          }

      -- and one that does not
      with_smaller : (b : ℕ × ℕ) → x ≤ b.0 → b.1 < i → IsGreatest (i + 1) ws (Some b) w j → IsGreatest i (Some x ∷ ws) (Some b) w j
      with_smaller b le before g =
          let best : (b.0 ≤ w) × (b.1 < j → b.0 < w) = g.over_best b refl in
          record {
            over_best = g.over_best;
            over_all = some_over (Some b) g (omega (arith, le, best.0), λ lt. let more : b.0 < w = best.1 (omega arith) in omega (arith, le, more));
            found = elim g.found [ inl is ↦ inl is | inr new ↦ inr (suc new.0, omega (arith, new.1), new.2) ];
          }

      with_more : (b : ℕ × ℕ) (here : Bool) → nat_lt b.0 x ≡ here → b.1 < i
          → ((next : Option (ℕ × ℕ)) → ((c : ℕ × ℕ) → next ≡ Some c → c.1 < i + 1) → place_of_greatest (i + 1) ws next ≡ Some (w, j) → IsGreatest (i + 1) ws next w j)
          → place_of_greatest (i + 1) ws (if here then Some (x, i) else Some b) ≡ Some (w, j) → IsGreatest i (Some x ∷ ws) (Some b) w j
      with_more b true more before rest is =
          with_greater (Some b) (λ c same. let e : b ≡ c = cc in let lt : b.0 < x = grind (arith, nat_tests, more) in omega (arith, lt, ap (λ p. p.0) e))
          (rest (Some (x, i)) (λ c same. let e : c ≡ (x, i) = cc in omega (arith, ap (λ p. p.1) e)) is)
      with_more b false more before rest is =
          with_smaller b (grind (arith, nat_tests, more)) before (rest (Some b) (λ c same. let e : b ≡ c = cc in omega (arith, ap (λ p. p.1) e)) is)

-- what is found is the greatest, and the first
pub greatest_is : (w j i : ℕ) (ws : List (Option ℕ)) (best : Option (ℕ × ℕ)) → ((b : ℕ × ℕ) → best ≡ Some b → b.1 < i) → place_of_greatest i ws best ≡ Some (w, j) → IsGreatest i ws best w j
greatest_is w j i [] best before is = itself i w j best is
greatest_is w j i (None ∷ ws) best before is = with_none i w j ws best (greatest_is w j (i + 1) ws best (λ b same. omega (arith, before b same)) is)
greatest_is w j i (Some x ∷ ws) None before is =
    with_greater i w j ws x None (λ b same. absurd cc) (greatest_is w j (i + 1) ws (Some (x, i)) (λ c same. let e : c ≡ (x, i) = cc in omega (arith, ap (λ p. p.1) e)) is)
greatest_is w j i (Some x ∷ ws) (Some b) before is = with_more i w j ws x b (nat_lt b.0 x) refl (before b refl) (λ next lower. greatest_is w j (i + 1) ws next lower) is

none_if : (here : Bool) (x i : ℕ) (b : ℕ × ℕ) → (if here then Some (x, i) else Some b) ≡ None → ⊥
none_if true x i b is = cc
none_if false x i b is = cc

none_first : (ws : List (Option ℕ)) → ((k v : ℕ) → slice_get ws k ≡ Some (Some v) → ⊥) → (k v : ℕ) → slice_get (None ∷ ws) k ≡ Some (Some v) → ⊥
none_first ws none zero v got = cc
none_first ws none (suc k) v got = none k v got

-- where nothing is found there was no best, and no child has a weight
pub none_weighs : (i : ℕ) (ws : List (Option ℕ)) (best : Option (ℕ × ℕ)) → place_of_greatest i ws best ≡ None → (best ≡ None) × ((k v : ℕ) → slice_get ws k ≡ Some (Some v) → ⊥)
none_weighs i [] best is = (is, λ k v got. cc)
none_weighs i (None ∷ ws) best is = let rest = none_weighs (i + 1) ws best is in (rest.0, none_first ws rest.1)
none_weighs i (Some x ∷ ws) None is = absurd (let rest = none_weighs (i + 1) ws (Some (x, i)) is in let no : Some (x, i) ≡ None = rest.0 in cc)
none_weighs i (Some x ∷ ws) (Some b) is = absurd (none_if (nat_lt b.0 x) x i b (none_weighs (i + 1) ws (if nat_lt b.0 x then Some (x, i) else Some b) is).0)
