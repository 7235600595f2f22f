-- Sums over the entries of a map, where a value is put at a place, an entry is added or one is removed.
use Rattle.std.proofs.Common.{◌≡◌, ℕ, ◌+◌, ◌≤◌, zero, suc, Bool, true, false, cond, List, [], ◌∷◌, ◌++◌, slice_get, Some, unwrap_or, refl, ap, arith}
use Rattle.std.specs.Prelude.{sum_by}
use Rattle.std.specs.Map.{lookup, values_of, remove_entry}
use Rattle.std.proofs.lemmas.List.Sums.{sum_by-cons, sum_by-append}
use Rattle.indexmap.specs.Layout.{set_value_at}

module _ {K X : Type 0} (f : X → ℕ) where
  abbrev total : List (K × X) → ℕ
  total es = sum_by (λ e. f e.1) es

  pub total_set : (es : List (K × X)) (i : ℕ) (x y : X) → slice_get (values_of es) i ≡ Some x → total (set_value_at es i y) + f x ≡ total es + f y
  total_set [] i x y there = absurd cc
  total_set (e ∷ es) zero x y there =
      let a = sum_by-cons (λ (d : K × X). f d.1) (e.0, y) es in
      let b = sum_by-cons (λ (d : K × X). f d.1) e es in
      let is : f e.1 ≡ f x = ap (λ o. f (unwrap_or o x)) there in
      omega arith
  total_set (e ∷ es) (suc i) x y there =
      let a = sum_by-cons (λ (d : K × X). f d.1) e (set_value_at es i y) in
      let b = sum_by-cons (λ (d : K × X). f d.1) e es in
      let rest = total_set es i x y there in
      omega arith

  pub total_push : (es : List (K × X)) (e : K × X) → total (es ++ e ∷ []) ≡ total es + f e.1
  total_push es e =
      let a = sum_by-append (λ (d : K × X). f d.1) es (e ∷ []) in
      let b = sum_by-cons (λ (d : K × X). f d.1) e [] in
      let c : sum_by (λ (d : K × X). f d.1) [] ≡ 0 = refl in
      omega arith

  removed_step : (test : K → Bool) (hit : Bool) (e : K × X) (es rest : List (K × X)) (x : X) → cond hit (Some e.1) (lookup test es) ≡ Some x
      → (lookup test es ≡ Some x → total rest + f x ≡ total es) → total (cond hit es (e ∷ rest)) + f x ≡ total (e ∷ es)
  removed_step test true e es rest x there later =
      let b = sum_by-cons (λ (d : K × X). f d.1) e es in
      let is : f e.1 ≡ f x = ap (λ o. f (unwrap_or o x)) there in
      omega arith
  removed_step test false e es rest x there later =
      let a = sum_by-cons (λ (d : K × X). f d.1) e rest in
      let b = sum_by-cons (λ (d : K × X). f d.1) e es in
      let r = later there in
      omega arith

  pub total_removed : (test : K → Bool) (es : List (K × X)) (x : X) → lookup test es ≡ Some x → total (remove_entry test es) + f x ≡ total es
  total_removed test [] x there = absurd cc
  total_removed test (e ∷ es) x there = removed_step test (test e.0) e es (remove_entry test es) x there (total_removed test es x)

  -- a value at a place is among them
  pub total_at : (es : List (K × X)) (i : ℕ) (x : X) → slice_get (values_of es) i ≡ Some x → f x ≤ total es
  total_at [] i x there = absurd cc
  total_at (e ∷ es) zero x there =
      let b = sum_by-cons (λ (d : K × X). f d.1) e es in
      let is : f e.1 ≡ f x = ap (λ o. f (unwrap_or o x)) there in
      omega arith
  total_at (e ∷ es) (suc i) x there =
      let b = sum_by-cons (λ (d : K × X). f d.1) e es in
      let rest = total_at es i x there in
      omega arith
