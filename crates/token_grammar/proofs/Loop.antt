-- Reading one part after the other, as a loop does.
use Rattle.std.proofs.Common.{◌≡◌, ℕ, zero, suc, ◌-◌, ◌+◌, ◌≤◌, ◌<◌, Bool, true, false, List, [], ◌∷◌, ◌++◌, Option, Some, None, refl, sym, ap, ◌∙◌, append_assoc, arith}
use Rattle.std.proofs.lemmas.List.{append-nil}
use Rattle.token_grammar.specs.declared.read_err.ReadErr.{ReadErr}
use Rattle.token_grammar.specs.declared.read_err.ReadErr.TheVariants as errors
use Rattle.token_grammar.specs.Steps.{◌>>=◌, begins, many_at}
use Rattle.token_grammar.specs.Gives.{Fails}

-- what was read before, and what is still read
abbrev pub with_front : {T V : Type 0} → List V → Option (List V × List T) → Option (List V × List T)
with_front front read = read >>= λ x. Some (front ++ x.0, x.1)

module _ {T V : Type 0} (starts : T → Bool) (one : List T → Option (V × List T)) where
  regroup : (front : List V) (v : V) (read : Option (List V × List T)) → with_front front (read >>= λ x. Some (v ∷ x.0, x.1)) ≡ with_front (front ++ v ∷ []) read
  regroup front v (Some x) = ap (λ (vs : List V). Some (vs, x.1)) (simp append_assoc)
  regroup front v None = refl

  pub goes_on : (front : List V) (count i : ℕ) (ts : List T) (v : V) (after : List T) (total : Option (List V × List T)) → i < count → begins starts ts ≡ true → one ts ≡ Some (v, after)
      → with_front front (many_at (count - i) starts one ts) ≡ total → with_front (front ++ v ∷ []) (many_at (count - (i + 1)) starts one after) ≡ total
  goes_on front count i ts v after total lt b h so_far =
      let k : count - i ≡ suc (count - (i + 1)) = omega arith in
      let step : with_front front (many_at (count - i) starts one ts) ≡ with_front (front ++ v ∷ []) (many_at (count - (i + 1)) starts one after) = rw (k, b, h) (regroup front v (many_at (count - (i + 1)) starts one after)) in
      sym step ∙ so_far

  pub ends : (e : ReadErr) (front : List V) (count i : ℕ) (ts : List T) (total : Option (List V × List T)) → i < count → begins starts ts ≡ true → Fails e (one ts)
      → with_front front (many_at (count - i) starts one ts) ≡ total → Fails e total
  ends errors.NoMemory front count i ts total lt b h so_far = tt
  ends errors.Bad front count i ts total lt b h so_far =
      let k : count - i ≡ suc (count - (i + 1)) = omega arith in
      let step : with_front front (many_at (count - i) starts one ts) ≡ None = rw (k, b, h) refl in
      sym so_far ∙ step

  nothing_more : (k : ℕ) (ts : List T) → begins starts ts ≡ false → many_at k starts one ts ≡ Some ([], ts)
  nothing_more zero ts b = refl
  nothing_more (suc k) ts b = rw b refl

  pub stops : (front : List V) (k : ℕ) (ts : List T) (total : Option (List V × List T)) → begins starts ts ≡ false → with_front front (many_at k starts one ts) ≡ total → total ≡ Some (front, ts)
  stops front k ts total b so_far =
      let step : with_front front (many_at k starts one ts) ≡ Some (front, ts) = rw (nothing_more k ts b) (ap (λ (vs : List V). Some (vs, ts)) (append-nil front)) in
      sym so_far ∙ step

  pub runs_out : (front : List V) (count i : ℕ) (ts : List T) (total : Option (List V × List T)) → count ≤ i → with_front front (many_at (count - i) starts one ts) ≡ total → total ≡ Some (front, ts)
  runs_out front count i ts total le so_far =
      let k : count - i ≡ 0 = omega arith in
      let step : with_front front (many_at (count - i) starts one ts) ≡ Some (front, ts) = rw k (ap (λ (vs : List V). Some (vs, ts)) (append-nil front)) in
      sym so_far ∙ step

  same : (o : Option (List V × List T)) → with_front [] o ≡ o
  same (Some x) = refl
  same None = refl

  pub at_first : (front : List V) (count : ℕ) (ts : List T) → front ≡ [] → with_front front (many_at (count - 0) starts one ts) ≡ many_at count starts one ts
  at_first front count ts e =
      let k : count - 0 ≡ count = omega arith in
      rw (e, k) (same (many_at count starts one ts))
