-- Reading one item after the other, as a loop does.
use Rattle.std.proofs.Common.{◌≡◌, ℕ, suc, ◌-◌, ◌+◌, ◌≤◌, ◌<◌, List, [], ◌∷◌, ◌++◌, Option, Some, None, refl, sym, ap, ◌∙◌, append_assoc, arith}
use Rattle.std.proofs.lemmas.List.{append-nil}
use Rattle.byte_format.specs.declared.errors.TakeErr.{TakeErr}
use Rattle.byte_format.specs.declared.errors.TakeErr.TheVariants as errors
use Rattle.byte_format.specs.Format.{◌>>=◌}
use Rattle.byte_format.specs.Several.{times_at}
use Rattle.byte_format.specs.Reads.{Fails}

-- what was read before, and what is still read
abbrev pub with_front : {V : Type 0} → List V → Option (List V × List ℕ) → Option (List V × List ℕ)
with_front front read = read >>= λ x. Some (front ++ x.0, x.1)

module _ {V : Type 0} (one : List ℕ → Option (V × List ℕ)) where
  regroup : (front : List V) (v : V) (read : Option (List V × List ℕ)) → with_front front (read >>= λ x. Some (v ∷ x.0, x.1)) ≡ with_front (front ++ v ∷ []) read
  regroup front v (Some x) = ap (λ (vs : List V). Some (vs, x.1)) (simp append_assoc)
  regroup front v None = refl

  pub starts : (read : Option (List V × List ℕ)) → with_front [] read ≡ read
  starts (Some x) = refl
  starts None = refl

  pub goes_on : (front : List V) (count i : ℕ) (bytes : List ℕ) (v : V) (after : List ℕ) (total : Option (List V × List ℕ)) → i < count → one bytes ≡ Some (v, after)
      → with_front front (times_at (count - i) one bytes) ≡ total → with_front (front ++ v ∷ []) (times_at (count - (i + 1)) one after) ≡ total
  goes_on front count i bytes v after total lt h so_far =
      let k : count - i ≡ suc (count - (i + 1)) = omega arith in
      let step : with_front front (times_at (count - i) one bytes) ≡ with_front (front ++ v ∷ []) (times_at (count - (i + 1)) one after) = rw (k, h) (regroup front v (times_at (count - (i + 1)) one after)) in
      sym step ∙ so_far

  pub ends : (e : TakeErr) (front : List V) (count i : ℕ) (bytes : List ℕ) (total : Option (List V × List ℕ)) → i < count → Fails e (one bytes)
      → with_front front (times_at (count - i) one bytes) ≡ total → Fails e total
  ends errors.NoMemory front count i bytes total lt h so_far = tt
  ends errors.NoSpelling front count i bytes total lt h so_far =
      let k : count - i ≡ suc (count - (i + 1)) = omega arith in
      let step : with_front front (times_at (count - i) one bytes) ≡ None = rw (k, h) refl in
      sym so_far ∙ step

  pub is_done : (front : List V) (count i : ℕ) (bytes : List ℕ) (total : Option (List V × List ℕ)) → count ≤ i → with_front front (times_at (count - i) one bytes) ≡ total → total ≡ Some (front, bytes)
  is_done front count i bytes total le so_far =
      let k : count - i ≡ 0 = omega arith in
      let step : with_front front (times_at (count - i) one bytes) ≡ Some (front, bytes) = rw k (ap (λ (vs : List V). Some (vs, bytes)) (append-nil front)) in
      sym so_far ∙ step
