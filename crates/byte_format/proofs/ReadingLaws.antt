-- What the functions that read have answered, in words of the spelling.
use Rattle.std.proofs.Common.{◌≡◌, ℕ, suc, true, false, eqb, List, [], ◌∷◌, length, Some, Result, Ok, Err, IfOk, sym, ap, ◌∙◌, arith}
use Rattle.std.proofs.lemmas.Bool.Decides.{Decides-eqb}
use Rattle.std.proofs.lemmas.List.{append-nil}
use Rattle.byte_format.specs.declared.errors.TakeErr.{TakeErr}
use Rattle.byte_format.specs.declared.errors.TakeErr.TheVariants as errors
use Rattle.byte_format.specs.Format.{Format, IsBytes, IsFront, HasNoFront, IsSpelling, IsExact}
use Rattle.byte_format.specs.Reads.{Fails, ReadsInMemory}
use Rattle.byte_format.proofs.FormatLaws.{has_no_front, is_spelling, spelling_is_read}
use Rattle.byte_format.proofs.Steps.{done, some_is}

module _ {V : Type 0} (f : Format V) (p : IsExact f) (bytes : List ℕ) where
  -- what was read is at the front
  pub found : {R : Type 0} (seen : R → V × List ℕ) (r : Result R TakeErr) → IsBytes bytes → ReadsInMemory seen r (f.read bytes) → IfOk r (λ x. IsFront f bytes (seen x).0 (seen x).1)
  found seen (Ok x) fits e = p.takes bytes (seen x) fits e
  found seen (Err e) fits fails = tt

  -- where nothing was read for want of a spelling, none is at the front
  pub refused : {R : Type 0} (r : Result R TakeErr) (e : TakeErr) → r ≡ Err e → Fails e (f.read bytes) → r ≡ Err errors.NoSpelling → HasNoFront f bytes
  refused r errors.NoSpelling is fails h = has_no_front f p bytes fails
  refused r errors.NoMemory is fails h = absurd cc

  pub refused_whole : {R : Type 0} (r : Result R TakeErr) (e : TakeErr) → r ≡ Err e → Fails e (f.read bytes) → r ≡ Err errors.NoSpelling → (v : V) → IsSpelling f bytes v → ⊥
  refused_whole r e is fails h v s =
      refused r e is fails h v [] (record { fits = s.fits; spelled = s.spelled ∙ sym (append-nil (f.text v)) })

  -- what was read to the end is the whole spelling
  pub found_whole : (v : V) (rest : List ℕ) → IsBytes bytes → f.read bytes ≡ Some (v, rest) → eqb (length rest) 0 ≡ true → IsSpelling f bytes v
  found_whole v [] fits e is_end = is_spelling f p bytes v fits e
  found_whole v (b ∷ rest) fits e is_end =
      let no_end : suc (length rest) ≡ 0 = (Decides-eqb (suc (length rest)) 0).0 is_end in
      let none : ⊥ = omega arith in
      absurd none

  -- where more bytes follow what was read, the whole is no spelling
  pub more_behind : (x : V) (rest : List ℕ) → f.read bytes ≡ Some (x, rest) → eqb (length rest) 0 ≡ false → (v : V) → IsSpelling f bytes v → ⊥
  more_behind x [] e goes_on v s = absurd cc
  more_behind x (b ∷ rest) e goes_on v s =
      let same : done {A = V × List ℕ} (x, b ∷ rest) ≡ done (v, []) = sym e ∙ spelling_is_read f p bytes v s in
      let behind : ◌≡◌ {A = List ℕ} (b ∷ rest) [] = ap (λ (q : V × List ℕ). q.1) (some_is (x, b ∷ rest) (v, []) same) in
      absurd cc
