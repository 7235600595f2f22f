-- What an exact format says of some bytes.
use Rattle.std.proofs.Common.{◌≡◌, ℕ, List, [], Some, None, sym, ap, ◌∙◌}
use Rattle.std.proofs.lemmas.List.{append-nil}
use Rattle.byte_format.specs.Format.{Format, IsBytes, IsFront, HasNoFront, IsSpelling, IsExact, HasOneReading}
use Rattle.byte_format.proofs.Steps.{done, some_is}

module _ {V : Type 0} (f : Format V) (p : IsExact f) where
  pub has_one_reading : HasOneReading f
  has_one_reading a b x y m n e =
      let same : done (a, x) ≡ done (b, y) = sym (p.again a x m) ∙ ap f.read e ∙ p.again b y n in
      let k : (a, x) ≡ (b, y) = some_is (a, x) (b, y) same in
      (ap (λ q. q.0) k, ap (λ q. q.1) k)

  pub front_is_read : (bytes : List ℕ) (v : V) (rest : List ℕ) → IsFront f bytes v rest → f.read bytes ≡ Some (v, rest)
  front_is_read bytes v rest h = ap f.read h.spelled ∙ p.again v rest h.fits

  pub has_no_front : (bytes : List ℕ) → f.read bytes ≡ None → HasNoFront f bytes
  has_no_front bytes e v rest h =
      let again = front_is_read bytes v rest h in
      absurd cc

  -- a spelling with nothing after it

  pub is_spelling : (bytes : List ℕ) (v : V) → IsBytes bytes → f.read bytes ≡ Some (v, []) → IsSpelling f bytes v
  is_spelling bytes v fits e =
      let t = p.takes bytes (v, []) fits e in
      record { fits = t.fits; spelled = t.spelled ∙ append-nil (f.text v) }

  pub spelling_is_read : (bytes : List ℕ) (v : V) → IsSpelling f bytes v → f.read bytes ≡ Some (v, [])
  spelling_is_read bytes v h =
      front_is_read bytes v [] (record { fits = h.fits; spelled = h.spelled ∙ sym (append-nil (f.text v)) })
