-- A counted list of an exact format is exact.
use Rattle.std.proofs.Common.{◌≡◌, ℕ, zero, suc, List, [], ◌∷◌, ◌++◌, length, Some, refl, sym, ap, subst, ◌∙◌, append_assoc}
use Rattle.std.specs.List.{flat_map, AllByRecursion}
use Rattle.std.proofs.lemmas.List.Concat.{flat_map-cons}
use Rattle.byte_format.specs.Format.{◌>>=◌, Format, IsBytes, IsExact}
use Rattle.byte_format.specs.Several.{times_at, counted}
use Rattle.byte_format.proofs.Steps.{bind_some, some_is, IsBytes-rest}

module _ {A : Type 0} (f : Format A) (p : IsExact f) where
  -- so many were read, each fits, and they were spelled one after the other
  abbrev IsTimes : ℕ → List ℕ → List A × List ℕ → Type 0
  IsTimes n bytes x = (length x.0 ≡ n) × AllByRecursion f.Fits x.0 × (bytes ≡ flat_map f.text x.0 ++ x.1)

  times_takes : (n : ℕ) (bytes : List ℕ) (x : List A × List ℕ) → IsBytes bytes → times_at n f.read bytes ≡ Some x → IsTimes n bytes x
  times_takes zero bytes x fits e = subst (λ (y : List A × List ℕ). IsTimes 0 bytes y) (some_is ([], bytes) x e) (refl, tt, refl)
  times_takes (suc n) bytes x fits e =
      let u = bind_some (f.read bytes) (λ first. times_at n f.read first.1 >>= λ others. Some (first.0 ∷ others.0, others.1)) x e in
      let w = bind_some (times_at n f.read u.0.1) (λ others. Some (u.0.0 ∷ others.0, others.1)) x u.2 in
      let first = p.takes bytes u.0 fits u.1 in
      let second = times_takes n u.0.1 w.0 (IsBytes-rest bytes (f.text u.0.0) u.0.1 fits first.spelled) w.1 in
      let whole : bytes ≡ flat_map f.text (u.0.0 ∷ w.0.0) ++ w.0.1 = first.spelled ∙ ap (λ (r : List ℕ). f.text u.0.0 ++ r) second.2 ∙ sym (append_assoc (f.text u.0.0) (flat_map f.text w.0.0) w.0.1) ∙ ap (λ (r : List ℕ). r ++ w.0.1) (sym (flat_map-cons f.text u.0.0 w.0.0)) in
      subst (λ (y : List A × List ℕ). IsTimes (suc n) bytes y) (some_is (u.0.0 ∷ w.0.0, w.0.1) x w.2) (ap suc second.0, (first.fits, second.1), whole)

  times_again : (vs : List A) (rest : List ℕ) → AllByRecursion f.Fits vs → times_at (length vs) f.read (flat_map f.text vs ++ rest) ≡ Some (vs, rest)
  times_again [] rest fits = refl
  times_again (v ∷ vs) rest fits =
      rw (flat_map-cons f.text v vs, append_assoc (f.text v) (flat_map f.text vs) rest, p.again v (flat_map f.text vs ++ rest) fits.0, times_again vs rest fits.1) refl

  pub counted_exact : (size : Format ℕ) → IsExact size → IsExact (counted size f)
  counted_exact size q = record {
    takes = λ bytes x fits e.
        let u = bind_some (size.read bytes) (λ n. times_at n.0 f.read n.1) x e in
        let first = q.takes bytes u.0 fits u.1 in
        let second = times_takes u.0.0 u.0.1 x (IsBytes-rest bytes (size.text u.0.0) u.0.1 fits first.spelled) u.2 in
        record {
          fits = (rw second.0 first.fits, second.1);
          spelled = first.spelled ∙ ap (λ (r : List ℕ). size.text u.0.0 ++ r) second.2 ∙ sym (append_assoc (size.text u.0.0) (flat_map f.text x.0) x.1) ∙ ap (λ (k : ℕ). (size.text k ++ flat_map f.text x.0) ++ x.1) (sym second.0);
        };
    again = λ vs rest fits.
        rw (append_assoc (size.text (length vs)) (flat_map f.text vs) rest, q.again (length vs) (flat_map f.text vs ++ rest) fits.0) (times_again vs rest fits.1);
  }
