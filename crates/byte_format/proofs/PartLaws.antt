-- Formats that are made of exact ones are exact: pairs, runs, options, other values, values that pass a test.
use Rattle.std.proofs.Common.{◌≡◌, ℕ, zero, suc, ◌≤◌, Bool, false, cond, ltb, List, [], ◌∷◌, ◌++◌, length, take, drop, Option, Some, None, refl, sym, ap, subst, ◌∙◌, append_assoc, arith}
use Rattle.std.proofs.lemmas.Bool.{ltb-false, le-ltb}
use Rattle.std.proofs.lemmas.List.{take_at, drop_at, take-append-drop, length-append, length-take}
use Rattle.byte_format.specs.Format.{◌>>=◌, Format, IsBytes, IsFront, IsExact}
use Rattle.byte_format.specs.Part.{pair, run, optional, optional_at, optional_text, recast, mapped, tested}
use Rattle.byte_format.proofs.Steps.{bind_some, guard_some, test_some, some_is, IsBytes-rest}

-- ---- one and then the other

pub pair_exact : {A B : Type 0} (a : Format A) (b : Format B) → IsExact a → IsExact b → IsExact (pair a b)
pair_exact a b p q = record {
  takes = λ bytes x fits e.
      let u = bind_some (a.read bytes) (λ v. b.read v.1 >>= λ w. Some ((v.0, w.0), w.1)) x e in
      let w = bind_some (b.read u.0.1) (λ w. Some ((u.0.0, w.0), w.1)) x u.2 in
      let first = p.takes bytes u.0 fits u.1 in
      let second = q.takes u.0.1 w.0 (IsBytes-rest bytes (a.text u.0.0) u.0.1 fits first.spelled) w.1 in
      subst (λ y. IsFront (pair a b) bytes y.0 y.1) (some_is ((u.0.0, w.0.0), w.0.1) x w.2) (record {
        fits = (first.fits, second.fits);
        spelled = first.spelled ∙ ap (λ (r : List ℕ). a.text u.0.0 ++ r) second.spelled ∙ sym (append_assoc (a.text u.0.0) (b.text w.0.0) w.0.1);
      });
  again = λ v rest fits. rw (append_assoc (a.text v.0) (b.text v.1) rest, p.again v.0 (b.text v.1 ++ rest) fits.0, q.again v.1 rest fits.1) refl;
}

-- ---- a run of bytes

pub run_exact : (size : Format ℕ) → IsExact size → IsExact (run size)
run_exact size exact = record {
  takes = λ bytes x fits e.
      let b = bind_some (size.read bytes) (λ n. cond (ltb (length n.1) n.0) None (Some (take n.0 n.1, drop n.0 n.1))) x e in
      let n = b.0 in
      let t = exact.takes bytes n fits b.1 in
      let g = guard_some (ltb (length n.1) n.0) (take n.0 n.1, drop n.0 n.1) x b.2 in
      let enough : n.0 ≤ length n.1 = ltb-false _ _ g.0 in
      let len : length (take n.0 n.1) ≡ n.0 = omega (arith, length-take n.0 n.1) in
      subst (λ (y : List ℕ × List ℕ). IsFront (run size) bytes y.0 y.1) g.1 (record {
        fits = rw len t.fits;
        spelled = t.spelled ∙ ap (λ (r : List ℕ). size.text n.0 ++ r) (sym (take-append-drop n.0 n.1)) ∙ sym (append_assoc (size.text n.0) (take n.0 n.1) (drop n.0 n.1)) ∙ ap (λ (k : ℕ). (size.text k ++ take n.0 n.1) ++ drop n.0 n.1) (sym len);
      });
  again = λ s rest fits.
      let long : ltb (length (s ++ rest)) (length s) ≡ false = le-ltb _ _ (omega (arith, length-append s rest)) in
      rw (append_assoc (size.text (length s)) s rest, exact.again (length s) (s ++ rest) fits, long, take_at s rest (length s) refl, drop_at s rest (length s) refl) refl;
}

-- ---- an option

module _ {A : Type 0} (f : Format A) (p : IsExact f) where
  optional_takes : (bytes : List ℕ) (x : Option A × List ℕ) → IsBytes bytes → optional_at f.read bytes ≡ Some x → IsFront (optional f) bytes x.0 x.1
  optional_takes [] x fits e = absurd cc
  optional_takes (zero ∷ rest) x fits e =
      subst (λ (y : Option A × List ℕ). IsFront (optional f) (0 ∷ rest) y.0 y.1) (some_is (None, rest) x e) (record { fits = tt; spelled = refl })
  optional_takes (suc zero ∷ rest) x fits e =
      let u = bind_some (f.read rest) (λ a. Some (Some a.0, a.1)) x e in
      let t = p.takes rest u.0 (λ i. fits (suc i)) u.1 in
      subst (λ (y : Option A × List ℕ). IsFront (optional f) (1 ∷ rest) y.0 y.1) (some_is (Some u.0.0, u.0.1) x u.2)
      (record { fits = t.fits; spelled = ap (λ (r : List ℕ). 1 ∷ r) t.spelled })
  optional_takes (suc (suc b) ∷ rest) x fits e = absurd cc

  optional_again : (v : Option A) (rest : List ℕ) → (optional f).Fits v → optional_at f.read (optional_text f.text v ++ rest) ≡ Some (v, rest)
  optional_again None rest fits = refl
  optional_again (Some a) rest fits = rw (p.again a rest fits) refl

  pub optional_exact : IsExact (optional f)
  optional_exact = record { takes = optional_takes; again = optional_again }

-- ---- the same bytes for other values

pub recast_exact : {A B : Type 0} (Fits : B → Type 0) (to : A → B) (from : B → A) (f : Format A) → IsExact f → ((a : A) → f.Fits a → Fits (to a) × (from (to a) ≡ a)) → ((b : B) → Fits b → f.Fits (from b) × (to (from b) ≡ b)) → IsExact (recast Fits to from f)
recast_exact Fits to from f p back forth = record {
  takes = λ bytes x fits e.
      let u = bind_some (f.read bytes) (λ a. Some (to a.0, a.1)) x e in
      let first = p.takes bytes u.0 fits u.1 in
      let same = back u.0.0 first.fits in
      subst (λ y. IsFront (recast Fits to from f) bytes y.0 y.1) (some_is (to u.0.0, u.0.1) x u.2)
      (record { fits = same.0; spelled = first.spelled ∙ ap (λ a. f.text a ++ u.0.1) (sym same.1) });
  again = λ v rest fits. rw (p.again (from v) rest (forth v fits).0, (forth v fits).1) refl;
}

pub mapped_exact : {A B : Type 0} (to : A → B) (from : B → A) (f : Format A) → IsExact f → ((a : A) → from (to a) ≡ a) → ((b : B) → to (from b) ≡ b) → IsExact (mapped to from f)
mapped_exact to from f p back forth =
    recast_exact (λ v. f.Fits (from v)) to from f p (λ a fits. (subst f.Fits (sym (back a)) fits, back a)) (λ b fits. (fits, forth b))

-- ---- those that pass a test

pub tested_exact : {A : Type 0} (test : A → Bool) (f : Format A) → IsExact f → IsExact (tested test f)
tested_exact test f p = record {
  takes = λ bytes x fits e.
      let u = bind_some (f.read bytes) (λ a. cond (test a.0) (Some a) None) x e in
      let g = test_some (test u.0.0) u.0 x u.2 in
      let first = p.takes bytes u.0 fits u.1 in
      subst (λ y. IsFront (tested test f) bytes y.0 y.1) g.1 (record { fits = (first.fits, g.0); spelled = first.spelled });
  again = λ v rest fits. rw (p.again v rest fits.0, fits.1) refl;
}
