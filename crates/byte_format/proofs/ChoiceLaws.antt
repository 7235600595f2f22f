-- A choice between kinds is exact if each kind's format is: what is read is shown kind by kind, and what is spelled is
-- read again in one proof by the cases of the value, which is a line for each kind.
use Rattle.std.proofs.Common.{◌≡◌, ℕ, suc, Bool, true, false, eqb, List, [], ◌∷◌, ◌++◌, Option, Some, None, refl, sym, ap, subst, ◌∙◌}
use Rattle.std.proofs.lemmas.Bool.Decides.{Decides-eqb}
use Rattle.std.specs.Option.{option_map_or}
use Rattle.std.specs.Prelude.{IsSomeAnd}
use Rattle.byte_format.specs.Format.{Format, IsBytes, IsFront, IsExact, ReadsAgain}
use Rattle.byte_format.specs.Choice.{variant, nothing, either, kind, no_kind, choice, choice_at, IsChoice, GivesBack, IsVariant}
use Rattle.byte_format.proofs.Steps.{bind_some, some_is}

module _ {A V : Type 0} (make : A → V) (part : V → Option A) (f : Format A) (p : IsExact f) (back : GivesBack make part) where
  -- what is read was made of what its format reads
  variant_takes : (bytes : List ℕ) (x : V × List ℕ) → IsBytes bytes → (variant make part f).read bytes ≡ Some x → IsFront (variant make part f) bytes x.0 x.1 × ((a : A) × (make a ≡ x.0))
  variant_takes bytes x fits e =
      let u = bind_some (f.read bytes) (λ a. Some (make a.0, a.1)) x e in
      let t = p.takes bytes u.0 fits u.1 in
      let whole : bytes ≡ option_map_or f.text (part (make u.0.0)) [] ++ u.0.1 = rw (back u.0.0) t.spelled in
      let fit : IsSomeAnd (part (make u.0.0)) f.Fits = rw (back u.0.0) t.fits in
      subst (λ (y : V × List ℕ). IsFront (variant make part f) bytes y.0 y.1 × ((a : A) × (make a ≡ y.0))) (some_is (make u.0.0, u.0.1) x u.2)
      (record { fits = fit; spelled = whole }, (u.0.0, refl))

  made_again : (a : A) (o : Option A) (rest : List ℕ) → o ≡ Some a → IsSomeAnd o f.Fits → (variant make part f).read (option_map_or f.text o [] ++ rest) ≡ Some (make a, rest)
  made_again a None rest e fits = absurd fits
  made_again a (Some b) rest e fits = rw (p.again b rest fits) (ap (λ (y : A). Some (make y, rest)) (some_is b a e))

  -- what was made of this is read again
  pub reads_made : (a : A) → ReadsAgain (variant make part f) (make a)
  reads_made a rest fits = made_again a (part (make a)) rest (back a) fits

  either_taken : (b : Bool) (n k : ℕ) (kind_of : V → ℕ) (others : Format V) → (b ≡ true → k ≡ n) → ((a : A) → kind_of (make a) ≡ n)
      → ((bytes : List ℕ) (x : V × List ℕ) → IsBytes bytes → others.read bytes ≡ Some x → IsFront others bytes x.0 x.1 × (kind_of x.0 ≡ k))
      → (bytes : List ℕ) (x : V × List ℕ) → IsBytes bytes → (either b (variant make part f) others).read bytes ≡ Some x → IsFront (either b (variant make part f) others) bytes x.0 x.1 × (kind_of x.0 ≡ k)
  either_taken true n k kind_of others same named rest bytes x fits e =
      let t = variant_takes bytes x fits e in
      (t.0, ap kind_of (sym t.1.1) ∙ named t.1.0 ∙ sym (same refl))
  either_taken false n k kind_of others same named rest bytes x fits e = rest bytes x fits e

  -- one more kind
  pub kind_is : (n : ℕ) (kind_of : V → ℕ) (others : ℕ → Format V) → ((a : A) → kind_of (make a) ≡ n) → IsChoice kind_of others → IsChoice kind_of (kind n make part f others)
  kind_is n kind_of others named rest = record {
    taken = λ k. either_taken (eqb k n) n k kind_of (others k) (Decides-eqb k n).0 named (rest.taken k);
  }

pub no_kind_is : {V : Type 0} (kind_of : V → ℕ) → IsChoice kind_of no_kind
no_kind_is kind_of = record { taken = λ k bytes x fits e. absurd cc }

module _ {V : Type 0} (kind_of : V → ℕ) (kinds : ℕ → Format V) (c : IsChoice kind_of kinds) where
  choice_takes : (bytes : List ℕ) (x : V × List ℕ) → IsBytes bytes → choice_at kinds bytes ≡ Some x → IsFront (choice kind_of kinds) bytes x.0 x.1
  choice_takes [] x fits e = absurd cc
  choice_takes (k ∷ rest) x fits e =
      let t = c.taken k rest x (λ i. fits (suc i)) e in
      let same = t.1 in
      let fit : (kinds (kind_of x.0)).Fits x.0 = subst (λ (j : ℕ). (kinds j).Fits x.0) (sym same) t.0.fits in
      let whole : k ∷ rest ≡ kind_of x.0 ∷ ((kinds (kind_of x.0)).text x.0 ++ x.1) = subst (λ (j : ℕ). k ∷ rest ≡ j ∷ ((kinds j).text x.0 ++ x.1)) (sym same) (ap (λ (r : List ℕ). k ∷ r) t.0.spelled) in
      record { fits = fit; spelled = whole }

  pub choice_exact : ((v : V) → ReadsAgain (kinds (kind_of v)) v) → IsExact (choice kind_of kinds)
  choice_exact again = record { takes = choice_takes; again = λ v rest fits. again v rest fits }

-- ---- two kinds that each say which values they made

module _ {A V : Type 0} (make : A → V) (part : V → Option A) (f : Format A) (p : IsExact f) (v : IsVariant make part) where
  variant_again : (x : V) (o : Option A) (rest : List ℕ) → part x ≡ o → IsSomeAnd o f.Fits → (variant make part f).read (option_map_or f.text o [] ++ rest) ≡ Some (x, rest)
  variant_again x None rest e fits = absurd fits
  variant_again x (Some a) rest e fits = rw (p.again a rest fits) (ap (λ (y : V). Some (y, rest)) (sym (v.made x a e)))

  -- this kind or another: either way the value is read again
  pub either_again : (b : Bool) (others : Format V) (x : V) → ReadsAgain others x → ReadsAgain (either b (variant make part f) others) x
  either_again true others x rest = λ r fits. variant_again x (part x) r refl fits
  either_again false others x rest = rest

pub nothing_again : {V : Type 0} (x : V) → ReadsAgain nothing x
nothing_again x rest fits = absurd fits
