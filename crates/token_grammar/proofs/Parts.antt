-- Grammars made of parts are exact, where their parts are.
use Rattle.std.proofs.Common.{◌≡◌, ℕ, zero, suc, ◌<◌, ◌≤◌, Bool, true, false, List, [], ◌∷◌, ◌++◌, length, Option, Some, None, refl, sym, ap, subst, ◌∙◌, append_assoc, arith, inl, inr}
use Rattle.std.proofs.lemmas.List.{length-append}
use Rattle.token_grammar.specs.declared.token.Token.{Token}
use Rattle.token_grammar.specs.Steps.{◌>>=◌, begins, many_at}
use Rattle.token_grammar.specs.Grammar.{Grammar, nothing, either, ◌·◌, ◌▹◌, ◌◃◌, Optional, optional_at, optional, Each, many, separated}
use Rattle.token_grammar.specs.Exact.{Takes, IsExact, Leads, Apart, Meets}
use Rattle.token_grammar.proofs.Options.{bind_some, chosen, some_is}
use Rattle.token_grammar.proofs.Beginnings.{begins-append, begins-apart, either_left, either_right, leads_after, ended, led}

module _ {A B : Type 0} (a : Grammar A) (b : Grammar B) (p q r : Token → Bool) (ax : IsExact a p) (bx : IsExact b q) (meets : Meets p b q r) where
  pub pair_exact : IsExact (a · b) r
  pair_exact = record {
    takes = λ ts x e.
        let u = bind_some (a.read ts) (λ y. b.read y.1 >>= λ z. Some ((y.0, z.0), z.1)) x e in
        let w = bind_some (b.read u.0.1) (λ z. Some ((u.0.0, z.0), z.1)) x u.2 in
        let one = ax.takes ts u.0 u.1 in
        let two = bx.takes u.0.1 w.0 w.1 in
        subst (Takes (a · b) ts) (some_is ((u.0.0, w.0.0), w.0.1) x w.2) (record {
          front = one.front ++ two.front;
          spelled = (one.front, two.front, one.spelled, two.spelled, refl);
          whole = one.whole ∙ ap (λ (t : List Token). one.front ++ t) two.whole ∙ sym (append_assoc one.front two.front w.0.1);
        });
    again = λ v front rest s ends.
        let m = meets v.1 s.1 rest s.3 ends in
        rw (s.4, append_assoc s.0 s.1 rest, ax.again v.0 s.0 (s.1 ++ rest) s.2 m.0, bx.again v.1 s.1 rest s.3 m.1) refl;
  }

module _ {B : Type 0} (a : Grammar (Unit {0})) (b : Grammar B) (p q r : Token → Bool) (ax : IsExact a p) (bx : IsExact b q) (meets : Meets p b q r) where
  pub after_exact : IsExact (a ▹ b) r
  after_exact = record {
    takes = λ ts x e.
        let u = bind_some (a.read ts) (λ y. b.read y.1) x e in
        let one = ax.takes ts u.0 u.1 in
        let two = bx.takes u.0.1 x u.2 in
        record {
          front = one.front ++ two.front;
          spelled = (one.front, two.front, one.spelled, two.spelled, refl);
          whole = one.whole ∙ ap (λ (t : List Token). one.front ++ t) two.whole ∙ sym (append_assoc one.front two.front x.1);
        };
    again = λ v front rest s ends.
        let m = meets v s.1 rest s.3 ends in
        rw (s.4, append_assoc s.0 s.1 rest, ax.again tt s.0 (s.1 ++ rest) s.2 m.0, bx.again v s.1 rest s.3 m.1) refl;
  }

module _ {A : Type 0} (a : Grammar A) (b : Grammar (Unit {0})) (p q r : Token → Bool) (ax : IsExact a p) (bx : IsExact b q) (meets : Meets p b q r) where
  pub before_exact : IsExact (a ◃ b) r
  before_exact = record {
    takes = λ ts x e.
        let u = bind_some (a.read ts) (λ y. b.read y.1 >>= λ z. Some (y.0, z.1)) x e in
        let w = bind_some (b.read u.0.1) (λ z. Some (u.0.0, z.1)) x u.2 in
        let one = ax.takes ts u.0 u.1 in
        let two = bx.takes u.0.1 w.0 w.1 in
        subst (Takes (a ◃ b) ts) (some_is (u.0.0, w.0.1) x w.2) (record {
          front = one.front ++ two.front;
          spelled = (one.front, two.front, one.spelled, two.spelled, refl);
          whole = one.whole ∙ ap (λ (t : List Token). one.front ++ t) two.whole ∙ sym (append_assoc one.front two.front w.0.1);
        });
    again = λ v front rest s ends.
        let m = meets tt s.1 rest s.3 ends in
        rw (s.4, append_assoc s.0 s.1 rest, ax.again v s.0 (s.1 ++ rest) s.2 m.0, bx.again tt s.1 rest s.3 m.1) refl;
  }

-- ---- what may stand or not

module _ {V : Type 0} (g : Grammar V) (starts p : Token → Bool) (x : IsExact g p) (leads : Leads g starts) where
  optional_takes : (ts : List Token) (y : Option V × List Token) → optional_at starts g.read ts ≡ Some y → Takes (optional starts g) ts y
  optional_takes ts y e =
      elim (chosen (begins starts ts) (g.read ts >>= λ z. Some (Some z.0, z.1)) (Some (None, ts)) (Some y) e) [
        | inl h ↦
            let u = bind_some (g.read ts) (λ z. Some (Some z.0, z.1)) y h.1 in
            let one = x.takes ts u.0 u.1 in
            subst (Takes (optional starts g) ts) (some_is (Some u.0.0, u.0.1) y u.2) (record { front = one.front; spelled = one.spelled; whole = one.whole })
        | inr h ↦ subst (Takes (optional starts g) ts) (some_is (None, ts) y h.1) (record { front = []; spelled = refl; whole = refl })
      ]

  optional_again : (o : Option V) (front rest : List Token) → Optional g.Spells o front → begins (either starts p) rest ≡ false → optional_at starts g.read (front ++ rest) ≡ Some (o, rest)
  optional_again None front rest spelled ends = rw (spelled, either_left starts p rest ends) refl
  optional_again (Some v) front rest spelled ends =
      rw (begins-append starts front rest (leads v front spelled), x.again v front rest spelled (either_right starts p rest ends)) refl

  pub optional_exact : IsExact (optional starts g) (either starts p)
  optional_exact = record { takes = optional_takes; again = optional_again }

  -- ---- any number of parts

  many_takes : (n : ℕ) (ts : List Token) (y : List V × List Token) → many_at n starts g.read ts ≡ Some y → Takes (many starts g) ts y
  many_takes zero ts y e = subst (Takes (many starts g) ts) (some_is ([], ts) y e) (record { front = []; spelled = refl; whole = refl })
  many_takes (suc n) ts y e =
      elim (chosen (begins starts ts) (g.read ts >>= λ first. many_at n starts g.read first.1 >>= λ others. Some (first.0 ∷ others.0, others.1)) (Some ([], ts)) (Some y) e) [
        | inl h ↦
            let u = bind_some (g.read ts) (λ first. many_at n starts g.read first.1 >>= λ others. Some (first.0 ∷ others.0, others.1)) y h.1 in
            let w = bind_some (many_at n starts g.read u.0.1) (λ others. Some (u.0.0 ∷ others.0, others.1)) y u.2 in
            let one = x.takes ts u.0 u.1 in
            let two = many_takes n u.0.1 w.0 w.1 in
            subst (Takes (many starts g) ts) (some_is (u.0.0 ∷ w.0.0, w.0.1) y w.2) (record {
              front = one.front ++ two.front;
              spelled = (one.front, two.front, one.spelled, two.spelled, refl);
              whole = one.whole ∙ ap (λ (t : List Token). one.front ++ t) two.whole ∙ sym (append_assoc one.front two.front w.0.1);
            })
        | inr h ↦ subst (Takes (many starts g) ts) (some_is ([], ts) y h.1) (record { front = []; spelled = refl; whole = refl })
      ]

  -- each part has a token
  each_long : (vs : List V) (ts : List Token) → Each g.Spells vs ts → length vs ≤ length ts
  each_long [] ts spelled = omega arith
  each_long (v ∷ vs) ts s =
      let one = has_token s.0 (leads v s.0 s.2) in
      let others = each_long vs s.1 s.3 in
      rw s.4 (omega (arith, length-append s.0 s.1))
    where
      has_token : (us : List Token) → begins starts us ≡ true → 0 < length us
      has_token [] h = absurd cc
      has_token (u ∷ us) h = omega arith

  module _ (apart : Apart p starts) where
    -- what follows a part is the next one, or what ends them all
    next_ends : (vs : List V) (ts rest : List Token) → Each g.Spells vs ts → begins (either starts p) rest ≡ false → begins p (ts ++ rest) ≡ false
    next_ends [] ts rest s ends = rw s (either_right starts p rest ends)
    next_ends (v ∷ vs) ts rest s ends = rw (s.4, append_assoc s.0 s.1 rest) (begins-apart p starts apart s.0 (s.1 ++ rest) (leads v s.0 s.2))

    many_again : (n : ℕ) (vs : List V) (front rest : List Token) → length vs ≤ n → Each g.Spells vs front → begins (either starts p) rest ≡ false → many_at n starts g.read (front ++ rest) ≡ Some (vs, rest)
    many_again zero [] front rest le s ends = rw s refl
    many_again zero (v ∷ vs) front rest le s ends = absurd (omega arith)
    many_again (suc n) [] front rest le s ends = rw (s, either_left starts p rest ends) refl
    many_again (suc n) (v ∷ vs) front rest le s ends =
        let le' : length vs ≤ n = omega arith in
        rw (s.4, append_assoc s.0 s.1 rest, begins-append starts s.0 (s.1 ++ rest) (leads v s.0 s.2), x.again v s.0 (s.1 ++ rest) s.2 (next_ends vs s.1 rest s.3 ends), many_again n vs s.1 rest le' s.3 ends) refl

    pub many_exact : IsExact (many starts g) (either starts p)
    many_exact = record {
      takes = λ ts y e. many_takes (length ts) ts y e;
      again = λ vs front rest s ends. many_again (length (front ++ rest)) vs front rest (omega (arith, length-append front rest, each_long vs front s)) s ends;
    }

-- ---- one or more, with a separator

module _ {V : Type 0} (g : Grammar V) (separator : Grammar (Unit {0})) (starts p : Token → Bool) (x : IsExact g p) (sx : IsExact separator nothing) (leads : Leads separator starts) (apart : Apart p starts) where
  next_leads : Leads (separator ▹ g) starts
  next_leads = leads_after separator g starts leads

  next_exact : IsExact (separator ▹ g) p
  next_exact = after_exact separator g nothing p p sx x (ended g p)

  separated_takes : (ts : List Token) (y : List V × List Token) → (separated starts separator g).read ts ≡ Some y → Takes (separated starts separator g) ts y
  separated_takes ts y e =
      let u = bind_some (g.read ts) (λ first. (many starts (separator ▹ g)).read first.1 >>= λ others. Some (first.0 ∷ others.0, others.1)) y e in
      let w = bind_some ((many starts (separator ▹ g)).read u.0.1) (λ others. Some (u.0.0 ∷ others.0, others.1)) y u.2 in
      let one = x.takes ts u.0 u.1 in
      let two = (many_exact (separator ▹ g) starts p next_exact next_leads apart).takes u.0.1 w.0 w.1 in
      subst (Takes (separated starts separator g) ts) (some_is (u.0.0 ∷ w.0.0, w.0.1) y w.2) (record {
        front = one.front ++ two.front;
        spelled = (one.front, two.front, one.spelled, two.spelled, refl);
        whole = one.whole ∙ ap (λ (t : List Token). one.front ++ t) two.whole ∙ sym (append_assoc one.front two.front w.0.1);
      })

  separated_again : (vs : List V) (front rest : List Token) → (separated starts separator g).Spells vs front → begins (either starts p) rest ≡ false → (separated starts separator g).read (front ++ rest) ≡ Some (vs, rest)
  separated_again [] front rest s ends = absurd s
  separated_again (v ∷ vs) front rest s ends =
      rw (s.4, append_assoc s.0 s.1 rest, x.again v s.0 (s.1 ++ rest) s.2 (next_ends (separator ▹ g) starts p next_exact next_leads apart vs s.1 rest s.3 ends), (many_exact (separator ▹ g) starts p next_exact next_leads apart).again vs s.1 rest s.3 ends) refl

  pub separated_exact : IsExact (separated starts separator g) (either starts p)
  separated_exact = record { takes = separated_takes; again = separated_again }

-- ---- the same, by what follows

module _ {A B : Type 0} {a : Grammar A} {b : Grammar B} {q : Token → Bool} where
  pub seq : IsExact a nothing → IsExact b q → IsExact (a · b) q
  seq x y = pair_exact a b nothing q q x y (ended b q)

  pub seq_led : {p : Token → Bool} (starts : Token → Bool) → IsExact a p → IsExact b q → Leads b starts → Apart p starts → IsExact (a · b) q
  seq_led {p = p} starts x y leads apart = pair_exact a b p q q x y (led p b q starts leads apart)

module _ {B : Type 0} {a : Grammar (Unit {0})} {b : Grammar B} {q : Token → Bool} where
  pub after : IsExact a nothing → IsExact b q → IsExact (a ▹ b) q
  after x y = after_exact a b nothing q q x y (ended b q)

module _ {A : Type 0} {a : Grammar A} {b : Grammar (Unit {0})} {q : Token → Bool} where
  pub before_led : {p : Token → Bool} (starts : Token → Bool) → IsExact a p → IsExact b q → Leads b starts → Apart p starts → IsExact (a ◃ b) q
  before_led {p = p} starts x y leads apart = before_exact a b p q q x y (led p b q starts leads apart)
