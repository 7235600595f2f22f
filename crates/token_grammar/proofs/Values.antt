-- Grammars of a choice, and of other values, are exact, where their parts are.
use Rattle.std.proofs.Common.{◌≡◌, ℕ, Bool, true, false, cond, List, [], ◌∷◌, ◌++◌, Option, Some, None, refl, sym, subst, append_assoc, ◌⊎◌, inl, inr}
use Rattle.std.specs.Prelude.{◌&&◌}
use Rattle.token_grammar.specs.declared.token.Token.{Token}
use Rattle.token_grammar.specs.Steps.{◌>>=◌, begins}
use Rattle.token_grammar.specs.Grammar.{Grammar, is_word, nothing, either, begins_two, word, meant, ◌▹◌, Each, separated, choice, choice_at, mapped, made, tested}
use Rattle.token_grammar.specs.Exact.{Takes, IsExact, Leads, Apart, Shows}
use Rattle.token_grammar.proofs.Options.{bind_some, test_some, chosen, some_is}
use Rattle.token_grammar.proofs.Beginnings.{either_left, begins-append, begins-apart, is_word-same, leads_after}

-- ---- the same tokens for other values

pub mapped_exact : {A B : Type 0} (to : A → B) (from : B → A) (g : Grammar A) (p : Token → Bool) → IsExact g p
    → ((a : A) (ts : List Token) → g.Spells a ts → from (to a) ≡ a) → ((b : B) → to (from b) ≡ b) → IsExact (mapped to from g) p
mapped_exact to from g p x back forth = record {
  takes = λ ts y e.
      let u = bind_some (g.read ts) (λ a. Some (to a.0, a.1)) y e in
      let one = x.takes ts u.0 u.1 in
      subst (Takes (mapped to from g) ts) (some_is (to u.0.0, u.0.1) y u.2) (record {
        front = one.front;
        spelled = subst (λ a. g.Spells a one.front) (sym (back u.0.0 one.front one.spelled)) one.spelled;
        whole = one.whole;
      });
  again = λ v front rest spelled ends. rw (x.again (from v) front rest spelled ends, forth v) refl;
}

pub made_exact : {A B : Type 0} (meaning : A → Option B) (g : Grammar A) (p : Token → Bool) → IsExact g p → IsExact (made meaning g) p
made_exact meaning g p x = record {
  takes = λ ts y e.
      let u = bind_some (g.read ts) (λ a. meaning a.0 >>= λ v. Some (v, a.1)) y e in
      let w = bind_some (meaning u.0.0) (λ v. Some (v, u.0.1)) y u.2 in
      let one = x.takes ts u.0 u.1 in
      subst (Takes (made meaning g) ts) (some_is (w.0, u.0.1) y w.2) (record { front = one.front; spelled = (u.0.0, one.spelled, w.1); whole = one.whole });
  again = λ v front rest s ends. rw (x.again s.0 front rest s.1 ends, s.2) refl;
}

pub tested_exact : {V : Type 0} (test : V → Bool) (g : Grammar V) (p : Token → Bool) → IsExact g p → IsExact (tested test g) p
tested_exact test g p x = record {
  takes = λ ts y e.
      let u = bind_some (g.read ts) (λ a. cond (test a.0) (Some a) None) y e in
      let t = test_some (test u.0.0) u.0 y u.2 in
      let one = x.takes ts u.0 u.1 in
      subst (Takes (tested test g) ts) t.1 (record { front = one.front; spelled = (one.spelled, t.0); whole = one.whole });
  again = λ v front rest s ends. rw (x.again v front rest s.0 ends, s.1) refl;
}

-- ---- one or the other

module _ {A B : Type 0} (looks : List Token → Bool) (a : Grammar A) (b : Grammar B) (p q r : Token → Bool) (ax : IsExact a p) (bx : IsExact b q)
    (first : Shows a looks r true) (second : Shows b looks r false) (ends_first : (ts : List Token) → begins r ts ≡ false → begins p ts ≡ false) (ends_second : (ts : List Token) → begins r ts ≡ false → begins q ts ≡ false) where
  choice_takes : (ts : List Token) (y : (A ⊎ B) × List Token) → choice_at looks a.read b.read ts ≡ Some y → Takes (choice looks a b) ts y
  choice_takes ts y e =
      elim (chosen (looks ts) (a.read ts >>= λ x. Some (inl x.0, x.1)) (b.read ts >>= λ x. Some (inr x.0, x.1)) (Some y) e) [
        | inl h ↦
            let u = bind_some (a.read ts) (λ x. Some (inl x.0, x.1)) y h.1 in
            let one = ax.takes ts u.0 u.1 in
            subst (Takes (choice looks a b) ts) (some_is (inl u.0.0, u.0.1) y u.2) (record { front = one.front; spelled = one.spelled; whole = one.whole })
        | inr h ↦
            let u = bind_some (b.read ts) (λ x. Some (inr x.0, x.1)) y h.1 in
            let one = bx.takes ts u.0 u.1 in
            subst (Takes (choice looks a b) ts) (some_is (inr u.0.0, u.0.1) y u.2) (record { front = one.front; spelled = one.spelled; whole = one.whole })
      ]

  choice_again : (v : A ⊎ B) (front rest : List Token) → (choice looks a b).Spells v front → begins r rest ≡ false → choice_at looks a.read b.read (front ++ rest) ≡ Some (v, rest)
  choice_again (inl v) front rest s ends = rw (first v front rest s ends, ax.again v front rest s (ends_first rest ends)) refl
  choice_again (inr v) front rest s ends = rw (second v front rest s ends, bx.again v front rest s (ends_second rest ends)) refl

  pub choice_exact : IsExact (choice looks a b) r
  choice_exact = record { takes = choice_takes; again = choice_again }

-- ---- looks at the tokens ahead

-- a word and what leads the part behind it are seen
pub shows_two : {B : Type 0} (w : List ℕ) (b : Grammar B) (q r : Token → Bool) → Leads b q → Shows (word w ▹ b) (begins_two (is_word w) q) r true
shows_two w b q r leads v ts rest s ends = rw (s.4, s.2, is_word-same w) (begins-append q s.1 rest (leads v s.1 s.3))

-- behind parts that begin with such a token, another token is not next if it does not follow
each_next : {V : Type 0} (g : Grammar V) (starts q : Token → Bool) → Leads g starts → Apart q starts → (vs : List V) (ts rest : List Token) → Each g.Spells vs ts → begins q rest ≡ false → begins q (ts ++ rest) ≡ false
each_next g starts q leads apart [] ts rest s ends = rw s ends
each_next g starts q leads apart (v ∷ vs) ts rest s ends = rw (s.4, append_assoc s.0 s.1 rest) (begins-apart q starts apart s.0 (s.1 ++ rest) (leads v s.0 s.2))

not_both : (a b : Bool) → b ≡ false → (a && b) ≡ false
not_both true b h = h
not_both false b h = refl

-- in a list of such tokens, the second token is a separator, or that behind the list
pub list_shows_none : {V : Type 0} (meaning : Token → Option V) (separator : Grammar (Unit {0})) (p q starts : Token → Bool) → Leads separator starts → Apart q starts
    → Shows (separated starts separator (meant meaning)) (begins_two p q) (either q (either starts nothing)) false
list_shows_none meaning separator p q starts leads apart [] ts rest s ends = absurd s
list_shows_none meaning separator p q starts leads apart (v ∷ vs) ts rest s ends =
    rw (s.4, s.2.1) (not_both (p s.2.0) (begins q (s.1 ++ rest)) (each_next (separator ▹ meant meaning) starts q (leads_after separator (meant meaning) starts leads) apart vs s.1 rest s.3 (either_left q (either starts nothing) rest ends)))
