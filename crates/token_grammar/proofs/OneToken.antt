-- Grammars of one token are exact.
use Rattle.std.proofs.Common.{◌≡◌, ℕ, Bool, false, List, [], ◌∷◌, ◌++◌, Option, Some, refl, ap, subst, ◌⊎◌, inl, inr}
use Rattle.token_grammar.specs.declared.mark.Mark.{Mark}
use Rattle.token_grammar.specs.declared.token.Token.{Token}
use Rattle.token_grammar.specs.declared.token.Token.TheVariants as token
use Rattle.token_grammar.specs.Steps.{begins}
use Rattle.token_grammar.specs.Grammar.{is_word, is_mark, nothing, passed_at, passed, word, mark, meant_at, meant, maybe_at, maybe}
use Rattle.token_grammar.specs.Exact.{Takes, IsExact}
use Rattle.token_grammar.proofs.Options.{bind_some, test_some, chosen, some_is}
use Rattle.token_grammar.proofs.Beginnings.{is_word_is, is_word-same, is_mark_is, is_mark-same}

word_takes : (w : List ℕ) (ts : List Token) (x : Unit {0} × List Token) → passed_at (is_word w) ts ≡ Some x → Takes (word w) ts x
word_takes w [] x e = absurd cc
word_takes w (t ∷ ts) x e =
    let g = test_some (is_word w t) (tt, ts) x e in
    subst (Takes (word w) (t ∷ ts)) g.1 (record { front = token.Word w ∷ []; spelled = refl; whole = ap (λ (u : Token). u ∷ ts) (is_word_is w t g.0) })

pub word_exact : (w : List ℕ) → IsExact (word w) nothing
word_exact w = record {
  takes = word_takes w;
  again = λ v front rest spelled ends. rw (spelled, is_word-same w) refl;
}

mark_takes : (m : Mark) (ts : List Token) (x : Unit {0} × List Token) → passed_at (is_mark m) ts ≡ Some x → Takes (mark m) ts x
mark_takes m [] x e = absurd cc
mark_takes m (t ∷ ts) x e =
    let g = test_some (is_mark m t) (tt, ts) x e in
    subst (Takes (mark m) (t ∷ ts)) g.1 (record { front = token.Mark m ∷ []; spelled = refl; whole = ap (λ (u : Token). u ∷ ts) (is_mark_is m t g.0) })

pub mark_exact : (m : Mark) → IsExact (mark m) nothing
mark_exact m = record {
  takes = mark_takes m;
  again = λ v front rest spelled ends. rw (spelled, is_mark-same m) refl;
}

passed_takes : (p : Token → Bool) (ts : List Token) (x : Unit {0} × List Token) → passed_at p ts ≡ Some x → Takes (passed p) ts x
passed_takes p [] x e = absurd cc
passed_takes p (t ∷ ts) x e =
    let g = test_some (p t) (tt, ts) x e in
    subst (Takes (passed p) (t ∷ ts)) g.1 (record { front = t ∷ []; spelled = (t, refl, g.0); whole = refl })

pub passed_exact : (p : Token → Bool) → IsExact (passed p) nothing
passed_exact p = record {
  takes = passed_takes p;
  again = λ v front rest s ends. rw (s.1, s.2) refl;
}

meant_takes : {V : Type 0} (meaning : Token → Option V) (ts : List Token) (x : V × List Token) → meant_at meaning ts ≡ Some x → Takes (meant meaning) ts x
meant_takes meaning [] x e = absurd cc
meant_takes meaning (t ∷ ts) x e =
    let u = bind_some (meaning t) (λ v. Some (v, ts)) x e in
    subst (Takes (meant meaning) (t ∷ ts)) (some_is (u.0, ts) x u.2) (record { front = t ∷ []; spelled = (t, refl, u.1); whole = refl })

pub meant_exact : {V : Type 0} (meaning : Token → Option V) → IsExact (meant meaning) nothing
meant_exact meaning = record {
  takes = meant_takes meaning;
  again = λ v front rest s ends. rw (s.1, s.2) refl;
}

-- ---- what may stand or not

maybe_takes : (w : List ℕ) (ts : List Token) (x : Unit {0} × List Token) → maybe_at w ts ≡ Some x → Takes (maybe w) ts x
maybe_takes w [] x e = subst (Takes (maybe w) []) (some_is (tt, []) x e) (record { front = []; spelled = inl refl; whole = refl })
maybe_takes w (t ∷ ts) x e =
    elim (chosen (is_word w t) (Some (tt, ts)) (Some (tt, t ∷ ts)) (Some x) e) [
      | inl h ↦ subst (Takes (maybe w) (t ∷ ts)) (some_is (tt, ts) x h.1) (record { front = token.Word w ∷ []; spelled = inr refl; whole = ap (λ (u : Token). u ∷ ts) (is_word_is w t h.0) })
      | inr h ↦ subst (Takes (maybe w) (t ∷ ts)) (some_is (tt, t ∷ ts) x h.1) (record { front = []; spelled = inl refl; whole = refl })
    ]

maybe_none : (w : List ℕ) (rest : List Token) → begins (is_word w) rest ≡ false → maybe_at w rest ≡ Some (tt, rest)
maybe_none w [] h = refl
maybe_none w (t ∷ rest) h = rw h refl

maybe_again : (w : List ℕ) (front rest : List Token) → (front ≡ []) ⊎ (front ≡ token.Word w ∷ []) → begins (is_word w) rest ≡ false → maybe_at w (front ++ rest) ≡ Some (tt, rest)
maybe_again w front rest (inl e) ends = rw e (maybe_none w rest ends)
maybe_again w front rest (inr e) ends = rw (e, is_word-same w) refl

pub maybe_exact : (w : List ℕ) → IsExact (maybe w) (is_word w)
maybe_exact w = record { takes = maybe_takes w; again = λ v front rest spelled ends. maybe_again w front rest spelled ends }
