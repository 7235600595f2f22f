-- A whole text is read exactly, where its grammar is exact.
use Rattle.std.proofs.Common.{◌≡◌, ℕ, eqb, List, [], ◌++◌, length, Some, refl, sym, ap, subst, ◌∙◌}
use Rattle.std.specs.Prelude.{IfOk, Result, Ok, Err}
use Rattle.std.proofs.lemmas.Bool.{eqb-true}
use Rattle.std.proofs.lemmas.List.{append-nil, nil_from_length}
use Rattle.token_grammar.specs.declared.read_err.ReadErr.{ReadErr}
use Rattle.token_grammar.specs.declared.read_err.ReadErr.TheVariants as errors
use Rattle.token_grammar.specs.declared.token.Token.{Token}
use Rattle.token_grammar.specs.Steps.{◌>>=◌, whole_of}
use Rattle.token_grammar.specs.Gives.{Gives}
use Rattle.token_grammar.specs.Lexing.{tokens_in}
use Rattle.token_grammar.specs.Grammar.{Grammar, anything}
use Rattle.token_grammar.specs.Exact.{IsExact}
use Rattle.token_grammar.specs.Text.{IsTextOf, value_in}
use Rattle.token_grammar.proofs.Options.{bind_some, test_some, some_is}
use Rattle.token_grammar.proofs.TextLaws.{tokens_take, tokens_again}

module _ {V : Type 0} (g : Grammar V) (x : IsExact g anything) where
  whole_takes : (ts : List Token) (v : V) → (g.read ts >>= whole_of) ≡ Some v → g.Spells v ts
  whole_takes ts v e =
      let u = bind_some (g.read ts) whole_of v e in
      let t = test_some (eqb (length u.0.1) 0) u.0.0 v u.2 in
      let one = x.takes ts u.0 u.1 in
      let none : u.0.1 ≡ [] = nil_from_length u.0.1 (eqb-true _ _ t.0) in
      let whole : ts ≡ one.front = one.whole ∙ ap (λ (r : List Token). one.front ++ r) none ∙ append-nil one.front in
      rw whole (subst (λ (y : V). g.Spells y one.front) t.1 one.spelled)

  whole_again : (ts : List Token) (v : V) → g.Spells v ts → (g.read ts >>= whole_of) ≡ Some v
  whole_again ts v s =
      let again : g.read ts ≡ Some (v, []) = ap g.read (sym (append-nil ts)) ∙ x.again v ts [] s refl in
      rw again refl

  pub text_takes : (text : List ℕ) (v : V) → value_in g text ≡ Some v → IsTextOf g v text
  text_takes text v e =
      let u = bind_some (tokens_in text) (λ ts. g.read ts >>= whole_of) v e in
      (u.0, tokens_take text u.0 u.1, whole_takes u.0 v u.2)

  pub text_again : (text : List ℕ) (v : V) → IsTextOf g v text → value_in g text ≡ Some v
  text_again text v s = rw (tokens_again s.0 text s.1) (whole_again s.0 v s.2)

  pub found : (text : List ℕ) (r : Result V ReadErr) → Gives (λ v. v) r (value_in g text) → IfOk r (λ v. IsTextOf g v text)
  found text (Ok v) h = text_takes text v h
  found text (Err e) h = tt

  pub bad : (text : List ℕ) (r : Result V ReadErr) → Gives (λ v. v) r (value_in g text) → r ≡ Err errors.Bad → (v : V) → IsTextOf g v text → ⊥
  bad text (Ok y) h e v s = absurd cc
  bad text (Err errors.NoMemory) h e v s = absurd cc
  bad text (Err errors.Bad) h e v s = let k = text_again text v s in absurd cc

  -- no text is read as two values
  pub one_reading : (text : List ℕ) (v w : V) → IsTextOf g v text → IsTextOf g w text → v ≡ w
  one_reading text v w p q = some_is v w (sym (text_again text v p) ∙ text_again text w q)
