-- A grammar of several forms is exact where each form is, and so is one without tokens.
use Rattle.std.proofs.Common.{◌≡◌, true, false, List, [], ◌∷◌, ◌++◌, Bool, Option, Some, None, refl, ap, subst}
use Rattle.std.specs.Prelude.{is_some}
use Rattle.token_grammar.specs.declared.token.Token.{Token}
use Rattle.token_grammar.specs.Steps.{◌>>=◌, begins}
use Rattle.token_grammar.specs.Grammar.{Grammar, nothing}
use Rattle.token_grammar.specs.Forms.{given, form_at, forms, built}
use Rattle.token_grammar.specs.Exact.{Takes, IsExact, Leads}
use Rattle.token_grammar.proofs.Options.{bind_some, some_is}
use Rattle.token_grammar.proofs.Values.{made_exact}

pub given_exact : {V : Type 0} (c : V) → IsExact (given c) nothing
given_exact c = record {
  takes = λ ts x e. subst (Takes (given c) ts) (some_is (c, ts) x e) (record { front = []; spelled = (refl, refl); whole = refl });
  again = λ v front rest s ends. rw (s.0, s.1) refl;
}

module _ {K V : Type 0} (meaning : Token → Option K) (form : K → Grammar V) (p : Token → Bool) (x : (k : K) → IsExact (form k) p) where
  form_takes : (ts : List Token) (y : V × List Token) → form_at meaning (λ k. (form k).read) ts ≡ Some y → Takes (forms meaning form) ts y
  form_takes [] y e = absurd cc
  form_takes (t ∷ ts) y e =
      let u = bind_some (meaning t) (λ k. (form k).read ts) y e in
      let one = (x u.0).takes ts y u.2 in
      record { front = t ∷ one.front; spelled = (t, u.0, one.front, refl, u.1, one.spelled); whole = ap (λ (us : List Token). t ∷ us) one.whole }

  pub forms_exact : IsExact (forms meaning form) p
  forms_exact = record {
    takes = form_takes;
    again = λ v front rest s ends. rw (s.3, s.4) ((x s.1).again v s.2 rest s.5 ends);
  }

-- the first token is one that means a form
pub leads_forms : {K V : Type 0} (meaning : Token → Option K) (form : K → Grammar V) → Leads (forms meaning form) (λ t. is_some (meaning t))
leads_forms meaning form v ts s = rw (s.3, s.4) refl

pub built_exact : {A V : Type 0} (to : A → V) (g : Grammar A) (p : Token → Bool) → IsExact g p → IsExact (built to g) p
built_exact to g p x = made_exact (λ a. Some (to a)) g p x
