-- Several forms, told apart by their first token, and the small grammars of which forms are made.
use Rattle.std.specs.Prelude.{◌≡◌, ℕ, ◌&&◌, nat_le, List, [], ◌∷◌, Option, Some, None, if◌then◌else◌}
use Rattle.token_grammar.specs.declared.token.Token.{Token}
use Rattle.token_grammar.specs.declared.token.Token.TheVariants as token
use Rattle.token_grammar.specs.Steps.{◌>>=◌}
use Rattle.token_grammar.specs.Grammar.{Reader, Grammar, meant, made}

-- no token, for this value
abbrev pub given : {V : Type 0} → V → Grammar V
given c = record { Spells = λ v ts. (v ≡ c) × (ts ≡ []); read = λ ts. Some (c, ts) }

-- the form that the first token means, behind that token
abbrev pub form_at : {K V : Type 0} → (Token → Option K) → (K → Reader V) → Reader V
form_at meaning behind [] = None
form_at meaning behind (t ∷ ts) = meaning t >>= λ k. behind k ts

-- a token that means a form, and what stands behind it in this form
abbrev pub forms : {K V : Type 0} → (Token → Option K) → (K → Grammar V) → Grammar V
forms {K = K} meaning form = record {
  Spells = λ v ts. (t : Token) × (k : K) × (rest : List Token) × (ts ≡ t ∷ rest) × (meaning t ≡ Some k) × (form k).Spells v rest;
  read = form_at meaning (λ k. (form k).read);
}

-- the value that is built of another
abbrev pub built : {A V : Type 0} → (A → V) → Grammar A → Grammar V
built to g = made (λ a. Some (to a)) g

-- a number that a token is, if it is from the one to the other
abbrev pub between_in : ℕ → ℕ → Token → Option ℕ
between_in least most (token.Number n) = if nat_le least n && nat_le n most then Some n else None
between_in least most _ = None

-- a number from the one to the other
abbrev pub number_between : ℕ → ℕ → Grammar ℕ
number_between least most = meant (between_in least most)

-- what a token means that is a word
abbrev pub word_in : {V : Type 0} → (List ℕ → Option V) → Token → Option V
word_in meaning (token.Word w) = meaning w
word_in meaning _ = None
