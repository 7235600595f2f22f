-- Whole texts.
use Rattle.std.specs.Prelude.{ℕ, List, Option}
use Rattle.token_grammar.specs.declared.token.Token.{Token}
use Rattle.token_grammar.specs.Steps.{◌>>=◌, whole_of}
use Rattle.token_grammar.specs.Tokens.{Tokens}
use Rattle.token_grammar.specs.Lexing.{tokens_in}
use Rattle.token_grammar.specs.Grammar.{Grammar}

-- the text's tokens, all of them, spell the value
abbrev pub IsTextOf : {V : Type 0} → Grammar V → V → List ℕ → Type 0
IsTextOf g v text = (ts : List Token) × Tokens ts text × g.Spells v ts

-- the value that a text is read as, from left to right
abbrev pub value_in : {V : Type 0} → Grammar V → List ℕ → Option V
value_in g text = do
  ts ← tokens_in text
  x ← g.read ts
  whole_of x
