-- When a grammar's reader is right: what it reads is spelled so, and what is spelled so is read.
use Rattle.std.specs.Prelude.{◌≡◌, Bool, true, false, List, ◌++◌, Some}
use Rattle.token_grammar.specs.declared.token.Token.{Token}
use Rattle.token_grammar.specs.Steps.{begins}
use Rattle.token_grammar.specs.Grammar.{Grammar}

-- a front of the tokens spells what was read, and the rest is what was left
pub record Takes {V : Type 0} (g : Grammar V) (ts : List Token) (x : V × List Token) : Type 0 where
  pub front : List Token
  pub spelled : g.Spells x.0 front
  pub whole : ts ≡ front ++ x.1

-- What is read is spelled so. A spelling is read, whatever follows it, but for a token that the grammar would take too.
pub record IsExact {V : Type 0} (g : Grammar V) (goes_on : Token → Bool) : Type 0 where
  pub takes : (ts : List Token) (x : V × List Token) → g.read ts ≡ Some x → Takes g ts x
  pub again : (v : V) (front rest : List Token) → g.Spells v front → begins goes_on rest ≡ false → g.read (front ++ rest) ≡ Some (v, rest)

-- each spelling begins with such a token
abbrev pub Leads : {V : Type 0} → Grammar V → (Token → Bool) → Type 0
Leads g starts = (v : _) (ts : List Token) → g.Spells v ts → begins starts ts ≡ true

-- what passes the second test fails the first
abbrev pub Apart : (Token → Bool) → (Token → Bool) → Type 0
Apart p q = (t : Token) → q t ≡ true → p t ≡ false

-- what may follow the second part keeps the first from going on, and lets the second end
abbrev pub Meets : {B : Type 0} → (Token → Bool) → Grammar B → (Token → Bool) → (Token → Bool) → Type 0
Meets p b q r = (v : _) (ts rest : List Token) → b.Spells v ts → begins r rest ≡ false → (begins p (ts ++ rest) ≡ false) × (begins q rest ≡ false)

-- a look at the tokens ahead says so at each spelling, if what follows does not go on
abbrev pub Shows : {V : Type 0} → Grammar V → (List Token → Bool) → (Token → Bool) → Bool → Type 0
Shows g looks goes_on says = (v : _) (ts rest : List Token) → g.Spells v ts → begins goes_on rest ≡ false → looks (ts ++ rest) ≡ says
