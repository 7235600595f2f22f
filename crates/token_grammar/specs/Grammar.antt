-- Grammars: which lists of tokens spell a value, and how a value is read from the front of some tokens.
use Rattle.std.specs.Prelude.{◌≡◌, ℕ, Bool, true, false, ◌&&◌, List, [], ◌∷◌, ◌++◌, length, Option, Some, None, IsTrue, nat_le, if◌then◌else◌, ◌⊎◌}
use Rattle.std.proofs.Common.{inl, inr}
use Rattle.std.specs.Str.{bytes_eq}
use Rattle.dtx_values.specs.Name.{is_identifier, name_of}
use Rattle.token_grammar.specs.declared.mark.Mark.{Mark}
use Rattle.token_grammar.specs.declared.mark.Mark.TheVariants as marks
use Rattle.token_grammar.specs.declared.token.Token.{Token}
use Rattle.token_grammar.specs.declared.token.Token.TheVariants as token
use Rattle.token_grammar.specs.Marks.{is_same}
use Rattle.token_grammar.specs.Steps.{◌>>=◌, begins, many_at}

-- a value from the front of some tokens, and the tokens behind it
abbrev pub Reader : Type 0 → Type 0
Reader V = List Token → Option (V × List Token)

-- `Spells v ts`: these tokens, all of them, are a way to write v. `read` finds the value again.
pub record Grammar (V : Type 0) : Type 1 where
  pub Spells : V → List Token → Type 0
  pub read : Reader V

-- ---- Tests of tokens.

-- this word, in upper case
abbrev pub is_word : List ℕ → Token → Bool
is_word w (token.Word s) = bytes_eq s w
is_word w _ = false

-- this mark
abbrev pub is_mark : Mark → Token → Bool
is_mark m (token.Mark k) = is_same k m
is_mark m _ = false

-- no token
abbrev pub nothing : Token → Bool
nothing t = false

-- any token
abbrev pub anything : Token → Bool
anything t = true

-- a token that passes one of two tests
abbrev pub either : (Token → Bool) → (Token → Bool) → Token → Bool
either p q t = if p t then true else q t

-- whether the first two tokens pass these tests
abbrev pub begins_two : (Token → Bool) → (Token → Bool) → List Token → Bool
begins_two p q [] = false
begins_two p q (t ∷ ts) = p t && begins q ts

-- ---- One token.

-- behind a token that passes a test
abbrev pub passed_at : (Token → Bool) → Reader (Unit {0})
passed_at p [] = None
passed_at p (t ∷ ts) = if p t then Some (tt, ts) else None

-- one token that passes a test, whichever it is
abbrev pub passed : (Token → Bool) → Grammar (Unit {0})
passed p = record { Spells = λ _ ts. (t : Token) × (ts ≡ t ∷ []) × IsTrue (p t); read = passed_at p }

-- a word; the text may have it in any case of letters
abbrev pub word : List ℕ → Grammar (Unit {0})
word w = record { Spells = λ _ ts. ts ≡ token.Word w ∷ []; read = passed_at (is_word w) }

-- a mark
abbrev pub mark : Mark → Grammar (Unit {0})
mark m = record { Spells = λ _ ts. ts ≡ token.Mark m ∷ []; read = passed_at (is_mark m) }

-- what the first token means
abbrev pub meant_at : {V : Type 0} → (Token → Option V) → Reader V
meant_at meaning [] = None
meant_at meaning (t ∷ ts) = meaning t >>= λ v. Some (v, ts)

-- one token, which means the value
abbrev pub meant : {V : Type 0} → (Token → Option V) → Grammar V
meant meaning = record { Spells = λ v ts. (t : Token) × (ts ≡ t ∷ []) × (meaning t ≡ Some v); read = meant_at meaning }

-- the name that bytes spell, where they are one identifier
abbrev pub identifier_of : List ℕ → Option (List ℕ)
identifier_of bytes = if is_identifier bytes then name_of bytes else None

-- the name that a word is
abbrev pub name_in : Token → Option (List ℕ)
name_in (token.Word w) = name_of w
name_in _ = None

-- the identifier that a word is
abbrev pub identifier_in : Token → Option (List ℕ)
identifier_in (token.Word w) = identifier_of w
identifier_in _ = None

-- the text that stands in quotes
abbrev pub quoted_in : Token → Option (List ℕ)
quoted_in (token.Quoted s) = Some s
quoted_in _ = None

-- identifiers joined by dots; a keyword may be one, where it is not reserved
abbrev pub name : Grammar (List ℕ)
name = meant name_in

-- one identifier
abbrev pub identifier : Grammar (List ℕ)
identifier = meant identifier_in

-- the number that a token is, if it is at most this
abbrev pub number_to_in : ℕ → Token → Option ℕ
number_to_in most (token.Number n) = if nat_le n most then Some n else None
number_to_in most _ = None

-- a number of at most this
abbrev pub number_to : ℕ → Grammar ℕ
number_to most = meant (number_to_in most)

-- a text in quotes
abbrev pub quoted : Grammar (List ℕ)
quoted = meant quoted_in

-- ---- One part and then the other.

-- a front that is P, and what is left is Q
abbrev pub Joined : (List Token → Type 0) → (List Token → Type 0) → List Token → Type 0
Joined P Q ts = (front rest : List Token) × P front × Q rest × (ts ≡ front ++ rest)

-- both values, of a first part and of the part behind it
abbrev pub pair_at : {A B : Type 0} → Reader A → Reader B → Reader (A × B)
pair_at first second ts = do
  x ← first ts
  y ← second x.1
  Some ((x.0, y.0), y.1)

-- a pair: the one, then the other
infixr 7 ◌·◌
abbrev pub ◌·◌ : {A B : Type 0} → Grammar A → Grammar B → Grammar (A × B)
a · b = record { Spells = λ v. Joined (a.Spells v.0) (b.Spells v.1); read = pair_at a.read b.read }

-- the value of the second part; the first says nothing
abbrev pub after_at : {B : Type 0} → Reader (Unit {0}) → Reader B → Reader B
after_at first second ts = first ts >>= λ x. second x.1

-- the one, which says nothing, then the other
infixr 7 ◌▹◌
abbrev pub ◌▹◌ : {B : Type 0} → Grammar (Unit {0}) → Grammar B → Grammar B
a ▹ b = record { Spells = λ v. Joined (a.Spells tt) (b.Spells v); read = after_at a.read b.read }

-- the value of the first part; the second says nothing
abbrev pub before_at : {A : Type 0} → Reader A → Reader (Unit {0}) → Reader A
before_at first second ts = do
  x ← first ts
  y ← second x.1
  Some (x.0, y.1)

-- the one, then the other, which says nothing
infixr 7 ◌◃◌
abbrev pub ◌◃◌ : {A : Type 0} → Grammar A → Grammar (Unit {0}) → Grammar A
a ◃ b = record { Spells = λ v. Joined (a.Spells v) (b.Spells tt); read = before_at a.read b.read }

-- ---- What may stand or not.

-- behind a word, or where it does not stand
abbrev pub maybe_at : List ℕ → Reader (Unit {0})
maybe_at w [] = Some (tt, [])
maybe_at w (t ∷ ts) = if is_word w t then Some (tt, ts) else Some (tt, t ∷ ts)

-- an optional word, that says nothing
abbrev pub maybe : List ℕ → Grammar (Unit {0})
maybe w = record { Spells = λ _ ts. (ts ≡ []) ⊎ (ts ≡ token.Word w ∷ []); read = maybe_at w }

-- no tokens for no value
abbrev pub Optional : {V : Type 0} → (V → List Token → Type 0) → Option V → List Token → Type 0
Optional Spells None ts = ts ≡ []
Optional Spells (Some v) ts = Spells v ts

-- a value where such a token is next
abbrev pub optional_at : {V : Type 0} → (Token → Bool) → Reader V → Reader (Option V)
optional_at starts read ts = if begins starts ts then (do
  x ← read ts
  Some (Some x.0, x.1)) else Some (None, ts)

-- an optional part, which begins with such a token
abbrev pub optional : {V : Type 0} → (Token → Bool) → Grammar V → Grammar (Option V)
optional starts g = record { Spells = Optional g.Spells; read = optional_at starts g.read }

-- ---- Any number of parts.

-- the tokens are those of each part, one after the other
abbrev pub Each : {V : Type 0} → (V → List Token → Type 0) → List V → List Token → Type 0
Each Spells [] ts = ts ≡ []
Each Spells (v ∷ vs) ts = Joined (Spells v) (Each Spells vs) ts

-- parts each of which begins with such a token
abbrev pub many : {V : Type 0} → (Token → Bool) → Grammar V → Grammar (List V)
many starts g = record { Spells = Each g.Spells; read = λ ts. many_at (length ts) starts g.read ts }

-- a first part, and what is left is the others
abbrev pub OneOrMore : {V : Type 0} → (V → List V → List Token → Type 0) → List V → List Token → Type 0
OneOrMore Spells [] ts = ⊥
OneOrMore Spells (v ∷ vs) ts = Spells v vs ts

-- a first part, and those behind a separator each
abbrev pub separated_at : {V : Type 0} → (Token → Bool) → Reader (Unit {0}) → Reader V → Reader (List V)
separated_at starts separator read ts = do
  first ← read ts
  others ← many_at (length first.1) starts (after_at separator read) first.1
  Some (first.0 ∷ others.0, others.1)

-- one or more, with a separator between them, which begins with such a token
abbrev pub separated : {V : Type 0} → (Token → Bool) → Grammar (Unit {0}) → Grammar V → Grammar (List V)
separated starts separator g = record {
  Spells = OneOrMore (λ v vs. (g · many starts (separator ▹ g)).Spells (v, vs));
  read = separated_at starts separator.read g.read;
}

-- one or more, with commas between them
abbrev pub commas : {V : Type 0} → Grammar V → Grammar (List V)
commas g = separated (is_mark marks.Comma) (mark marks.Comma) g

-- ---- One or the other, by a look at the tokens ahead.

-- the tokens of the one or of the other
abbrev pub OneOf : {A B : Type 0} → (A → List Token → Type 0) → (B → List Token → Type 0) → A ⊎ B → List Token → Type 0
OneOf First Second (inl a) ts = First a ts
OneOf First Second (inr b) ts = Second b ts

-- the first where the tokens look so, else the second
abbrev pub choice_at : {A B : Type 0} → (List Token → Bool) → Reader A → Reader B → Reader (A ⊎ B)
choice_at looks first second ts = if looks ts then (do
  x ← first ts
  Some (inl x.0, x.1)) else (do
    y ← second ts
    Some (inr y.0, y.1))

-- the one or the other, told apart by a look at the tokens ahead
abbrev pub choice : {A B : Type 0} → (List Token → Bool) → Grammar A → Grammar B → Grammar (A ⊎ B)
choice looks a b = record { Spells = OneOf a.Spells b.Spells; read = choice_at looks a.read b.read }

-- ---- The same tokens for other values.

-- values that are one to one with those of the grammar
abbrev pub mapped : {A B : Type 0} → (A → B) → (B → A) → Grammar A → Grammar B
mapped to from g = record {
  Spells = λ v. g.Spells (from v);
  read = λ ts. do
    x ← g.read ts
    Some (to x.0, x.1);
}

-- values that those of the grammar stand for, where they stand for one
abbrev pub made : {A B : Type 0} → (A → Option B) → Grammar A → Grammar B
made meaning g = record {
  Spells = λ v ts. (a : _) × g.Spells a ts × (meaning a ≡ Some v);
  read = λ ts. do
    x ← g.read ts
    v ← meaning x.0
    Some (v, x.1);
}

-- only the values that pass a test
abbrev pub tested : {V : Type 0} → (V → Bool) → Grammar V → Grammar V
tested test g = record {
  Spells = λ v ts. g.Spells v ts × IsTrue (test v);
  read = λ ts. do
    x ← g.read ts
    if test x.0 then Some x else None;
}
