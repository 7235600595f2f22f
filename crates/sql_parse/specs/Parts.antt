-- Grammars that several forms of statements share.
use Rattle.std.specs.Prelude.{ℕ, Bool, false, List, Option, Some, None, is_some, if◌then◌else◌, ◌⊎◌}
use Rattle.std.specs.List.{list_any}
use Rattle.std.specs.Str.{bytes_eq}
use Rattle.token_grammar.specs.declared.mark.Mark.TheVariants as marks
use Rattle.token_grammar.specs.declared.token.Token.{Token}
use Rattle.token_grammar.specs.declared.token.Token.TheVariants as token
use Rattle.token_grammar.specs.Grammar.{Grammar, mark, quoted, ◌▹◌, ◌◃◌, optional, mapped, made, tested}
use Rattle.dtx_values.specs.Str.{is_text_to}

-- ---- One of several.

-- the tokens of the one or of the other: a look at the tokens ahead says which
abbrev pub or_else : {V : Type 0} → (List Token → Bool) → Grammar V → Grammar V → Grammar V
or_else looks a b = record {
  Spells = λ v ts. a.Spells v ts ⊎ b.Spells v ts;
  read = λ ts. if looks ts then a.read ts else b.read ts;
}

-- the value that is built of another
abbrev pub built : {A V : Type 0} → (A → V) → Grammar A → Grammar V
built to g = made (λ a. Some (to a)) g

-- one of these words
abbrev pub is_word_of : List (List ℕ) → Token → Bool
is_word_of words (token.Word w) = list_any (λ v. bytes_eq w v) words
is_word_of words _ = false

-- ---- What may stand or not.

-- something, where it stands
abbrev pub mark_of : Bool → Option (Unit {0})
mark_of stands = if stands then Some tt else None

-- whether an optional part stands, which begins with such a token
abbrev pub stands : (Token → Bool) → Grammar (Unit {0}) → Grammar Bool
stands starts g = mapped is_some mark_of (optional starts g)

-- ---- Brackets and quotes.

-- ( part )
abbrev pub in_brackets : {V : Type 0} → Grammar V → Grammar V
in_brackets g = mark marks.Open ▹ (g ◃ mark marks.Close)

-- 'text'
abbrev pub text_to : ℕ → Grammar (List ℕ)
text_to most = tested (is_text_to most) quoted

-- ---- Lists.

-- a name is called by itself
abbrev pub itself : List ℕ → List ℕ
itself name = name
