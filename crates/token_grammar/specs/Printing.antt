-- Tokens as they are printed.
use Rattle.std.specs.Prelude.{ℕ, Bool, List, [], ◌∷◌, ◌++◌, codes, decimal, if◌then◌else◌}
use Rattle.std.specs.List.{flat_map}
use Rattle.token_grammar.specs.declared.mark.Mark.{Mark}
use Rattle.token_grammar.specs.declared.mark.Mark.TheVariants as mark
use Rattle.token_grammar.specs.declared.token.Token.{Token}
use Rattle.token_grammar.specs.declared.token.Token.TheVariants as token
use Rattle.token_grammar.specs.Bytes.{doubled}
use Rattle.token_grammar.specs.Tokens.{TokenText, Ends}

-- a mark as it is printed
abbrev pub mark_text : Mark → List ℕ
mark_text mark.Open = codes "("
mark_text mark.Close = codes ")"
mark_text mark.Comma = codes ","
mark_text mark.Star = codes "*"
mark_text mark.At = codes "@"
mark_text mark.Plus = codes "+"
mark_text mark.Minus = codes "-"
mark_text mark.Equal = codes "="
mark_text mark.Unequal = codes "<>"
mark_text mark.Below = codes "<"
mark_text mark.AtMost = codes "<="
mark_text mark.Above = codes ">"
mark_text mark.AtLeast = codes ">="
mark_text mark.Colon = codes ":"

-- a token as it is printed
abbrev pub token_text : Token → List ℕ
token_text (token.Word w) = w
token_text (token.Number n) = decimal n
token_text (token.Quoted s) = 39 ∷ flat_map doubled s ++ 39 ∷ []
token_text (token.Mark m) = mark_text m

-- a token, and whether a space stands before it
pub record Printed : Type 0 where
  pub spaced : Bool
  pub token : Token

-- a token with its space
abbrev pub piece : Printed → List ℕ
piece p = if p.spaced then 32 ∷ token_text p.token else token_text p.token

-- the bytes that are printed
abbrev pub shown : List Printed → List ℕ
shown ps = flat_map piece ps

-- each token is printed as itself, and what is printed behind it makes it no longer
abbrev pub IsReadable : List Printed → Type 0
IsReadable [] = Unit {0}
IsReadable (p ∷ ps) = TokenText p.token (token_text p.token) × Ends p.token (token_text p.token) (shown ps) × IsReadable ps

-- the token, without its space
abbrev pub token_of : Printed → Token
token_of p = p.token
