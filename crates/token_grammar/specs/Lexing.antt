-- The tokens of a text, found from left to right.
use Rattle.std.specs.Prelude.{ℕ, zero, suc, ◌^◌, Bool, true, List, [], ◌∷◌, length, take, drop, map, Option, Some, None, nat_lt, if◌then◌else◌}
use Rattle.std.specs.List.{prefix_len}
use Rattle.std.specs.Char.{to_ascii_uppercase}
use Rattle.token_grammar.specs.declared.mark.Mark.{Mark}
use Rattle.token_grammar.specs.declared.token.Token.{Token}
use Rattle.token_grammar.specs.declared.token.Token.TheVariants as token
use Rattle.token_grammar.specs.Bytes.{is_blank, is_letter, is_digit, is_word_byte, is_quote, value_from, one_mark, two_marks}
use Rattle.token_grammar.specs.Steps.{◌>>=◌, many_at, whole_of}

-- the bytes up to the first that fails a test
abbrev pub run : (ℕ → Bool) → List ℕ → List ℕ
run p bytes = take (prefix_len p bytes) bytes

-- the bytes from there on
abbrev pub behind : (ℕ → Bool) → List ℕ → List ℕ
behind p bytes = drop (prefix_len p bytes) bytes

-- the bytes behind the blanks
abbrev pub skip : List ℕ → List ℕ
skip bytes = behind is_blank bytes

-- a word, as far as it runs on
unfoldable pub word_at : List ℕ → Option (Token × List ℕ)
word_at bytes = Some (token.Word (map to_ascii_uppercase (run is_word_byte bytes)), behind is_word_byte bytes)

-- a number, if it has 64 bits
abbrev pub small : ℕ → Option ℕ
small n = if nat_lt n (2 ^ 64) then Some n else None

-- a number, as far as its digits run on
unfoldable pub number_at : List ℕ → Option (Token × List ℕ)
number_at bytes = do
  n ← small (value_from 0 (run is_digit bytes))
  Some (token.Number n, behind is_digit bytes)

-- the next byte of a text between quotes, or its end
abbrev pub piece_at : List ℕ → Option (Option ℕ × List ℕ)
piece_at [] = None
piece_at (b ∷ []) = if is_quote b then Some (None, []) else Some (Some b, [])
piece_at (b ∷ c ∷ rest) = if is_quote b then (if is_quote c then Some (Some 39, rest) else Some (None, c ∷ rest)) else Some (Some b, c ∷ rest)

-- a byte before the others, or the end of them
abbrev pub or_end : Option ℕ → List ℕ → Option (List ℕ × List ℕ) → Option (List ℕ × List ℕ)
or_end None rest others = Some ([], rest)
or_end (Some b) rest others = others >>= λ s. Some (b ∷ s.0, s.1)

-- at most so many bytes of a text, up to the quote that ends it
unfoldable pub quoted_from : ℕ → List ℕ → Option (List ℕ × List ℕ)
quoted_from zero bytes = None
quoted_from (suc n) bytes = do
  x ← piece_at bytes
  or_end x.0 x.1 (quoted_from n x.1)

-- a text, behind its first quote
unfoldable pub quoted_at : List ℕ → Option (List ℕ × List ℕ)
quoted_at bytes = quoted_from (length bytes) bytes

-- a mark of two bytes, else one of the first of them
abbrev pub or_one : Option Mark → ℕ → ℕ → List ℕ → Option (Token × List ℕ)
or_one (Some m) b c rest = Some (token.Mark m, rest)
or_one None b c rest = do
  m ← one_mark b
  Some (token.Mark m, c ∷ rest)

-- a mark, of two bytes where it can be
unfoldable pub mark_at : List ℕ → Option (Token × List ℕ)
mark_at [] = None
mark_at (b ∷ []) = do
  m ← one_mark b
  Some (token.Mark m, [])
mark_at (b ∷ c ∷ rest) = or_one (two_marks b c) b c rest

-- a token, told by its first byte
unfoldable pub token_at : List ℕ → Option (Token × List ℕ)
token_at [] = None
token_at (b ∷ rest) = if is_letter b then word_at (b ∷ rest) else (if is_digit b then number_at (b ∷ rest)
    else (if is_quote b then (do
      s ← quoted_at rest
      Some (token.Quoted s.0, s.1)) else mark_at (b ∷ rest)))

-- each byte begins a token or nothing
abbrev pub any_byte : ℕ → Bool
any_byte b = true

-- a token, and the blanks behind it
abbrev pub lexeme_at : List ℕ → Option (Token × List ℕ)
lexeme_at bytes = do
  t ← token_at bytes
  Some (t.0, skip t.1)

-- tokens one after the other, from the first that is no blank
abbrev pub lexemes_at : List ℕ → Option (List Token × List ℕ)
lexemes_at bytes = many_at (length bytes) any_byte lexeme_at (skip bytes)

-- the tokens of a text, where it is tokens to its end
unfoldable pub tokens_in : List ℕ → Option (List Token)
tokens_in bytes = lexemes_at bytes >>= whole_of
