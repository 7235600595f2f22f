-- Which lists of tokens a text is: a relation, that says nothing of how they are found.
use Rattle.std.specs.Prelude.{◌≡◌, ℕ, ◌<◌, ◌^◌, false, List, [], ◌∷◌, ◌++◌, map, Some, None, IsTrue}
use Rattle.std.specs.List.{flat_map, list_all}
use Rattle.std.specs.Char.{to_ascii_uppercase}
use Rattle.token_grammar.specs.declared.mark.Mark.{Mark}
use Rattle.token_grammar.specs.declared.token.Token.{Token}
use Rattle.token_grammar.specs.declared.token.Token.TheVariants as token
use Rattle.token_grammar.specs.Bytes.{is_blank, is_letter, is_digit, is_word_byte, is_quote, value_from, doubled, one_mark, two_marks}
use Rattle.token_grammar.specs.Steps.{begins}

-- the bytes that are a mark
abbrev pub MarkText : Mark → List ℕ → Type 0
MarkText m (b ∷ []) = one_mark b ≡ Some m
MarkText m (b ∷ c ∷ []) = two_marks b c ≡ Some m
MarkText m _ = ⊥

-- the bytes that are a token: a word is kept in upper case, a number has 64 bits, quotes stand round a text
abbrev pub TokenText : Token → List ℕ → Type 0
TokenText (token.Word w) text = IsTrue (begins is_letter text) × IsTrue (list_all is_word_byte text) × (w ≡ map to_ascii_uppercase text)
TokenText (token.Number n) text = IsTrue (begins is_digit text) × IsTrue (list_all is_digit text) × (n ≡ value_from 0 text) × (n < 2 ^ 64)
TokenText (token.Quoted s) text = text ≡ 39 ∷ flat_map doubled s ++ 39 ∷ []
TokenText (token.Mark m) text = MarkText m text

-- what follows makes no longer mark of these bytes
abbrev pub MarkEnds : List ℕ → List ℕ → Type 0
MarkEnds (b ∷ []) (c ∷ rest) = two_marks b c ≡ None
MarkEnds _ _ = Unit {0}

-- what follows makes the token no longer
abbrev pub Ends : Token → List ℕ → List ℕ → Type 0
Ends (token.Word w) text rest = begins is_word_byte rest ≡ false
Ends (token.Number n) text rest = begins is_digit rest ≡ false
Ends (token.Quoted s) text rest = begins is_quote rest ≡ false
Ends (token.Mark m) text rest = MarkEnds text rest

-- the text is these tokens, each as long as it can be, with blanks before, between and behind them
abbrev pub Tokens : List Token → List ℕ → Type 0
Tokens [] bytes = IsTrue (list_all is_blank bytes)
Tokens (t ∷ ts) bytes = (blanks text rest : List ℕ) × IsTrue (list_all is_blank blanks) × TokenText t text × Ends t text rest × Tokens ts rest × (bytes ≡ blanks ++ (text ++ rest))
