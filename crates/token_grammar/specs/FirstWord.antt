-- The word that a text begins with.
use Rattle.std.specs.Prelude.{ℕ, Bool, List}
use Rattle.std.specs.Str.{str_eq_ignore_ascii_case}
use Rattle.token_grammar.specs.Bytes.{is_word_byte}
use Rattle.token_grammar.specs.Lexing.{run, skip}

-- the bytes of words that stand behind the blanks are this word, in any case of letters
abbrev pub has_first_word : List ℕ → List ℕ → Bool
has_first_word w text = str_eq_ignore_ascii_case w (run is_word_byte (skip text))
