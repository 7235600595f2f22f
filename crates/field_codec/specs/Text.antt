-- Texts as bytes: those of cells, texts of UTF-8, and comments.
use Rattle.std.specs.Prelude.{ℕ, List}
use Rattle.std.specs.Str.{is_utf8}
use Rattle.dtx_values.specs.Limits.{comment_limit}
use Rattle.dtx_values.specs.Str.{is_text, is_text_to}
use Rattle.byte_format.specs.Format.{Format}
use Rattle.byte_format.specs.Number.{number16}
use Rattle.byte_format.specs.Part.{run, tested}

-- a text of a cell: how many bytes it has, as two bytes, and its bytes
abbrev pub text_format : Format (List ℕ)
text_format = tested is_text (run number16)

-- a text of UTF-8, which may be empty: how many bytes it has, as two bytes, and its bytes
abbrev pub utf8_format : Format (List ℕ)
utf8_format = tested is_utf8 (run number16)

-- a comment: how many bytes it has, as two bytes, and its bytes
abbrev pub comment_format : Format (List ℕ)
comment_format = tested (is_text_to comment_limit) (run number16)
