-- Statements as bytes. A statement has many texts: one of them is written, and each of them is read.
use Rattle.std.specs.Prelude.{ℕ, List, Option, Some}
use Rattle.sql_statement.specs.declared.statement.Stmt.{Stmt}
use Rattle.sql_parse.specs.Statement.{IsStatement, statement_of}
use Rattle.byte_format.specs.Format.{Format, ◌>>=◌}
use Rattle.byte_format.specs.Number.{number32}
use Rattle.byte_format.specs.Part.{run}

-- the statement that the text at the front spells, whichever of its texts that is
abbrev pub statement_at : List ℕ → Option (Stmt × List ℕ)
statement_at bytes = do
  text ← (run number32).read bytes
  s ← statement_of text.0
  Some (s, text.1)

-- a statement, written as the text of it that `text_of` gives: how many bytes that has, as four bytes, and the text
abbrev pub statement_as : (Stmt → List ℕ) → Format Stmt
statement_as text_of = record {
  Fits = λ s. (run number32).Fits (text_of s) × IsStatement s (text_of s);
  text = λ s. (run number32).text (text_of s);
  read = statement_at;
}
