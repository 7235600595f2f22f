-- A text is read as the statement that it spells, and as no other.
use Rattle.std.proofs.Common.{◌≡◌, ℕ, List, Option, Some, None, refl, sym, ◌∙◌}
use Rattle.token_grammar.specs.Text.{IsTextOf}
use Rattle.token_grammar.proofs.WholeLaws.{text_takes, text_again}
use Rattle.token_grammar.proofs.Options.{some_is}
use Rattle.sql_statement.specs.declared.statement.Stmt.{Stmt}
use Rattle.sql_parse.specs.Statement.{statement_grammar, IsStatement, statement_of}
use Rattle.sql_parse.proofs.StatementLaws.{statement_exact}

-- the statement that is found is spelled
pub found_is_spelled : (text : List ℕ) (s : Stmt) → statement_of text ≡ Some s → IsStatement s text
unfolding IsStatement statement_of
found_is_spelled text s e = text_takes statement_grammar statement_exact text s e

-- and what is spelled is found
pub spelled_is_found : (text : List ℕ) (s : Stmt) → IsStatement s text → statement_of text ≡ Some s
unfolding IsStatement statement_of
spelled_is_found text s h = text_again statement_grammar statement_exact text s h

-- no text spells two statements
pub one_reading : (text : List ℕ) (a b : Stmt) → IsStatement a text → IsStatement b text → a ≡ b
one_reading text a b p q = some_is a b (sym (spelled_is_found text a p) ∙ spelled_is_found text b q)

none_of : (text : List ℕ) (o : Option Stmt) → statement_of text ≡ o → ((s : Stmt) → IsStatement s text → ⊥) → statement_of text ≡ None
none_of text (Some s) e h = absurd (h s (found_is_spelled text s e))
none_of text None e h = e

-- where none is spelled, none is found
pub none_found : (text : List ℕ) → ((s : Stmt) → IsStatement s text → ⊥) → statement_of text ≡ None
none_found text h = none_of text (statement_of text) refl h

-- a text of the grammar is a statement
pub text_is_statement : (text : List ℕ) (s : Stmt) → IsTextOf statement_grammar s text → IsStatement s text
unfolding IsStatement
text_is_statement text s h = h

-- and back
pub statement_is_text : (text : List ℕ) (s : Stmt) → IsStatement s text → IsTextOf statement_grammar s text
unfolding IsStatement
statement_is_text text s h = h
