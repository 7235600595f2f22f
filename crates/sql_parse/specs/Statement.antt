-- The statement: which texts spell it, and which statement a text is.
use Rattle.std.specs.Prelude.{ℕ, List, Option, codes}
use Rattle.token_grammar.specs.Steps.{begins}
use Rattle.token_grammar.specs.Grammar.{Grammar, is_word}
use Rattle.token_grammar.specs.Text.{IsTextOf, value_in}
use Rattle.sql_statement.specs.declared.statement.Stmt.{Stmt}
use Rattle.sql_parse.specs.Parts.{or_else}
use Rattle.sql_parse.specs.Changes.{insert, update, delete, select}
use Rattle.sql_parse.specs.Catalog.{create}
use Rattle.sql_parse.specs.Transactions.{commit, rollback, savepoint, set_transaction, alter, execute}

-- a statement that begins with this word, or another one
abbrev pub led_by : List ℕ → Grammar Stmt → Grammar Stmt → Grammar Stmt
led_by w form others = or_else (begins (is_word w)) form others

-- any statement
unfoldable pub statement_grammar : Grammar Stmt
statement_grammar =
    led_by (codes "SELECT") select
    (led_by (codes "INSERT") insert
    (led_by (codes "UPDATE") update
    (led_by (codes "DELETE") delete
    (led_by (codes "CREATE") create
    (led_by (codes "COMMIT") commit
    (led_by (codes "ROLLBACK") rollback
    (led_by (codes "ALTER") alter
    (led_by (codes "SAVEPOINT") savepoint
    (led_by (codes "SET") set_transaction execute)))))))))

-- the tokens of the text, all of them, spell the statement
unfoldable pub IsStatement : Stmt → List ℕ → Type 0
IsStatement s text = IsTextOf statement_grammar s text

-- the statement that a text is, if it is one
unfoldable pub statement_of : List ℕ → Option Stmt
statement_of text = value_in statement_grammar text
