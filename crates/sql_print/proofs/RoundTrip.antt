-- The printed text of a statement spells it, where any text does, and is read as it.
use Rattle.std.proofs.Common.{◌≡◌, ℕ, List, [], Some, refl, subst}
use Rattle.std.specs.Prelude.{codes}
use Rattle.std.proofs.lemmas.List.{append-nil}
use Rattle.token_grammar.specs.declared.token.Token.{Token}
use Rattle.token_grammar.specs.Steps.{begins}
use Rattle.token_grammar.specs.Tokens.{Tokens}
use Rattle.token_grammar.specs.Grammar.{Grammar, is_word}
use Rattle.sql_statement.specs.declared.statement.Stmt.{Stmt}
use Rattle.sql_parse.specs.Changes.{insert, update, delete, select}
use Rattle.sql_parse.specs.Catalog.{create}
use Rattle.sql_parse.specs.Transactions.{commit, rollback, savepoint, set_transaction, alter, execute}
use Rattle.sql_parse.specs.Statement.{led_by, statement_grammar, IsStatement, statement_of}
use Rattle.sql_parse.proofs.StatementLaws.{forms_2, forms_3, forms_4, forms_5, forms_6, forms_7, forms_8, forms_9, forms_10}
use Rattle.sql_parse.proofs.ParseLaws.{found_is_spelled, spelled_is_found, one_reading}
use Rattle.sql_print.specs.Printing.{IsPrintable, printed}
use Rattle.sql_print.proofs.WriteLaws.{goes_on, Writes, are_made}
use Rattle.sql_print.proofs.PrintLaws.{Prints, prints_or_else}
use Rattle.sql_print.proofs.ChangeForms.{prints_insert, prints_update, prints_delete, prints_select}
use Rattle.sql_print.proofs.CatalogForms.{prints_create}
use Rattle.sql_print.proofs.TransactionForms.{prints_commit, prints_rollback, prints_savepoint, prints_set_transaction, prints_alter, prints_execute}

prints_led : (w : List ℕ) (form others : Grammar Stmt) → Prints form printed → Prints others printed → Prints (led_by w form others) printed
prints_led w form others p q = prints_or_else (begins (is_word w)) form others printed p q

-- each form in turn
prints_statement : Prints statement_grammar printed
unfolding statement_grammar
prints_statement =
    prints_led (codes "SELECT") select forms_2 prints_select
    (prints_led (codes "INSERT") insert forms_3 prints_insert
    (prints_led (codes "UPDATE") update forms_4 prints_update
    (prints_led (codes "DELETE") delete forms_5 prints_delete
    (prints_led (codes "CREATE") create forms_6 prints_create
    (prints_led (codes "COMMIT") commit forms_7 prints_commit
    (prints_led (codes "ROLLBACK") rollback forms_8 prints_rollback
    (prints_led (codes "ALTER") alter forms_9 prints_alter
    (prints_led (codes "SAVEPOINT") savepoint forms_10 prints_savepoint
    (prints_led (codes "SET") set_transaction execute prints_set_transaction prints_execute)))))))))

-- what is printed is the whole text
whole : (us : List Token) (x : List ℕ) → Writes goes_on us x → Tokens us x
whole us x w = rw (append-nil us, append-nil x) at (w [] [] refl refl)

-- a statement that some text spells is spelled by its printed text
pub printed_again : (text : List ℕ) (s : Stmt) → IsStatement s text → IsPrintable s
unfolding IsStatement
printed_again text s h =
    let x = prints_statement s h.0 (are_made h.0 text h.1) h.2 in
    (x.0, whole x.0 (printed s) x.2, x.1)

-- so is the statement that a text is read as
pub found_again : (text : List ℕ) (s : Stmt) → statement_of text ≡ Some s → IsPrintable s
found_again text s e = printed_again text s (found_is_spelled text s e)

-- the printed text is read as the statement
pub printed_is_found : (s : Stmt) → IsPrintable s → statement_of (printed s) ≡ Some s
printed_is_found s h = spelled_is_found (printed s) s h

-- statements that are printed alike are the same
pub printed_once : (s t : Stmt) → IsPrintable s → IsPrintable t → printed s ≡ printed t → s ≡ t
printed_once s t p q e = one_reading (printed t) s t (subst (IsStatement s) e p) q
