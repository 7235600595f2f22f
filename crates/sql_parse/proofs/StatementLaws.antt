-- The grammar of statements is exact.
use Rattle.std.proofs.Common.{◌≡◌, ℕ, true, false, List, [], ◌∷◌, refl}
use Rattle.std.specs.Prelude.{codes}
use Rattle.std.specs.List.{list_any}
use Rattle.std.specs.Str.{bytes_eq}
use Rattle.token_grammar.specs.Steps.{begins}
use Rattle.token_grammar.specs.Grammar.{Grammar, is_word, anything}
use Rattle.token_grammar.specs.Exact.{IsExact, Leads}
use Rattle.sql_statement.specs.declared.statement.Stmt.{Stmt}
use Rattle.sql_parse.specs.Parts.{is_word_of}
use Rattle.sql_parse.specs.Changes.{insert, update, delete, select}
use Rattle.sql_parse.specs.Catalog.{create}
use Rattle.sql_parse.specs.Transactions.{commit, rollback, savepoint, set_transaction, alter, execute}
use Rattle.sql_parse.specs.Statement.{led_by, statement_grammar}
use Rattle.sql_parse.proofs.PartLaws.{led_exact, leads_or_else, word_is_one, later_word, apart_word_of}
use Rattle.sql_parse.proofs.ChangeLaws.{insert_exact, update_exact, delete_exact, select_exact}
use Rattle.sql_parse.proofs.CatalogLaws.{create_exact}
use Rattle.sql_parse.proofs.TransactionLaws.{commit_exact, rollback_exact, savepoint_exact, set_transaction_exact, alter_exact, execute_exact}

-- ---- Each form begins with its word.

leads_select : Leads select (is_word (codes "SELECT"))
unfolding select
leads_select v ts s = rw (s.0.1.4, s.0.1.2) refl

leads_insert : Leads insert (is_word (codes "INSERT"))
unfolding insert
leads_insert v ts s = rw (s.1.4, s.1.2) refl

leads_update : Leads update (is_word (codes "UPDATE"))
unfolding update
leads_update v ts s = rw (s.1.4, s.1.2) refl

leads_delete : Leads delete (is_word (codes "DELETE"))
unfolding delete
leads_delete v ts s = rw (s.1.4, s.1.2) refl

leads_create : Leads create (is_word (codes "CREATE"))
unfolding create
leads_create v ts s = rw (s.4, s.2) refl

leads_commit : Leads commit (is_word (codes "COMMIT"))
unfolding commit
leads_commit v ts s = rw (s.4, s.2) refl

leads_rollback : Leads rollback (is_word (codes "ROLLBACK"))
unfolding rollback
leads_rollback v ts s = rw (s.4, s.2) refl

leads_savepoint : Leads savepoint (is_word (codes "SAVEPOINT"))
unfolding savepoint
leads_savepoint v ts s = rw (s.1.4, s.1.2) refl

leads_set_transaction : Leads set_transaction (is_word (codes "SET"))
unfolding set_transaction
leads_set_transaction v ts s = rw (s.1.4, s.1.2) refl

leads_alter : Leads alter (is_word (codes "ALTER"))
unfolding alter
leads_alter v ts s = rw (s.4, s.2) refl

abbrev execute_words : List (List ℕ)
execute_words = codes "EXECUTE" ∷ codes "EXEC" ∷ []

leads_execute : Leads execute (is_word_of execute_words)
unfolding execute
leads_execute v ts s = rw (s.4, s.2.1) s.2.2

-- ---- One form, or a later one.

module _ (w : List ℕ) (ws : List (List ℕ)) (form others : Grammar Stmt) (first : Leads form (is_word w)) (second : Leads others (is_word_of ws)) (itself : bytes_eq w w ≡ true) where
  -- a form by its word, or a later one, begins with its word or with one of theirs
  pub leads_led : Leads (led_by w form others) (is_word_of (w ∷ ws))
  leads_led = leads_or_else (begins (is_word w)) form others _ (λ v ts s. word_is_one w (w ∷ ws) (rw itself refl) ts (first v ts s)) (λ v ts s. later_word w ws ts (second v ts s))

  -- a form by its word, or a later one, is exact, where the words differ
  pub exact_led : list_any (λ v. bytes_eq w v) ws ≡ false → IsExact form anything → IsExact others anything → IsExact (led_by w form others) anything
  exact_led none x y = led_exact form others _ _ anything x y first second (apart_word_of w ws none)

-- the words from the last on
abbrev words_10 : List (List ℕ)
words_10 = codes "SET" ∷ execute_words

abbrev words_9 : List (List ℕ)
words_9 = codes "SAVEPOINT" ∷ words_10

abbrev words_8 : List (List ℕ)
words_8 = codes "ALTER" ∷ words_9

abbrev words_7 : List (List ℕ)
words_7 = codes "ROLLBACK" ∷ words_8

abbrev words_6 : List (List ℕ)
words_6 = codes "COMMIT" ∷ words_7

abbrev words_5 : List (List ℕ)
words_5 = codes "CREATE" ∷ words_6

abbrev words_4 : List (List ℕ)
words_4 = codes "DELETE" ∷ words_5

abbrev words_3 : List (List ℕ)
words_3 = codes "UPDATE" ∷ words_4

abbrev words_2 : List (List ℕ)
words_2 = codes "INSERT" ∷ words_3

-- ---- The forms by their words, from the last on.

-- SET TRANSACTION, or EXECUTE
abbrev pub forms_10 : Grammar Stmt
forms_10 = led_by (codes "SET") set_transaction execute

-- from SAVEPOINT on
abbrev pub forms_9 : Grammar Stmt
forms_9 = led_by (codes "SAVEPOINT") savepoint forms_10

-- from ALTER on
abbrev pub forms_8 : Grammar Stmt
forms_8 = led_by (codes "ALTER") alter forms_9

-- from ROLLBACK on
abbrev pub forms_7 : Grammar Stmt
forms_7 = led_by (codes "ROLLBACK") rollback forms_8

-- from COMMIT on
abbrev pub forms_6 : Grammar Stmt
forms_6 = led_by (codes "COMMIT") commit forms_7

-- from CREATE on
abbrev pub forms_5 : Grammar Stmt
forms_5 = led_by (codes "CREATE") create forms_6

-- from DELETE on
abbrev pub forms_4 : Grammar Stmt
forms_4 = led_by (codes "DELETE") delete forms_5

-- from UPDATE on
abbrev pub forms_3 : Grammar Stmt
forms_3 = led_by (codes "UPDATE") update forms_4

-- from INSERT on
abbrev pub forms_2 : Grammar Stmt
forms_2 = led_by (codes "INSERT") insert forms_3

lead_10 : Leads forms_10 (is_word_of words_10)
lead_10 = leads_led (codes "SET") execute_words set_transaction execute leads_set_transaction leads_execute refl

lead_9 : Leads forms_9 (is_word_of words_9)
lead_9 = leads_led (codes "SAVEPOINT") words_10 savepoint forms_10 leads_savepoint lead_10 refl

lead_8 : Leads forms_8 (is_word_of words_8)
lead_8 = leads_led (codes "ALTER") words_9 alter forms_9 leads_alter lead_9 refl

lead_7 : Leads forms_7 (is_word_of words_7)
lead_7 = leads_led (codes "ROLLBACK") words_8 rollback forms_8 leads_rollback lead_8 refl

lead_6 : Leads forms_6 (is_word_of words_6)
lead_6 = leads_led (codes "COMMIT") words_7 commit forms_7 leads_commit lead_7 refl

lead_5 : Leads forms_5 (is_word_of words_5)
lead_5 = leads_led (codes "CREATE") words_6 create forms_6 leads_create lead_6 refl

lead_4 : Leads forms_4 (is_word_of words_4)
lead_4 = leads_led (codes "DELETE") words_5 delete forms_5 leads_delete lead_5 refl

lead_3 : Leads forms_3 (is_word_of words_3)
lead_3 = leads_led (codes "UPDATE") words_4 update forms_4 leads_update lead_4 refl

lead_2 : Leads forms_2 (is_word_of words_2)
lead_2 = leads_led (codes "INSERT") words_3 insert forms_3 leads_insert lead_3 refl

exact_10 : IsExact forms_10 anything
exact_10 = exact_led (codes "SET") execute_words set_transaction execute leads_set_transaction leads_execute refl refl set_transaction_exact execute_exact

exact_9 : IsExact forms_9 anything
exact_9 = exact_led (codes "SAVEPOINT") words_10 savepoint forms_10 leads_savepoint lead_10 refl refl savepoint_exact exact_10

exact_8 : IsExact forms_8 anything
exact_8 = exact_led (codes "ALTER") words_9 alter forms_9 leads_alter lead_9 refl refl alter_exact exact_9

exact_7 : IsExact forms_7 anything
exact_7 = exact_led (codes "ROLLBACK") words_8 rollback forms_8 leads_rollback lead_8 refl refl rollback_exact exact_8

exact_6 : IsExact forms_6 anything
exact_6 = exact_led (codes "COMMIT") words_7 commit forms_7 leads_commit lead_7 refl refl commit_exact exact_7

exact_5 : IsExact forms_5 anything
exact_5 = exact_led (codes "CREATE") words_6 create forms_6 leads_create lead_6 refl refl create_exact exact_6

exact_4 : IsExact forms_4 anything
exact_4 = exact_led (codes "DELETE") words_5 delete forms_5 leads_delete lead_5 refl refl delete_exact exact_5

exact_3 : IsExact forms_3 anything
exact_3 = exact_led (codes "UPDATE") words_4 update forms_4 leads_update lead_4 refl refl update_exact exact_4

exact_2 : IsExact forms_2 anything
exact_2 = exact_led (codes "INSERT") words_3 insert forms_3 leads_insert lead_3 refl refl insert_exact exact_3

-- the grammar of statements is exact
pub statement_exact : IsExact statement_grammar anything
unfolding statement_grammar
statement_exact = exact_led (codes "SELECT") words_2 select forms_2 leads_select lead_2 refl refl select_exact exact_2
