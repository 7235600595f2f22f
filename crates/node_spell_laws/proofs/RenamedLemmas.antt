-- A statement that a text spells is spelled with any other table too.
use Rattle.std.proofs.Common.{◌≡◌, ℕ, Bool, List, [], ◌∷◌, ◌++◌, Option, Some, None, refl, sym, ap, subst, ◌∙◌, inl, inr}
use Rattle.std.specs.Prelude.{codes, IsTrue}
use Rattle.token_grammar.proofs.Options.{some_is}
use Rattle.token_grammar.specs.declared.mark.Mark.TheVariants as marks
use Rattle.token_grammar.specs.declared.token.Token.{Token}
use Rattle.token_grammar.specs.declared.token.Token.TheVariants as token
use Rattle.token_grammar.specs.Steps.{begins}
use Rattle.token_grammar.specs.Grammar.{Grammar, is_word, is_mark, word, passed, maybe, optional, tested, ◌·◌, ◌▹◌}
use Rattle.sql_statement.specs.declared.condition.Cond.{Cond}
use Rattle.sql_statement.specs.declared.statement.Set.{Set}
use Rattle.sql_statement.specs.declared.statement.Stmt.{Stmt}
use Rattle.sql_statement.specs.declared.statement.Stmt.TheVariants as stmts
use Rattle.sql_statement.specs.declared.sum.Sum.{Sum}
use Rattle.sql_parse.specs.Parts.{or_else, built}
use Rattle.sql_parse.specs.Literals.{table_ref}
use Rattle.sql_parse.specs.Conditions.{conditions}
use Rattle.sql_parse.specs.Changes.{column_names, constants, insert, assignments, update, delete, picks, for_update_part, source, may_lock, select}
use Rattle.sql_parse.specs.Catalog.{create_table, create_link, create_synonym, create}
use Rattle.sql_parse.specs.Transactions.{plain_commit, forced_commit, commit, rollback_of, plain_rollback, rollback_to, rollback, savepoint, set_transaction, advise, recovery, set_strength, alter_system, alter, purge, is_execute, execute}
use Rattle.sql_parse.specs.Statement.{led_by, statement_grammar, IsStatement}
use Rattle.sql_parse.proofs.StatementLaws.{forms_2, forms_3, forms_4, forms_5, forms_6, forms_7, forms_8, forms_9, forms_10}
use Rattle.sql_print.specs.Printing.{printed, IsPrintable}
use Rattle.sql_print.proofs.RoundTrip.{printed_again}
use Rattle.node_spell_laws.specs.Bytes.{IsTableName}
use Rattle.node_rules.specs.Names.{bare, passed_on}
use Rattle.node_spell_laws.proofs.TokenLemmas.{AreMade, tokens_made, made_front, made_rest, made_both, text_of_made, table_made}

-- for each value that tokens of a text spell such tokens spell the other one
abbrev Turns : {V : Type 0} → Grammar V → (V → V) → Type 0
Turns g other = (v : _) (ts : List Token) → AreMade ts → g.Spells v ts → (us : List Token) × AreMade us × g.Spells (other v) us

turns_after : {V : Type 0} (k : Grammar (Unit {0})) (g : Grammar V) (f : V → V) → Turns g f → Turns (k ▹ g) f
turns_after k g f turns v ts made s =
    let parts = subst AreMade s.4 made in
    let x = turns v s.1 (made_rest s.0 s.1 parts) s.3 in
    (s.0 ++ x.0, made_both s.0 x.0 (made_front s.0 s.1 parts) x.1, (s.0, x.0, s.2, x.2, refl))

turns_first : {A B : Type 0} (a : Grammar A) (b : Grammar B) (f : A → A) → Turns a f → Turns (a · b) (λ v. (f v.0, v.1))
turns_first a b f turns v ts made s =
    let parts = subst AreMade s.4 made in
    let x = turns v.0 s.0 (made_front s.0 s.1 parts) s.2 in
    (x.0 ++ s.1, made_both x.0 s.1 x.1 (made_rest s.0 s.1 parts), (x.0, s.1, x.2, s.3, refl))

turns_second : {A B : Type 0} (a : Grammar A) (b : Grammar B) (f : B → B) → Turns b f → Turns (a · b) (λ v. (v.0, f v.1))
turns_second a b f turns v ts made s =
    let parts = subst AreMade s.4 made in
    let x = turns v.1 s.1 (made_rest s.0 s.1 parts) s.3 in
    (s.0 ++ x.0, made_both s.0 x.0 (made_front s.0 s.1 parts) x.1, (s.0, x.0, s.2, x.2, refl))

turns_built : {A V : Type 0} (to : A → V) (g : Grammar A) (f : A → A) (other : V → V) → ((a : A) → other (to a) ≡ to (f a)) → Turns g f → Turns (built to g) other
turns_built to g f other is turns v ts made s =
    let x = turns s.0 ts made s.1 in
    (x.0, x.1, (f s.0, x.2, ap (λ w. Some w) (sym (is s.0) ∙ ap other (some_is (to s.0) v s.2))))

turns_or_else : {V : Type 0} (looks : List Token → Bool) (a b : Grammar V) (f : V → V) → Turns a f → Turns b f → Turns (or_else looks a b) f
turns_or_else looks a b f first second v ts made (inl s) = let x = first v ts made s in (x.0, x.1, inl x.2)
turns_or_else looks a b f first second v ts made (inr s) = let x = second v ts made s in (x.0, x.1, inr x.2)

turns_tested : {V : Type 0} (test : V → Bool) (g : Grammar V) (f : V → V) → ((v : V) → IsTrue (test v) → IsTrue (test (f v))) → Turns g f → Turns (tested test g) f
turns_tested test g f passes turns v ts made s = let x = turns v ts made s.0 in (x.0, x.1, (x.2, passes v s.1))

-- what stands behind the table
abbrev insert_end : Grammar (Option (List (List ℕ)) × List Sum)
insert_end = optional (is_mark marks.Open) column_names · (word (codes "VALUES") ▹ constants)

abbrev update_end : Grammar (List Set × List Cond)
update_end = word (codes "SET") ▹ (assignments · conditions)

abbrev select_end : Grammar (List Cond × Bool)
select_end = conditions · for_update_part

module _ (name : List ℕ) (named : IsTableName name) where
  -- with the table of this name
  abbrev other : Stmt → Stmt
  other s = passed_on s name

  -- a form that has no table
  stays : (g : Grammar Stmt) → ((v : Stmt) (ts : List Token) → g.Spells v ts → other v ≡ v) → Turns g other
  stays g is v ts made s = (ts, made, subst (λ w. g.Spells w ts) (sym (is v ts s)) s)

  as_it_is : (s v : Stmt) → Some s ≡ Some v → other s ≡ s → other v ≡ v
  as_it_is s v e is = subst (λ w. other w ≡ w) (some_is s v e) is

  table_turns : Turns table_ref (λ t. bare name)
  unfolding table_ref
  table_turns v ts made s = (token.Word name ∷ [], (table_made name named, tt), (token.Word name ∷ [], [], (token.Word name, refl, named), refl, refl))

  -- a form with a table and what stands behind it
  table_first : {B : Type 0} (b : Grammar B) → Turns (table_ref · b) (λ x. (bare name, x.1))
  table_first b = turns_first table_ref b (λ t. bare name) table_turns

  insert_turns : Turns insert other
  unfolding insert
  insert_turns = turns_built (λ x. stmts.Insert x.0 x.1.0 x.1.1) (word (codes "INSERT") ▹ word (codes "INTO") ▹ (table_ref · insert_end)) (λ x. (bare name, x.1)) other (λ x. refl)
      (turns_after (word (codes "INSERT")) (word (codes "INTO") ▹ (table_ref · insert_end)) (λ x. (bare name, x.1))
      (turns_after (word (codes "INTO")) (table_ref · insert_end) (λ x. (bare name, x.1)) (table_first insert_end)))

  update_turns : Turns update other
  unfolding update
  update_turns = turns_built (λ x. stmts.Update x.0 x.1.0 x.1.1) (word (codes "UPDATE") ▹ (table_ref · update_end)) (λ x. (bare name, x.1)) other (λ x. refl)
      (turns_after (word (codes "UPDATE")) (table_ref · update_end) (λ x. (bare name, x.1)) (table_first update_end))

  delete_turns : Turns delete other
  unfolding delete
  delete_turns = turns_built (λ x. stmts.Delete x.0 x.1) (word (codes "DELETE") ▹ maybe (codes "FROM") ▹ (table_ref · conditions)) (λ x. (bare name, x.1)) other (λ x. refl)
      (turns_after (word (codes "DELETE")) (maybe (codes "FROM") ▹ (table_ref · conditions)) (λ x. (bare name, x.1))
      (turns_after (maybe (codes "FROM")) (table_ref · conditions) (λ x. (bare name, x.1)) (table_first conditions)))

  locks_too : (v : Stmt) → IsTrue (may_lock v) → IsTrue (may_lock (other v))
  locks_too (stmts.Select list table cs for_update) is = is
  locks_too (stmts.Insert table columns given) is = refl
  locks_too (stmts.Update table sets cs) is = refl
  locks_too (stmts.Delete table cs) is = refl
  locks_too _ is = is

  select_turns : Turns select other
  unfolding select
  select_turns = turns_tested may_lock (built (λ x. stmts.Select x.0 x.1.0 x.1.1.0 x.1.1.1) (word (codes "SELECT") ▹ (picks · source))) other locks_too
      (turns_built (λ x. stmts.Select x.0 x.1.0 x.1.1.0 x.1.1.1) (word (codes "SELECT") ▹ (picks · source)) (λ x. (x.0, (bare name, x.1.1))) other (λ x. refl)
      (turns_after (word (codes "SELECT")) (picks · source) (λ x. (x.0, (bare name, x.1.1))) (turns_second picks source (λ x. (bare name, x.1))
      (turns_after (word (codes "FROM")) (table_ref · select_end) (λ x. (bare name, x.1)) (table_first select_end)))))

  table_form : Turns create_table other
  unfolding create_table
  table_form = stays create_table (λ v ts s. as_it_is (stmts.CreateTable (record { name = s.0.0; columns = s.0.1 })) v s.2 refl)

  synonym_form : Turns create_synonym other
  unfolding create_synonym
  synonym_form = stays create_synonym (λ v ts s. as_it_is (stmts.CreateSynonym (record { name = s.0.0; table = s.0.1.0; link = s.0.1.1 })) v s.2 refl)

  link_form : Turns create_link other
  unfolding create_link
  link_form = stays create_link (λ v ts s. as_it_is (stmts.CreateLink (record { name = s.0.0; target = s.0.1.1 })) v s.2 refl)

  create_turns : Turns create other
  unfolding create
  create_turns = turns_after (word (codes "CREATE")) (or_else (begins (is_word (codes "TABLE"))) create_table (or_else (begins (is_word (codes "SYNONYM"))) create_synonym create_link)) other
      (turns_or_else (begins (is_word (codes "TABLE"))) create_table (or_else (begins (is_word (codes "SYNONYM"))) create_synonym create_link) other table_form
      (turns_or_else (begins (is_word (codes "SYNONYM"))) create_synonym create_link other synonym_form link_form))

  forced_form : Turns forced_commit other
  forced_form = stays forced_commit (λ v ts s. as_it_is (stmts.CommitForce s.0.0 s.0.1) v s.2 refl)

  plain_form : Turns plain_commit other
  plain_form = stays plain_commit (λ v ts s. as_it_is (stmts.Commit s.0) v s.2 refl)

  commit_turns : Turns commit other
  unfolding commit
  commit_turns = turns_after (word (codes "COMMIT")) (maybe (codes "WORK") ▹ or_else (begins (is_word (codes "FORCE"))) forced_commit plain_commit) other
      (turns_after (maybe (codes "WORK")) (or_else (begins (is_word (codes "FORCE"))) forced_commit plain_commit) other
      (turns_or_else (begins (is_word (codes "FORCE"))) forced_commit plain_commit other forced_form plain_form))

  back : (id : Option (List ℕ)) → other (rollback_of id) ≡ rollback_of id
  back None = refl
  back (Some id) = refl

  plain_rollback_form : Turns plain_rollback other
  plain_rollback_form = stays plain_rollback (λ v ts s. as_it_is (rollback_of s.0) v s.2 (back s.0))

  rollback_to_form : Turns rollback_to other
  rollback_to_form = stays rollback_to (λ v ts s. as_it_is (stmts.RollbackTo s.0) v s.2 refl)

  rollback_turns : Turns rollback other
  unfolding rollback
  rollback_turns = turns_after (word (codes "ROLLBACK")) (maybe (codes "WORK") ▹ or_else (begins (is_word (codes "TO"))) rollback_to plain_rollback) other
      (turns_after (maybe (codes "WORK")) (or_else (begins (is_word (codes "TO"))) rollback_to plain_rollback) other
      (turns_or_else (begins (is_word (codes "TO"))) rollback_to plain_rollback other rollback_to_form plain_rollback_form))

  savepoint_turns : Turns savepoint other
  unfolding savepoint
  savepoint_turns = stays savepoint (λ v ts s. as_it_is (stmts.Savepoint s.0) v s.2 refl)

  advise_form : Turns advise other
  advise_form = stays advise (λ v ts s. as_it_is (stmts.Advise s.0) v s.2 refl)

  recovery_form : Turns recovery other
  recovery_form = stays recovery (λ v ts s. as_it_is (stmts.Recovery s.0.0) v s.2 refl)

  set_transaction_turns : Turns set_transaction other
  unfolding set_transaction
  set_transaction_turns = stays set_transaction (λ v ts s. as_it_is stmts.SetReadOnly v s.2 refl)

  set_strength_form : Turns set_strength other
  set_strength_form = stays set_strength (λ v ts s. as_it_is (stmts.SetStrength s.0) v s.2 refl)

  alter_system_form : Turns alter_system other
  alter_system_form = turns_after (word (codes "SYSTEM")) (or_else (begins (is_word (codes "SET"))) set_strength recovery) other
      (turns_or_else (begins (is_word (codes "SET"))) set_strength recovery other set_strength_form recovery_form)

  alter_turns : Turns alter other
  unfolding alter
  alter_turns = turns_after (word (codes "ALTER")) (or_else (begins (is_word (codes "SESSION"))) advise alter_system) other
      (turns_or_else (begins (is_word (codes "SESSION"))) advise alter_system other advise_form alter_system_form)

  purge_form : Turns purge other
  purge_form = stays purge by
    where
      by : (v : Stmt) (ts : List Token) → purge.Spells v ts → other v ≡ v
      by v ts (inl s) = as_it_is (stmts.PurgeMixed s.0) v s.2 refl
      by v ts (inr s) = as_it_is (stmts.PurgeLost s.0) v s.2 refl

  execute_turns : Turns execute other
  unfolding execute
  execute_turns = turns_after (passed is_execute) purge other purge_form

  turns_led : (w : List ℕ) (form others : Grammar Stmt) → Turns form other → Turns others other → Turns (led_by w form others) other
  turns_led w form others first second = turns_or_else (begins (is_word w)) form others other first second

  statement_turns : Turns statement_grammar other
  unfolding statement_grammar
  statement_turns =
      turns_led (codes "SELECT") select forms_2 select_turns
      (turns_led (codes "INSERT") insert forms_3 insert_turns
      (turns_led (codes "UPDATE") update forms_4 update_turns
      (turns_led (codes "DELETE") delete forms_5 delete_turns
      (turns_led (codes "CREATE") create forms_6 create_turns
      (turns_led (codes "COMMIT") commit forms_7 commit_turns
      (turns_led (codes "ROLLBACK") rollback forms_8 rollback_turns
      (turns_led (codes "ALTER") alter forms_9 alter_turns
      (turns_led (codes "SAVEPOINT") savepoint forms_10 savepoint_turns
      (turns_led (codes "SET") set_transaction execute set_transaction_turns execute_turns)))))))))

  -- a statement that its printed text spells is so with another table
  pub other_is_printable : (s : Stmt) → IsPrintable s → IsPrintable (passed_on s name)
  unfolding IsStatement
  other_is_printable s is =
      let x = statement_turns s is.0 (tokens_made is.0 (printed s) is.1) is.2 in
      let text = text_of_made x.0 x.1 in
      printed_again text.0 (passed_on s name) (x.0, text.1, x.2)
