-- Each statement that a text spells is whole.
use Rattle.std.proofs.Common.{◌≡◌, ◌<◌, ◌≤◌, ◌^◌, ℕ, List, [], ◌∷◌, length, Option, Some, None, subst, arith, inl, inr, zero, suc}
use Rattle.std.specs.Prelude.{codes, nat_le, IfSome, IsTrue, FitsSigned, pos, neg_ℤ}
use Rattle.std.specs.Int.{w64}
use Rattle.std.specs.List.{All}
use Rattle.std.specs.Str.{bytes_eq}
use Rattle.std.proofs.lemmas.Bool.{leb-true, eqb-true, and_parts, and_from}
use Rattle.std.proofs.lemmas.List.Elements.{All-nil, All-weaker}
use Rattle.dtx_values.specs.Str.{is_text}
use Rattle.dtx_values.specs.declared.value.Value.{Value}
use Rattle.dtx_values.specs.declared.value.Value.TheVariants as values
use Rattle.dtx_values.specs.declared.table.Column.{Column}
use Rattle.dtx_values.specs.declared.table.Table.{Table}
use Rattle.token_grammar.proofs.Options.{test_some, some_is}
use Rattle.token_grammar.specs.declared.mark.Mark.TheVariants as marks
use Rattle.token_grammar.specs.declared.token.Token.{Token}
use Rattle.token_grammar.specs.declared.token.Token.TheVariants as token
use Rattle.token_grammar.specs.Steps.{begins}
use Rattle.token_grammar.specs.Grammar.{Grammar, is_word, is_mark, word, mark, meant, identifier, number_to, ◌▹◌, commas}
use Rattle.dtx_values.specs.Widths.{is_width, HasWidth}
use Rattle.dtx_values.specs.Limits.{text_limit, comment_limit, id_limit, scn_limit, strength_limit}
use Rattle.sql_statement.specs.declared.sum.Term.TheVariants as terms
use Rattle.sql_statement.specs.declared.condition.Cond.TheVariants as conds
use Rattle.sql_statement.specs.declared.statement.Stmt.{Stmt}
use Rattle.sql_statement.specs.declared.statement.Stmt.TheVariants as statements
use Rattle.sql_parse.specs.Parts.{or_else, built, in_brackets, text_to}
use Rattle.sql_parse.specs.Literals.{text_value, largest, smallest, constant_in, negative, literal, is_naming, term, step, sum}
use Rattle.sql_parse.specs.Conditions.{condition, conditions}
use Rattle.sql_parse.specs.Changes.{insert, assignment, update, delete, select}
use Rattle.sql_parse.specs.Catalog.{width, column_type, column_of, column, are_of_a_table, create_table, target_in, create_link, create_synonym, create}
use Rattle.sql_parse.specs.Transactions.{plain_commit, forced_commit, commit, rollback_of, plain_rollback, rollback_to, rollback, savepoint, set_transaction, advise, recovery, set_strength, alter_system, alter, argument, purge, execute}
use Rattle.sql_parse.specs.Statement.{led_by, statement_grammar, IsStatement}
use Rattle.sql_statement.specs.Whole.{IsName, IsTextTo, IsWholeTable, IsWholeValue, IsWholeTerm, IsWholeSum, IsWholeCond, IsWhole}
use Rattle.sql_parse.proofs.StatementLaws.{forms_3, forms_4, forms_5, forms_6, forms_7, forms_8, forms_9, forms_10}
use Rattle.sql_parse.proofs.SpellLaws.{Spells, name_is, spells_after, spells_brackets, spells_built, spells_commas, spells_each, spells_identifier, spells_name, spells_number, spells_optional, spells_or_else, spells_separated}

-- ---- Tables.

spells_width : Spells width (λ n. IsTrue (is_width n))
spells_width n ts s = and_from (nat_le 1 n) (nat_le n text_limit) s.1 (spells_number text_limit n ts s.0)

abbrev HasWidthTo : Option ℕ → Type 0
HasWidthTo text_max = IfSome text_max (λ width. IsTrue (is_width width))

spells_type : Spells column_type HasWidthTo
unfolding column_type
spells_type = spells_or_else (begins (is_word (codes "NUMBER"))) (built (λ x. None) (word (codes "NUMBER"))) (built (λ n. Some n) (word (codes "VARCHAR2") ▹ in_brackets width)) HasWidthTo
    (spells_built (λ x. None) (word (codes "NUMBER")) HasWidthTo (λ x ts s. tt))
    (spells_built (λ n. Some n) (word (codes "VARCHAR2") ▹ in_brackets width) HasWidthTo
    (spells_after (word (codes "VARCHAR2")) (in_brackets width) (λ n. IsTrue (is_width n)) (spells_brackets width (λ n. IsTrue (is_width n)) spells_width)))

abbrev IsWholeColumn : Column → Type 0
IsWholeColumn c = IsName c.name × HasWidth c

spells_column : Spells column IsWholeColumn
unfolding column
spells_column c ts s =
    let parts = s.1 in
    subst IsWholeColumn (some_is (column_of s.0) c s.2) (spells_identifier s.0.0 parts.0 parts.2, spells_type s.0.1.0 parts.3.0 parts.3.2)

whole_table : (name : List ℕ) (cs : List Column) → IsName name → (0 < length cs) × All IsWholeColumn cs → IsTrue (are_of_a_table cs) → IsWholeTable (record { name = name; columns = cs })
whole_table name cs is_name columns test =
    let limit = and_parts _ _ test in
    let others = and_parts _ _ limit.1 in record {
      some = columns.0;
      few = leb-true _ _ limit.0;
      one_key = eqb-true _ _ others.0;
      distinct = others.1;
      widths = All-weaker IsWholeColumn HasWidth (λ c whole. whole.1) cs columns.1;
      named = is_name;
      columns_named = All-weaker IsWholeColumn (λ c. IsName c.name) (λ c whole. whole.0) cs columns.1;
    }

spells_table : Spells create_table IsWhole
unfolding create_table
spells_table v ts s =
    let parts = s.1.3 in
    let named = spells_identifier s.0.0 parts.0 parts.2 in
    let columns = spells_brackets (commas column) (λ cs. (0 < length cs) × All IsWholeColumn cs) (spells_commas column IsWholeColumn spells_column) s.0.1 parts.1 parts.3.0 in
    subst IsWhole (some_is (statements.CreateTable (record { name = s.0.0; columns = s.0.1 })) v s.2) (whole_table s.0.0 s.0.1 named columns parts.3.1)

-- ---- Links and synonyms.

target_is : (t : Token) (v : List ℕ) → target_in t ≡ Some v → IsName v
target_is (token.Word w) v e = absurd cc
target_is (token.Number n) v e = absurd cc
target_is (token.Quoted q) v e = name_is q v e
target_is (token.Mark m) v e = absurd cc

spells_link : Spells create_link IsWhole
unfolding create_link
spells_link v ts s =
    let parts = s.1.3.3.3 in
    let target = parts.3.3.3 in
    subst IsWhole (some_is (statements.CreateLink (record { name = s.0.0; target = s.0.1.1 })) v s.2) (spells_name s.0.0 parts.0 parts.2, target_is target.0 s.0.1.1 target.2)

spells_synonym : Spells create_synonym IsWhole
unfolding create_synonym
spells_synonym v ts s =
    let parts = s.1.3 in
    let target = parts.3.3 in
    subst IsWhole (some_is (statements.CreateSynonym (record { name = s.0.0; table = s.0.1.0; link = s.0.1.1 })) v s.2)
    (spells_identifier s.0.0 parts.0 parts.2, spells_identifier s.0.1.0 target.0 target.2, spells_name s.0.1.1 target.3.1 target.3.3)

spells_create : Spells create IsWhole
unfolding create
spells_create v ts s =
    spells_or_else (begins (is_word (codes "TABLE"))) create_table (or_else (begins (is_word (codes "SYNONYM"))) create_synonym create_link) IsWhole spells_table
    (spells_or_else (begins (is_word (codes "SYNONYM"))) create_synonym create_link IsWhole spells_synonym spells_link) v s.1 s.3

-- ---- Literals.

positive_fits : (n : ℕ) → IsTrue (nat_le n largest) → FitsSigned w64 (pos n)
positive_fits n h = let low : n < 2 ^ 63 = (let most = leb-true _ _ h in omega arith) in record { sfits = low }

negative_fits : (n : ℕ) → IsTrue (nat_le n smallest) → FitsSigned w64 (neg_ℤ (pos n))
negative_fits zero h = record { sfits = omega arith }
negative_fits (suc n) h = let low : n < 2 ^ 63 = (let most = leb-true _ _ h in omega arith) in record { sfits = low }

text_is : (text : List ℕ) (v : Value) → text_value text ≡ Some v → IsWholeValue v
text_is [] v e = subst IsWholeValue (some_is values.Null v e) tt
text_is (b ∷ bytes) v e = let h = test_some (is_text (b ∷ bytes)) (values.Text (b ∷ bytes)) v e in subst IsWholeValue h.1 h.0

constant_is : (t : Token) (v : Value) → constant_in t ≡ Some v → IsWholeValue v
constant_is (token.Number n) v e = let h = test_some (nat_le n largest) (values.Number (pos n)) v e in subst IsWholeValue h.1 (positive_fits n h.0)
constant_is (token.Quoted text) v e = text_is text v e
constant_is (token.Word w) v e = let h = test_some (bytes_eq w (codes "NULL")) values.Null v e in subst IsWholeValue h.1 tt
constant_is (token.Mark m) v e = absurd cc

spells_literal : Spells literal IsWholeValue
unfolding literal
spells_literal = spells_or_else (begins (is_mark marks.Minus)) negative (meant constant_in) IsWholeValue
    (spells_built (λ n. values.Number (neg_ℤ (pos n))) (mark marks.Minus ▹ number_to smallest) IsWholeValue (λ n ts s. negative_fits n (spells_number smallest n s.1 s.3)))
    (λ v ts s. constant_is s.0 v s.2)

spells_term : Spells term IsWholeTerm
unfolding term
spells_term = spells_or_else (begins is_naming) (built terms.Column identifier) (built terms.Literal literal) IsWholeTerm
    (spells_built terms.Column identifier IsWholeTerm (λ name ts s. tt)) (spells_built terms.Literal literal IsWholeTerm spells_literal)

spells_step : Spells step (λ p. IsWholeTerm p.term)
unfolding step
spells_step p ts s = spells_term p.term s.1 s.3

spells_sum : Spells sum IsWholeSum
unfolding sum
spells_sum v ts s = (spells_term v.first s.0 s.2, spells_each step (λ p. IsWholeTerm p.term) spells_step v.rest s.1 s.3)

-- ---- Conditions.

spells_condition : Spells condition IsWholeCond
unfolding condition
spells_condition v ts (inl s) = subst IsWholeCond (some_is (conds.IsNull s.0.0 s.0.1) v s.2) tt
spells_condition v ts (inr s) = subst IsWholeCond (some_is (conds.Compare s.0.0 s.0.1.0 s.0.1.1) v s.2) (spells_literal s.0.1.1 s.1.3.1 s.1.3.3)

spells_conditions : Spells conditions (All IsWholeCond)
unfolding conditions
spells_conditions [] ts s = All-nil IsWholeCond
spells_conditions (c ∷ cs) ts s = (spells_separated (is_word (codes "AND")) (word (codes "AND")) condition IsWholeCond spells_condition (c ∷ cs) s.1 s.3).1

-- ---- Changes and queries.

spells_insert : Spells insert IsWhole
unfolding insert
spells_insert v ts s =
    let given = s.1.3.3.3.3 in
    subst IsWhole (some_is (statements.Insert s.0.0 s.0.1.0 s.0.1.1) v s.2)
    (spells_brackets (commas sum) (λ sums. (0 < length sums) × All IsWholeSum sums) (spells_commas sum IsWholeSum spells_sum) s.0.1.1 given.1 given.3.0).1

spells_assignment : Spells assignment (λ x. IsWholeSum x.to)
unfolding assignment
spells_assignment x ts s = spells_sum x.to s.3.1 s.3.3

spells_update : Spells update IsWhole
unfolding update
spells_update v ts s =
    let parts = s.1.3.3.3 in
    subst IsWhole (some_is (statements.Update s.0.0 s.0.1.0 s.0.1.1) v s.2)
    ((spells_commas assignment (λ x. IsWholeSum x.to) spells_assignment s.0.1.0 parts.0 parts.2.0).1, spells_conditions s.0.1.1 parts.1 parts.3)

spells_delete : Spells delete IsWhole
unfolding delete
spells_delete v ts s =
    let parts = s.1.3.3 in
    subst IsWhole (some_is (statements.Delete s.0.0 s.0.1) v s.2) (spells_conditions s.0.1 parts.1 parts.3)

spells_select : Spells select IsWhole
unfolding select
spells_select v ts s =
    let parts = s.0.1.3.3.3.3 in
    subst IsWhole (some_is (statements.Select s.0.0.0 s.0.0.1.0 s.0.0.1.1.0 s.0.0.1.1.1) v s.0.2) (spells_conditions s.0.0.1.1.0 parts.0 parts.2)

-- ---- Transactions.

-- the test of a text is what is said of it
spells_text : (most : ℕ) → Spells (text_to most) (IsTextTo most)
spells_text most v ts s = s.1

spells_forced : Spells forced_commit IsWhole
spells_forced v ts s =
    let parts = s.1.3 in
    subst IsWhole (some_is (statements.CommitForce s.0.0 s.0.1) v s.2)
    (spells_text id_limit s.0.0 parts.0 parts.2, spells_optional (is_mark marks.Comma) (mark marks.Comma ▹ number_to scn_limit) (λ n. n ≤ scn_limit) (λ n us r. leb-true _ _ (spells_number scn_limit n r.1 r.3)) s.0.1 parts.1 parts.3)

spells_plain : Spells plain_commit IsWhole
spells_plain v ts s =
    subst IsWhole (some_is (statements.Commit s.0) v s.2)
    (spells_optional (is_word (codes "COMMENT")) (word (codes "COMMENT") ▹ text_to comment_limit) (IsTextTo comment_limit) (λ text us r. spells_text comment_limit text r.1 r.3) s.0 ts s.1)

spells_commit : Spells commit IsWhole
unfolding commit
spells_commit v ts s = spells_or_else (begins (is_word (codes "FORCE"))) forced_commit plain_commit IsWhole spells_forced spells_plain v s.3.1 s.3.3

whole_rollback : (id : Option (List ℕ)) → IfSome id (IsTextTo id_limit) → IsWhole (rollback_of id)
whole_rollback None text = tt
whole_rollback (Some id) text = text

spells_plain_rollback : Spells plain_rollback IsWhole
spells_plain_rollback v ts s =
    subst IsWhole (some_is (rollback_of s.0) v s.2)
    (whole_rollback s.0 (spells_optional (is_word (codes "FORCE")) (word (codes "FORCE") ▹ text_to id_limit) (IsTextTo id_limit) (λ id us r. spells_text id_limit id r.1 r.3) s.0 ts s.1))

spells_rollback : Spells rollback IsWhole
unfolding rollback
spells_rollback v ts s = spells_or_else (begins (is_word (codes "TO"))) rollback_to plain_rollback IsWhole (λ x us r. subst IsWhole (some_is (statements.RollbackTo r.0) x r.2) tt) spells_plain_rollback v s.3.1 s.3.3

spells_savepoint : Spells savepoint IsWhole
unfolding savepoint
spells_savepoint v ts s = subst IsWhole (some_is (statements.Savepoint s.0) v s.2) tt

spells_set_transaction : Spells set_transaction IsWhole
unfolding set_transaction
spells_set_transaction v ts s = subst IsWhole (some_is statements.SetReadOnly v s.2) tt

spells_set_strength : Spells set_strength IsWhole
spells_set_strength v ts s =
    let digits = s.1.3.3.3 in
    subst IsWhole (some_is (statements.SetStrength s.0) v s.2) (leb-true _ _ (spells_number strength_limit s.0 s.1.3.3.1 digits))

spells_alter_system : Spells alter_system IsWhole
spells_alter_system = spells_after (word (codes "SYSTEM")) (or_else (begins (is_word (codes "SET"))) set_strength recovery) IsWhole
    (spells_or_else (begins (is_word (codes "SET"))) set_strength recovery IsWhole spells_set_strength (λ x us r. subst IsWhole (some_is (statements.Recovery r.0.0) x r.2) tt))

spells_alter : Spells alter IsWhole
unfolding alter
spells_alter = spells_after (word (codes "ALTER")) (or_else (begins (is_word (codes "SESSION"))) advise alter_system) IsWhole
    (spells_or_else (begins (is_word (codes "SESSION"))) advise alter_system IsWhole (λ x us r. subst IsWhole (some_is (statements.Advise r.0) x r.2) tt) spells_alter_system)

spells_argument : Spells argument (IsTextTo id_limit)
spells_argument = spells_brackets (text_to id_limit) (IsTextTo id_limit) (spells_text id_limit)

spells_execute : Spells execute IsWhole
unfolding execute
spells_execute v ts s = purged s.3
  where
    purged : purge.Spells v s.1 → IsWhole v
    purged (inl r) = subst IsWhole (some_is (statements.PurgeMixed r.0) v r.2) (spells_argument r.0 r.1.1 r.1.3)
    purged (inr r) = subst IsWhole (some_is (statements.PurgeLost r.0) v r.2) (spells_argument r.0 r.1.1 r.1.3)

-- ---- Every form.

spells_led : (w : List ℕ) (form others : Grammar Stmt) → Spells form IsWhole → Spells others IsWhole → Spells (led_by w form others) IsWhole
spells_led w form others h k = spells_or_else (begins (is_word w)) form others IsWhole h k

spells_statement : Spells statement_grammar IsWhole
unfolding statement_grammar
spells_statement =
    spells_led (codes "SELECT") select (led_by (codes "INSERT") insert forms_3) spells_select
    (spells_led (codes "INSERT") insert forms_3 spells_insert
    (spells_led (codes "UPDATE") update forms_4 spells_update
    (spells_led (codes "DELETE") delete forms_5 spells_delete
    (spells_led (codes "CREATE") create forms_6 spells_create
    (spells_led (codes "COMMIT") commit forms_7 spells_commit
    (spells_led (codes "ROLLBACK") rollback forms_8 spells_rollback
    (spells_led (codes "ALTER") alter forms_9 spells_alter
    (spells_led (codes "SAVEPOINT") savepoint forms_10 spells_savepoint
    (spells_led (codes "SET") set_transaction execute spells_set_transaction spells_execute)))))))))

-- a statement that a text spells is whole
pub statements_are_whole : (s : Stmt) (text : List ℕ) → IsStatement s text → IsWhole s
unfolding IsStatement
statements_are_whole s text h = spells_statement s h.0 h.2

-- a table that a text creates is whole
pub created_tables_are_whole : (t : Table) (text : List ℕ) → IsStatement (statements.CreateTable t) text → IsWholeTable t
created_tables_are_whole t text h = statements_are_whole (statements.CreateTable t) text h
