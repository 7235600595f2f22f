-- Each table and each column that a statement of a text names has a name.
use Rattle.std.proofs.Common.{◌≡◌, ℕ, Bool, List, [], ◌∷◌, Option, Some, None, subst, inl, inr}
use Rattle.std.specs.Prelude.{codes, IfSome}
use Rattle.std.specs.List.{AllByRecursion}
use Rattle.token_grammar.proofs.Options.{some_is}
use Rattle.token_grammar.specs.declared.mark.Mark.TheVariants as marks
use Rattle.token_grammar.specs.declared.token.Token.{Token}
use Rattle.token_grammar.specs.declared.token.Token.TheVariants as token
use Rattle.token_grammar.specs.Steps.{begins}
use Rattle.token_grammar.specs.Grammar.{Grammar, is_word, is_mark, mark, identifier, identifier_in, word, Each, ◌▹◌, optional, commas, separated}
use Rattle.sql_statement.specs.declared.condition.Cond.{Cond}
use Rattle.sql_statement.specs.declared.condition.Cond.TheVariants as conds
use Rattle.sql_statement.specs.declared.query.Picked.{Picked}
use Rattle.sql_statement.specs.declared.query.Picked.TheVariants as picked
use Rattle.sql_statement.specs.declared.statement.Set.{Set}
use Rattle.sql_statement.specs.declared.statement.Stmt.{Stmt}
use Rattle.sql_statement.specs.declared.statement.Stmt.TheVariants as stmts
use Rattle.sql_statement.specs.declared.sum.Term.{Term}
use Rattle.sql_statement.specs.declared.sum.Term.TheVariants as terms
use Rattle.sql_statement.specs.declared.sum.Sum.{Sum}
use Rattle.sql_check.specs.Columns.{cond_column, picked_columns}
use Rattle.sql_parse.specs.Parts.{or_else, in_brackets}
use Rattle.sql_parse.specs.Literals.{table_ref, term, step, sum}
use Rattle.sql_parse.specs.Conditions.{condition, conditions}
use Rattle.sql_parse.specs.Changes.{column_names, insert, assignment, update, delete, picks, select}
use Rattle.sql_parse.specs.Catalog.{create_table, create_link, create_synonym, create}
use Rattle.sql_parse.specs.Transactions.{commit, forced_commit, plain_commit, rollback_of, plain_rollback, rollback_to, rollback, savepoint, set_transaction, advise, alter_system, alter, purge, execute}
use Rattle.sql_parse.specs.Statement.{statement_grammar, IsStatement}
use Rattle.sql_parse.proofs.StatementLaws.{forms_2, forms_3, forms_4, forms_5, forms_6, forms_7, forms_8, forms_9, forms_10}
use Rattle.sql_print.specs.Printing.{printed, IsPrintable}
use Rattle.node_spell_laws.specs.Bytes.{IsTableName}
use Rattle.node_spell_laws.proofs.TokenLemmas.{IsMade, AreMade, tokens_made, front_made, rest_made, word_is_table}

-- a term that is a column has a name
abbrev pub IsNamedTerm : Term → Type 0
IsNamedTerm (terms.Column name) = IsTableName name
IsNamedTerm (terms.Literal v) = Unit {0}

abbrev pub IsNamedSum : Sum → Type 0
IsNamedSum s = IsNamedTerm s.first × AllByRecursion (λ p. IsNamedTerm p.term) s.rest

abbrev pub IsNamedSet : Set → Type 0
IsNamedSet s = IsTableName s.column × IsNamedSum s.to

abbrev pub IsNamedCond : Cond → Type 0
IsNamedCond c = IsTableName (cond_column c)

abbrev pub IsNamedList : Picked → Type 0
IsNamedList list = AllByRecursion IsTableName (picked_columns list)

-- the tables and columns of a statement
abbrev pub IsNamed : Stmt → Type 0
IsNamed (stmts.CreateSynonym y) = IsTableName y.table
IsNamed (stmts.Insert table columns given) = IsTableName table.name × IfSome columns (AllByRecursion IsTableName)
IsNamed (stmts.Update table sets cs) = IsTableName table.name × AllByRecursion IsNamedSet sets × AllByRecursion IsNamedCond cs
IsNamed (stmts.Delete table cs) = IsTableName table.name × AllByRecursion IsNamedCond cs
IsNamed (stmts.Select list table cs for_update) = IsTableName table.name × IsNamedList list × AllByRecursion IsNamedCond cs
IsNamed _ = Unit {0}

-- each value that tokens of a text spell is so
abbrev Names : {V : Type 0} → Grammar V → (V → Type 0) → Type 0
Names g P = (v : _) (ts : List Token) → AreMade ts → g.Spells v ts → P v

identifier_so : (t : Token) (v : List ℕ) → IsMade t → identifier_in t ≡ Some v → IsTableName v
identifier_so (token.Word w) v made e = word_is_table w made.0 v made.1 e
identifier_so (token.Number n) v made e = absurd cc
identifier_so (token.Quoted q) v made e = absurd cc
identifier_so (token.Mark m) v made e = absurd cc

names_identifier : Names identifier IsTableName
names_identifier v ts made s = identifier_so s.0 v (subst AreMade s.1 made).0 s.2

module _ {V : Type 0} (g : Grammar V) (P : V → Type 0) (names : Names g P) where
  names_each : (vs : List V) (ts : List Token) → AreMade ts → Each g.Spells vs ts → AllByRecursion P vs
  names_each [] ts made s = tt
  names_each (v ∷ vs) ts made s = (names v s.0 (front_made ts s.0 s.1 s.4 made) s.2, names_each vs s.1 (rest_made ts s.0 s.1 s.4 made) s.3)

  names_after : (k : Grammar (Unit {0})) → Names (k ▹ g) P
  names_after k v ts made s = names v s.1 (rest_made ts s.0 s.1 s.4 made) s.3

  names_brackets : Names (in_brackets g) P
  names_brackets v ts made s = let inner = s.3 in names v inner.0 (front_made s.1 inner.0 inner.1 inner.4 (rest_made ts s.0 s.1 s.4 made)) inner.2

module _ {V : Type 0} (g : Grammar V) (P : V → Type 0) (names : Names g P) where
  names_separated : (starts : Token → Bool) (k : Grammar (Unit {0})) → Names (separated starts k g) (AllByRecursion P)
  names_separated starts k [] ts made s = absurd s
  names_separated starts k (v ∷ vs) ts made s =
      (names v s.0 (front_made ts s.0 s.1 s.4 made) s.2, names_each (k ▹ g) P (names_after g P names k) vs s.1 (rest_made ts s.0 s.1 s.4 made) s.3)

  names_commas : Names (commas g) (AllByRecursion P)
  names_commas = names_separated (is_mark marks.Comma) (mark marks.Comma)

names_list : Names (in_brackets (commas identifier)) (AllByRecursion IsTableName)
names_list = names_brackets (commas identifier) (AllByRecursion IsTableName) (names_commas identifier IsTableName names_identifier)

-- ---- Tables, sums and conditions.

names_table : Names table_ref (λ r. IsTableName r.name)
unfolding table_ref
names_table v ts made s = names_identifier v.name s.0 (front_made ts s.0 s.1 s.4 made) s.2

names_term : Names term IsNamedTerm
unfolding term
names_term v ts made (inl s) = subst IsNamedTerm (some_is (terms.Column s.0) v s.2) (names_identifier s.0 ts made s.1)
names_term v ts made (inr s) = subst IsNamedTerm (some_is (terms.Literal s.0) v s.2) tt

names_step : Names step (λ p. IsNamedTerm p.term)
unfolding step
names_step v ts made s = names_term v.term s.1 (rest_made ts s.0 s.1 s.4 made) s.3

names_sum : Names sum IsNamedSum
unfolding sum
names_sum v ts made s =
    (names_term v.first s.0 (front_made ts s.0 s.1 s.4 made) s.2, names_each step (λ p. IsNamedTerm p.term) names_step v.rest s.1 (rest_made ts s.0 s.1 s.4 made) s.3)

names_assignment : Names assignment IsNamedSet
unfolding assignment
names_assignment v ts made s =
    (names_identifier v.column s.0 (front_made ts s.0 s.1 s.4 made) s.2, names_after sum IsNamedSum names_sum (mark marks.Equal) v.to s.1 (rest_made ts s.0 s.1 s.4 made) s.3)

names_condition : Names condition IsNamedCond
unfolding condition
names_condition v ts made (inl s) = let p = s.1 in subst IsNamedCond (some_is (conds.IsNull s.0.0 s.0.1) v s.2) (names_identifier s.0.0 p.0 (front_made ts p.0 p.1 p.4 made) p.2)
names_condition v ts made (inr s) = let p = s.1 in subst IsNamedCond (some_is (conds.Compare s.0.0 s.0.1.0 s.0.1.1) v s.2) (names_identifier s.0.0 p.0 (front_made ts p.0 p.1 p.4 made) p.2)

names_conditions : Names conditions (AllByRecursion IsNamedCond)
unfolding conditions
names_conditions [] ts made s = tt
names_conditions (c ∷ cs) ts made s = names_separated condition IsNamedCond names_condition (is_word (codes "AND")) (word (codes "AND")) (c ∷ cs) s.1 (rest_made ts s.0 s.1 s.4 made) s.3

names_picks : Names picks IsNamedList
unfolding picks
names_picks v ts made (inl s) = subst IsNamedList (some_is picked.All v s.2) tt
names_picks v ts made (inr (inl s)) = subst IsNamedList (some_is picked.Count v s.2) tt
names_picks v ts made (inr (inr (inl s))) =
    let p = s.1 in
    subst IsNamedList (some_is (picked.Sum s.0) v s.2) (names_brackets identifier IsTableName names_identifier s.0 p.1 (rest_made ts p.0 p.1 p.4 made) p.3, tt)
names_picks v ts made (inr (inr (inr s))) = subst IsNamedList (some_is (picked.Columns s.0) v s.2) (names_commas identifier IsTableName names_identifier s.0 ts made s.1.0)

-- ---- Statements.

-- the columns of an INSERT
abbrev insert_names : Grammar (Option (List (List ℕ)))
insert_names = optional (is_mark marks.Open) column_names

names_columns : (names : Option (List (List ℕ))) (ts : List Token) → AreMade ts → insert_names.Spells names ts → IfSome names (AllByRecursion IsTableName)
names_columns None ts made s = tt
names_columns (Some names) ts made s = names_list names ts made s.0

names_insert : Names insert IsNamed
unfolding insert
names_insert v ts made s =
    let a = s.1 in
    let b = a.3 in
    let c = b.3 in
    let d = c.3 in
    let made_b = rest_made ts a.0 a.1 a.4 made in
    let made_c = rest_made a.1 b.0 b.1 b.4 made_b in
    let made_d = rest_made b.1 c.0 c.1 c.4 made_c in
    subst IsNamed (some_is (stmts.Insert s.0.0 s.0.1.0 s.0.1.1) v s.2) (names_table s.0.0 c.0 (front_made b.1 c.0 c.1 c.4 made_c) c.2, names_columns s.0.1.0 d.0 (front_made c.1 d.0 d.1 d.4 made_d) d.2)

names_update : Names update IsNamed
unfolding update
names_update v ts made s =
    let a = s.1 in
    let b = a.3 in
    let c = b.3 in
    let d = c.3 in
    let made_b = rest_made ts a.0 a.1 a.4 made in
    let made_c = rest_made a.1 b.0 b.1 b.4 made_b in
    let made_d = rest_made b.1 c.0 c.1 c.4 made_c in
    subst IsNamed (some_is (stmts.Update s.0.0 s.0.1.0 s.0.1.1) v s.2) (
      names_table s.0.0 b.0 (front_made a.1 b.0 b.1 b.4 made_b) b.2,
      names_commas assignment IsNamedSet names_assignment s.0.1.0 d.0 (front_made c.1 d.0 d.1 d.4 made_d) d.2.0,
      names_conditions s.0.1.1 d.1 (rest_made c.1 d.0 d.1 d.4 made_d) d.3,
    )

names_delete : Names delete IsNamed
unfolding delete
names_delete v ts made s =
    let a = s.1 in
    let b = a.3 in
    let c = b.3 in
    let made_b = rest_made ts a.0 a.1 a.4 made in
    let made_c = rest_made a.1 b.0 b.1 b.4 made_b in
    subst IsNamed (some_is (stmts.Delete s.0.0 s.0.1) v s.2) (names_table s.0.0 c.0 (front_made b.1 c.0 c.1 c.4 made_c) c.2, names_conditions s.0.1 c.1 (rest_made b.1 c.0 c.1 c.4 made_c) c.3)

names_select : Names select IsNamed
unfolding select
names_select v ts made s =
    let a = s.0.1 in
    let b = a.3 in
    let c = b.3 in
    let d = c.3 in
    let e = d.3 in
    let made_b = rest_made ts a.0 a.1 a.4 made in
    let made_c = rest_made a.1 b.0 b.1 b.4 made_b in
    let made_d = rest_made b.1 c.0 c.1 c.4 made_c in
    let made_e = rest_made c.1 d.0 d.1 d.4 made_d in
    subst IsNamed (some_is (stmts.Select s.0.0.0 s.0.0.1.0 s.0.0.1.1.0 s.0.0.1.1.1) v s.0.2) (
      names_table s.0.0.1.0 d.0 (front_made c.1 d.0 d.1 d.4 made_d) d.2,
      names_picks s.0.0.0 b.0 (front_made a.1 b.0 b.1 b.4 made_b) b.2,
      names_conditions s.0.0.1.1.0 e.0 (front_made d.1 e.0 e.1 e.4 made_e) e.2,
    )

names_created_table : Names create_table IsNamed
unfolding create_table
names_created_table v ts made s = subst IsNamed (some_is (stmts.CreateTable (record { name = s.0.0; columns = s.0.1 })) v s.2) tt

names_link : Names create_link IsNamed
unfolding create_link
names_link v ts made s = subst IsNamed (some_is (stmts.CreateLink (record { name = s.0.0; target = s.0.1.1 })) v s.2) tt

names_synonym : Names create_synonym IsNamed
unfolding create_synonym
names_synonym v ts made s =
    let a = s.1 in
    let b = a.3 in
    let c = b.3 in
    let d = c.3 in
    let made_b = rest_made ts a.0 a.1 a.4 made in
    let made_c = rest_made a.1 b.0 b.1 b.4 made_b in
    let made_d = rest_made b.1 c.0 c.1 c.4 made_c in
    subst IsNamed (some_is (stmts.CreateSynonym (record { name = s.0.0; table = s.0.1.0; link = s.0.1.1 })) v s.2) (names_identifier s.0.1.0 d.0 (front_made c.1 d.0 d.1 d.4 made_d) d.2)

names_or_else : (looks : List Token → Bool) (a b : Grammar Stmt) → Names a IsNamed → Names b IsNamed → Names (or_else looks a b) IsNamed
names_or_else looks a b first second v ts made (inl s) = first v ts made s
names_or_else looks a b first second v ts made (inr s) = second v ts made s

names_create : Names create IsNamed
unfolding create
names_create v ts made s =
    names_or_else (begins (is_word (codes "TABLE"))) create_table (or_else (begins (is_word (codes "SYNONYM"))) create_synonym create_link) names_created_table
    (names_or_else (begins (is_word (codes "SYNONYM"))) create_synonym create_link names_synonym names_link) v s.1 (rest_made ts s.0 s.1 s.4 made) s.3

names_commit : Names commit IsNamed
unfolding commit
names_commit v ts made s = by v s.3.1 s.3.3
  where
    by : (w : Stmt) (us : List Token) → (or_else (begins (is_word (codes "FORCE"))) forced_commit plain_commit).Spells w us → IsNamed w
    by w us (inl r) = subst IsNamed (some_is (stmts.CommitForce r.0.0 r.0.1) w r.2) tt
    by w us (inr r) = subst IsNamed (some_is (stmts.Commit r.0) w r.2) tt

none_named : (id : Option (List ℕ)) → IsNamed (rollback_of id)
none_named None = tt
none_named (Some id) = tt

names_rollback : Names rollback IsNamed
unfolding rollback
names_rollback v ts made s = by v s.3.1 s.3.3
  where
    by : (w : Stmt) (us : List Token) → (or_else (begins (is_word (codes "TO"))) rollback_to plain_rollback).Spells w us → IsNamed w
    by w us (inl r) = subst IsNamed (some_is (stmts.RollbackTo r.0) w r.2) tt
    by w us (inr r) = subst IsNamed (some_is (rollback_of r.0) w r.2) (none_named r.0)

names_savepoint : Names savepoint IsNamed
unfolding savepoint
names_savepoint v ts made s = subst IsNamed (some_is (stmts.Savepoint s.0) v s.2) tt

names_set_transaction : Names set_transaction IsNamed
unfolding set_transaction
names_set_transaction v ts made s = subst IsNamed (some_is stmts.SetReadOnly v s.2) tt

names_alter : Names alter IsNamed
unfolding alter
names_alter v ts made s = by v s.1 s.3
  where
    by : (w : Stmt) (us : List Token) → (or_else (begins (is_word (codes "SESSION"))) advise alter_system).Spells w us → IsNamed w
    by w us (inl r) = subst IsNamed (some_is (stmts.Advise r.0) w r.2) tt
    by w us (inr (front, rest, first, inl r, e)) = subst IsNamed (some_is (stmts.SetStrength r.0) w r.2) tt
    by w us (inr (front, rest, first, inr r, e)) = subst IsNamed (some_is (stmts.Recovery r.0.0) w r.2) tt

names_execute : Names execute IsNamed
unfolding execute
names_execute v ts made s = by v s.1 s.3
  where
    by : (w : Stmt) (us : List Token) → purge.Spells w us → IsNamed w
    by w us (inl r) = subst IsNamed (some_is (stmts.PurgeMixed r.0) w r.2) tt
    by w us (inr r) = subst IsNamed (some_is (stmts.PurgeLost r.0) w r.2) tt

names_statement : Names statement_grammar IsNamed
unfolding statement_grammar
names_statement =
    names_or_else (begins (is_word (codes "SELECT"))) select forms_2 names_select
    (names_or_else (begins (is_word (codes "INSERT"))) insert forms_3 names_insert
    (names_or_else (begins (is_word (codes "UPDATE"))) update forms_4 names_update
    (names_or_else (begins (is_word (codes "DELETE"))) delete forms_5 names_delete
    (names_or_else (begins (is_word (codes "CREATE"))) create forms_6 names_create
    (names_or_else (begins (is_word (codes "COMMIT"))) commit forms_7 names_commit
    (names_or_else (begins (is_word (codes "ROLLBACK"))) rollback forms_8 names_rollback
    (names_or_else (begins (is_word (codes "ALTER"))) alter forms_9 names_alter
    (names_or_else (begins (is_word (codes "SAVEPOINT"))) savepoint forms_10 names_savepoint
    (names_or_else (begins (is_word (codes "SET"))) set_transaction execute names_set_transaction names_execute)))))))))

-- so are those of a statement that its printed text spells
pub printable_named : (s : Stmt) → IsPrintable s → IsNamed s
unfolding IsStatement
printable_named s is = names_statement s is.0 (tokens_made is.0 (printed s) is.1) is.2
