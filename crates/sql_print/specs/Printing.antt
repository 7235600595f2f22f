-- The one text that a statement is printed as.
use Rattle.std.specs.Prelude.{ℕ, Bool, true, false, List, [], ◌∷◌, ◌++◌, Option, Some, None, codes, decimal, if◌then◌else◌}
use Rattle.std.specs.List.{flat_map}
use Rattle.dtx_values.specs.Texts.{quoted_byte, text_of_value}
use Rattle.dtx_values.specs.declared.advice.Advice.{Advice}
use Rattle.dtx_values.specs.declared.advice.Advice.TheVariants as advices
use Rattle.dtx_values.specs.declared.table.Column.{Column}
use Rattle.dtx_values.specs.declared.table.Table.{Table}
use Rattle.dtx_values.specs.declared.table.Link.{Link}
use Rattle.dtx_values.specs.declared.table.Synonym.{Synonym}
use Rattle.sql_statement.specs.declared.condition.Sign.{Sign}
use Rattle.sql_statement.specs.declared.condition.Sign.TheVariants as signs
use Rattle.sql_statement.specs.declared.condition.Cond.{Cond}
use Rattle.sql_statement.specs.declared.condition.Cond.TheVariants as conds
use Rattle.sql_statement.specs.declared.query.Picked.{Picked}
use Rattle.sql_statement.specs.declared.query.Picked.TheVariants as picked
use Rattle.sql_statement.specs.declared.statement.TableRef.{TableRef}
use Rattle.sql_statement.specs.declared.statement.Set.{Set}
use Rattle.sql_statement.specs.declared.statement.Stmt.{Stmt}
use Rattle.sql_statement.specs.declared.statement.Stmt.TheVariants as statements
use Rattle.sql_statement.specs.declared.sum.Term.{Term}
use Rattle.sql_statement.specs.declared.sum.Term.TheVariants as terms
use Rattle.sql_statement.specs.declared.sum.Step.{Step}
use Rattle.sql_statement.specs.declared.sum.Sum.{Sum}
use Rattle.sql_parse.specs.Parts.{itself}
use Rattle.sql_parse.specs.Statement.{IsStatement}

-- ---- Lists, and texts in quotes.

-- each item after a separator
abbrev pub each_text : {V : Type 0} → List ℕ → (V → List ℕ) → List V → List ℕ
each_text separator text vs = flat_map (λ v. separator ++ text v) vs

-- the items with a separator between them
abbrev pub separated_text : {V : Type 0} → List ℕ → (V → List ℕ) → List V → List ℕ
separated_text separator text [] = []
separated_text separator text (v ∷ vs) = text v ++ each_text separator text vs

-- `(a, b)`: the items in brackets, with commas between them
abbrev pub bracketed_text : {V : Type 0} → (V → List ℕ) → List V → List ℕ
bracketed_text text vs = codes "(" ++ (separated_text (codes ", ") text vs ++ codes ")")

-- `'text'`: in quotes, with each quote of the text written twice
abbrev pub quoted_text : List ℕ → List ℕ
quoted_text text = codes "'" ++ (flat_map quoted_byte text ++ codes "'")

-- ---- Tables and sums.

-- `@LINK`, where a database link is named
abbrev pub link_text : Option (List ℕ) → List ℕ
link_text None = []
link_text (Some link) = codes "@" ++ link

-- `T` or `T@LINK`: a table, local or remote
abbrev pub table_text : TableRef → List ℕ
table_text table = table.name ++ link_text table.link

-- a column by its name, or a literal
abbrev pub term_text : Term → List ℕ
term_text (terms.Column name) = name
term_text (terms.Literal value) = text_of_value value

-- the sign of a term, between blanks
abbrev pub minus_text : Bool → List ℕ
minus_text true = codes " - "
minus_text false = codes " + "

-- a term after its sign
abbrev pub step_text : Step → List ℕ
step_text step = minus_text step.minus ++ term_text step.term

-- `A + B - C`: a first term and those after it
abbrev pub sum_text : Sum → List ℕ
sum_text sum = term_text sum.first ++ each_text [] step_text sum.rest

-- `COLUMN = sum`: an assignment of an UPDATE
abbrev pub set_text : Set → List ℕ
set_text s = s.column ++ (codes " = " ++ sum_text s.to)

-- ---- Conditions.

-- the sign of a comparison, between blanks
abbrev pub sign_text : Sign → List ℕ
sign_text signs.Eq = codes " = "
sign_text signs.Ne = codes " <> "
sign_text signs.Lt = codes " < "
sign_text signs.Le = codes " <= "
sign_text signs.Gt = codes " > "
sign_text signs.Ge = codes " >= "

-- a test for NULL, after its column
abbrev pub null_text : Bool → List ℕ
null_text true = codes " IS NOT NULL"
null_text false = codes " IS NULL"

-- a comparison of a column with a literal, or its test for NULL
abbrev pub cond_text : Cond → List ℕ
cond_text (conds.Compare column sign literal) = column ++ (sign_text sign ++ text_of_value literal)
cond_text (conds.IsNull column negated) = column ++ null_text negated

-- `WHERE a AND b`, or nothing where there are no conditions
abbrev pub where_text : List Cond → List ℕ
where_text [] = []
where_text (c ∷ cs) = codes " WHERE " ++ (cond_text c ++ each_text (codes " AND ") cond_text cs)

-- ---- Columns and lists of them.

-- the data type of a column, VARCHAR2 with its width in bytes
abbrev pub type_text : Option ℕ → List ℕ
type_text None = codes " NUMBER"
type_text (Some width) = codes " VARCHAR2(" ++ (decimal width ++ codes ")")

-- words that stand where something holds
abbrev pub if_text : Bool → List ℕ → List ℕ
if_text holds text = if holds then text else []

-- the constraints of a column
abbrev pub rules_text : Bool → Bool → List ℕ
rules_text not_null key = if_text not_null (codes " NOT NULL") ++ if_text key (codes " PRIMARY KEY")

-- a column of a CREATE TABLE: its name, its data type and its constraints
abbrev pub column_text : Column → List ℕ
column_text c = c.name ++ (type_text c.text_max ++ rules_text c.not_null c.key)

-- the columns of a CREATE TABLE
abbrev pub columns_text : List Column → List ℕ
columns_text columns = codes " " ++ bracketed_text column_text columns

-- the columns of an INSERT, where it names them
abbrev pub names_text : Option (List (List ℕ)) → List ℕ
names_text None = []
names_text (Some names) = codes " " ++ bracketed_text itself names

-- the list of a SELECT
abbrev pub picked_text : Picked → List ℕ
picked_text picked.All = codes "*"
picked_text picked.Count = codes "COUNT(*)"
picked_text (picked.Sum name) = codes "SUM(" ++ (name ++ codes ")")
picked_text (picked.Columns names) = separated_text (codes ", ") itself names

-- ---- Statements.

-- CREATE TABLE
abbrev pub create_table_text : Table → List ℕ
create_table_text table = codes "CREATE TABLE " ++ (table.name ++ columns_text table.columns)

-- CREATE DATABASE LINK, without an account
abbrev pub create_link_text : Link → List ℕ
create_link_text link = codes "CREATE DATABASE LINK " ++ (link.name ++ (codes " USING " ++ quoted_text link.target))

-- the remote table that a synonym stands for
abbrev pub target_text : Synonym → List ℕ
target_text synonym = codes " FOR " ++ (synonym.table ++ (codes "@" ++ synonym.link))

-- CREATE SYNONYM
abbrev pub create_synonym_text : Synonym → List ℕ
create_synonym_text synonym = codes "CREATE SYNONYM " ++ (synonym.name ++ target_text synonym)

-- the values of an INSERT
abbrev pub values_text : List Sum → List ℕ
values_text values = codes " VALUES " ++ bracketed_text sum_text values

-- INSERT
abbrev pub insert_text : TableRef → Option (List (List ℕ)) → List Sum → List ℕ
insert_text table columns values = codes "INSERT INTO " ++ (table_text table ++ (names_text columns ++ values_text values))

-- UPDATE
abbrev pub update_text : TableRef → List Set → List Cond → List ℕ
update_text table sets conds = codes "UPDATE " ++ (table_text table ++ (codes " SET " ++ (separated_text (codes ", ") set_text sets ++ where_text conds)))

-- DELETE
abbrev pub delete_text : TableRef → List Cond → List ℕ
delete_text table conds = codes "DELETE FROM " ++ (table_text table ++ where_text conds)

-- which rows of which table, and whether they are locked
abbrev pub source_text : TableRef → List Cond → Bool → List ℕ
source_text table conds for_update = codes " FROM " ++ (table_text table ++ (where_text conds ++ if_text for_update (codes " FOR UPDATE")))

-- SELECT
abbrev pub select_text : Picked → TableRef → List Cond → Bool → List ℕ
select_text list table conds for_update = codes "SELECT " ++ (picked_text list ++ source_text table conds for_update)

-- COMMIT, with a comment where there is one
abbrev pub commit_text : Option (List ℕ) → List ℕ
commit_text None = codes "COMMIT"
commit_text (Some comment) = codes "COMMIT COMMENT " ++ quoted_text comment

-- an SCN after a comma, where one is given
abbrev pub scn_text : Option ℕ → List ℕ
scn_text None = []
scn_text (Some scn) = codes ", " ++ decimal scn

-- COMMIT FORCE
abbrev pub commit_force_text : List ℕ → Option ℕ → List ℕ
commit_force_text id scn = codes "COMMIT FORCE " ++ (quoted_text id ++ scn_text scn)

-- ALTER SESSION ADVISE, with NOTHING for no advice
abbrev pub advise_text : Option Advice → List ℕ
advise_text None = codes "ALTER SESSION ADVISE NOTHING"
advise_text (Some advices.Commit) = codes "ALTER SESSION ADVISE COMMIT"
advise_text (Some advices.Rollback) = codes "ALTER SESSION ADVISE ROLLBACK"

-- ALTER SYSTEM ENABLE or DISABLE DISTRIBUTED RECOVERY
abbrev pub recovery_text : Bool → List ℕ
recovery_text true = codes "ALTER SYSTEM ENABLE DISTRIBUTED RECOVERY"
recovery_text false = codes "ALTER SYSTEM DISABLE DISTRIBUTED RECOVERY"

-- ALTER SYSTEM SET COMMIT_POINT_STRENGTH
abbrev pub strength_text : ℕ → List ℕ
strength_text strength = codes "ALTER SYSTEM SET COMMIT_POINT_STRENGTH = " ++ decimal strength

-- SET TRANSACTION READ ONLY
abbrev pub read_only_text : List ℕ
read_only_text = codes "SET TRANSACTION READ ONLY"

-- `('text')`: the transaction id that a procedure is called with
abbrev pub argument_text : List ℕ → List ℕ
argument_text id = codes "(" ++ (quoted_text id ++ codes ")")

-- EXECUTE DBMS_TRANSACTION.PURGE_MIXED
abbrev pub purge_mixed_text : List ℕ → List ℕ
purge_mixed_text id = codes "EXECUTE DBMS_TRANSACTION.PURGE_MIXED" ++ argument_text id

-- EXECUTE DBMS_TRANSACTION.PURGE_LOST_DB_ENTRY
abbrev pub purge_lost_text : List ℕ → List ℕ
purge_lost_text id = codes "EXECUTE DBMS_TRANSACTION.PURGE_LOST_DB_ENTRY" ++ argument_text id

-- the text of a statement: one blank between words and signs, no word that may be left out
unfoldable pub printed : Stmt → List ℕ
printed (statements.CreateTable table) = create_table_text table
printed (statements.CreateLink link) = create_link_text link
printed (statements.CreateSynonym synonym) = create_synonym_text synonym
printed (statements.Insert table columns values) = insert_text table columns values
printed (statements.Update table sets found) = update_text table sets found
printed (statements.Delete table conds) = delete_text table conds
printed (statements.Select list table conds for_update) = select_text list table conds for_update
printed (statements.Commit comment) = commit_text comment
printed (statements.CommitForce id scn) = commit_force_text id scn
printed statements.Rollback = codes "ROLLBACK"
printed (statements.RollbackForce id) = codes "ROLLBACK FORCE " ++ quoted_text id
printed (statements.Advise advice) = advise_text advice
printed (statements.Recovery on) = recovery_text on
printed (statements.SetStrength strength) = strength_text strength
printed statements.SetReadOnly = read_only_text
printed (statements.Savepoint name) = codes "SAVEPOINT " ++ name
printed (statements.RollbackTo name) = codes "ROLLBACK TO " ++ name
printed (statements.PurgeMixed id) = purge_mixed_text id
printed (statements.PurgeLost id) = purge_lost_text id

-- the printed text of the statement spells it; so it does where any text does
abbrev pub IsPrintable : Stmt → Type 0
IsPrintable s = IsStatement s (printed s)
