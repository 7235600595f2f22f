-- CREATE TABLE, CREATE DATABASE LINK and CREATE SYNONYM (SQL Language Reference, the chapters of these names).
use Rattle.std.specs.Prelude.{ℕ, Bool, true, false, ◌&&◌, ◌==◌, List, length, count_by, Option, Some, None, nat_le, codes}
use Rattle.std.specs.List.{list_any}
use Rattle.dtx_values.specs.Name.{name_of}
use Rattle.dtx_values.specs.declared.table.Column.{Column}
use Rattle.token_grammar.specs.declared.mark.Mark.TheVariants as marks
use Rattle.token_grammar.specs.declared.token.Token.{Token}
use Rattle.token_grammar.specs.declared.token.Token.TheVariants as token
use Rattle.token_grammar.specs.Steps.{begins}
use Rattle.token_grammar.specs.Grammar.{Grammar, is_word, either, word, mark, meant, identifier, name, number_to, ◌·◌, ◌▹◌, maybe, optional, many, commas, tested}
use Rattle.sql_statement.specs.Distinct.{are_distinct, column_name}
use Rattle.dtx_values.specs.Limits.{text_limit, column_limit}
use Rattle.sql_parse.specs.declared.rule.Rule.{Rule}
use Rattle.sql_parse.specs.declared.rule.Rule.TheVariants as rules
use Rattle.sql_statement.specs.declared.statement.Stmt.{Stmt}
use Rattle.sql_statement.specs.declared.statement.Stmt.TheVariants as statements
use Rattle.sql_parse.specs.Parts.{or_else, built, in_brackets}

-- ---- Columns.

-- digits, from 1 on
abbrev pub width : Grammar ℕ
width = tested (nat_le 1) (number_to text_limit)

-- NUMBER | VARCHAR2 ( digits )
unfoldable pub column_type : Grammar (Option ℕ)
column_type = or_else (begins (is_word (codes "NUMBER"))) (built (λ x. None) (word (codes "NUMBER")))
    (built (λ n. Some n) (word (codes "VARCHAR2") ▹ in_brackets width))

-- NOT NULL | PRIMARY KEY
unfoldable pub rule : Grammar Rule
rule = or_else (begins (is_word (codes "NOT"))) (built (λ x. rules.NotNull) (word (codes "NOT") ▹ word (codes "NULL")))
    (built (λ x. rules.PrimaryKey) (word (codes "PRIMARY") ▹ word (codes "KEY")))

-- NOT or PRIMARY
abbrev pub is_rule : Token → Bool
is_rule = either (is_word (codes "NOT")) (is_word (codes "PRIMARY"))

-- whether a constraint is NOT NULL
abbrev pub is_not_null : Rule → Bool
is_not_null rules.NotNull = true
is_not_null rules.PrimaryKey = false

-- whether a constraint is PRIMARY KEY
abbrev pub is_key : Rule → Bool
is_key rules.NotNull = false
is_key rules.PrimaryKey = true

-- no constraint twice
abbrev pub are_once : List Rule → Bool
are_once found = nat_le (count_by is_not_null found) 1 && nat_le (count_by is_key found) 1

-- the column that its parts make
abbrev pub column_of : List ℕ × (Option ℕ × List Rule) → Column
column_of x = record { name = x.0; text_max = x.1.0; not_null = list_any is_not_null x.1.1; key = list_any is_key x.1.1 }

-- id (NUMBER | VARCHAR2 ( digits )) {NOT NULL | PRIMARY KEY}
unfoldable pub column : Grammar Column
column = built column_of (identifier · (column_type · tested are_once (many is_rule rule)))

-- ---- Tables.

-- not too many, of different names, and one of them the key
abbrev pub are_of_a_table : List Column → Bool
are_of_a_table cs = nat_le (length cs) column_limit && ((count_by (λ c. c.key) cs == 1) && are_distinct column_name cs)

-- ( col {, col} )
abbrev pub table_columns : Grammar (List Column)
table_columns = tested are_of_a_table (in_brackets (commas column))

-- TABLE id ( col {, col} )
unfoldable pub create_table : Grammar Stmt
create_table = built (λ x. statements.CreateTable (record { name = x.0; columns = x.1 }))
    (word (codes "TABLE") ▹ (identifier · table_columns))

-- ---- Links.

-- the name that stands in quotes
abbrev pub target_in : Token → Option (List ℕ)
target_in (token.Quoted text) = name_of text
target_in _ = None

-- CONNECT TO id IDENTIFIED BY id, which is read and forgotten
abbrev pub account : Grammar (List ℕ × List ℕ)
account = word (codes "CONNECT") ▹ word (codes "TO") ▹ (identifier · (word (codes "IDENTIFIED") ▹ word (codes "BY") ▹ identifier))

-- [PUBLIC] DATABASE LINK name [CONNECT TO id IDENTIFIED BY id] USING 'name'
unfoldable pub create_link : Grammar Stmt
create_link = built (λ x. statements.CreateLink (record { name = x.0; target = x.1.1 }))
    (maybe (codes "PUBLIC") ▹ word (codes "DATABASE") ▹ word (codes "LINK")
    ▹ (name · (optional (is_word (codes "CONNECT")) account · (word (codes "USING") ▹ meant target_in))))

-- ---- Synonyms.

-- SYNONYM id FOR id @ name
unfoldable pub create_synonym : Grammar Stmt
create_synonym = built (λ x. statements.CreateSynonym (record { name = x.0; table = x.1.0; link = x.1.1 }))
    (word (codes "SYNONYM") ▹ (identifier · (word (codes "FOR") ▹ (identifier · (mark marks.At ▹ name)))))

-- CREATE TABLE, CREATE SYNONYM or CREATE DATABASE LINK
unfoldable pub create : Grammar Stmt
create = word (codes "CREATE") ▹ or_else (begins (is_word (codes "TABLE"))) create_table
    (or_else (begins (is_word (codes "SYNONYM"))) create_synonym create_link)
