-- Each statement is printed within the tokens that spell it, so within its text.
use Rattle.std.proofs.Common.{◌≡◌, ℕ, ◌+◌, ◌*◌, ◌≤◌, ◌<◌, ◌^◌, Bool, true, false, List, [], ◌∷◌, ◌++◌, length, Option, Some, None, refl, ap, subst, ◌∙◌, arith, inl, inr}
use Rattle.std.specs.Prelude.{codes, decimal, nat_le, ◌==◌}
use Rattle.std.specs.List.{flat_map, list_any}
use Rattle.std.proofs.lemmas.Bool.{cases_Bool}
use Rattle.std.proofs.lemmas.List.{length-append}
use Rattle.std.proofs.lemmas.List.Concat.{flat_map-cons}
use Rattle.dtx_values.specs.Texts.{quoted_byte}
use Rattle.dtx_values.specs.Limits.{text_limit, comment_limit, id_limit, scn_limit, strength_limit, name_limit, script_limit}
use Rattle.dtx_values.specs.declared.advice.Advice.{Advice}
use Rattle.dtx_values.specs.declared.advice.Advice.TheVariants as advices
use Rattle.token_grammar.proofs.Options.{some_is}
use Rattle.token_grammar.proofs.QuoteLaws.{text_long}
use Rattle.token_grammar.specs.declared.mark.Mark.TheVariants as marks
use Rattle.token_grammar.specs.declared.token.Token.{Token}
use Rattle.token_grammar.specs.declared.token.Token.TheVariants as token
use Rattle.token_grammar.specs.Bytes.{doubled}
use Rattle.token_grammar.specs.Steps.{begins}
use Rattle.token_grammar.specs.Grammar.{Grammar, Each, is_word, is_mark, anything, begins_two, passed, word, mark, meant, identifier, name, number_to, ◌·◌, ◌▹◌, maybe, optional, Optional, many, commas, tested}
use Rattle.sql_statement.specs.declared.statement.Stmt.{Stmt}
use Rattle.sql_statement.specs.declared.statement.Stmt.TheVariants as statements
use Rattle.sql_parse.specs.declared.rule.Rule.{Rule}
use Rattle.sql_parse.specs.declared.rule.Rule.TheVariants as rules
use Rattle.sql_parse.specs.Parts.{or_else, built, in_brackets, text_to, itself}
use Rattle.sql_parse.specs.Changes.{insert, update, delete, select}
use Rattle.sql_parse.specs.Catalog.{width, column_type, rule, is_rule, is_not_null, is_key, are_once, column_of, column, are_of_a_table, table_columns, create_table, target_in, account, create_link, create_synonym, create}
use Rattle.sql_parse.specs.Transactions.{plain_commit, forced_commit, commit, rollback_of, plain_rollback, savepoint_name, rollback_to, rollback, savepoint, set_transaction, advice_in, advise, switch_in, recovery, set_strength, alter_system, alter, argument, purge, is_execute, execute}
use Rattle.sql_parse.specs.Statement.{led_by, statement_grammar, IsStatement}
use Rattle.sql_parse.proofs.StatementLaws.{forms_2, forms_3, forms_4, forms_5, forms_6, forms_7, forms_8, forms_9, forms_10}
use Rattle.sql_print.specs.Printing.{separated_text, quoted_text, type_text, rules_text, column_text, columns_text, scn_text, commit_text, advise_text, recovery_text, strength_text, read_only_text, argument_text, printed}
use Rattle.stmt_size_laws.proofs.TokenLengths.{tokens_length, tokens_length-append, tokens_fit}
use Rattle.stmt_size_laws.proofs.FitLaws.{Within, Fits, Owes, no_text, fits_word, fits_mark, fits_nothing, fits_short, fits_less, fits_pair, fits_after, fits_led, owes_behind, owes_text, fits_paid, fits_behind, fits_second, fits_built, owes_built, fits_tested, fits_or_else, fits_optional, fits_meant, fits_commas, fits_brackets}
use Rattle.stmt_size_laws.proofs.PartLengths.{name_long, fits_name, fits_identifier, fits_id, fits_number, fits_text}
use Rattle.stmt_size_laws.proofs.ChangeLengths.{fits_insert, fits_update, fits_delete, fits_select}

-- ---- CREATE TABLE

fits_width : Fits 0 width decimal
fits_width = fits_tested 0 (nat_le 1) (number_to text_limit) decimal (fits_number text_limit)

fits_type : Fits 0 column_type type_text
unfolding column_type
fits_type = fits_or_else 0 (begins (is_word (codes "NUMBER"))) (built (λ x. None) (word (codes "NUMBER"))) (built (λ n. Some n) (word (codes "VARCHAR2") ▹ in_brackets width)) type_text
    (fits_built 0 (λ x. None) (word (codes "NUMBER")) (λ x. codes " NUMBER") type_text (λ a. refl) (fits_short 42 0 (word (codes "NUMBER")) (λ x. codes " NUMBER") (fits_word (codes "NUMBER")) (λ v. omega arith)))
    (fits_built 0 (λ n. Some n) (word (codes "VARCHAR2") ▹ in_brackets width) (λ n. codes " VARCHAR2" ++ (codes "(" ++ (decimal n ++ codes ")"))) type_text (λ a. refl)
    (fits_after 56 0 0 (word (codes "VARCHAR2")) (in_brackets width) (codes " VARCHAR2") (λ n. codes "(" ++ (decimal n ++ codes ")")) (omega arith) (fits_word (codes "VARCHAR2"))
    (fits_brackets width (codes "(") decimal (omega arith) fits_width)))

-- whatever rule it is, its two words leave room for the longer of both
fits_rule : Fits 36 rule no_text
unfolding rule
fits_rule = fits_or_else 36 (begins (is_word (codes "NOT"))) (built (λ x. rules.NotNull) (word (codes "NOT") ▹ word (codes "NULL"))) (built (λ x. rules.PrimaryKey) (word (codes "PRIMARY") ▹ word (codes "KEY"))) no_text
    (fits_built 36 (λ x. rules.NotNull) (word (codes "NOT") ▹ word (codes "NULL")) no_text no_text (λ a. refl) (fits_led (codes "NOT") 28 36 (word (codes "NULL")) no_text (omega arith) (fits_word (codes "NULL"))))
    (fits_built 36 (λ x. rules.PrimaryKey) (word (codes "PRIMARY") ▹ word (codes "KEY")) no_text no_text (λ a. refl) (fits_led (codes "PRIMARY") 21 36 (word (codes "KEY")) no_text (omega arith) (fits_word (codes "KEY"))))

-- the constraints that a list of them says, as they are printed
abbrev found_text : List Rule → List ℕ
found_text found = rules_text (list_any is_not_null found) (list_any is_key found)

not_null_more : (not_null key : Bool) → length (rules_text true key) ≤ 12 + length (rules_text not_null key)
not_null_more true true = omega arith
not_null_more true false = omega arith
not_null_more false true = omega arith
not_null_more false false = omega arith

key_more : (not_null key : Bool) → length (rules_text not_null true) ≤ 12 + length (rules_text not_null key)
key_more true true = omega arith
key_more true false = omega arith
key_more false true = omega arith
key_more false false = omega arith

rule_more : (r : Rule) (found : List Rule) → length (found_text (r ∷ found)) ≤ 12 + length (found_text found)
rule_more rules.NotNull found = not_null_more (list_any is_not_null found) (list_any is_key found)
rule_more rules.PrimaryKey found = key_more (list_any is_not_null found) (list_any is_key found)

fits_found : (found : List Rule) (ts : List Token) → Each rule.Spells found ts → Within 0 (found_text found) ts
fits_found [] ts s = omega arith
fits_found (r ∷ found) ts s =
    let size = ap tokens_length s.4 ∙ tokens_length-append s.0 s.1 in
    let first = fits_rule r s.0 s.2 in
    let others = fits_found found s.1 s.3 in
    let more = rule_more r found in
    omega (arith, size, first, others, more)

fits_rules : Fits 0 (tested are_once (many is_rule rule)) found_text
fits_rules = fits_tested 0 are_once (many is_rule rule) found_text fits_found

fits_column : Fits 0 column column_text
unfolding column
fits_column = fits_built 0 column_of (identifier · (column_type · tested are_once (many is_rule rule))) (λ x. x.0 ++ (type_text x.1.0 ++ found_text x.1.1)) column_text (λ a. refl)
    (fits_pair 0 0 identifier (column_type · tested are_once (many is_rule rule)) itself (λ x. type_text x.0 ++ found_text x.1) fits_id
    (fits_pair 0 0 column_type (tested are_once (many is_rule rule)) type_text found_text fits_type fits_rules))

fits_table_columns : Fits 0 table_columns columns_text
fits_table_columns = fits_tested 0 are_of_a_table (in_brackets (commas column)) columns_text
    (fits_brackets (commas column) (codes " (") (separated_text (codes ", ") column_text) (omega arith) (fits_commas column column_text fits_column))

-- the word TABLE, and what the name has to spare, are enough for CREATE TABLE
fits_create_table : Fits 0 create_table printed
unfolding create_table printed
fits_create_table = fits_built 0 _ (word (codes "TABLE") ▹ (identifier · table_columns)) (λ x. codes "CREATE TABLE " ++ (x.0 ++ columns_text x.1)) printed (λ a. refl)
    (fits_after 35 4 0 (word (codes "TABLE")) (identifier · table_columns) (codes "CREATE TABLE ") (λ x. x.0 ++ columns_text x.1) (omega arith) (fits_word (codes "TABLE"))
    (fits_pair 4 0 identifier table_columns itself columns_text fits_identifier fits_table_columns))

-- ---- CREATE SYNONYM and CREATE DATABASE LINK

fits_create_synonym : Fits 0 create_synonym printed
unfolding create_synonym printed
fits_create_synonym = fits_built 0 _ (word (codes "SYNONYM") ▹ (identifier · (word (codes "FOR") ▹ (identifier · (mark marks.At ▹ name)))))
    (λ x. codes "CREATE SYNONYM " ++ (x.0 ++ (codes " FOR " ++ (x.1.0 ++ (codes "@" ++ x.1.1))))) printed (λ a. refl)
    (fits_after 49 0 0 (word (codes "SYNONYM")) (identifier · (word (codes "FOR") ▹ (identifier · (mark marks.At ▹ name)))) (codes "CREATE SYNONYM ")
    (λ x. x.0 ++ (codes " FOR " ++ (x.1.0 ++ (codes "@" ++ x.1.1)))) (omega arith) (fits_word (codes "SYNONYM"))
    (fits_pair 0 0 identifier (word (codes "FOR") ▹ (identifier · (mark marks.At ▹ name))) itself (λ x. codes " FOR " ++ (x.0 ++ (codes "@" ++ x.1))) fits_id
    (fits_after 21 0 0 (word (codes "FOR")) (identifier · (mark marks.At ▹ name)) (codes " FOR ") (λ x. x.0 ++ (codes "@" ++ x.1)) (omega arith) (fits_word (codes "FOR"))
    (fits_pair 0 0 identifier (mark marks.At ▹ name) itself (λ x. codes "@" ++ x) fits_id
    (fits_after 7 0 0 (mark marks.At) name (codes "@") itself (omega arith) (fits_mark marks.At) fits_name)))))

-- in quotes, bytes are doubled at most
quoted_short : (s : List ℕ) → length (flat_map quoted_byte s) ≤ 2 * length s
quoted_short [] = omega arith
quoted_short (b ∷ s) =
    let whole = ap (λ (x : List ℕ). length x) (flat_map-cons quoted_byte b s) ∙ length-append (quoted_byte b) (flat_map quoted_byte s) in
    let one = byte_short b in
    let others = quoted_short s in
    omega (arith, whole, one, others)
  where
    byte_short : (b : ℕ) → length (quoted_byte b) ≤ 2
    byte_short b = elim (cases_Bool (b == 39)) [ inl h ↦ rw h (omega arith) | inr h ↦ rw h (omega arith) ]

target_within : (t : Token) (v : List ℕ) → target_in t ≡ Some v → Within 0 (quoted_text v) (t ∷ [])
target_within (token.Word w) v e = absurd cc
target_within (token.Number n) v e = absurd cc
target_within (token.Quoted q) v e =
    let given = text_long q in
    let quotes = length-append (flat_map doubled q) (39 ∷ []) in
    let same = name_long q v e in
    let short = quoted_short v in
    let whole = length-append (flat_map quoted_byte v) (codes "'") in
    omega (arith, given, quotes, same, short, whole)
target_within (token.Mark m) v e = absurd cc

abbrev using_part : Grammar (List ℕ)
using_part = word (codes "USING") ▹ meant target_in

abbrev using_text : List ℕ → List ℕ
using_text target = codes " USING " ++ quoted_text target

fits_using : Fits 0 using_part using_text
fits_using = fits_after 35 0 0 (word (codes "USING")) (meant target_in) (codes " USING ") quoted_text (omega arith) (fits_word (codes "USING")) (fits_meant 0 target_in quoted_text target_within)

-- a link and its node, where the account is read and forgotten
abbrev link_part : Grammar (List ℕ × (Option (List ℕ × List ℕ) × List ℕ))
link_part = name · (optional (is_word (codes "CONNECT")) account · using_part)

abbrev link_part_text : List ℕ × (Option (List ℕ × List ℕ) × List ℕ) → List ℕ
link_part_text x = x.0 ++ using_text x.1.1

fits_create_link : Fits 0 create_link printed
unfolding create_link printed
fits_create_link = fits_built 0 _ (maybe (codes "PUBLIC") ▹ word (codes "DATABASE") ▹ word (codes "LINK") ▹ link_part) (λ x. codes "CREATE DATABASE LINK " ++ link_part_text x) printed (λ a. refl)
    (fits_behind 0 (maybe (codes "PUBLIC")) (word (codes "DATABASE") ▹ word (codes "LINK") ▹ link_part) (λ x. codes "CREATE DATABASE LINK " ++ link_part_text x)
    (fits_after 56 28 0 (word (codes "DATABASE")) (word (codes "LINK") ▹ link_part) (codes "CREATE DATABASE LINK ") link_part_text (omega arith) (fits_word (codes "DATABASE"))
    (fits_led (codes "LINK") 0 28 link_part link_part_text (omega arith)
    (fits_pair 0 0 name (optional (is_word (codes "CONNECT")) account · using_part) itself (λ x. using_text x.1) fits_name
    (fits_second 0 (optional (is_word (codes "CONNECT")) account) using_part using_text fits_using)))))

fits_create : Fits 0 create printed
unfolding create
fits_create = fits_behind 0 (word (codes "CREATE")) (or_else (begins (is_word (codes "TABLE"))) create_table (or_else (begins (is_word (codes "SYNONYM"))) create_synonym create_link)) printed
    (fits_or_else 0 (begins (is_word (codes "TABLE"))) create_table (or_else (begins (is_word (codes "SYNONYM"))) create_synonym create_link) printed fits_create_table
    (fits_or_else 0 (begins (is_word (codes "SYNONYM"))) create_synonym create_link printed fits_create_synonym fits_create_link))

-- ---- COMMIT, ROLLBACK and SAVEPOINT

fits_forced : Fits 0 forced_commit printed
unfolding printed
fits_forced = fits_built 0 (λ x. statements.CommitForce x.0 x.1) (word (codes "FORCE") ▹ (text_to id_limit · optional (is_mark marks.Comma) (mark marks.Comma ▹ number_to scn_limit)))
    (λ x. codes "COMMIT FORCE " ++ (quoted_text x.0 ++ scn_text x.1)) printed (λ a. refl)
    (fits_after 35 8 0 (word (codes "FORCE")) (text_to id_limit · optional (is_mark marks.Comma) (mark marks.Comma ▹ number_to scn_limit)) (codes "COMMIT FORCE ") (λ x. quoted_text x.0 ++ scn_text x.1) (omega arith) (fits_word (codes "FORCE"))
    (fits_pair 8 0 (text_to id_limit) (optional (is_mark marks.Comma) (mark marks.Comma ▹ number_to scn_limit)) quoted_text scn_text (fits_text id_limit)
    (fits_optional (is_mark marks.Comma) (mark marks.Comma ▹ number_to scn_limit) scn_text refl
    (fits_after 7 0 0 (mark marks.Comma) (number_to scn_limit) (codes ", ") decimal (omega arith) (fits_mark marks.Comma) (fits_number scn_limit)))))

abbrev comment_part : Grammar (List ℕ)
comment_part = word (codes "COMMENT") ▹ text_to comment_limit

fits_comment : Fits 0 comment_part (λ text. commit_text (Some text))
fits_comment = fits_after 49 8 0 (word (codes "COMMENT")) (text_to comment_limit) (codes "COMMIT COMMENT ") quoted_text (omega arith) (fits_word (codes "COMMENT")) (fits_text comment_limit)

-- where nothing follows, COMMIT is printed within its own word
comment_owed : (comment : Option (List ℕ)) (ts : List Token) → Optional comment_part.Spells comment ts → 3 * length (commit_text comment) ≤ 7 * tokens_length ts + 42
comment_owed None ts s = omega arith
comment_owed (Some text) ts s = let k = fits_comment text ts s in omega (arith, k)

owes_plain : Owes 42 plain_commit printed
unfolding printed
owes_plain v ts s = subst (λ (x : Stmt). 3 * length (printed x) ≤ 7 * tokens_length ts + 42) (some_is (statements.Commit s.0) v s.2) (comment_owed s.0 ts s.1)

owes_either : Owes 42 (or_else (begins (is_word (codes "FORCE"))) forced_commit plain_commit) printed
owes_either v ts (inl s) = let k = fits_forced v ts s in omega (arith, k)
owes_either v ts (inr s) = owes_plain v ts s

fits_commit : Fits 0 commit printed
unfolding commit
fits_commit = fits_paid (codes "COMMIT") (maybe (codes "WORK") ▹ or_else (begins (is_word (codes "FORCE"))) forced_commit plain_commit) printed
    (owes_behind 42 (maybe (codes "WORK")) (or_else (begins (is_word (codes "FORCE"))) forced_commit plain_commit) printed owes_either)

-- the id of a branch that is rolled back, where there is one
abbrev force_text : Option (List ℕ) → List ℕ
force_text None = []
force_text (Some id) = codes " FORCE " ++ quoted_text id

same_rollback : (id : Option (List ℕ)) → codes "ROLLBACK" ++ force_text id ≡ printed (rollback_of id)
unfolding printed
same_rollback None = refl
same_rollback (Some id) = refl

abbrev force_part : Grammar (Option (List ℕ))
force_part = optional (is_word (codes "FORCE")) (word (codes "FORCE") ▹ text_to id_limit)

fits_force : Fits 0 force_part force_text
fits_force = fits_optional (is_word (codes "FORCE")) (word (codes "FORCE") ▹ text_to id_limit) force_text refl
    (fits_after 35 8 0 (word (codes "FORCE")) (text_to id_limit) (codes " FORCE ") quoted_text (omega arith) (fits_word (codes "FORCE")) (fits_text id_limit))

fits_savepoint_name : Fits 0 savepoint_name itself
fits_savepoint_name = fits_or_else 0 (begins_two (is_word (codes "SAVEPOINT")) anything) (word (codes "SAVEPOINT") ▹ identifier) identifier itself (fits_behind 0 (word (codes "SAVEPOINT")) identifier itself fits_id) fits_id

abbrev to_part : Grammar (List ℕ)
to_part = word (codes "TO") ▹ savepoint_name

owes_rollback_to : Owes 56 rollback_to printed
unfolding printed
owes_rollback_to = owes_built 56 statements.RollbackTo to_part (λ name. codes "ROLLBACK TO " ++ name) printed (λ a. refl)
    (owes_text 56 (codes "ROLLBACK TO ") to_part itself (omega arith) (fits_behind 0 (word (codes "TO")) savepoint_name itself fits_savepoint_name))

owes_plain_rollback : Owes 56 plain_rollback printed
owes_plain_rollback = owes_built 56 rollback_of force_part (λ id. codes "ROLLBACK" ++ force_text id) printed same_rollback (owes_text 56 (codes "ROLLBACK") force_part force_text (omega arith) fits_force)

abbrev rollback_part : Grammar Stmt
rollback_part = or_else (begins (is_word (codes "TO"))) rollback_to plain_rollback

owes_rollback : Owes 56 rollback_part printed
owes_rollback v ts (inl s) = owes_rollback_to v ts s
owes_rollback v ts (inr s) = owes_plain_rollback v ts s

fits_rollback : Fits 0 rollback printed
unfolding rollback
fits_rollback = fits_paid (codes "ROLLBACK") (maybe (codes "WORK") ▹ rollback_part) printed (owes_behind 56 (maybe (codes "WORK")) rollback_part printed owes_rollback)

fits_savepoint : Fits 0 savepoint printed
unfolding savepoint printed
fits_savepoint = fits_built 0 statements.Savepoint (word (codes "SAVEPOINT") ▹ identifier) (λ name. codes "SAVEPOINT " ++ name) printed (λ a. refl)
    (fits_after 63 0 0 (word (codes "SAVEPOINT")) identifier (codes "SAVEPOINT ") itself (omega arith) (fits_word (codes "SAVEPOINT")) fits_id)

-- ---- SET TRANSACTION

abbrev only_part : Grammar (Unit {0})
only_part = word (codes "READ") ▹ word (codes "ONLY")

-- the word TRANSACTION alone is enough for the whole text
fits_set_transaction : Fits 0 set_transaction printed
unfolding set_transaction printed
fits_set_transaction = fits_built 0 (λ x. statements.SetReadOnly) (word (codes "SET") ▹ word (codes "TRANSACTION") ▹ only_part) (λ x. read_only_text) printed (λ a. refl)
    (fits_short 77 0 (word (codes "SET") ▹ word (codes "TRANSACTION") ▹ only_part) (λ x. read_only_text)
    (fits_behind 77 (word (codes "SET")) (word (codes "TRANSACTION") ▹ only_part) no_text (fits_led (codes "TRANSACTION") 0 77 only_part no_text (omega arith) (fits_nothing only_part)))
    (λ v. omega arith))

-- ---- ALTER and EXECUTE

advise_short : (advice : Option Advice) → 3 * length (advise_text advice) + 0 ≤ 91
advise_short None = omega arith
advise_short (Some advices.Commit) = omega arith
advise_short (Some advices.Rollback) = omega arith

fits_advise : Fits 0 advise printed
unfolding printed
fits_advise = fits_built 0 statements.Advise (word (codes "SESSION") ▹ word (codes "ADVISE") ▹ meant advice_in) advise_text printed (λ a. refl)
    (fits_short 91 0 (word (codes "SESSION") ▹ word (codes "ADVISE") ▹ meant advice_in) advise_text
    (fits_led (codes "SESSION") 42 91 (word (codes "ADVISE") ▹ meant advice_in) no_text (omega arith)
    (fits_led (codes "ADVISE") 0 42 (meant advice_in) no_text (omega arith) (fits_nothing (meant advice_in)))) advise_short)

recovery_short : (on : Bool) → 3 * length (recovery_text on) ≤ 133
recovery_short true = omega arith
recovery_short false = omega arith

-- the switch, and what is switched
abbrev recovery_part : Grammar (Bool × Unit {0})
recovery_part = meant switch_in · (word (codes "DISTRIBUTED") ▹ word (codes "RECOVERY"))

fits_recovery : Fits 0 recovery printed
unfolding printed
fits_recovery = fits_built 0 (λ x. statements.Recovery x.0) recovery_part (λ x. recovery_text x.0) printed (λ a. refl)
    (fits_short 133 0 recovery_part (λ x. recovery_text x.0)
    (fits_second 133 (meant switch_in) (word (codes "DISTRIBUTED") ▹ word (codes "RECOVERY")) no_text
    (fits_led (codes "DISTRIBUTED") 56 133 (word (codes "RECOVERY")) no_text (omega arith) (fits_word (codes "RECOVERY"))))
    (λ x. omega (arith, recovery_short x.0)))

-- the name of the parameter alone is enough for all that stands before the number
fits_set_strength : Fits 0 set_strength printed
unfolding printed
fits_set_strength = fits_built 0 statements.SetStrength (word (codes "SET") ▹ word (codes "COMMIT_POINT_STRENGTH") ▹ mark marks.Equal ▹ number_to strength_limit) strength_text printed (λ a. refl)
    (fits_behind 0 (word (codes "SET")) (word (codes "COMMIT_POINT_STRENGTH") ▹ mark marks.Equal ▹ number_to strength_limit) strength_text
    (fits_after 147 0 0 (word (codes "COMMIT_POINT_STRENGTH")) (mark marks.Equal ▹ number_to strength_limit) (codes "ALTER SYSTEM SET COMMIT_POINT_STRENGTH = ") decimal (omega arith) (fits_word (codes "COMMIT_POINT_STRENGTH"))
    (fits_behind 0 (mark marks.Equal) (number_to strength_limit) decimal (fits_number strength_limit))))

fits_alter_system : Fits 0 alter_system printed
fits_alter_system = fits_behind 0 (word (codes "SYSTEM")) (or_else (begins (is_word (codes "SET"))) set_strength recovery) printed
    (fits_or_else 0 (begins (is_word (codes "SET"))) set_strength recovery printed fits_set_strength fits_recovery)

fits_alter : Fits 0 alter printed
unfolding alter
fits_alter = fits_behind 0 (word (codes "ALTER")) (or_else (begins (is_word (codes "SESSION"))) advise alter_system) printed
    (fits_or_else 0 (begins (is_word (codes "SESSION"))) advise alter_system printed fits_advise fits_alter_system)

fits_argument : Fits 0 argument argument_text
fits_argument = fits_brackets (text_to id_limit) (codes "(") quoted_text (omega arith) (fits_less 8 0 (text_to id_limit) quoted_text (omega arith) (fits_text id_limit))

-- the name of the procedure alone is enough for EXECUTE and the name
fits_purge : Fits 0 purge printed
unfolding printed
fits_purge = fits_or_else 0 (begins (is_word (codes "DBMS_TRANSACTION.PURGE_MIXED"))) (built statements.PurgeMixed (word (codes "DBMS_TRANSACTION.PURGE_MIXED") ▹ argument))
    (built statements.PurgeLost (word (codes "DBMS_TRANSACTION.PURGE_LOST_DB_ENTRY") ▹ argument)) printed
    (fits_built 0 statements.PurgeMixed (word (codes "DBMS_TRANSACTION.PURGE_MIXED") ▹ argument) (λ id. codes "EXECUTE DBMS_TRANSACTION.PURGE_MIXED" ++ argument_text id) printed (λ a. refl)
    (fits_after (7 * length (codes "DBMS_TRANSACTION.PURGE_MIXED")) 0 0 (word (codes "DBMS_TRANSACTION.PURGE_MIXED")) argument (codes "EXECUTE DBMS_TRANSACTION.PURGE_MIXED") argument_text (omega arith) (fits_word (codes "DBMS_TRANSACTION.PURGE_MIXED")) fits_argument))
    (fits_built 0 statements.PurgeLost (word (codes "DBMS_TRANSACTION.PURGE_LOST_DB_ENTRY") ▹ argument) (λ id. codes "EXECUTE DBMS_TRANSACTION.PURGE_LOST_DB_ENTRY" ++ argument_text id) printed (λ a. refl)
    (fits_after (7 * length (codes "DBMS_TRANSACTION.PURGE_LOST_DB_ENTRY")) 0 0 (word (codes "DBMS_TRANSACTION.PURGE_LOST_DB_ENTRY")) argument (codes "EXECUTE DBMS_TRANSACTION.PURGE_LOST_DB_ENTRY") argument_text (omega arith) (fits_word (codes "DBMS_TRANSACTION.PURGE_LOST_DB_ENTRY")) fits_argument))

fits_execute : Fits 0 execute printed
unfolding execute
fits_execute = fits_behind 0 (passed is_execute) purge printed fits_purge

-- ---- Every form.

fits_by : (w : List ℕ) (form others : Grammar Stmt) → Fits 0 form printed → Fits 0 others printed → Fits 0 (led_by w form others) printed
fits_by w form others h k = fits_or_else 0 (begins (is_word w)) form others printed h k

fits_statement : Fits 0 statement_grammar printed
unfolding statement_grammar
fits_statement =
    fits_by (codes "SELECT") select forms_2 fits_select
    (fits_by (codes "INSERT") insert forms_3 fits_insert
    (fits_by (codes "UPDATE") update forms_4 fits_update
    (fits_by (codes "DELETE") delete forms_5 fits_delete
    (fits_by (codes "CREATE") create forms_6 fits_create
    (fits_by (codes "COMMIT") commit forms_7 fits_commit
    (fits_by (codes "ROLLBACK") rollback forms_8 fits_rollback
    (fits_by (codes "ALTER") alter forms_9 fits_alter
    (fits_by (codes "SAVEPOINT") savepoint forms_10 fits_savepoint
    (fits_by (codes "SET") set_transaction execute fits_set_transaction fits_execute)))))))))

-- three times the printed text is within seven times the text
pub printed_within : (s : Stmt) (text : List ℕ) → IsStatement s text → 3 * length (printed s) ≤ 7 * length text
unfolding IsStatement
printed_within s text h =
    let within = fits_statement s h.0 h.2 in
    let fit = tokens_fit h.0 text h.1 in
    omega (arith, within, fit)

-- so the printed text is within three times the text
pub printed_thrice : (s : Stmt) (text : List ℕ) → IsStatement s text → length (printed s) ≤ 3 * length text
printed_thrice s text h = omega (arith, printed_within s text h)

-- and that of a statement of a script, with any name beside it, is below 4 MiB
pub printed_of_scripts : (s : Stmt) (text : List ℕ) → IsStatement s text → length text ≤ script_limit → length (printed s) + name_limit < 2 ^ 22
printed_of_scripts s text h le = let k = printed_thrice s text h in omega (arith, k, le)
