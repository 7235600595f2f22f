-- COMMIT, ROLLBACK, SAVEPOINT, SET TRANSACTION, ALTER and EXECUTE (SQL Language Reference, "COMMIT", "ROLLBACK", "SAVEPOINT",
-- "SET TRANSACTION", "ALTER SESSION", "ALTER SYSTEM"; PL/SQL Packages and Types Reference, "DBMS_TRANSACTION").
use Rattle.std.specs.Prelude.{ℕ, Bool, true, false, List, ◌∷◌, [], Option, Some, None, codes, if◌then◌else◌}
use Rattle.std.specs.Str.{bytes_eq}
use Rattle.dtx_values.specs.declared.advice.Advice.{Advice}
use Rattle.dtx_values.specs.declared.advice.Advice.TheVariants as advices
use Rattle.token_grammar.specs.declared.mark.Mark.TheVariants as marks
use Rattle.token_grammar.specs.declared.token.Token.{Token}
use Rattle.token_grammar.specs.declared.token.Token.TheVariants as token
use Rattle.token_grammar.specs.Steps.{begins}
use Rattle.token_grammar.specs.Grammar.{Grammar, is_word, is_mark, anything, begins_two, passed, word, mark, meant, identifier, number_to, ◌·◌, ◌▹◌, maybe, optional}
use Rattle.dtx_values.specs.Limits.{comment_limit, id_limit, scn_limit, strength_limit}
use Rattle.sql_statement.specs.declared.statement.Stmt.{Stmt}
use Rattle.sql_statement.specs.declared.statement.Stmt.TheVariants as statements
use Rattle.sql_parse.specs.Parts.{or_else, built, is_word_of, in_brackets, text_to}

-- ---- COMMIT, ROLLBACK and SAVEPOINT

-- [COMMENT 'text']
abbrev pub plain_commit : Grammar Stmt
plain_commit = built statements.Commit (optional (is_word (codes "COMMENT")) (word (codes "COMMENT") ▹ text_to comment_limit))

-- FORCE 'text' [, digits]
abbrev pub forced_commit : Grammar Stmt
forced_commit = built (λ x. statements.CommitForce x.0 x.1)
    (word (codes "FORCE") ▹ (text_to id_limit · optional (is_mark marks.Comma) (mark marks.Comma ▹ number_to scn_limit)))

-- COMMIT [WORK] ([COMMENT 'text'] | FORCE 'text' [, digits])
unfoldable pub commit : Grammar Stmt
commit = word (codes "COMMIT") ▹ maybe (codes "WORK") ▹ or_else (begins (is_word (codes "FORCE"))) forced_commit plain_commit

-- the rollback of a session, or of a branch
abbrev pub rollback_of : Option (List ℕ) → Stmt
rollback_of None = statements.Rollback
rollback_of (Some id) = statements.RollbackForce id

-- [FORCE 'text']
abbrev pub plain_rollback : Grammar Stmt
plain_rollback = built rollback_of (optional (is_word (codes "FORCE")) (word (codes "FORCE") ▹ text_to id_limit))

-- [SAVEPOINT] id; where nothing follows the word SAVEPOINT, it is the name
abbrev pub savepoint_name : Grammar (List ℕ)
savepoint_name = or_else (begins_two (is_word (codes "SAVEPOINT")) anything) (word (codes "SAVEPOINT") ▹ identifier) identifier

-- TO [SAVEPOINT] id
abbrev pub rollback_to : Grammar Stmt
rollback_to = built statements.RollbackTo (word (codes "TO") ▹ savepoint_name)

-- ROLLBACK [WORK] (TO [SAVEPOINT] id | [FORCE 'text'])
unfoldable pub rollback : Grammar Stmt
rollback = word (codes "ROLLBACK") ▹ maybe (codes "WORK") ▹ or_else (begins (is_word (codes "TO"))) rollback_to plain_rollback

-- SAVEPOINT id
unfoldable pub savepoint : Grammar Stmt
savepoint = built statements.Savepoint (word (codes "SAVEPOINT") ▹ identifier)

-- ---- SET TRANSACTION

-- SET TRANSACTION READ ONLY
unfoldable pub set_transaction : Grammar Stmt
set_transaction = built (λ x. statements.SetReadOnly) (word (codes "SET") ▹ word (codes "TRANSACTION") ▹ word (codes "READ") ▹ word (codes "ONLY"))

-- ---- ALTER

-- the advice of a word
abbrev pub advice_of : List ℕ → Option (Option Advice)
advice_of w = if bytes_eq w (codes "COMMIT") then Some (Some advices.Commit)
    else (if bytes_eq w (codes "ROLLBACK") then Some (Some advices.Rollback)
    else (if bytes_eq w (codes "NOTHING") then Some None else None))

-- COMMIT | ROLLBACK | NOTHING
abbrev pub advice_in : Token → Option (Option Advice)
advice_in (token.Word w) = advice_of w
advice_in _ = None

-- SESSION ADVISE (COMMIT | ROLLBACK | NOTHING)
abbrev pub advise : Grammar Stmt
advise = built statements.Advise (word (codes "SESSION") ▹ word (codes "ADVISE") ▹ meant advice_in)

-- whether recovery is to be on
abbrev pub switch_of : List ℕ → Option Bool
switch_of w = if bytes_eq w (codes "ENABLE") then Some true else (if bytes_eq w (codes "DISABLE") then Some false else None)

-- ENABLE | DISABLE
abbrev pub switch_in : Token → Option Bool
switch_in (token.Word w) = switch_of w
switch_in _ = None

-- (ENABLE | DISABLE) DISTRIBUTED RECOVERY
abbrev pub recovery : Grammar Stmt
recovery = built (λ x. statements.Recovery x.0) (meant switch_in · (word (codes "DISTRIBUTED") ▹ word (codes "RECOVERY")))

-- SET COMMIT_POINT_STRENGTH = digits
abbrev pub set_strength : Grammar Stmt
set_strength = built statements.SetStrength (word (codes "SET") ▹ word (codes "COMMIT_POINT_STRENGTH") ▹ mark marks.Equal ▹ number_to strength_limit)

-- SYSTEM (SET COMMIT_POINT_STRENGTH .. | (ENABLE | DISABLE) DISTRIBUTED RECOVERY)
abbrev pub alter_system : Grammar Stmt
alter_system = word (codes "SYSTEM") ▹ or_else (begins (is_word (codes "SET"))) set_strength recovery

-- ALTER SESSION .. | ALTER SYSTEM ..
unfoldable pub alter : Grammar Stmt
alter = word (codes "ALTER") ▹ or_else (begins (is_word (codes "SESSION"))) advise alter_system

-- ---- EXECUTE

-- ( 'text' )
abbrev pub argument : Grammar (List ℕ)
argument = in_brackets (text_to id_limit)

-- DBMS_TRANSACTION.PURGE_MIXED ( 'text' ) | DBMS_TRANSACTION.PURGE_LOST_DB_ENTRY ( 'text' )
abbrev pub purge : Grammar Stmt
purge = or_else (begins (is_word (codes "DBMS_TRANSACTION.PURGE_MIXED")))
    (built statements.PurgeMixed (word (codes "DBMS_TRANSACTION.PURGE_MIXED") ▹ argument))
    (built statements.PurgeLost (word (codes "DBMS_TRANSACTION.PURGE_LOST_DB_ENTRY") ▹ argument))

-- EXECUTE or EXEC
abbrev pub is_execute : Token → Bool
is_execute = is_word_of (codes "EXECUTE" ∷ codes "EXEC" ∷ [])

-- (EXECUTE | EXEC) ..
unfoldable pub execute : Grammar Stmt
execute = passed is_execute ▹ purge
