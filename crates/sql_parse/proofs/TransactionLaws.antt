-- COMMIT, ROLLBACK, SAVEPOINT, SET TRANSACTION, ALTER and EXECUTE are exact.
use Rattle.std.proofs.Common.{◌≡◌, ℕ, Bool, true, false, ◌&&◌, List, ◌++◌, Some, None, refl, ap, inl, inr}
use Rattle.std.proofs.lemmas.Bool.{cases_Bool}
use Rattle.std.specs.Prelude.{codes}
use Rattle.std.specs.Str.{bytes_eq}
use Rattle.token_grammar.specs.declared.mark.Mark.TheVariants as marks
use Rattle.token_grammar.specs.declared.token.Token.{Token}
use Rattle.token_grammar.specs.Steps.{begins}
use Rattle.token_grammar.specs.Grammar.{Grammar, is_word, is_mark, nothing, anything, begins_two, passed, word, mark, meant, identifier, identifier_in, number_to, number_to_in, ◌·◌, ◌▹◌, maybe, optional}
use Rattle.token_grammar.specs.Exact.{IsExact, Leads, Shows}
use Rattle.token_grammar.proofs.Beginnings.{begins-append, begins-apart, is_word_is, leads_word, leads_mark, leads_after, leads_pair, apart_words, apart_nothing, ends_all}
use Rattle.token_grammar.proofs.OneToken.{word_exact, mark_exact, meant_exact, passed_exact, maybe_exact}
use Rattle.token_grammar.proofs.Parts.{after, after_exact, seq, optional_exact}
use Rattle.dtx_values.specs.Limits.{comment_limit, id_limit, scn_limit, strength_limit}
use Rattle.sql_statement.specs.declared.statement.Stmt.{Stmt}
use Rattle.sql_statement.specs.declared.statement.Stmt.TheVariants as statements
use Rattle.sql_parse.specs.Parts.{or_else, built, text_to}
use Rattle.sql_parse.specs.Transactions.{plain_commit, forced_commit, commit, rollback_of, plain_rollback, savepoint_name, rollback_to, rollback, savepoint, set_transaction, advice_in, advise, switch_in, recovery, set_strength, alter_system, alter, argument, purge, is_execute, execute}
use Rattle.sql_parse.proofs.PartLaws.{or_else_exact, led_exact, built_exact, leads_built, fails, fails_apart, fails_so, meant_leads, text_exact, brackets_exact, optional_misses}

-- ---- COMMIT, ROLLBACK and SAVEPOINT

abbrev comment_part : Grammar (List ℕ)
comment_part = word (codes "COMMENT") ▹ text_to comment_limit

leads_comment : Leads comment_part (is_word (codes "COMMENT"))
leads_comment = leads_after (word (codes "COMMENT")) (text_to comment_limit) _ (leads_word (codes "COMMENT"))

plain_exact : IsExact plain_commit anything
plain_exact = ends_all plain_commit _ (built_exact _ _ _ (optional_exact comment_part _ nothing (after (word_exact _) (text_exact comment_limit)) leads_comment))

abbrev scn_part : Grammar ℕ
scn_part = mark marks.Comma ▹ number_to scn_limit

forced_exact : IsExact forced_commit anything
forced_exact = ends_all forced_commit _ (built_exact _ _ _ (after (word_exact _) (seq (text_exact id_limit)
    (optional_exact scn_part _ nothing (after (mark_exact marks.Comma) (meant_exact (number_to_in scn_limit))) (leads_after (mark marks.Comma) (number_to scn_limit) _ (leads_mark marks.Comma))))))

leads_forced : Leads forced_commit (is_word (codes "FORCE"))
leads_forced = leads_built _ (word (codes "FORCE") ▹ (text_to id_limit · optional (is_mark marks.Comma) scn_part)) _
    (leads_after (word (codes "FORCE")) (text_to id_limit · optional (is_mark marks.Comma) scn_part) _ (leads_word (codes "FORCE")))

-- a commit that is not forced begins with COMMENT, or has ended
plain_misses : (w : List ℕ) → bytes_eq (codes "COMMENT") w ≡ false → (v : Stmt) (ts rest : List Token) → plain_commit.Spells v ts → begins anything rest ≡ false → begins (is_word w) (ts ++ rest) ≡ false
plain_misses w differ v ts rest s ends = optional_misses (is_word w) (is_word (codes "COMMENT")) comment_part leads_comment (apart_words w (codes "COMMENT") differ) s.0 ts rest s.1 ends

abbrev commit_part : Grammar Stmt
commit_part = or_else (begins (is_word (codes "FORCE"))) forced_commit plain_commit

commit_part_exact : IsExact commit_part anything
commit_part_exact = or_else_exact (begins (is_word (codes "FORCE"))) forced_commit plain_commit anything forced_exact plain_exact
    (λ v ts rest s ends. begins-append (is_word (codes "FORCE")) ts rest (leads_forced v ts s)) (plain_misses (codes "FORCE") refl)

-- WORK is not next
work_misses : (v : Stmt) (ts rest : List Token) → commit_part.Spells v ts → begins anything rest ≡ false → begins (is_word (codes "WORK")) (ts ++ rest) ≡ false
work_misses v ts rest (inl s) ends = begins-apart (is_word (codes "WORK")) (is_word (codes "FORCE")) (apart_words (codes "WORK") (codes "FORCE") refl) ts rest (leads_forced v ts s)
work_misses v ts rest (inr s) ends = plain_misses (codes "WORK") refl v ts rest s ends

-- COMMIT, with a comment or without, and COMMIT FORCE
pub commit_exact : IsExact commit anything
unfolding commit
commit_exact = after (word_exact _) (after_exact (maybe (codes "WORK")) commit_part _ anything anything (maybe_exact (codes "WORK")) commit_part_exact
    (λ v ts rest s ends. (work_misses v ts rest s ends, ends)))

abbrev force_part : Grammar (List ℕ)
force_part = word (codes "FORCE") ▹ text_to id_limit

leads_force : Leads force_part (is_word (codes "FORCE"))
leads_force = leads_after (word (codes "FORCE")) (text_to id_limit) _ (leads_word (codes "FORCE"))

plain_rollback_exact : IsExact plain_rollback anything
plain_rollback_exact = ends_all plain_rollback _ (built_exact rollback_of _ _ (optional_exact force_part _ nothing (after (word_exact _) (text_exact id_limit)) leads_force))

-- a rollback to no savepoint goes on with FORCE, or has ended
plain_rollback_misses : (w : List ℕ) → bytes_eq (codes "FORCE") w ≡ false → (v : Stmt) (ts rest : List Token) → plain_rollback.Spells v ts → begins anything rest ≡ false → begins (is_word w) (ts ++ rest) ≡ false
plain_rollback_misses w differ v ts rest s ends = optional_misses (is_word w) (is_word (codes "FORCE")) force_part leads_force (apart_words w (codes "FORCE") differ) s.0 ts rest s.1 ends

-- whether SAVEPOINT is next, with something behind it
abbrev names_savepoint : List Token → Bool
names_savepoint = begins_two (is_word (codes "SAVEPOINT")) anything

abbrev savepoint_part : Grammar (List ℕ)
savepoint_part = word (codes "SAVEPOINT") ▹ identifier

with_savepoint : Shows savepoint_part names_savepoint anything true
with_savepoint v ts rest s ends = rw (s.4, s.2, s.3.1) refl

and_none : (b : Bool) → b && false ≡ false
and_none true = refl
and_none false = refl

without_savepoint : Shows identifier names_savepoint anything false
without_savepoint v ts rest s ends = rw (s.1, ends) (and_none (is_word (codes "SAVEPOINT") s.0))

savepoint_name_exact : IsExact savepoint_name anything
savepoint_name_exact = or_else_exact names_savepoint savepoint_part identifier anything
    (ends_all savepoint_part _ (after (word_exact _) (meant_exact identifier_in))) (ends_all identifier _ (meant_exact identifier_in)) with_savepoint without_savepoint

rollback_to_exact : IsExact rollback_to anything
rollback_to_exact = built_exact _ _ _ (after (word_exact _) savepoint_name_exact)

leads_rollback_to : Leads rollback_to (is_word (codes "TO"))
leads_rollback_to = leads_built _ (word (codes "TO") ▹ savepoint_name) _ (leads_after (word (codes "TO")) savepoint_name _ (leads_word (codes "TO")))

abbrev rollback_part : Grammar Stmt
rollback_part = or_else (begins (is_word (codes "TO"))) rollback_to plain_rollback

rollback_part_exact : IsExact rollback_part anything
rollback_part_exact = or_else_exact (begins (is_word (codes "TO"))) rollback_to plain_rollback anything rollback_to_exact plain_rollback_exact
    (λ v ts rest s ends. begins-append (is_word (codes "TO")) ts rest (leads_rollback_to v ts s)) (plain_rollback_misses (codes "TO") refl)

-- WORK is not next
rollback_misses : (v : Stmt) (ts rest : List Token) → rollback_part.Spells v ts → begins anything rest ≡ false → begins (is_word (codes "WORK")) (ts ++ rest) ≡ false
rollback_misses v ts rest (inl s) ends = begins-apart (is_word (codes "WORK")) (is_word (codes "TO")) (apart_words (codes "WORK") (codes "TO") refl) ts rest (leads_rollback_to v ts s)
rollback_misses v ts rest (inr s) ends = plain_rollback_misses (codes "WORK") refl v ts rest s ends

-- ROLLBACK, ROLLBACK TO and ROLLBACK FORCE
pub rollback_exact : IsExact rollback anything
unfolding rollback
rollback_exact = after (word_exact _) (after_exact (maybe (codes "WORK")) rollback_part _ anything anything (maybe_exact (codes "WORK")) rollback_part_exact
    (λ v ts rest s ends. (rollback_misses v ts rest s ends, ends)))

-- SAVEPOINT
pub savepoint_exact : IsExact savepoint anything
unfolding savepoint
savepoint_exact = ends_all (built statements.Savepoint savepoint_part) _ (built_exact _ _ _ (after (word_exact _) (meant_exact identifier_in)))

-- ---- SET TRANSACTION

abbrev read_only_part : Grammar (Unit {0})
read_only_part = word (codes "SET") ▹ word (codes "TRANSACTION") ▹ word (codes "READ") ▹ word (codes "ONLY")

-- SET TRANSACTION READ ONLY
pub set_transaction_exact : IsExact set_transaction anything
unfolding set_transaction
set_transaction_exact = ends_all (built (λ x. statements.SetReadOnly) read_only_part) _
    (built_exact _ _ _ (after (word_exact _) (after (word_exact _) (after (word_exact _) (word_exact _)))))

-- ---- ALTER

advise_exact : IsExact advise nothing
advise_exact = built_exact _ _ _ (after (word_exact _) (after (word_exact _) (meant_exact advice_in)))

leads_advise : Leads advise (is_word (codes "SESSION"))
leads_advise = leads_built _ (word (codes "SESSION") ▹ word (codes "ADVISE") ▹ meant advice_in) _
    (leads_after (word (codes "SESSION")) (word (codes "ADVISE") ▹ meant advice_in) _ (leads_word (codes "SESSION")))

recovery_exact : IsExact recovery nothing
recovery_exact = built_exact _ _ _ (seq (meant_exact switch_in) (after (word_exact _) (word_exact _)))

-- SET is no switch
switch_is_no_set : (t : Token) (on : Bool) → switch_in t ≡ Some on → fails (is_word (codes "SET")) t ≡ true
switch_is_no_set t on e = elim (cases_Bool (is_word (codes "SET") t)) [
  | inl k ↦ (let no : switch_in t ≡ None = ap switch_in (is_word_is (codes "SET") t k) in absurd cc)
  | inr k ↦ fails_so (is_word (codes "SET")) t k
]

leads_recovery : Leads recovery (fails (is_word (codes "SET")))
leads_recovery = leads_built _ (meant switch_in · (word (codes "DISTRIBUTED") ▹ word (codes "RECOVERY"))) _
    (leads_pair (meant switch_in) (word (codes "DISTRIBUTED") ▹ word (codes "RECOVERY")) _ (meant_leads switch_in _ switch_is_no_set))

abbrev strength_part : Grammar ℕ
strength_part = word (codes "COMMIT_POINT_STRENGTH") ▹ mark marks.Equal ▹ number_to strength_limit

set_strength_exact : IsExact set_strength nothing
set_strength_exact = built_exact _ _ _ (after (word_exact _) (after (word_exact _) (after (mark_exact marks.Equal) (meant_exact (number_to_in strength_limit)))))

leads_set_strength : Leads set_strength (is_word (codes "SET"))
leads_set_strength = leads_built _ (word (codes "SET") ▹ strength_part) _ (leads_after (word (codes "SET")) strength_part _ (leads_word (codes "SET")))

alter_system_exact : IsExact alter_system nothing
alter_system_exact = after (word_exact _) (led_exact set_strength recovery _ _ nothing set_strength_exact recovery_exact leads_set_strength leads_recovery (fails_apart _))

leads_alter_system : Leads alter_system (is_word (codes "SYSTEM"))
leads_alter_system = leads_after (word (codes "SYSTEM")) (or_else (begins (is_word (codes "SET"))) set_strength recovery) _ (leads_word (codes "SYSTEM"))

-- ALTER SESSION ADVISE and ALTER SYSTEM
pub alter_exact : IsExact alter anything
unfolding alter
alter_exact = ends_all (word (codes "ALTER") ▹ or_else (begins (is_word (codes "SESSION"))) advise alter_system) _
    (after (word_exact _) (led_exact advise alter_system _ _ nothing advise_exact alter_system_exact leads_advise leads_alter_system (apart_words (codes "SESSION") (codes "SYSTEM") refl)))

-- ---- EXECUTE

argument_exact : IsExact argument nothing
argument_exact = brackets_exact (text_to id_limit) nothing (text_exact id_limit) (apart_nothing _)

-- a purge by its word
abbrev purge_by : (List ℕ → Stmt) → List ℕ → Grammar Stmt
purge_by to w = built to (word w ▹ argument)

purge_by_exact : (to : List ℕ → Stmt) (w : List ℕ) → IsExact (purge_by to w) nothing
purge_by_exact to w = built_exact to (word w ▹ argument) _ (after (word_exact w) argument_exact)

leads_purge : (to : List ℕ → Stmt) (w : List ℕ) → Leads (purge_by to w) (is_word w)
leads_purge to w = leads_built to (word w ▹ argument) _ (leads_after (word w) argument _ (leads_word w))

purge_exact : IsExact purge nothing
purge_exact = led_exact _ _ _ _ nothing (purge_by_exact _ _) (purge_by_exact _ _) (leads_purge _ _) (leads_purge _ _)
    (apart_words (codes "DBMS_TRANSACTION.PURGE_MIXED") (codes "DBMS_TRANSACTION.PURGE_LOST_DB_ENTRY") refl)

-- EXECUTE of a purge
pub execute_exact : IsExact execute anything
unfolding execute
execute_exact = ends_all (passed is_execute ▹ purge) _ (after (passed_exact is_execute) purge_exact)
