-- The printed texts of COMMIT, ROLLBACK, SAVEPOINT, SET TRANSACTION, ALTER and EXECUTE are tokens that spell them again.
use Rattle.std.proofs.Common.{◌≡◌, ℕ, Bool, true, false, List, [], ◌∷◌, ◌++◌, Option, Some, None, refl, inl, inr}
use Rattle.std.specs.Prelude.{codes, decimal}
use Rattle.dtx_values.specs.declared.advice.Advice.{Advice}
use Rattle.dtx_values.specs.declared.advice.Advice.TheVariants as advices
use Rattle.token_grammar.specs.declared.mark.Mark.TheVariants as marks
use Rattle.token_grammar.specs.declared.token.Token.TheVariants as token
use Rattle.token_grammar.specs.Steps.{begins}
use Rattle.token_grammar.specs.Tokens.{TokenText}
use Rattle.token_grammar.specs.Grammar.{Grammar, is_word, is_mark, passed, word, mark, meant, identifier, number_to, ◌·◌, ◌▹◌, maybe, optional}
use Rattle.dtx_values.specs.Limits.{comment_limit, id_limit, scn_limit, strength_limit}
use Rattle.sql_statement.specs.declared.statement.Stmt.TheVariants as statements
use Rattle.sql_parse.specs.Parts.{built, text_to, itself}
use Rattle.sql_parse.specs.Transactions.{plain_commit, forced_commit, commit, rollback_of, plain_rollback, savepoint_name, rollback_to, rollback, savepoint, set_transaction, advice_in, advise, switch_in, recovery, set_strength, alter_system, alter, argument, is_execute, execute}
use Rattle.sql_print.specs.Printing.{argument_text, printed, quoted_text, scn_text}
use Rattle.sql_print.proofs.WriteLaws.{no_byte, word_written, comma_written, nothing_written, rest_made}
use Rattle.sql_print.proofs.PrintLaws.{Prints, Quiet, prints_pair, prints_after, prints_built, prints_optional, keyword_written, prints_keyword, prints_inner, two_words_written, mark_written, prints_word, prints_word_alone, prints_brackets, prints_after_or, prints_after_built, prints_after_two_or, prints_after_two_built}
use Rattle.sql_print.proofs.PartForms.{sign_written, prints_identifier, prints_number, prints_text}

-- ---- COMMIT, ROLLBACK and SAVEPOINT

-- a word and the part after it, without WORK
prints_no_work : {V : Type 0} (w : List ℕ) (g : Grammar V) (h : V → List ℕ) → TokenText (token.Word w) w → Prints g h → Quiet h
    → Prints (word w ▹ maybe (codes "WORK") ▹ g) (λ v. w ++ h v)
prints_no_work w g h spelled pg quiet = prints_word w (maybe (codes "WORK") ▹ g) h spelled (prints_after (maybe (codes "WORK")) g [] [] h (inl refl) (nothing_written no_byte) pg) quiet

abbrev comment_text : Option (List ℕ) → List ℕ
comment_text None = []
comment_text (Some comment) = codes " COMMENT " ++ quoted_text comment

comment_quiet : Quiet comment_text
comment_quiet None rest h = h
comment_quiet (Some comment) rest h = refl

abbrev comment_part : Grammar (Option (List ℕ))
comment_part = optional (is_word (codes "COMMENT")) (word (codes "COMMENT") ▹ text_to comment_limit)

prints_comment : Prints comment_part comment_text
prints_comment = prints_optional (is_word (codes "COMMENT")) (word (codes "COMMENT") ▹ text_to comment_limit) comment_text refl
    (prints_inner (codes "COMMENT") (text_to comment_limit) quoted_text (refl, refl, refl) (prints_text comment_limit))

same_commit : (comment : Option (List ℕ)) → codes "COMMIT" ++ comment_text comment ≡ printed (statements.Commit comment)
unfolding printed
same_commit None = refl
same_commit (Some comment) = refl

-- an SCN after a comma, where one is given
abbrev scn_part : Grammar (Option ℕ)
scn_part = optional (is_mark marks.Comma) (mark marks.Comma ▹ number_to scn_limit)

prints_scn : Prints scn_part scn_text
prints_scn = prints_optional (is_mark marks.Comma) (mark marks.Comma ▹ number_to scn_limit) scn_text refl
    (prints_after (mark marks.Comma) (number_to scn_limit) (token.Mark marks.Comma ∷ []) (codes ", ") decimal refl (mark_written marks.Comma (codes ",") comma_written) (prints_number scn_limit))

scn_quiet : Quiet scn_text
scn_quiet None rest h = h
scn_quiet (Some scn) rest h = refl

abbrev forced_part : Grammar (List ℕ × Option ℕ)
forced_part = word (codes "FORCE") ▹ (text_to id_limit · scn_part)

-- as it is printed
abbrev forced_text : List ℕ × Option ℕ → List ℕ
forced_text x = codes " FORCE " ++ (quoted_text x.0 ++ scn_text x.1)

prints_forced : Prints forced_part forced_text
prints_forced = prints_inner (codes "FORCE") (text_to id_limit · scn_part) (λ x. quoted_text x.0 ++ scn_text x.1) (refl, refl, refl)
    (prints_pair (text_to id_limit) scn_part quoted_text scn_text (prints_text id_limit) prints_scn scn_quiet)

same_forced : (x : List ℕ × Option ℕ) → codes "COMMIT" ++ forced_text x ≡ printed (statements.CommitForce x.0 x.1)
unfolding printed
same_forced x = refl

-- COMMIT, with a comment or without, and COMMIT FORCE
pub prints_commit : Prints commit printed
unfolding commit
prints_commit = prints_after_two_or (word (codes "COMMIT")) (maybe (codes "WORK")) (begins (is_word (codes "FORCE"))) forced_commit plain_commit printed
    (prints_after_two_built (word (codes "COMMIT")) (maybe (codes "WORK")) (λ x. statements.CommitForce x.0 x.1) forced_part _ printed same_forced
    (prints_no_work (codes "COMMIT") forced_part forced_text (refl, refl, refl) prints_forced (λ x rest h. refl)))
    (prints_after_two_built (word (codes "COMMIT")) (maybe (codes "WORK")) statements.Commit comment_part _ printed same_commit
    (prints_no_work (codes "COMMIT") comment_part comment_text (refl, refl, refl) prints_comment comment_quiet))

abbrev force_text : Option (List ℕ) → List ℕ
force_text None = []
force_text (Some id) = codes " FORCE " ++ quoted_text id

force_quiet : Quiet force_text
force_quiet None rest h = h
force_quiet (Some id) rest h = refl

abbrev force_part : Grammar (Option (List ℕ))
force_part = optional (is_word (codes "FORCE")) (word (codes "FORCE") ▹ text_to id_limit)

same_rollback : (id : Option (List ℕ)) → codes "ROLLBACK" ++ force_text id ≡ printed (rollback_of id)
unfolding printed
same_rollback None = refl
same_rollback (Some id) = refl

prints_force : Prints force_part force_text
prints_force = prints_optional (is_word (codes "FORCE")) (word (codes "FORCE") ▹ text_to id_limit) force_text refl
    (prints_inner (codes "FORCE") (text_to id_limit) quoted_text (refl, refl, refl) (prints_text id_limit))

-- the name of a savepoint is printed without the word SAVEPOINT
prints_savepoint_name : Prints savepoint_name itself
prints_savepoint_name v ts m (inl s) = let x = prints_identifier v s.1 (rest_made ts s.0 s.1 s.4 m) s.3 in (x.0, inr x.1, x.2)
prints_savepoint_name v ts m (inr s) = let x = prints_identifier v ts m s in (x.0, inr x.1, x.2)

abbrev to_part : Grammar (List ℕ)
to_part = word (codes "TO") ▹ savepoint_name

-- as it is printed
abbrev to_text : List ℕ → List ℕ
to_text name = codes " TO " ++ name

same_rollback_to : (name : List ℕ) → codes "ROLLBACK" ++ to_text name ≡ printed (statements.RollbackTo name)
unfolding printed
same_rollback_to name = refl

-- ROLLBACK, ROLLBACK TO and ROLLBACK FORCE
pub prints_rollback : Prints rollback printed
unfolding rollback
prints_rollback = prints_after_two_or (word (codes "ROLLBACK")) (maybe (codes "WORK")) (begins (is_word (codes "TO"))) rollback_to plain_rollback printed
    (prints_after_two_built (word (codes "ROLLBACK")) (maybe (codes "WORK")) statements.RollbackTo to_part _ printed same_rollback_to
    (prints_no_work (codes "ROLLBACK") to_part to_text (refl, refl, refl) (prints_inner (codes "TO") savepoint_name itself (refl, refl, refl) prints_savepoint_name) (λ name rest h. refl)))
    (prints_after_two_built (word (codes "ROLLBACK")) (maybe (codes "WORK")) rollback_of force_part _ printed same_rollback
    (prints_no_work (codes "ROLLBACK") force_part force_text (refl, refl, refl) prints_force force_quiet))

-- SAVEPOINT
pub prints_savepoint : Prints savepoint printed
unfolding savepoint printed
prints_savepoint = prints_built statements.Savepoint (word (codes "SAVEPOINT") ▹ identifier) (λ name. codes "SAVEPOINT " ++ name) printed (λ name. refl)
    (prints_keyword (codes "SAVEPOINT") identifier itself (refl, refl, refl) prints_identifier)

-- ---- SET TRANSACTION

abbrev only_part : Grammar (Unit {0})
only_part = word (codes "READ") ▹ word (codes "ONLY")

prints_only : Prints only_part (λ x. codes "READ " ++ codes "ONLY")
prints_only = prints_keyword (codes "READ") (word (codes "ONLY")) (λ x. codes "ONLY") (refl, refl, refl) (prints_word_alone (codes "ONLY") (refl, refl, refl))

-- SET TRANSACTION READ ONLY
pub prints_set_transaction : Prints set_transaction printed
unfolding set_transaction printed
prints_set_transaction = prints_built (λ x. statements.SetReadOnly) (word (codes "SET") ▹ word (codes "TRANSACTION") ▹ only_part)
    (λ x. codes "SET " ++ (codes "TRANSACTION " ++ (codes "READ " ++ codes "ONLY"))) printed (λ x. refl)
    (prints_keyword (codes "SET") (word (codes "TRANSACTION") ▹ only_part) (λ x. codes "TRANSACTION " ++ (codes "READ " ++ codes "ONLY")) (refl, refl, refl)
    (prints_keyword (codes "TRANSACTION") only_part (λ x. codes "READ " ++ codes "ONLY") (refl, refl, refl) prints_only))

-- ---- ALTER

abbrev advice_text : Option Advice → List ℕ
advice_text None = codes "NOTHING"
advice_text (Some advices.Commit) = codes "COMMIT"
advice_text (Some advices.Rollback) = codes "ROLLBACK"

prints_advice : Prints (meant advice_in) advice_text
prints_advice None ts m s = (token.Word (codes "NOTHING") ∷ [], (token.Word (codes "NOTHING"), refl, refl), word_written (codes "NOTHING") (refl, refl, refl))
prints_advice (Some advices.Commit) ts m s = (token.Word (codes "COMMIT") ∷ [], (token.Word (codes "COMMIT"), refl, refl), word_written (codes "COMMIT") (refl, refl, refl))
prints_advice (Some advices.Rollback) ts m s = (token.Word (codes "ROLLBACK") ∷ [], (token.Word (codes "ROLLBACK"), refl, refl), word_written (codes "ROLLBACK") (refl, refl, refl))

same_advise : (advice : Option Advice) → codes "ALTER " ++ (codes "SESSION " ++ (codes "ADVISE " ++ advice_text advice)) ≡ printed (statements.Advise advice)
unfolding printed
same_advise None = refl
same_advise (Some advices.Commit) = refl
same_advise (Some advices.Rollback) = refl

abbrev switch_text : Bool → List ℕ
switch_text true = codes "ENABLE"
switch_text false = codes "DISABLE"

prints_switch : Prints (meant switch_in) switch_text
prints_switch true ts m s = (token.Word (codes "ENABLE") ∷ [], (token.Word (codes "ENABLE"), refl, refl), word_written (codes "ENABLE") (refl, refl, refl))
prints_switch false ts m s = (token.Word (codes "DISABLE") ∷ [], (token.Word (codes "DISABLE"), refl, refl), word_written (codes "DISABLE") (refl, refl, refl))

prints_recovery_words : Prints (word (codes "DISTRIBUTED") ▹ word (codes "RECOVERY")) (λ x. codes " DISTRIBUTED RECOVERY")
prints_recovery_words x ts m s = (
  token.Word (codes "DISTRIBUTED") ∷ token.Word (codes "RECOVERY") ∷ [],
  (token.Word (codes "DISTRIBUTED") ∷ [], token.Word (codes "RECOVERY") ∷ [], refl, refl, refl),
  two_words_written (codes "DISTRIBUTED") (codes "RECOVERY") (refl, refl, refl) (refl, refl, refl),
)

same_recovery : (on : Bool) → codes "ALTER " ++ (codes "SYSTEM " ++ (switch_text on ++ codes " DISTRIBUTED RECOVERY")) ≡ printed (statements.Recovery on)
unfolding printed
same_recovery true = refl
same_recovery false = refl

-- ALTER before a part
prints_altered : {V : Type 0} (g : Grammar V) (f : V → List ℕ) → Prints g f → Prints (word (codes "ALTER") ▹ g) (λ v. codes "ALTER " ++ f v)
prints_altered g f pg = prints_keyword (codes "ALTER") g f (refl, refl, refl) pg

abbrev advise_part : Grammar (Option Advice)
advise_part = word (codes "SESSION") ▹ word (codes "ADVISE") ▹ meant advice_in

prints_advise : Prints (word (codes "ALTER") ▹ advise) printed
prints_advise = prints_after_built (word (codes "ALTER")) statements.Advise advise_part _ printed same_advise
    (prints_altered advise_part (λ x. codes "SESSION " ++ (codes "ADVISE " ++ advice_text x))
    (prints_keyword (codes "SESSION") (word (codes "ADVISE") ▹ meant advice_in) (λ x. codes "ADVISE " ++ advice_text x) (refl, refl, refl)
    (prints_keyword (codes "ADVISE") (meant advice_in) advice_text (refl, refl, refl) prints_advice)))

-- ALTER SYSTEM before a part
prints_altered_system : {V : Type 0} (g : Grammar V) (f : V → List ℕ) → Prints g f → Prints (word (codes "ALTER") ▹ word (codes "SYSTEM") ▹ g) (λ v. codes "ALTER " ++ (codes "SYSTEM " ++ f v))
prints_altered_system g f pg = prints_altered (word (codes "SYSTEM") ▹ g) (λ v. codes "SYSTEM " ++ f v) (prints_keyword (codes "SYSTEM") g f (refl, refl, refl) pg)

abbrev recovery_part : Grammar (Bool × Unit {0})
recovery_part = meant switch_in · (word (codes "DISTRIBUTED") ▹ word (codes "RECOVERY"))

-- as it is printed
abbrev recovery_part_text : Bool × Unit {0} → List ℕ
recovery_part_text x = switch_text x.0 ++ codes " DISTRIBUTED RECOVERY"

prints_recovery : Prints (word (codes "ALTER") ▹ word (codes "SYSTEM") ▹ recovery) printed
prints_recovery = prints_after_two_built (word (codes "ALTER")) (word (codes "SYSTEM")) (λ x. statements.Recovery x.0) recovery_part
    (λ x. codes "ALTER " ++ (codes "SYSTEM " ++ recovery_part_text x)) printed (λ x. same_recovery x.0)
    (prints_altered_system recovery_part recovery_part_text
    (prints_pair (meant switch_in) (word (codes "DISTRIBUTED") ▹ word (codes "RECOVERY")) switch_text (λ x. codes " DISTRIBUTED RECOVERY") prints_switch prints_recovery_words (λ x rest h. refl)))

-- the sign and the number
abbrev digits_part : Grammar ℕ
digits_part = mark marks.Equal ▹ number_to strength_limit

prints_digits : Prints digits_part (λ n. codes " = " ++ decimal n)
prints_digits = prints_after (mark marks.Equal) (number_to strength_limit) (token.Mark marks.Equal ∷ []) (codes " = ") decimal refl
    (sign_written (token.Mark marks.Equal) (codes "=") refl (λ rest. refl)) (prints_number strength_limit)

abbrev strength_part : Grammar ℕ
strength_part = word (codes "SET") ▹ word (codes "COMMIT_POINT_STRENGTH") ▹ digits_part

-- as it is printed
abbrev strength_part_text : ℕ → List ℕ
strength_part_text n = codes "SET " ++ (codes "COMMIT_POINT_STRENGTH" ++ (codes " = " ++ decimal n))

same_strength : (n : ℕ) → codes "ALTER " ++ (codes "SYSTEM " ++ strength_part_text n) ≡ printed (statements.SetStrength n)
unfolding printed
same_strength n = refl

prints_set_strength : Prints (word (codes "ALTER") ▹ word (codes "SYSTEM") ▹ set_strength) printed
prints_set_strength = prints_after_two_built (word (codes "ALTER")) (word (codes "SYSTEM")) statements.SetStrength strength_part
    (λ n. codes "ALTER " ++ (codes "SYSTEM " ++ strength_part_text n)) printed same_strength
    (prints_altered_system strength_part strength_part_text
    (prints_keyword (codes "SET") (word (codes "COMMIT_POINT_STRENGTH") ▹ digits_part) (λ n. codes "COMMIT_POINT_STRENGTH" ++ (codes " = " ++ decimal n)) (refl, refl, refl)
    (prints_word (codes "COMMIT_POINT_STRENGTH") digits_part (λ n. codes " = " ++ decimal n) (refl, refl, refl) prints_digits (λ n rest h. refl))))

prints_alter_system : Prints (word (codes "ALTER") ▹ alter_system) printed
prints_alter_system = prints_after_two_or (word (codes "ALTER")) (word (codes "SYSTEM")) (begins (is_word (codes "SET"))) set_strength recovery printed prints_set_strength prints_recovery

-- ALTER SESSION ADVISE, and ALTER SYSTEM SET COMMIT_POINT_STRENGTH and ENABLE or DISABLE DISTRIBUTED RECOVERY
pub prints_alter : Prints alter printed
unfolding alter
prints_alter = prints_after_or (word (codes "ALTER")) (begins (is_word (codes "SESSION"))) advise alter_system printed prints_advise prints_alter_system

-- ---- EXECUTE

prints_argument : Prints argument argument_text
prints_argument = prints_brackets (text_to id_limit) quoted_text (prints_text id_limit)

prints_purge : (w : List ℕ) → TokenText (token.Word w) w → Prints (passed is_execute ▹ word w ▹ argument) (λ x. codes "EXECUTE " ++ (w ++ argument_text x))
prints_purge w spelled = prints_after (passed is_execute) (word w ▹ argument) (token.Word (codes "EXECUTE") ∷ []) (codes "EXECUTE ") (λ x. w ++ argument_text x)
    (token.Word (codes "EXECUTE"), refl, refl) (keyword_written (codes "EXECUTE") (refl, refl, refl))
    (prints_word w argument argument_text spelled prints_argument (λ x rest h. refl))

same_mixed : (id : List ℕ) → codes "EXECUTE " ++ (codes "DBMS_TRANSACTION.PURGE_MIXED" ++ argument_text id) ≡ printed (statements.PurgeMixed id)
unfolding printed
same_mixed id = refl

same_lost : (id : List ℕ) → codes "EXECUTE " ++ (codes "DBMS_TRANSACTION.PURGE_LOST_DB_ENTRY" ++ argument_text id) ≡ printed (statements.PurgeLost id)
unfolding printed
same_lost id = refl

abbrev mixed_part : Grammar (List ℕ)
mixed_part = word (codes "DBMS_TRANSACTION.PURGE_MIXED") ▹ argument

abbrev lost_part : Grammar (List ℕ)
lost_part = word (codes "DBMS_TRANSACTION.PURGE_LOST_DB_ENTRY") ▹ argument

-- EXECUTE of a purge
pub prints_execute : Prints execute printed
unfolding execute
prints_execute = prints_after_or (passed is_execute) (begins (is_word (codes "DBMS_TRANSACTION.PURGE_MIXED")))
    (built statements.PurgeMixed mixed_part) (built statements.PurgeLost lost_part) printed
    (prints_after_built (passed is_execute) statements.PurgeMixed mixed_part _ printed same_mixed (prints_purge (codes "DBMS_TRANSACTION.PURGE_MIXED") (refl, refl, refl)))
    (prints_after_built (passed is_execute) statements.PurgeLost lost_part _ printed same_lost (prints_purge (codes "DBMS_TRANSACTION.PURGE_LOST_DB_ENTRY") (refl, refl, refl)))
