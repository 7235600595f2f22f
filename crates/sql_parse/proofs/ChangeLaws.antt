-- INSERT, UPDATE, DELETE and SELECT are exact.
use Rattle.std.proofs.Common.{◌≡◌, ℕ, Bool, true, false, List, [], ◌∷◌, ◌++◌, Some, None, refl, append_assoc, inl, inr}
use Rattle.std.specs.Prelude.{codes}
use Rattle.std.specs.List.{list_all}
use Rattle.token_grammar.specs.declared.mark.Mark.{Mark}
use Rattle.token_grammar.specs.declared.mark.Mark.TheVariants as marks
use Rattle.token_grammar.specs.declared.token.Token.{Token}
use Rattle.token_grammar.specs.declared.token.Token.TheVariants as token
use Rattle.token_grammar.specs.Steps.{begins}
use Rattle.token_grammar.specs.Grammar.{Grammar, is_word, is_mark, nothing, anything, either, word, mark, identifier, identifier_of, identifier_in, ◌·◌, ◌▹◌, ◌◃◌, maybe, optional, commas}
use Rattle.token_grammar.specs.Exact.{IsExact, Leads, Apart, Meets, Shows}
use Rattle.token_grammar.proofs.Beginnings.{begins-append, begins_nothing, either_right, is_word_is, is_mark_is, leads_word, leads_mark, leads_after, leads_optional, leads_pair, led, apart_words, apart_mark_word, apart_marks, apart_nothing, apart_either, apart_from_either, optional_meets, ends_all}
use Rattle.token_grammar.proofs.OneToken.{word_exact, mark_exact, meant_exact, maybe_exact}
use Rattle.token_grammar.proofs.Parts.{after, after_exact, pair_exact, seq, seq_led, optional_exact}
use Rattle.token_grammar.proofs.Values.{mapped_exact, tested_exact, shows_two, list_shows_none}
use Rattle.sql_statement.specs.Distinct.{are_distinct}
use Rattle.sql_statement.specs.declared.query.Picked.{Picked}
use Rattle.sql_statement.specs.declared.query.Picked.TheVariants as picked
use Rattle.sql_statement.specs.declared.statement.TableRef.{TableRef}
use Rattle.sql_statement.specs.declared.condition.Cond.{Cond}
use Rattle.sql_statement.specs.declared.sum.Sum.{Sum}
use Rattle.sql_parse.specs.Parts.{or_else, built, mark_of, stands, in_brackets, itself}
use Rattle.sql_parse.specs.Literals.{table_ref, is_step, sum, is_constant}
use Rattle.sql_parse.specs.Conditions.{conditions}
use Rattle.sql_parse.specs.Changes.{column_names, constants, insert, assignment, left_side, assignments, update, delete, count, sum_of, columns, opens, picks, may_lock, select}
use Rattle.sql_parse.proofs.PartLaws.{or_else_exact, built_exact, widened, fails, fails_so, fails_apart, reserved_is_no_name, stands_exact, optional_misses, brackets_exact, commas_exact}
use Rattle.sql_parse.proofs.LiteralLaws.{after_table, table_ref_exact, after_sum, sum_exact}
use Rattle.sql_parse.proofs.ConditionLaws.{after_conditions, conditions_exact, conditions_meet}

-- ---- What may follow a table, a sum, conditions.

apart_table_word : (w : List ℕ) → Apart after_table (is_word w)
apart_table_word w = apart_either _ _ _ (apart_mark_word marks.At w) (apart_nothing _)

apart_table_mark : (m : Mark) → Apart (is_mark marks.At) (is_mark m) → Apart after_table (is_mark m)
apart_table_mark m apart = apart_either _ _ _ apart (apart_nothing _)

step_is_no_word : (w : List ℕ) → Apart is_step (is_word w)
step_is_no_word w t h = rw (is_word_is w t h) refl

apart_sum_word : (w : List ℕ) → Apart after_sum (is_word w)
apart_sum_word w = apart_either _ _ _ (step_is_no_word w) (apart_nothing _)

apart_sum_mark : (m : Mark) → is_step (token.Mark m) ≡ false → Apart after_sum (is_mark m)
apart_sum_mark m other = apart_either _ _ _ (λ t h. rw (is_mark_is m t h) other) (apart_nothing _)

-- ---- INSERT

column_names_exact : IsExact column_names nothing
column_names_exact = tested_exact (are_distinct itself) (in_brackets (commas identifier)) _ (brackets_exact (commas identifier) _ (commas_exact identifier nothing (meant_exact identifier_in) (apart_nothing _))
    (apart_either _ _ _ (apart_marks marks.Comma marks.Close refl) (apart_nothing _)))

leads_names : Leads column_names (is_mark marks.Open)
leads_names v ts s = rw (s.0.4, s.0.2) refl

constants_exact : IsExact constants nothing
constants_exact = tested_exact (list_all is_constant) (in_brackets (commas sum)) _ (brackets_exact (commas sum) _ (commas_exact sum after_sum sum_exact (apart_sum_mark marks.Comma refl))
    (apart_either _ _ _ (apart_marks marks.Comma marks.Close refl) (apart_sum_mark marks.Close refl)))

abbrev values_part : Grammar (List Sum)
values_part = word (codes "VALUES") ▹ constants

leads_values : Leads values_part (is_word (codes "VALUES"))
leads_values = leads_after (word (codes "VALUES")) constants _ (leads_word (codes "VALUES"))

-- INSERT
pub insert_exact : IsExact insert anything
unfolding insert
insert_exact = ends_all (built _ (word (codes "INSERT") ▹ word (codes "INTO") ▹ (table_ref · (optional (is_mark marks.Open) column_names · values_part)))) _
    (built_exact _ _ _ (after (word_exact _) (after (word_exact _)
    (seq_led (either (is_mark marks.Open) (is_word (codes "VALUES"))) table_ref_exact
    (seq_led (is_word (codes "VALUES")) (optional_exact column_names _ nothing column_names_exact leads_names) (after (word_exact _) constants_exact) leads_values
    (apart_either _ _ _ (apart_mark_word marks.Open (codes "VALUES")) (apart_nothing _)))
    (leads_optional column_names values_part _ _ leads_names leads_values)
    (apart_from_either _ _ _ (apart_table_mark marks.Open (apart_marks marks.At marks.Open refl)) (apart_table_word (codes "VALUES")))))))

-- ---- UPDATE

assignment_exact : IsExact assignment after_sum
unfolding assignment
assignment_exact = mapped_exact _ _ _ _ (seq (meant_exact identifier_in) (after (mark_exact marks.Equal) sum_exact)) (λ a ts s. refl) (λ b. refl)

abbrev after_assignments : Token → Bool
after_assignments = either (is_mark marks.Comma) after_sum

assignments_exact : IsExact assignments after_assignments
assignments_exact = tested_exact (are_distinct left_side) (commas assignment) _ (commas_exact assignment after_sum assignment_exact (apart_sum_mark marks.Comma refl))

-- UPDATE
pub update_exact : IsExact update anything
unfolding update
update_exact = ends_all (built _ (word (codes "UPDATE") ▹ (table_ref · (word (codes "SET") ▹ (assignments · conditions))))) _
    (built_exact _ _ _ (after (word_exact _) (seq_led (is_word (codes "SET")) table_ref_exact
    (after (word_exact _) (pair_exact assignments conditions after_assignments after_conditions _ assignments_exact conditions_exact
    (conditions_meet after_assignments (apart_either _ _ _ (apart_mark_word marks.Comma (codes "WHERE")) (apart_sum_word (codes "WHERE"))))))
    (leads_after (word (codes "SET")) (assignments · conditions) _ (leads_word (codes "SET"))) (apart_table_word (codes "SET")))))

-- ---- DELETE

-- FROM is reserved
from_is_none : identifier_of (codes "FROM") ≡ None
from_is_none = refl

abbrev no_from : Token → Bool
no_from = fails (is_word (codes "FROM"))

table_is_no_from : Leads table_ref no_from
unfolding table_ref
table_is_no_from v ts s = rw (s.4, s.2.1) (fails_so (is_word (codes "FROM")) s.2.0 (reserved_is_no_name (codes "FROM") from_is_none s.2.0 v.name s.2.2))

abbrev from_part : Grammar (TableRef × List Cond)
from_part = table_ref · conditions

from_part_exact : IsExact from_part anything
from_part_exact = ends_all from_part _ (pair_exact table_ref conditions after_table after_conditions _ table_ref_exact conditions_exact (conditions_meet after_table (apart_table_word (codes "WHERE"))))

-- DELETE
pub delete_exact : IsExact delete anything
unfolding delete
delete_exact = built_exact _ _ _ (after (word_exact _) (after_exact (maybe (codes "FROM")) from_part _ anything anything (maybe_exact (codes "FROM")) from_part_exact
    (led _ from_part anything no_from (leads_pair table_ref conditions no_from table_is_no_from) (fails_apart _))))

-- ---- SELECT

-- after a list: more columns, or `(`, by which a column would be none
abbrev after_list : Token → Bool
after_list = either (is_mark marks.Open) (either (is_mark marks.Comma) nothing)

from_nothing : (ts : List Token) → begins after_list ts ≡ false → begins nothing ts ≡ false
from_nothing ts h = begins_nothing ts

count_exact : IsExact count nothing
count_exact = built_exact _ _ _ (after (word_exact _) (brackets_exact (mark marks.Star) nothing (mark_exact marks.Star) (apart_nothing _)))

sum_of_exact : IsExact sum_of nothing
sum_of_exact = built_exact _ _ _ (after (word_exact _) (brackets_exact identifier nothing (meant_exact identifier_in) (apart_nothing _)))

columns_exact : IsExact columns (either (is_mark marks.Comma) nothing)
columns_exact = built_exact _ _ _ (tested_exact _ (commas identifier) _ (commas_exact identifier nothing (meant_exact identifier_in) (apart_nothing _)))

identifier_is_no_mark : (m : Mark) (t : Token) (v : List ℕ) → identifier_in t ≡ Some v → is_mark m t ≡ false
identifier_is_no_mark m (token.Word w) v e = refl
identifier_is_no_mark m (token.Number n) v e = absurd cc
identifier_is_no_mark m (token.Quoted s) v e = absurd cc
identifier_is_no_mark m (token.Mark k) v e = absurd cc

names_are_no_mark : (m : Mark) (names : List (List ℕ)) (ts rest : List Token) → (commas identifier).Spells names ts → begins (is_mark m) (ts ++ rest) ≡ false
names_are_no_mark m [] ts rest s = absurd s
names_are_no_mark m (n ∷ names) ts rest s = rw (s.4, s.2.1) (identifier_is_no_mark m s.2.0 n s.2.2)

columns_do_not_open : (w : List ℕ) → Shows columns (opens w) after_list false
columns_do_not_open w v ts rest s ends =
    list_shows_none identifier_in (mark marks.Comma) (is_word w) (is_mark marks.Open) (is_mark marks.Comma) (leads_mark marks.Comma) (apart_marks marks.Open marks.Comma refl) s.0 ts rest s.1.0 ends

-- SUM ( id ) | id {, id}
abbrev sum_or_columns : Grammar Picked
sum_or_columns = or_else (opens (codes "SUM")) sum_of columns

sum_shows : Shows sum_of (opens (codes "SUM")) after_list true
sum_shows v ts rest s ends = shows_two (codes "SUM") (in_brackets identifier) (is_mark marks.Open) after_list (leads_after (mark marks.Open) (identifier ◃ mark marks.Close) _ (leads_mark marks.Open)) s.0 ts rest s.1 ends

sum_or_columns_exact : IsExact sum_or_columns after_list
sum_or_columns_exact = or_else_exact (opens (codes "SUM")) sum_of columns after_list (widened sum_of nothing after_list sum_of_exact from_nothing)
    (widened columns _ after_list columns_exact (λ ts h. either_right _ _ ts h)) sum_shows (columns_do_not_open (codes "SUM"))

count_shows : Shows count (opens (codes "COUNT")) after_list true
count_shows v ts rest s ends = shows_two (codes "COUNT") (in_brackets (mark marks.Star)) (is_mark marks.Open) after_list (leads_after (mark marks.Open) (mark marks.Star ◃ mark marks.Close) _ (leads_mark marks.Open)) s.0 ts rest s.1 ends

no_count : Shows sum_or_columns (opens (codes "COUNT")) after_list false
no_count v ts rest (inl s) ends = rw (s.1.4, s.1.2) refl
no_count v ts rest (inr s) ends = columns_do_not_open (codes "COUNT") v ts rest s ends

-- COUNT ( * ) | SUM ( id ) | id {, id}
abbrev no_star_part : Grammar Picked
no_star_part = or_else (opens (codes "COUNT")) count sum_or_columns

no_star_exact : IsExact no_star_part after_list
no_star_exact = or_else_exact (opens (codes "COUNT")) count sum_or_columns after_list (widened count nothing after_list count_exact from_nothing) sum_or_columns_exact count_shows no_count

no_star : Shows no_star_part (begins (is_mark marks.Star)) after_list false
no_star v ts rest (inl s) ends = rw (s.1.4, s.1.2) refl
no_star v ts rest (inr (inl s)) ends = rw (s.1.4, s.1.2) refl
no_star v ts rest (inr (inr s)) ends = names_are_no_mark marks.Star s.0 ts rest s.1.0

abbrev star_part : Grammar Picked
star_part = built (λ x. picked.All) (mark marks.Star)

picks_exact : IsExact picks after_list
unfolding picks
picks_exact = or_else_exact (begins (is_mark marks.Star)) star_part no_star_part after_list
    (widened star_part nothing after_list (built_exact _ (mark marks.Star) _ (mark_exact marks.Star)) from_nothing) no_star_exact
    (λ v ts rest s ends. begins-append (is_mark marks.Star) ts rest (leads_mark marks.Star s.0 ts s.1)) no_star

-- FOR UPDATE
abbrev lock_part : Grammar (Unit {0})
lock_part = word (codes "FOR") ▹ word (codes "UPDATE")

leads_lock : Leads lock_part (is_word (codes "FOR"))
leads_lock = leads_after (word (codes "FOR")) (word (codes "UPDATE")) _ (leads_word (codes "FOR"))

abbrev lock : Grammar Bool
lock = stands (is_word (codes "FOR")) lock_part

-- [WHERE conds] [FOR UPDATE]
abbrev tail : Grammar (List Cond × Bool)
tail = conditions · lock

apart_conditions : Apart after_conditions (is_word (codes "FOR"))
apart_conditions = apart_either _ _ _ (apart_words (codes "WHERE") (codes "FOR") refl) (apart_either _ _ _ (apart_words (codes "AND") (codes "FOR") refl) (apart_nothing _))

tail_exact : IsExact tail anything
tail_exact = ends_all tail _ (pair_exact conditions lock after_conditions _ _ conditions_exact (stands_exact (is_word (codes "FOR")) nothing lock_part (after (word_exact _) (word_exact _)) leads_lock)
    (λ b. optional_meets after_conditions (is_word (codes "FOR")) nothing lock_part leads_lock apart_conditions (mark_of b)))

tail_meets : Meets after_table tail anything anything
tail_meets v ts rest s ends =
    let later = optional_misses (either after_table after_conditions) (is_word (codes "FOR")) lock_part leads_lock (apart_either _ _ _ (apart_table_word (codes "FOR")) apart_conditions) (mark_of v.1) s.1 rest s.3 ends in
    let first = conditions_meet after_table (apart_table_word (codes "WHERE")) v.0 s.0 (s.1 ++ rest) s.2 later in
    (rw (s.4, append_assoc s.0 s.1 rest) first.0, ends)

-- SELECT
pub select_exact : IsExact select anything
unfolding select
select_exact = tested_exact may_lock _ _ (built_exact _ _ _ (after (word_exact _) (seq_led (is_word (codes "FROM")) picks_exact
    (after (word_exact _) (pair_exact table_ref tail after_table anything anything table_ref_exact tail_exact tail_meets))
    (leads_after (word (codes "FROM")) (table_ref · tail) _ (leads_word (codes "FROM")))
    (apart_either _ _ _ (apart_mark_word marks.Open (codes "FROM")) (apart_either _ _ _ (apart_mark_word marks.Comma (codes "FROM")) (apart_nothing _))))))
