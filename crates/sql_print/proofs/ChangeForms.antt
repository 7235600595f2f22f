-- The printed texts of INSERT, UPDATE, DELETE and SELECT are tokens that spell them again.
use Rattle.std.proofs.Common.{◌≡◌, ℕ, Bool, true, false, List, [], ◌∷◌, ◌++◌, Option, Some, None, refl, inr}
use Rattle.std.specs.Prelude.{codes, nat_le, length}
use Rattle.std.specs.List.{list_all}
use Rattle.token_grammar.specs.declared.mark.Mark.TheVariants as marks
use Rattle.token_grammar.specs.declared.token.Token.TheVariants as token
use Rattle.token_grammar.specs.Steps.{begins}
use Rattle.token_grammar.specs.Grammar.{Grammar, is_word, is_mark, word, mark, identifier, ◌·◌, ◌▹◌, maybe, optional, commas, tested}
use Rattle.dtx_values.specs.Limits.{select_limit}
use Rattle.sql_statement.specs.Distinct.{are_distinct}
use Rattle.sql_statement.specs.declared.statement.Stmt.{Stmt}
use Rattle.sql_statement.specs.declared.statement.Stmt.TheVariants as statements
use Rattle.sql_statement.specs.declared.query.Picked.{Picked}
use Rattle.sql_statement.specs.declared.query.Picked.TheVariants as picked
use Rattle.sql_statement.specs.declared.condition.Cond.{Cond}
use Rattle.sql_statement.specs.declared.statement.TableRef.{TableRef}
use Rattle.sql_statement.specs.declared.statement.Set.{Set}
use Rattle.sql_statement.specs.declared.sum.Sum.{Sum}
use Rattle.sql_parse.specs.Parts.{or_else, built, stands, in_brackets, itself}
use Rattle.sql_parse.specs.Literals.{table_ref, sum, is_constant}
use Rattle.sql_parse.specs.Conditions.{conditions}
use Rattle.sql_parse.specs.Changes.{column_names, constants, insert, assignment, left_side, assignments, update, delete, count, sum_of, columns, opens, picks, may_lock, select}
use Rattle.sql_print.specs.Printing.{bracketed_text, if_text, names_text, picked_text, printed, separated_text, set_text, sum_text, table_text, where_text}
use Rattle.sql_print.proofs.WriteLaws.{goes_on, star_written, nothing_written, ended}
use Rattle.sql_print.proofs.PrintLaws.{Prints, Quiet, prints_pair, prints_after, prints_built, prints_tested, prints_or_else, prints_optional, prints_blank, keyword_written, prints_keyword, prints_inner, two_words_written, prints_word, prints_brackets, prints_commas}
use Rattle.sql_print.proofs.PartForms.{prints_identifier, prints_table, prints_sum, sign_written, prints_conditions, where_quiet}

-- ---- INSERT

-- one or more in brackets, with commas between them
prints_bracketed : {V : Type 0} (g : Grammar V) (f : V → List ℕ) → Prints g f → Prints (in_brackets (commas g)) (bracketed_text f)
prints_bracketed g f pg = prints_brackets (commas g) (separated_text (codes ", ") f) (prints_commas g f pg)

prints_column_names : Prints column_names (bracketed_text itself)
prints_column_names = prints_tested (are_distinct itself) (in_brackets (commas identifier)) (bracketed_text itself) (prints_bracketed identifier itself prints_identifier)

prints_names : Prints (optional (is_mark marks.Open) column_names) names_text
prints_names = prints_optional (is_mark marks.Open) column_names names_text refl (prints_blank column_names (bracketed_text itself) prints_column_names)

prints_constants : Prints constants (bracketed_text sum_text)
prints_constants = prints_tested (list_all is_constant) (in_brackets (commas sum)) (bracketed_text sum_text) (prints_bracketed sum sum_text prints_sum)

prints_values : Prints (word (codes "VALUES") ▹ constants) (λ x. codes " VALUES " ++ bracketed_text sum_text x)
prints_values = prints_inner (codes "VALUES") constants (bracketed_text sum_text) (refl, refl, refl) prints_constants

names_quiet : (names : Option (List (List ℕ))) (x rest : List ℕ) → begins goes_on ((names_text names ++ (codes " VALUES " ++ x)) ++ rest) ≡ false
names_quiet None x rest = refl
names_quiet (Some names) x rest = refl

-- what is inserted, and where
abbrev inserted : Grammar (TableRef × (Option (List (List ℕ)) × List Sum))
inserted = table_ref · (optional (is_mark marks.Open) column_names · (word (codes "VALUES") ▹ constants))

-- as it is printed
abbrev inserted_text : TableRef × (Option (List (List ℕ)) × List Sum) → List ℕ
inserted_text x = table_text x.0 ++ (names_text x.1.0 ++ (codes " VALUES " ++ bracketed_text sum_text x.1.1))

-- INSERT
pub prints_insert : Prints insert printed
unfolding insert printed
prints_insert = prints_built _ (word (codes "INSERT") ▹ word (codes "INTO") ▹ inserted) (λ x. codes "INSERT " ++ (codes "INTO " ++ inserted_text x)) printed (λ a. refl)
    (prints_keyword (codes "INSERT") (word (codes "INTO") ▹ inserted) (λ x. codes "INTO " ++ inserted_text x) (refl, refl, refl)
    (prints_keyword (codes "INTO") inserted inserted_text (refl, refl, refl)
    (prints_pair table_ref (optional (is_mark marks.Open) column_names · (word (codes "VALUES") ▹ constants)) table_text _ prints_table
    (prints_pair (optional (is_mark marks.Open) column_names) (word (codes "VALUES") ▹ constants) names_text _ prints_names prints_values (λ x rest h. refl))
    (λ x rest h. names_quiet x.0 (bracketed_text sum_text x.1) rest))))

-- ---- UPDATE

prints_assignment : Prints assignment set_text
unfolding assignment
prints_assignment v ts m s =
    let equal_written = sign_written (token.Mark marks.Equal) (codes "=") refl (λ rest. refl) in
    prints_pair identifier (mark marks.Equal ▹ sum) itself (λ x. codes " = " ++ sum_text x) prints_identifier
    (prints_after (mark marks.Equal) sum (token.Mark marks.Equal ∷ []) (codes " = ") sum_text refl equal_written prints_sum) (λ x rest h. refl) (v.column, v.to) ts m s

prints_assignments : Prints assignments (separated_text (codes ", ") set_text)
prints_assignments = prints_tested (are_distinct left_side) (commas assignment) (separated_text (codes ", ") set_text) (prints_commas assignment set_text prints_assignment)

prints_set : Prints (word (codes "SET") ▹ (assignments · conditions)) (λ x. codes " SET " ++ (separated_text (codes ", ") set_text x.0 ++ where_text x.1))
prints_set = prints_inner (codes "SET") (assignments · conditions) _ (refl, refl, refl)
    (prints_pair assignments conditions (separated_text (codes ", ") set_text) where_text prints_assignments prints_conditions where_quiet)

-- what is updated
abbrev updated : Grammar (TableRef × (List Set × List Cond))
updated = table_ref · (word (codes "SET") ▹ (assignments · conditions))

-- as it is printed
abbrev updated_text : TableRef × (List Set × List Cond) → List ℕ
updated_text x = table_text x.0 ++ (codes " SET " ++ (separated_text (codes ", ") set_text x.1.0 ++ where_text x.1.1))

-- UPDATE
pub prints_update : Prints update printed
unfolding update printed
prints_update = prints_built _ (word (codes "UPDATE") ▹ updated) (λ x. codes "UPDATE " ++ updated_text x) printed (λ a. refl)
    (prints_keyword (codes "UPDATE") updated updated_text (refl, refl, refl)
    (prints_pair table_ref (word (codes "SET") ▹ (assignments · conditions)) table_text _ prints_table prints_set (λ x rest h. refl)))

-- ---- DELETE

-- which rows are deleted
abbrev deleted : Grammar (TableRef × List Cond)
deleted = table_ref · conditions

-- as it is printed
abbrev deleted_text : TableRef × List Cond → List ℕ
deleted_text x = table_text x.0 ++ where_text x.1

-- DELETE
pub prints_delete : Prints delete printed
unfolding delete printed
prints_delete = prints_built _ (word (codes "DELETE") ▹ maybe (codes "FROM") ▹ deleted) (λ x. codes "DELETE " ++ (codes "FROM " ++ deleted_text x)) printed (λ a. refl)
    (prints_keyword (codes "DELETE") (maybe (codes "FROM") ▹ deleted) (λ x. codes "FROM " ++ deleted_text x) (refl, refl, refl)
    (prints_after (maybe (codes "FROM")) deleted (token.Word (codes "FROM") ∷ []) (codes "FROM ") deleted_text (inr refl) (keyword_written (codes "FROM") (refl, refl, refl))
    (prints_pair table_ref conditions table_text where_text prints_table prints_conditions where_quiet)))

-- ---- SELECT

prints_star : Prints (mark marks.Star) (λ x. codes "*")
prints_star v ts m s = (token.Mark marks.Star ∷ [], refl, ended (token.Mark marks.Star ∷ []) (codes "*") star_written)

prints_count : Prints count picked_text
prints_count = prints_built _ (word (codes "COUNT") ▹ in_brackets (mark marks.Star)) (λ x. codes "COUNT" ++ (codes "(" ++ (codes "*" ++ codes ")"))) picked_text (λ a. refl)
    (prints_word (codes "COUNT") (in_brackets (mark marks.Star)) (λ x. codes "(" ++ (codes "*" ++ codes ")")) (refl, refl, refl)
    (prints_brackets (mark marks.Star) (λ x. codes "*") prints_star) (λ x rest h. refl))

prints_sum_of : Prints sum_of picked_text
prints_sum_of = prints_built _ (word (codes "SUM") ▹ in_brackets identifier) (λ x. codes "SUM" ++ (codes "(" ++ (x ++ codes ")"))) picked_text (λ a. refl)
    (prints_word (codes "SUM") (in_brackets identifier) (λ x. codes "(" ++ (x ++ codes ")")) (refl, refl, refl)
    (prints_brackets identifier itself prints_identifier) (λ x rest h. refl))

-- not too many columns
abbrev are_few : List (List ℕ) → Bool
are_few names = nat_le (length names) select_limit

prints_columns : Prints columns picked_text
prints_columns = prints_built picked.Columns (tested are_few (commas identifier)) (separated_text (codes ", ") itself) picked_text (λ a. refl)
    (prints_tested are_few (commas identifier) (separated_text (codes ", ") itself) (prints_commas identifier itself prints_identifier))

abbrev star_part : Grammar Picked
star_part = built (λ x. picked.All) (mark marks.Star)

abbrev sum_or_columns : Grammar Picked
sum_or_columns = or_else (opens (codes "SUM")) sum_of columns

prints_picks : Prints picks picked_text
unfolding picks
prints_picks = prints_or_else (begins (is_mark marks.Star)) star_part (or_else (opens (codes "COUNT")) count sum_or_columns) picked_text
    (prints_built (λ x. picked.All) (mark marks.Star) (λ x. codes "*") picked_text (λ a. refl) prints_star)
    (prints_or_else (opens (codes "COUNT")) count sum_or_columns picked_text prints_count (prints_or_else (opens (codes "SUM")) sum_of columns picked_text prints_sum_of prints_columns))

-- FOR UPDATE
abbrev lock_part : Grammar (Unit {0})
lock_part = word (codes "FOR") ▹ word (codes "UPDATE")

abbrev lock_text : Bool → List ℕ
lock_text locks = if_text locks (codes " FOR UPDATE")

prints_lock : Prints (stands (is_word (codes "FOR")) lock_part) lock_text
prints_lock false ts m s = ([], refl, nothing_written goes_on)
prints_lock true ts m s = (
  token.Word (codes "FOR") ∷ token.Word (codes "UPDATE") ∷ [],
  (token.Word (codes "FOR") ∷ [], token.Word (codes "UPDATE") ∷ [], refl, refl, refl),
  two_words_written (codes "FOR") (codes "UPDATE") (refl, refl, refl) (refl, refl, refl),
)

lock_quiet : Quiet lock_text
lock_quiet false rest h = h
lock_quiet true rest h = refl

-- the conditions and the lock
abbrev tail : Grammar (List Cond × Bool)
tail = conditions · stands (is_word (codes "FOR")) lock_part

abbrev tail_text : List Cond × Bool → List ℕ
tail_text x = where_text x.0 ++ lock_text x.1

tail_quiet : (cs : List Cond) (locks : Bool) (rest : List ℕ) → begins goes_on rest ≡ false → begins goes_on ((where_text cs ++ lock_text locks) ++ rest) ≡ false
tail_quiet [] locks rest h = lock_quiet locks rest h
tail_quiet (c ∷ cs) locks rest h = refl

prints_from : Prints (word (codes "FROM") ▹ (table_ref · tail)) (λ x. codes " FROM " ++ (table_text x.0 ++ tail_text x.1))
prints_from = prints_inner (codes "FROM") (table_ref · tail) _ (refl, refl, refl)
    (prints_pair table_ref tail table_text tail_text prints_table
    (prints_pair conditions (stands (is_word (codes "FOR")) lock_part) where_text lock_text prints_conditions prints_lock lock_quiet) (λ x rest h. tail_quiet x.0 x.1 rest h))

-- what is selected
abbrev Selected : Type 0
Selected = Picked × (TableRef × (List Cond × Bool))

abbrev selected : Grammar Selected
selected = picks · (word (codes "FROM") ▹ (table_ref · tail))

abbrev selected_text : Selected → List ℕ
selected_text x = picked_text x.0 ++ (codes " FROM " ++ (table_text x.1.0 ++ tail_text x.1.1))

abbrev to_select : Selected → Stmt
to_select x = statements.Select x.0 x.1.0 x.1.1.0 x.1.1.1

-- SELECT
pub prints_select : Prints select printed
unfolding select printed
prints_select = prints_tested may_lock (built to_select (word (codes "SELECT") ▹ selected)) printed
    (prints_built to_select (word (codes "SELECT") ▹ selected) (λ x. codes "SELECT " ++ selected_text x) printed (λ a. refl)
    (prints_keyword (codes "SELECT") selected selected_text (refl, refl, refl)
    (prints_pair picks (word (codes "FROM") ▹ (table_ref · tail)) picked_text _ prints_picks prints_from (λ x rest h. refl))))
