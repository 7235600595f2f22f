-- INSERT, UPDATE, DELETE and SELECT are printed within the tokens that spell them.
use Rattle.std.proofs.Common.{ℕ, Bool, true, false, List, ◌++◌, length, Some, refl, arith}
use Rattle.std.specs.Prelude.{codes, nat_le}
use Rattle.std.specs.List.{list_all}
use Rattle.dtx_values.specs.Limits.{select_limit}
use Rattle.token_grammar.specs.declared.mark.Mark.TheVariants as marks
use Rattle.token_grammar.specs.Steps.{begins}
use Rattle.token_grammar.specs.Grammar.{Grammar, is_mark, word, mark, identifier, ◌·◌, ◌▹◌, maybe, optional, commas, tested}
use Rattle.sql_statement.specs.Distinct.{are_distinct}
use Rattle.sql_statement.specs.declared.query.Picked.{Picked}
use Rattle.sql_statement.specs.declared.query.Picked.TheVariants as picked
use Rattle.sql_statement.specs.declared.statement.Stmt.TheVariants as statements
use Rattle.sql_parse.specs.Parts.{or_else, built, in_brackets, itself}
use Rattle.sql_parse.specs.Literals.{table_ref, sum, is_constant}
use Rattle.sql_parse.specs.Conditions.{conditions}
use Rattle.sql_parse.specs.Changes.{column_names, constants, insert, assignment, left_side, assignments, update, delete, count, sum_of, columns, opens, picks, may_lock, for_update_part, source, select}
use Rattle.sql_print.specs.Printing.{separated_text, bracketed_text, table_text, sum_text, set_text, where_text, if_text, names_text, picked_text, source_text, values_text, printed}
use Rattle.stmt_size_laws.proofs.FitLaws.{Fits, no_text, fits_word, fits_mark, fits_short, fits_less, fits_pair, fits_after, fits_led, fits_behind, fits_built, fits_tested, fits_or_else, fits_optional, fits_commas, fits_brackets}
use Rattle.stmt_size_laws.proofs.PartLengths.{fits_id, fits_table, fits_sum, fits_conditions}

-- ---- INSERT, UPDATE and DELETE

fits_names : Fits 0 column_names (λ names. names_text (Some names))
fits_names = fits_tested 0 (are_distinct itself) (in_brackets (commas identifier)) (λ names. names_text (Some names))
    (fits_brackets (commas identifier) (codes " (") (separated_text (codes ", ") itself) (omega arith) (fits_commas identifier itself fits_id))

fits_terms : Fits 0 sum sum_text
fits_terms = fits_less 2 0 sum sum_text (omega arith) fits_sum

fits_values : Fits 0 constants (bracketed_text sum_text)
fits_values = fits_tested 0 (list_all is_constant) (in_brackets (commas sum)) (bracketed_text sum_text)
    (fits_brackets (commas sum) (codes "(") (separated_text (codes ", ") sum_text) (omega arith) (fits_commas sum sum_text fits_terms))

pub fits_insert : Fits 0 insert printed
unfolding insert printed
fits_insert = fits_built 0 _ (word (codes "INSERT") ▹ word (codes "INTO") ▹ (table_ref · (optional (is_mark marks.Open) column_names · (word (codes "VALUES") ▹ constants))))
    (λ x. codes "INSERT INTO " ++ (table_text x.0 ++ (names_text x.1.0 ++ values_text x.1.1))) printed (λ a. refl)
    (fits_after 42 0 0 (word (codes "INSERT")) (word (codes "INTO") ▹ (table_ref · (optional (is_mark marks.Open) column_names · (word (codes "VALUES") ▹ constants)))) (codes "INSERT INTO ")
    (λ x. table_text x.0 ++ (names_text x.1.0 ++ values_text x.1.1)) (omega arith) (fits_word (codes "INSERT"))
    (fits_behind 0 (word (codes "INTO")) (table_ref · (optional (is_mark marks.Open) column_names · (word (codes "VALUES") ▹ constants))) (λ x. table_text x.0 ++ (names_text x.1.0 ++ values_text x.1.1))
    (fits_pair 0 0 table_ref (optional (is_mark marks.Open) column_names · (word (codes "VALUES") ▹ constants)) table_text (λ x. names_text x.0 ++ values_text x.1) fits_table
    (fits_pair 0 0 (optional (is_mark marks.Open) column_names) (word (codes "VALUES") ▹ constants) names_text values_text (fits_optional (is_mark marks.Open) column_names names_text refl fits_names)
    (fits_after 42 0 0 (word (codes "VALUES")) constants (codes " VALUES ") (bracketed_text sum_text) (omega arith) (fits_word (codes "VALUES")) fits_values)))))

fits_assignment : Fits 0 assignment set_text
unfolding assignment
fits_assignment v ts s = fits_pair 0 0 identifier (mark marks.Equal ▹ sum) itself (λ x. codes " = " ++ sum_text x) fits_id
    (fits_after 7 2 0 (mark marks.Equal) sum (codes " = ") sum_text (omega arith) (fits_mark marks.Equal) fits_sum) (v.column, v.to) ts s

fits_assignments : Fits 0 assignments (separated_text (codes ", ") set_text)
fits_assignments = fits_tested 0 (are_distinct left_side) (commas assignment) (separated_text (codes ", ") set_text) (fits_commas assignment set_text fits_assignment)

pub fits_update : Fits 0 update printed
unfolding update printed
fits_update = fits_built 0 _ (word (codes "UPDATE") ▹ (table_ref · (word (codes "SET") ▹ (assignments · conditions))))
    (λ x. codes "UPDATE " ++ (table_text x.0 ++ (codes " SET " ++ (separated_text (codes ", ") set_text x.1.0 ++ where_text x.1.1)))) printed (λ a. refl)
    (fits_after 42 0 0 (word (codes "UPDATE")) (table_ref · (word (codes "SET") ▹ (assignments · conditions))) (codes "UPDATE ")
    (λ x. table_text x.0 ++ (codes " SET " ++ (separated_text (codes ", ") set_text x.1.0 ++ where_text x.1.1))) (omega arith) (fits_word (codes "UPDATE"))
    (fits_pair 0 0 table_ref (word (codes "SET") ▹ (assignments · conditions)) table_text (λ x. codes " SET " ++ (separated_text (codes ", ") set_text x.0 ++ where_text x.1)) fits_table
    (fits_after 21 0 0 (word (codes "SET")) (assignments · conditions) (codes " SET ") (λ x. separated_text (codes ", ") set_text x.0 ++ where_text x.1) (omega arith) (fits_word (codes "SET"))
    (fits_pair 0 0 assignments conditions (separated_text (codes ", ") set_text) where_text fits_assignments fits_conditions))))

pub fits_delete : Fits 0 delete printed
unfolding delete printed
fits_delete = fits_built 0 _ (word (codes "DELETE") ▹ maybe (codes "FROM") ▹ (table_ref · conditions)) (λ x. codes "DELETE FROM " ++ (table_text x.0 ++ where_text x.1)) printed (λ a. refl)
    (fits_after 42 0 0 (word (codes "DELETE")) (maybe (codes "FROM") ▹ (table_ref · conditions)) (codes "DELETE FROM ") (λ x. table_text x.0 ++ where_text x.1) (omega arith) (fits_word (codes "DELETE"))
    (fits_behind 0 (maybe (codes "FROM")) (table_ref · conditions) (λ x. table_text x.0 ++ where_text x.1) (fits_pair 0 0 table_ref conditions table_text where_text fits_table fits_conditions)))

-- ---- SELECT

fits_star : Fits 0 (mark marks.Star) (λ x. codes "*")
fits_star = fits_short 7 0 (mark marks.Star) (λ x. codes "*") (fits_mark marks.Star) (λ v. omega arith)

fits_count : Fits 0 count picked_text
fits_count = fits_built 0 (λ x. picked.Count) (word (codes "COUNT") ▹ in_brackets (mark marks.Star)) (λ x. codes "COUNT" ++ (codes "(" ++ (codes "*" ++ codes ")"))) picked_text (λ a. refl)
    (fits_after 35 0 0 (word (codes "COUNT")) (in_brackets (mark marks.Star)) (codes "COUNT") (λ x. codes "(" ++ (codes "*" ++ codes ")")) (omega arith) (fits_word (codes "COUNT"))
    (fits_brackets (mark marks.Star) (codes "(") (λ x. codes "*") (omega arith) fits_star))

fits_sum_of : Fits 0 sum_of picked_text
fits_sum_of = fits_built 0 picked.Sum (word (codes "SUM") ▹ in_brackets identifier) (λ x. codes "SUM" ++ (codes "(" ++ (x ++ codes ")"))) picked_text (λ a. refl)
    (fits_after 21 0 0 (word (codes "SUM")) (in_brackets identifier) (codes "SUM") (λ x. codes "(" ++ (x ++ codes ")")) (omega arith) (fits_word (codes "SUM"))
    (fits_brackets identifier (codes "(") itself (omega arith) fits_id))

-- not too many columns
abbrev are_few : List (List ℕ) → Bool
are_few names = nat_le (length names) select_limit

fits_columns : Fits 0 columns picked_text
fits_columns = fits_built 0 picked.Columns (tested are_few (commas identifier)) (separated_text (codes ", ") itself) picked_text (λ a. refl)
    (fits_tested 0 are_few (commas identifier) (separated_text (codes ", ") itself) (fits_commas identifier itself fits_id))

abbrev sum_or_columns : Grammar Picked
sum_or_columns = or_else (opens (codes "SUM")) sum_of columns

fits_picks : Fits 0 picks picked_text
unfolding picks
fits_picks = fits_or_else 0 (begins (is_mark marks.Star)) (built (λ x. picked.All) (mark marks.Star)) (or_else (opens (codes "COUNT")) count sum_or_columns) picked_text
    (fits_built 0 (λ x. picked.All) (mark marks.Star) (λ x. codes "*") picked_text (λ a. refl) fits_star)
    (fits_or_else 0 (opens (codes "COUNT")) count sum_or_columns picked_text fits_count (fits_or_else 0 (opens (codes "SUM")) sum_of columns picked_text fits_sum_of fits_columns))

-- FOR UPDATE, where it stands
abbrev lock_text : Bool → List ℕ
lock_text locks = if_text locks (codes " FOR UPDATE")

fits_lock : Fits 0 for_update_part lock_text
fits_lock true ts s = fits_led (codes "FOR") 42 33 (word (codes "UPDATE")) no_text (omega arith) (fits_word (codes "UPDATE")) tt ts s
fits_lock false ts s = omega arith

fits_source : Fits 0 source (λ x. source_text x.0 x.1.0 x.1.1)
fits_source = fits_after 28 0 0 (word (codes "FROM")) (table_ref · (conditions · for_update_part)) (codes " FROM ") (λ x. table_text x.0 ++ (where_text x.1.0 ++ lock_text x.1.1)) (omega arith) (fits_word (codes "FROM"))
    (fits_pair 0 0 table_ref (conditions · for_update_part) table_text (λ x. where_text x.0 ++ lock_text x.1) fits_table
    (fits_pair 0 0 conditions for_update_part where_text lock_text fits_conditions fits_lock))

pub fits_select : Fits 0 select printed
unfolding select printed
fits_select = fits_tested 0 may_lock (built (λ x. statements.Select x.0 x.1.0 x.1.1.0 x.1.1.1) (word (codes "SELECT") ▹ (picks · source))) printed
    (fits_built 0 (λ x. statements.Select x.0 x.1.0 x.1.1.0 x.1.1.1) (word (codes "SELECT") ▹ (picks · source)) (λ x. codes "SELECT " ++ (picked_text x.0 ++ source_text x.1.0 x.1.1.0 x.1.1.1)) printed (λ a. refl)
    (fits_after 42 0 0 (word (codes "SELECT")) (picks · source) (codes "SELECT ") (λ x. picked_text x.0 ++ source_text x.1.0 x.1.1.0 x.1.1.1) (omega arith) (fits_word (codes "SELECT"))
    (fits_pair 0 0 picks source picked_text (λ x. source_text x.0 x.1.0 x.1.1) fits_picks fits_source)))
