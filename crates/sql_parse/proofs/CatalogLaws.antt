-- CREATE is exact.
use Rattle.std.proofs.Common.{ℕ, Bool, List, [], ◌∷◌, Option, refl, inl, inr}
use Rattle.std.specs.Prelude.{codes, nat_le}
use Rattle.token_grammar.specs.declared.mark.Mark.{Mark}
use Rattle.token_grammar.specs.declared.mark.Mark.TheVariants as marks
use Rattle.token_grammar.specs.declared.token.Token.{Token}
use Rattle.token_grammar.specs.Steps.{begins}
use Rattle.token_grammar.specs.Grammar.{Grammar, is_word, is_mark, nothing, anything, either, word, mark, meant, identifier, identifier_in, name, name_in, number_to, number_to_in, ◌·◌, ◌▹◌, maybe, optional, many, commas}
use Rattle.token_grammar.specs.Exact.{IsExact, Leads, Apart}
use Rattle.token_grammar.proofs.Beginnings.{leads_word, leads_after, led, apart_words, apart_word_mark, apart_marks, apart_nothing, apart_either, ends_all}
use Rattle.token_grammar.proofs.OneToken.{word_exact, mark_exact, meant_exact, maybe_exact}
use Rattle.token_grammar.proofs.Parts.{after, after_exact, seq, seq_led, optional_exact, many_exact}
use Rattle.token_grammar.proofs.Values.{tested_exact}
use Rattle.dtx_values.specs.Limits.{text_limit}
use Rattle.sql_statement.specs.declared.statement.Stmt.{Stmt}
use Rattle.sql_parse.specs.Parts.{or_else, is_word_of, in_brackets}
use Rattle.sql_parse.specs.Catalog.{width, column_type, rule, is_rule, are_once, column_of, column, are_of_a_table, table_columns, create_table, target_in, account, create_link, create_synonym, create}
use Rattle.sql_parse.proofs.PartLaws.{led_exact, leads_or_else, built_exact, leads_built, word_is_one, apart_word_of, leads_maybe, later_word, brackets_exact, commas_exact}

-- ---- Columns.

width_exact : IsExact width nothing
width_exact = tested_exact (nat_le 1) (number_to text_limit) nothing (meant_exact (number_to_in text_limit))

column_type_exact : IsExact column_type nothing
unfolding column_type
column_type_exact = led_exact _ _ (is_word (codes "NUMBER")) (is_word (codes "VARCHAR2")) nothing
    (built_exact _ (word (codes "NUMBER")) _ (word_exact _)) (built_exact _ (word (codes "VARCHAR2") ▹ in_brackets width) _ (after (word_exact _) (brackets_exact width nothing width_exact (apart_nothing _))))
    (leads_built _ (word (codes "NUMBER")) _ (leads_word (codes "NUMBER"))) (leads_built _ (word (codes "VARCHAR2") ▹ in_brackets width) _ (leads_after (word (codes "VARCHAR2")) (in_brackets width) _ (leads_word (codes "VARCHAR2"))))
    (apart_words (codes "NUMBER") (codes "VARCHAR2") refl)

rule_exact : IsExact rule nothing
unfolding rule
rule_exact = led_exact _ _ (is_word (codes "NOT")) (is_word (codes "PRIMARY")) nothing
    (built_exact _ (word (codes "NOT") ▹ word (codes "NULL")) _ (after (word_exact _) (word_exact _))) (built_exact _ (word (codes "PRIMARY") ▹ word (codes "KEY")) _ (after (word_exact _) (word_exact _)))
    (leads_built _ (word (codes "NOT") ▹ word (codes "NULL")) _ (leads_after (word (codes "NOT")) (word (codes "NULL")) _ (leads_word (codes "NOT"))))
    (leads_built _ (word (codes "PRIMARY") ▹ word (codes "KEY")) _ (leads_after (word (codes "PRIMARY")) (word (codes "KEY")) _ (leads_word (codes "PRIMARY"))))
    (apart_words (codes "NOT") (codes "PRIMARY") refl)

leads_rule : Leads rule is_rule
unfolding rule
leads_rule v ts (inl s) = rw (s.1.4, s.1.2) refl
leads_rule v ts (inr s) = rw (s.1.4, s.1.2) refl

-- after a column: a further rule
abbrev after_column : Token → Bool
after_column = either is_rule nothing

column_exact : IsExact column after_column
unfolding column
column_exact = built_exact column_of _ _ (seq (meant_exact identifier_in) (seq column_type_exact (tested_exact are_once (many is_rule rule) _ (many_exact rule is_rule nothing rule_exact leads_rule (apart_nothing _)))))

apart_column : (m : Mark) → Apart after_column (is_mark m)
apart_column m = apart_either _ _ _ (apart_either _ _ _ (apart_word_mark (codes "NOT") m) (apart_word_mark (codes "PRIMARY") m)) (apart_nothing _)

table_columns_exact : IsExact table_columns nothing
table_columns_exact = tested_exact are_of_a_table (in_brackets (commas column)) _ (brackets_exact (commas column) _ (commas_exact column after_column column_exact (apart_column marks.Comma))
    (apart_either _ _ _ (apart_marks marks.Comma marks.Close refl) (apart_column marks.Close)))

-- ---- Tables, links, synonyms.

create_table_exact : IsExact create_table nothing
unfolding create_table
create_table_exact = built_exact _ _ _ (after (word_exact _) (seq (meant_exact identifier_in) table_columns_exact))

leads_table : Leads create_table (is_word (codes "TABLE"))
unfolding create_table
leads_table = leads_built _ (word (codes "TABLE") ▹ (identifier · table_columns)) _ (leads_after (word (codes "TABLE")) (identifier · table_columns) _ (leads_word (codes "TABLE")))

account_exact : IsExact account nothing
account_exact = after (word_exact _) (after (word_exact _) (seq (meant_exact identifier_in) (after (word_exact _) (after (word_exact _) (meant_exact identifier_in)))))

leads_account : Leads account (is_word (codes "CONNECT"))
leads_account = leads_after (word (codes "CONNECT")) (word (codes "TO") ▹ (identifier · (word (codes "IDENTIFIED") ▹ word (codes "BY") ▹ identifier))) _ (leads_word (codes "CONNECT"))

abbrev using_part : Grammar (List ℕ)
using_part = word (codes "USING") ▹ meant target_in

-- DATABASE LINK ..
abbrev link_part : Grammar (List ℕ × (Option (List ℕ × List ℕ) × List ℕ))
link_part = word (codes "DATABASE") ▹ word (codes "LINK") ▹ (name · (optional (is_word (codes "CONNECT")) account · using_part))

link_part_exact : IsExact link_part nothing
link_part_exact = after (word_exact _) (after (word_exact _) (seq (meant_exact name_in) (seq_led (is_word (codes "USING")) (optional_exact account _ nothing account_exact leads_account)
    (after (word_exact _) (meant_exact target_in)) (leads_after (word (codes "USING")) (meant target_in) _ (leads_word (codes "USING")))
    (apart_either _ _ _ (apart_words (codes "CONNECT") (codes "USING") refl) (apart_nothing _)))))

leads_link_part : Leads link_part (is_word (codes "DATABASE"))
leads_link_part = leads_after (word (codes "DATABASE")) (word (codes "LINK") ▹ (name · (optional (is_word (codes "CONNECT")) account · using_part))) _ (leads_word (codes "DATABASE"))

create_link_exact : IsExact create_link nothing
unfolding create_link
create_link_exact = built_exact _ _ _ (after_exact (maybe (codes "PUBLIC")) link_part _ nothing nothing (maybe_exact (codes "PUBLIC")) link_part_exact
    (led _ link_part nothing (is_word (codes "DATABASE")) leads_link_part (apart_words (codes "PUBLIC") (codes "DATABASE") refl)))

-- the words that a link's command may begin with
abbrev link_words : List (List ℕ)
link_words = codes "PUBLIC" ∷ codes "DATABASE" ∷ []

leads_link : Leads create_link (is_word_of link_words)
unfolding create_link
leads_link = leads_built _ (maybe (codes "PUBLIC") ▹ link_part) _ (leads_maybe (codes "PUBLIC") link_part (is_word_of link_words) refl
    (λ v ts s. word_is_one (codes "DATABASE") link_words refl ts (leads_link_part v ts s)))

create_synonym_exact : IsExact create_synonym nothing
unfolding create_synonym
create_synonym_exact = built_exact _ _ _ (after (word_exact _) (seq (meant_exact identifier_in) (after (word_exact _) (seq (meant_exact identifier_in) (after (mark_exact marks.At) (meant_exact name_in))))))

leads_synonym : Leads create_synonym (is_word (codes "SYNONYM"))
unfolding create_synonym
leads_synonym = leads_built _ (word (codes "SYNONYM") ▹ (identifier · (word (codes "FOR") ▹ (identifier · (mark marks.At ▹ name))))) _
    (leads_after (word (codes "SYNONYM")) (identifier · (word (codes "FOR") ▹ (identifier · (mark marks.At ▹ name)))) _ (leads_word (codes "SYNONYM")))

-- a synonym or a link
abbrev other_part : Grammar Stmt
other_part = or_else (begins (is_word (codes "SYNONYM"))) create_synonym create_link

abbrev other_words : List (List ℕ)
other_words = codes "SYNONYM" ∷ link_words

leads_other : Leads other_part (is_word_of other_words)
leads_other = leads_or_else (begins (is_word (codes "SYNONYM"))) create_synonym create_link _ (λ v ts s. word_is_one (codes "SYNONYM") other_words refl ts (leads_synonym v ts s))
    (λ v ts s. later_word (codes "SYNONYM") link_words ts (leads_link v ts s))

other_exact : IsExact other_part nothing
other_exact = led_exact create_synonym create_link _ _ nothing create_synonym_exact create_link_exact leads_synonym leads_link (apart_word_of (codes "SYNONYM") link_words refl)

-- CREATE TABLE, CREATE DATABASE LINK and CREATE SYNONYM
pub create_exact : IsExact create anything
unfolding create
create_exact = ends_all (word (codes "CREATE") ▹ or_else (begins (is_word (codes "TABLE"))) create_table other_part) _
    (after (word_exact _) (led_exact create_table other_part _ _ nothing create_table_exact other_exact leads_table leads_other (apart_word_of (codes "TABLE") other_words refl)))
