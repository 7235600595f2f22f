-- The printed text of a CREATE is tokens that spell it again.
use Rattle.std.proofs.Common.{◌≡◌, ℕ, Bool, true, false, List, [], ◌∷◌, ◌++◌, map, Option, Some, None, refl, ap, subst, inl, inr}
use Rattle.std.specs.Prelude.{codes, decimal, nat_le}
use Rattle.std.specs.Char.{to_ascii_uppercase}
use Rattle.dtx_values.specs.Name.{is_name, name_of}
use Rattle.dtx_values.specs.declared.table.Column.{Column}
use Rattle.dtx_values.proofs.NameLemmas.{name_of_upper}
use Rattle.token_grammar.proofs.Options.{test_some, some_is}
use Rattle.token_grammar.specs.declared.mark.Mark.TheVariants as marks
use Rattle.token_grammar.specs.declared.token.Token.{Token}
use Rattle.token_grammar.specs.declared.token.Token.TheVariants as token
use Rattle.token_grammar.specs.Steps.{begins}
use Rattle.token_grammar.specs.Tokens.{TokenText}
use Rattle.token_grammar.specs.Grammar.{Grammar, is_word, word, mark, meant, identifier, name, number_to, ◌·◌, ◌▹◌, many, commas, tested}
use Rattle.dtx_values.specs.Limits.{text_limit}
use Rattle.sql_parse.specs.declared.rule.Rule.{Rule}
use Rattle.sql_parse.specs.declared.rule.Rule.TheVariants as rules
use Rattle.sql_statement.specs.declared.statement.Stmt.TheVariants as statements
use Rattle.sql_parse.specs.Parts.{or_else, built, in_brackets, itself}
use Rattle.sql_parse.specs.Catalog.{width, column_type, rule, is_rule, are_once, column_of, column, are_of_a_table, table_columns, create_table, target_in, create_link, create_synonym, create}
use Rattle.sql_print.specs.Printing.{bracketed_text, column_text, columns_text, printed, quoted_text, rules_text, separated_text, type_text}
use Rattle.sql_print.proofs.WriteLaws.{goes_on, Writes, quoted_written, at_written, nothing_written, then_written, joined_written, IsMade, front_made, rest_made}
use Rattle.sql_print.proofs.PrintLaws.{Prints, prints_pair, prints_after, prints_built, prints_tested, prints_or_else, prints_meant, prints_blank, keyword_written, prints_keyword, prints_inner, two_words_written, prints_word, prints_word_alone, prints_brackets, prints_commas, prints_after_or, prints_after_built}
use Rattle.sql_print.proofs.PartForms.{prints_name, prints_identifier, prints_number}

-- ---- Columns.

abbrev number_part : Grammar (Option ℕ)
number_part = built (λ x. None) (word (codes "NUMBER"))

abbrev text_part : Grammar (Option ℕ)
text_part = built (λ n. Some n) (word (codes "VARCHAR2") ▹ in_brackets width)

prints_type : Prints column_type type_text
unfolding column_type
prints_type = prints_or_else (begins (is_word (codes "NUMBER"))) number_part text_part type_text
    (prints_built (λ x. None) (word (codes "NUMBER")) (λ x. codes " " ++ codes "NUMBER") type_text (λ a. refl)
    (prints_blank (word (codes "NUMBER")) (λ x. codes "NUMBER") (prints_word_alone (codes "NUMBER") (refl, refl, refl))))
    (prints_built (λ n. Some n) (word (codes "VARCHAR2") ▹ in_brackets width) (λ n. codes " " ++ (codes "VARCHAR2" ++ (codes "(" ++ (decimal n ++ codes ")")))) type_text (λ a. refl)
    (prints_blank (word (codes "VARCHAR2") ▹ in_brackets width) (λ n. codes "VARCHAR2" ++ (codes "(" ++ (decimal n ++ codes ")")))
    (prints_word (codes "VARCHAR2") (in_brackets width) (λ n. codes "(" ++ (decimal n ++ codes ")")) (refl, refl, refl)
    (prints_brackets width decimal (prints_tested (nat_le 1) (number_to text_limit) decimal (prints_number text_limit))) (λ n rest h. refl))))

-- the rules of a column, in the order in which they are printed
abbrev rules_of : Bool → Bool → List Rule
rules_of true true = rules.NotNull ∷ rules.PrimaryKey ∷ []
rules_of true false = rules.NotNull ∷ []
rules_of false true = rules.PrimaryKey ∷ []
rules_of false false = []

abbrev not_null_tokens : List Token
not_null_tokens = token.Word (codes "NOT") ∷ token.Word (codes "NULL") ∷ []

abbrev key_tokens : List Token
key_tokens = token.Word (codes "PRIMARY") ∷ token.Word (codes "KEY") ∷ []

not_null_spelled : rule.Spells rules.NotNull not_null_tokens
unfolding rule
not_null_spelled = inl (tt, (token.Word (codes "NOT") ∷ [], token.Word (codes "NULL") ∷ [], refl, refl, refl), refl)

key_spelled : rule.Spells rules.PrimaryKey key_tokens
unfolding rule
key_spelled = inr (tt, (token.Word (codes "PRIMARY") ∷ [], token.Word (codes "KEY") ∷ [], refl, refl, refl), refl)

not_null_written : Writes goes_on not_null_tokens (codes " NOT NULL")
not_null_written = two_words_written (codes "NOT") (codes "NULL") (refl, refl, refl) (refl, refl, refl)

key_written : Writes goes_on key_tokens (codes " PRIMARY KEY")
key_written = two_words_written (codes "PRIMARY") (codes "KEY") (refl, refl, refl) (refl, refl, refl)

abbrev rules_part : Grammar (List Rule)
rules_part = tested are_once (many is_rule rule)

prints_rules : (not_null key : Bool) → (us : List Token) × rules_part.Spells (rules_of not_null key) us × Writes goes_on us (rules_text not_null key)
prints_rules true true = (
  not_null_tokens ++ key_tokens,
  ((not_null_tokens, key_tokens, not_null_spelled, (key_tokens, [], key_spelled, refl, refl), refl), refl),
  then_written goes_on goes_on not_null_tokens key_tokens (codes " NOT NULL") (codes " PRIMARY KEY") not_null_written key_written (λ rest h. refl),
)
prints_rules true false = (not_null_tokens, ((not_null_tokens, [], not_null_spelled, refl, refl), refl), not_null_written)
prints_rules false true = (key_tokens, ((key_tokens, [], key_spelled, refl, refl), refl), key_written)
prints_rules false false = ([], (refl, refl), nothing_written goes_on)

rules_quiet : (not_null key : Bool) (rest : List ℕ) → begins goes_on rest ≡ false → begins goes_on (rules_text not_null key ++ rest) ≡ false
rules_quiet true key rest h = refl
rules_quiet false true rest h = refl
rules_quiet false false rest h = h

type_quiet : (width : Option ℕ) (x rest : List ℕ) → begins goes_on ((type_text width ++ x) ++ rest) ≡ false
type_quiet None x rest = refl
type_quiet (Some n) x rest = refl

-- a column is made of its name, its data type and the constraints as they are printed
same_column : (called : List ℕ) (most : Option ℕ) (not_null key : Bool)
    → column_of (called, (most, rules_of not_null key)) ≡ record { name = called; text_max = most; not_null = not_null; key = key }
same_column called most true true = refl
same_column called most true false = refl
same_column called most false true = refl
same_column called most false false = refl

prints_column : Prints column column_text
unfolding column
prints_column v ts m s =
    let j = s.1 in
    let x = prints_identifier s.0.0 j.0 (front_made ts j.0 j.1 j.4 m) j.2 in
    let k = j.3 in
    let y = prints_type s.0.1.0 k.0 (front_made j.1 k.0 k.1 k.4 (rest_made ts j.0 j.1 j.4 m)) k.2 in
    let c : column_of s.0 ≡ v = some_is (column_of s.0) v s.2 in
    let z = prints_rules v.not_null v.key in
    let named : s.0.0 ≡ v.name = ap (λ (d : Column). d.name) c in
    let typed : s.0.1.0 ≡ v.text_max = ap (λ (d : Column). d.text_max) c in (
      x.0 ++ (y.0 ++ z.0),
      (
        (v.name, (v.text_max, rules_of v.not_null v.key)),
        (x.0, y.0 ++ z.0, subst (λ n. identifier.Spells n x.0) named x.1, (y.0, z.0, subst (λ w. column_type.Spells w y.0) typed y.1, z.1, refl), refl),
        ap (λ (d : Column). Some d) (same_column v.name v.text_max v.not_null v.key),
      ),
      then_written goes_on goes_on x.0 (y.0 ++ z.0) v.name (type_text v.text_max ++ rules_text v.not_null v.key) (subst (λ n. Writes goes_on x.0 n) named x.2)
          (then_written goes_on goes_on y.0 z.0 (type_text v.text_max) (rules_text v.not_null v.key)
          (subst (λ w. Writes goes_on y.0 (type_text w)) typed y.2) z.2 (λ rest h. rules_quiet v.not_null v.key rest h))
          (λ rest h. type_quiet v.text_max (rules_text v.not_null v.key) rest),
    )

-- ---- CREATE TABLE

-- CREATE before a part
abbrev created : {V : Type 0} → Grammar V → Grammar V
created g = word (codes "CREATE") ▹ g

prints_created : {V : Type 0} (g : Grammar V) (f : V → List ℕ) → Prints g f → Prints (created g) (λ v. codes "CREATE " ++ f v)
prints_created g f pg = prints_keyword (codes "CREATE") g f (refl, refl, refl) pg

prints_table_columns : Prints table_columns (bracketed_text column_text)
prints_table_columns = prints_tested are_of_a_table (in_brackets (commas column)) (bracketed_text column_text)
    (prints_brackets (commas column) (separated_text (codes ", ") column_text) (prints_commas column column_text prints_column))

-- the name and the columns of a table
abbrev table_part : Grammar (List ℕ × List Column)
table_part = identifier · table_columns

-- as they are printed
abbrev table_part_text : List ℕ × List Column → List ℕ
table_part_text x = x.0 ++ columns_text x.1

prints_table_part : Prints table_part table_part_text
prints_table_part = prints_pair identifier table_columns itself columns_text prints_identifier (prints_blank table_columns (bracketed_text column_text) prints_table_columns) (λ x rest h. refl)

prints_create_table : Prints (created create_table) printed
unfolding create_table printed
prints_create_table = prints_after_built (word (codes "CREATE")) _ (word (codes "TABLE") ▹ table_part) (λ x. codes "CREATE " ++ (codes "TABLE " ++ table_part_text x)) printed (λ a. refl)
    (prints_created (word (codes "TABLE") ▹ table_part) (λ x. codes "TABLE " ++ table_part_text x)
    (prints_keyword (codes "TABLE") table_part table_part_text (refl, refl, refl) prints_table_part))

-- ---- CREATE SYNONYM

prints_at_name : Prints (mark marks.At ▹ name) (λ x. codes "@" ++ x)
prints_at_name = prints_after (mark marks.At) name (token.Mark marks.At ∷ []) (codes "@") itself refl at_written prints_name

-- FOR a remote table
abbrev target_part : Grammar (List ℕ × List ℕ)
target_part = word (codes "FOR") ▹ (identifier · (mark marks.At ▹ name))

-- as it is printed
abbrev target_part_text : List ℕ × List ℕ → List ℕ
target_part_text x = codes " FOR " ++ (x.0 ++ (codes "@" ++ x.1))

prints_target : Prints target_part target_part_text
prints_target = prints_inner (codes "FOR") (identifier · (mark marks.At ▹ name)) _ (refl, refl, refl)
    (prints_pair identifier (mark marks.At ▹ name) itself (λ x. codes "@" ++ x) prints_identifier prints_at_name (λ x rest h. refl))

-- a synonym and its remote table
abbrev synonym_part : Grammar (List ℕ × (List ℕ × List ℕ))
synonym_part = identifier · target_part

-- as they are printed
abbrev synonym_part_text : List ℕ × (List ℕ × List ℕ) → List ℕ
synonym_part_text x = x.0 ++ target_part_text x.1

prints_create_synonym : Prints (created create_synonym) printed
unfolding create_synonym printed
prints_create_synonym = prints_after_built (word (codes "CREATE")) _ (word (codes "SYNONYM") ▹ synonym_part) (λ x. codes "CREATE " ++ (codes "SYNONYM " ++ synonym_part_text x)) printed (λ a. refl)
    (prints_created (word (codes "SYNONYM") ▹ synonym_part) (λ x. codes "SYNONYM " ++ synonym_part_text x)
    (prints_keyword (codes "SYNONYM") synonym_part synonym_part_text (refl, refl, refl) (prints_pair identifier target_part itself target_part_text prints_identifier prints_target (λ x rest h. refl))))

-- ---- CREATE DATABASE LINK

target_again : (t : Token) (v : List ℕ) → IsMade t → target_in t ≡ Some v → (u : Token) × (target_in u ≡ Some v) × Writes goes_on (u ∷ []) (quoted_text v)
target_again (token.Word w) v m e = absurd cc
target_again (token.Number n) v m e = absurd cc
target_again (token.Quoted q) v m e =
    let h = test_some (is_name q) (map to_ascii_uppercase q) v e in
    (token.Quoted v, subst (λ n. name_of n ≡ Some n) h.1 (name_of_upper q h.0), quoted_written v)
target_again (token.Mark k) v m e = absurd cc

abbrev using_part : Grammar (List ℕ)
using_part = word (codes "USING") ▹ meant target_in

prints_using : Prints using_part (λ x. codes " USING " ++ quoted_text x)
prints_using = prints_inner (codes "USING") (meant target_in) quoted_text (refl, refl, refl) (prints_meant target_in quoted_text target_again)

-- a keyword and a blank, then other tokens
after_keyword : (w : List ℕ) (us : List Token) (x : List ℕ) → TokenText (token.Word w) w → Writes goes_on us x → Writes goes_on (token.Word w ∷ us) ((w ++ 32 ∷ []) ++ x)
after_keyword w us x spelled a = joined_written goes_on (token.Word w ∷ []) us (w ++ 32 ∷ []) x (keyword_written w spelled) a

-- CREATE DATABASE LINK, then other tokens
abbrev link_tokens : List Token → List Token
link_tokens ts = token.Word (codes "CREATE") ∷ token.Word (codes "DATABASE") ∷ token.Word (codes "LINK") ∷ ts

link_written : (us vs : List Token) (x y : List ℕ) → Writes goes_on us x → Writes goes_on vs (codes " USING " ++ y)
    → Writes goes_on (link_tokens (us ++ vs)) (codes "CREATE DATABASE LINK " ++ (x ++ (codes " USING " ++ y)))
link_written us vs x y a b =
    let both = then_written goes_on goes_on us vs x (codes " USING " ++ y) a b (λ rest h. refl) in
    let link = after_keyword (codes "LINK") (us ++ vs) (x ++ (codes " USING " ++ y)) (refl, refl, refl) both in
    let database = after_keyword (codes "DATABASE") (token.Word (codes "LINK") ∷ (us ++ vs)) (codes "LINK " ++ (x ++ (codes " USING " ++ y))) (refl, refl, refl) link in
    after_keyword (codes "CREATE") (token.Word (codes "DATABASE") ∷ token.Word (codes "LINK") ∷ (us ++ vs)) (codes "DATABASE LINK " ++ (x ++ (codes " USING " ++ y))) (refl, refl, refl) database

prints_create_link : Prints (created create_link) printed
unfolding create_link printed
prints_create_link v ts m s =
    let a = s.3.0 in
    let j = s.3.1 in
    let k = j.3 in
    let l = k.3 in
    let n = l.3 in
    let o = n.3 in
    let made = rest_made k.1 l.0 l.1 l.4 (rest_made j.1 k.0 k.1 k.4 (rest_made s.1 j.0 j.1 j.4 (rest_made ts s.0 s.1 s.4 m))) in
    let x = prints_name a.0 n.0 (front_made l.1 n.0 n.1 n.4 made) n.2 in
    let y = prints_using a.1.1 o.1 (rest_made n.1 o.0 o.1 o.4 (rest_made l.1 n.0 n.1 n.4 made)) o.3 in (
      link_tokens (x.0 ++ y.0),
      (
        token.Word (codes "CREATE") ∷ [],
        token.Word (codes "DATABASE") ∷ token.Word (codes "LINK") ∷ (x.0 ++ y.0),
        refl,
        (
          (a.0, (None, a.1.1)),
          (
            [],
            token.Word (codes "DATABASE") ∷ token.Word (codes "LINK") ∷ (x.0 ++ y.0),
            inl refl,
            (
              token.Word (codes "DATABASE") ∷ [],
              token.Word (codes "LINK") ∷ (x.0 ++ y.0),
              refl,
              (token.Word (codes "LINK") ∷ [], x.0 ++ y.0, refl, (x.0, y.0, x.1, ([], y.0, refl, y.1, refl), refl), refl),
              refl,
            ),
            refl,
          ),
          s.3.2,
        ),
        refl,
      ),
      subst (λ z. Writes goes_on (link_tokens (x.0 ++ y.0)) (printed z)) (some_is (statements.CreateLink (record { name = a.0; target = a.1.1 })) v s.3.2)
          (link_written x.0 y.0 a.0 (quoted_text a.1.1) x.2 y.2),
    )

-- CREATE TABLE, CREATE SYNONYM and CREATE DATABASE LINK
pub prints_create : Prints create printed
unfolding create
prints_create = prints_after_or (word (codes "CREATE")) (begins (is_word (codes "TABLE"))) create_table (or_else (begins (is_word (codes "SYNONYM"))) create_synonym create_link) printed
    prints_create_table
    (prints_after_or (word (codes "CREATE")) (begins (is_word (codes "SYNONYM"))) create_synonym create_link printed prints_create_synonym prints_create_link)
