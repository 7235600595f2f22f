-- The printed texts of names, literals, tables, sums and conditions are tokens that spell them again.
use Rattle.std.proofs.Common.{◌≡◌, ℕ, zero, suc, pos, neg_ℤ, Bool, true, false, List, [], ◌∷◌, ◌++◌, map, Some, None, refl, ap, subst, ◌∙◌, arith, append_assoc, inl, inr}
use Rattle.std.specs.Prelude.{codes, decimal, nat_le}
use Rattle.std.specs.Str.{bytes_eq}
use Rattle.std.specs.Char.{to_ascii_uppercase}
use Rattle.dtx_values.specs.Name.{is_identifier, is_name, name_of}
use Rattle.dtx_values.specs.Str.{is_text, is_text_to}
use Rattle.dtx_values.specs.Texts.{text_of_value}
use Rattle.dtx_values.specs.declared.value.Value.{Value}
use Rattle.dtx_values.specs.declared.value.Value.TheVariants as values
use Rattle.token_grammar.specs.declared.mark.Mark.TheVariants as marks
use Rattle.token_grammar.specs.declared.token.Token.{Token}
use Rattle.token_grammar.specs.declared.token.Token.TheVariants as token
use Rattle.token_grammar.specs.Steps.{begins}
use Rattle.token_grammar.specs.Tokens.{TokenText, Ends}
use Rattle.token_grammar.specs.Grammar.{Grammar, is_word, is_mark, anything, begins_two, word, mark, meant, identifier, identifier_in, name, name_in, number_to, number_to_in, quoted, quoted_in, ◌·◌, ◌▹◌, ◌◃◌, optional, many, separated}
use Rattle.token_grammar.proofs.Options.{test_some, chosen, some_is}
use Rattle.sql_statement.specs.declared.condition.Sign.{Sign}
use Rattle.sql_statement.specs.declared.condition.Sign.TheVariants as signs
use Rattle.sql_statement.specs.declared.sum.Term.TheVariants as terms
use Rattle.sql_parse.specs.Parts.{built, stands, text_to, itself}
use Rattle.sql_parse.specs.Literals.{largest, smallest, constant_in, literal, table_ref, is_naming, term, minus_in, is_step, step, sum}
use Rattle.sql_parse.specs.Conditions.{sign_in, compared, is_null, condition, where_part, conditions}
use Rattle.sql_print.specs.Printing.{cond_text, each_text, link_text, minus_text, null_text, quoted_text, separated_text, sign_text, step_text, sum_text, table_text, term_text, where_text}
use Rattle.sql_print.proofs.WriteLaws.{goes_on, no_byte, Writes, word_written, quoted_written, number_written, at_written, minus_written, plus_written, blank_first, blank_written, nothing_written, joined_written, IsMade, AreMade, rest_made}
use Rattle.sql_print.proofs.PrintLaws.{Prints, Quiet, prints_pair, prints_after, prints_built, prints_tested, prints_or_else, prints_optional, prints_meant, prints_many, many_quiet, prints_separated, PrintsEnded, prints_ended_pair, keyword_written, inner_written, prints_inner, two_words_written, mark_written}

-- ---- One token.

name_same : (w v : List ℕ) → TokenText (token.Word w) w → name_of w ≡ Some v → w ≡ v
name_same w v m e = m.2 ∙ (test_some (is_name w) (map to_ascii_uppercase w) v e).1

name_again : (t : Token) (v : List ℕ) → IsMade t → name_in t ≡ Some v → (u : Token) × (name_in u ≡ Some v) × Writes goes_on (u ∷ []) v
name_again (token.Word w) v m e = (token.Word w, e, subst (Writes goes_on (token.Word w ∷ [])) (name_same w v m e) (word_written w m))
name_again (token.Number n) v m e = absurd cc
name_again (token.Quoted s) v m e = absurd cc
name_again (token.Mark k) v m e = absurd cc

-- a name is printed as itself
pub prints_name : Prints name itself
prints_name = prints_meant name_in itself name_again

identifier_same : (w v : List ℕ) → TokenText (token.Word w) w → identifier_in (token.Word w) ≡ Some v → w ≡ v
identifier_same w v m e = elim (chosen (is_identifier w) (name_of w) None (Some v) e) [ inl h ↦ name_same w v m h.1 | inr h ↦ absurd cc ]

identifier_again : (t : Token) (v : List ℕ) → IsMade t → identifier_in t ≡ Some v → (u : Token) × (identifier_in u ≡ Some v) × Writes goes_on (u ∷ []) v
identifier_again (token.Word w) v m e = (token.Word w, e, subst (Writes goes_on (token.Word w ∷ [])) (identifier_same w v m e) (word_written w m))
identifier_again (token.Number n) v m e = absurd cc
identifier_again (token.Quoted s) v m e = absurd cc
identifier_again (token.Mark k) v m e = absurd cc

-- an identifier is printed as itself
pub prints_identifier : Prints identifier itself
prints_identifier = prints_meant identifier_in itself identifier_again

number_again : (most : ℕ) (t : Token) (n : ℕ) → IsMade t → number_to_in most t ≡ Some n → (u : Token) × (number_to_in most u ≡ Some n) × Writes goes_on (u ∷ []) (decimal n)
number_again most (token.Word w) n m e = absurd cc
number_again most (token.Number k) n m e = (token.Number k, e, subst (λ i. Writes goes_on (token.Number k ∷ []) (decimal i)) (test_some (nat_le k most) k n e).1 (number_written k m))
number_again most (token.Quoted s) n m e = absurd cc
number_again most (token.Mark k) n m e = absurd cc

-- a number is printed in decimal
pub prints_number : (most : ℕ) → Prints (number_to most) decimal
prints_number most = prints_meant (number_to_in most) decimal (number_again most)

quoted_again : (t : Token) (s : List ℕ) → IsMade t → quoted_in t ≡ Some s → (u : Token) × (quoted_in u ≡ Some s) × Writes goes_on (u ∷ []) (quoted_text s)
quoted_again (token.Word w) s m e = absurd cc
quoted_again (token.Number n) s m e = absurd cc
quoted_again (token.Quoted q) s m e = (token.Quoted q, e, subst (λ i. Writes goes_on (token.Quoted q ∷ []) (quoted_text i)) (some_is q s e) (quoted_written q))
quoted_again (token.Mark k) s m e = absurd cc

-- a text is printed in quotes
pub prints_text : (most : ℕ) → Prints (text_to most) quoted_text
prints_text most = prints_tested (is_text_to most) quoted quoted_text (prints_meant quoted_in quoted_text quoted_again)

-- ---- Literals.

null_written : Writes goes_on (token.Word (codes "NULL") ∷ []) (codes "NULL")
null_written = word_written (codes "NULL") (refl, refl, refl)

constant_again : (t : Token) (v : Value) → IsMade t → constant_in t ≡ Some v → (u : Token) × (constant_in u ≡ Some v) × Writes goes_on (u ∷ []) (text_of_value v)
constant_again (token.Word w) v m e =
    let h = test_some (bytes_eq w (codes "NULL")) values.Null v e in
    (token.Word (codes "NULL"), ap (λ (x : Value). Some x) h.1, subst (λ x. Writes goes_on (token.Word (codes "NULL") ∷ []) (text_of_value x)) h.1 null_written)
constant_again (token.Number n) v m e =
    let h = test_some (nat_le n largest) (values.Number (pos n)) v e in
    (token.Number n, e, subst (λ x. Writes goes_on (token.Number n ∷ []) (text_of_value x)) h.1 (number_written n m))
constant_again (token.Quoted []) v m e =
    (token.Word (codes "NULL"), e, subst (λ x. Writes goes_on (token.Word (codes "NULL") ∷ []) (text_of_value x)) (some_is values.Null v e) null_written)
constant_again (token.Quoted (b ∷ s)) v m e =
    let h = test_some (is_text (b ∷ s)) (values.Text (b ∷ s)) v e in
    (token.Quoted (b ∷ s), e, subst (λ x. Writes goes_on (token.Quoted (b ∷ s) ∷ []) (text_of_value x)) h.1 (quoted_written (b ∷ s)))
constant_again (token.Mark k) v m e = absurd cc

-- a number after a minus; 0 is printed without it
negative_again : (n : ℕ) (v : Value) (ts : List Token) → AreMade ts → (mark marks.Minus ▹ number_to smallest).Spells n ts → Some (values.Number (neg_ℤ (pos n))) ≡ Some v
    → (us : List Token) × literal.Spells v us × Writes goes_on us (text_of_value v)
unfolding literal
negative_again zero v ts m s e =
    (token.Number 0 ∷ [], inr (token.Number 0, refl, e), subst (λ x. Writes goes_on (token.Number 0 ∷ []) (text_of_value x)) (some_is (values.Number (pos 0)) v e) (number_written 0 (omega arith)))
negative_again (suc k) v ts m s e =
    let x = prints_number smallest (suc k) s.1 (rest_made ts s.0 s.1 s.4 m) s.3 in (
      token.Mark marks.Minus ∷ x.0,
      inl (suc k, (token.Mark marks.Minus ∷ [], x.0, refl, x.1, refl), e),
      subst (λ y. Writes goes_on (token.Mark marks.Minus ∷ x.0) (text_of_value y)) (some_is (values.Number (neg_ℤ (pos (suc k)))) v e)
          (joined_written goes_on (token.Mark marks.Minus ∷ []) x.0 (codes "-") (decimal (suc k)) minus_written x.2),
    )

-- a literal: a number with its sign, a text in quotes, or NULL
pub prints_literal : Prints literal text_of_value
unfolding literal
prints_literal v ts m (inl s) = negative_again s.0 v ts m s.1 s.2
prints_literal v ts m (inr s) = let x = prints_meant constant_in text_of_value constant_again v ts m s in (x.0, inr x.1, x.2)

-- ---- Tables and sums.

link_quiet : Quiet link_text
link_quiet None rest h = h
link_quiet (Some link) rest h = refl

-- a table, local or remote
pub prints_table : Prints table_ref table_text
unfolding table_ref
prints_table v ts m s = prints_pair identifier (optional (is_mark marks.At) (mark marks.At ▹ name)) itself link_text prints_identifier
    (prints_optional (is_mark marks.At) (mark marks.At ▹ name) link_text refl (prints_after (mark marks.At) name (token.Mark marks.At ∷ []) (codes "@") itself refl at_written prints_name))
    link_quiet (v.name, v.link) ts m s

prints_term : Prints term term_text
unfolding term
prints_term = prints_or_else (begins is_naming) (built terms.Column identifier) (built terms.Literal literal) term_text
    (prints_built terms.Column identifier itself term_text (λ a. refl) prints_identifier) (prints_built terms.Literal literal text_of_value term_text (λ a. refl) prints_literal)

minus_again : (t : Token) (b : Bool) → minus_in t ≡ Some b → (u : Token) × (minus_in u ≡ Some b) × Writes no_byte (u ∷ []) (minus_text b)
minus_again t true e = (token.Mark marks.Minus, refl, mark_written marks.Minus (codes " -") (blank_written no_byte (token.Mark marks.Minus ∷ []) (codes "-") minus_written))
minus_again t false e = (token.Mark marks.Plus, refl, mark_written marks.Plus (codes " +") (blank_written no_byte (token.Mark marks.Plus ∷ []) (codes "+") plus_written))

prints_minus : PrintsEnded (meant minus_in) minus_text
prints_minus v ts m s = let x = minus_again s.0 v s.2 in (x.0 ∷ [], (x.0, refl, x.1), x.2)

prints_step : Prints step step_text
unfolding step
prints_step v ts m s = prints_ended_pair (meant minus_in) term minus_text term_text prints_minus prints_term (v.minus, v.term) ts m s

minus_quiet : (b : Bool) (x rest : List ℕ) → begins goes_on ((minus_text b ++ x) ++ rest) ≡ false
minus_quiet true x rest = refl
minus_quiet false x rest = refl

-- a sum of terms
pub prints_sum : Prints sum sum_text
unfolding sum
prints_sum v ts m s = prints_pair term (many is_step step) term_text (each_text [] step_text) prints_term
    (prints_many step [] step_text prints_step is_step (λ w rest. minus_quiet w.minus (term_text w.term) rest))
    (many_quiet step [] step_text prints_step is_step (λ w rest. minus_quiet w.minus (term_text w.term) rest)) (v.first, v.rest) ts m s

-- ---- Conditions.

-- a sign between blanks
pub sign_written : (t : Token) (x : List ℕ) → TokenText t x → ((rest : List ℕ) → Ends t x (32 ∷ rest)) → Writes no_byte (t ∷ []) (32 ∷ (x ++ 32 ∷ []))
sign_written t x spelled ends ts rest h k = (32 ∷ [], x, 32 ∷ rest, refl, spelled, ends rest, blank_first ts rest k, ap (λ (r : List ℕ). 32 ∷ r) (append_assoc x (32 ∷ []) rest))

prints_sign : PrintsEnded (meant sign_in) sign_text
prints_sign signs.Eq ts m s = (token.Mark marks.Equal ∷ [], (token.Mark marks.Equal, refl, refl), sign_written (token.Mark marks.Equal) (codes "=") refl (λ rest. refl))
prints_sign signs.Ne ts m s = (token.Mark marks.Unequal ∷ [], (token.Mark marks.Unequal, refl, refl), sign_written (token.Mark marks.Unequal) (codes "<>") refl (λ rest. tt))
prints_sign signs.Lt ts m s = (token.Mark marks.Below ∷ [], (token.Mark marks.Below, refl, refl), sign_written (token.Mark marks.Below) (codes "<") refl (λ rest. refl))
prints_sign signs.Le ts m s = (token.Mark marks.AtMost ∷ [], (token.Mark marks.AtMost, refl, refl), sign_written (token.Mark marks.AtMost) (codes "<=") refl (λ rest. tt))
prints_sign signs.Gt ts m s = (token.Mark marks.Above ∷ [], (token.Mark marks.Above, refl, refl), sign_written (token.Mark marks.Above) (codes ">") refl (λ rest. refl))
prints_sign signs.Ge ts m s = (token.Mark marks.AtLeast ∷ [], (token.Mark marks.AtLeast, refl, refl), sign_written (token.Mark marks.AtLeast) (codes ">=") refl (λ rest. tt))

sign_quiet : (sign : Sign) (x rest : List ℕ) → begins goes_on ((sign_text sign ++ x) ++ rest) ≡ false
sign_quiet signs.Eq x rest = refl
sign_quiet signs.Ne x rest = refl
sign_quiet signs.Lt x rest = refl
sign_quiet signs.Le x rest = refl
sign_quiet signs.Gt x rest = refl
sign_quiet signs.Ge x rest = refl

prints_compared : Prints compared cond_text
prints_compared = prints_built _ (identifier · (meant sign_in · literal)) (λ x. x.0 ++ (sign_text x.1.0 ++ text_of_value x.1.1)) cond_text (λ a. refl)
    (prints_pair identifier (meant sign_in · literal) itself (λ x. sign_text x.0 ++ text_of_value x.1) prints_identifier
    (prints_ended_pair (meant sign_in) literal sign_text text_of_value prints_sign prints_literal) (λ x rest h. sign_quiet x.0 (text_of_value x.1) rest))

-- IS [NOT] NULL
abbrev null_part : Grammar Bool
null_part = word (codes "IS") ▹ (stands (is_word (codes "NOT")) (word (codes "NOT")) ◃ word (codes "NULL"))

prints_null : Prints null_part null_text
prints_null true ts m s = (
  token.Word (codes "IS") ∷ token.Word (codes "NOT") ∷ token.Word (codes "NULL") ∷ [],
  (token.Word (codes "IS") ∷ [], token.Word (codes "NOT") ∷ token.Word (codes "NULL") ∷ [], refl, (token.Word (codes "NOT") ∷ [], token.Word (codes "NULL") ∷ [], refl, refl, refl), refl),
  joined_written goes_on (token.Word (codes "IS") ∷ []) (token.Word (codes "NOT") ∷ token.Word (codes "NULL") ∷ []) (codes " IS ") (codes "NOT NULL")
      (inner_written (codes "IS") (refl, refl, refl))
      (joined_written goes_on (token.Word (codes "NOT") ∷ []) (token.Word (codes "NULL") ∷ []) (codes "NOT ") (codes "NULL") (keyword_written (codes "NOT") (refl, refl, refl)) null_written),
)
prints_null false ts m s = (
  token.Word (codes "IS") ∷ token.Word (codes "NULL") ∷ [],
  (token.Word (codes "IS") ∷ [], token.Word (codes "NULL") ∷ [], refl, ([], token.Word (codes "NULL") ∷ [], refl, refl, refl), refl),
  two_words_written (codes "IS") (codes "NULL") (refl, refl, refl) (refl, refl, refl),
)

null_quiet : Quiet null_text
null_quiet true rest h = refl
null_quiet false rest h = refl

prints_is_null : Prints is_null cond_text
prints_is_null = prints_built _ (identifier · null_part) (λ x. x.0 ++ null_text x.1) cond_text (λ a. refl)
    (prints_pair identifier null_part itself null_text prints_identifier prints_null null_quiet)

prints_condition : Prints condition cond_text
unfolding condition
prints_condition = prints_or_else (begins_two anything (is_word (codes "IS"))) is_null compared cond_text prints_is_null prints_compared

prints_where : Prints where_part (λ cs. codes " WHERE " ++ separated_text (codes " AND ") cond_text cs)
prints_where = prints_inner (codes "WHERE") (separated (is_word (codes "AND")) (word (codes "AND")) condition) (separated_text (codes " AND ") cond_text) (refl, refl, refl)
    (prints_separated condition (word (codes "AND")) (is_word (codes "AND")) (codes " AND ") cond_text prints_condition
    (prints_inner (codes "AND") condition cond_text (refl, refl, refl) prints_condition) (λ v rest. refl))

-- the conditions of a WHERE
pub prints_conditions : Prints conditions where_text
unfolding conditions
prints_conditions [] ts m s = ([], refl, nothing_written goes_on)
prints_conditions (c ∷ cs) ts m s = prints_where (c ∷ cs) ts m s

-- they begin with a blank
pub where_quiet : Quiet where_text
where_quiet [] rest h = h
where_quiet (c ∷ cs) rest h = refl
