-- Names, literals, tables, sums and conditions are printed within the tokens that spell them.
use Rattle.std.proofs.Common.{◌≡◌, ℕ, zero, suc, pos, neg_ℤ, ◌+◌, ◌*◌, ◌≤◌, Bool, true, false, List, [], ◌∷◌, ◌++◌, length, map, Some, None, refl, sym, ap, subst, ◌∙◌, arith, inl, inr}
use Rattle.std.specs.Prelude.{codes, decimal, nat_le}
use Rattle.std.specs.Str.{bytes_eq}
use Rattle.std.specs.Char.{to_ascii_uppercase}
use Rattle.std.specs.List.{flat_map}
use Rattle.std.proofs.lemmas.Bool.{leb-true}
use Rattle.std.proofs.lemmas.Fmt.{decimal_nonempty}
use Rattle.std.proofs.lemmas.List.{length-append, length-map}
use Rattle.std.proofs.lemmas.Slice.Eq.{bytes_eq-Decides}
use Rattle.dtx_values.specs.Name.{is_identifier, is_name, name_of}
use Rattle.dtx_values.specs.Str.{is_text, is_text_to}
use Rattle.dtx_values.specs.Texts.{text_of_value}
use Rattle.dtx_values.specs.declared.value.Value.{Value}
use Rattle.dtx_values.specs.declared.value.Value.TheVariants as values
use Rattle.token_grammar.specs.declared.mark.Mark.TheVariants as marks
use Rattle.token_grammar.specs.declared.token.Token.{Token}
use Rattle.token_grammar.specs.declared.token.Token.TheVariants as token
use Rattle.token_grammar.specs.Bytes.{doubled}
use Rattle.token_grammar.specs.Steps.{begins}
use Rattle.token_grammar.specs.Grammar.{Grammar, is_word, is_mark, anything, begins_two, word, mark, meant, identifier, identifier_in, name, name_in, number_to, number_to_in, quoted, quoted_in, ◌·◌, ◌▹◌, ◌◃◌, optional, separated}
use Rattle.token_grammar.specs.Printing.{token_text}
use Rattle.token_grammar.proofs.Options.{test_some, chosen, some_is}
use Rattle.sql_statement.specs.declared.condition.Sign.{Sign}
use Rattle.sql_statement.specs.declared.condition.Sign.TheVariants as signs
use Rattle.sql_statement.specs.declared.sum.Term.TheVariants as terms
use Rattle.sql_parse.specs.Parts.{built, stands, text_to, itself}
use Rattle.sql_parse.specs.Literals.{largest, smallest, constant_in, negative, literal, table_ref, is_naming, term, minus_in, step, sum}
use Rattle.sql_parse.specs.Conditions.{sign_in, compared, is_null, condition, where_part, conditions}
use Rattle.sql_print.specs.Printing.{cond_text, each_text, link_text, minus_text, null_text, quoted_text, separated_text, sign_text, step_text, sum_text, table_text, term_text, where_text}
use Rattle.stmt_size_laws.proofs.TokenLengths.{mark_long}
use Rattle.stmt_size_laws.proofs.FitLaws.{Within, Fits, Owes, fits_word, fits_mark, fits_less, joined, fits_pair, fits_owed, fits_after, fits_before, fits_built, fits_shorter, fits_tested, fits_or_else, fits_optional, fits_meant, fits_each, fits_separated}

-- ---- Names and numbers.

-- a name is as long as the word that is read as it
pub name_long : (w v : List ℕ) → name_of w ≡ Some v → length v ≡ length w
name_long w v e = ap (λ (s : List ℕ). length s) (sym (test_some (is_name w) (map to_ascii_uppercase w) v e).1) ∙ length-map w to_ascii_uppercase

name_within : (t : Token) (v : List ℕ) → name_in t ≡ Some v → Within 0 v (t ∷ [])
name_within (token.Word w) v e = omega (arith, name_long w v e)
name_within (token.Number n) v e = absurd cc
name_within (token.Quoted s) v e = absurd cc
name_within (token.Mark m) v e = absurd cc

pub fits_name : Fits 0 name itself
fits_name = fits_meant 0 name_in itself name_within

-- an identifier has a byte at least, and so spares something
identifier_within : (t : Token) (v : List ℕ) → identifier_in t ≡ Some v → Within 4 v (t ∷ [])
identifier_within (token.Word []) v e = absurd cc
identifier_within (token.Word (b ∷ w)) v e = elim (chosen (is_identifier (b ∷ w)) (name_of (b ∷ w)) None (Some v) e) [
  | inl h ↦ omega (arith, name_long (b ∷ w) v h.1)
  | inr h ↦ absurd cc
]
identifier_within (token.Number n) v e = absurd cc
identifier_within (token.Quoted s) v e = absurd cc
identifier_within (token.Mark m) v e = absurd cc

pub fits_identifier : Fits 4 identifier itself
fits_identifier = fits_meant 4 identifier_in itself identifier_within

-- a name of one identifier, with nothing to spare
pub fits_id : Fits 0 identifier itself
fits_id = fits_less 4 0 identifier itself (omega arith) fits_identifier

number_within : (most : ℕ) (t : Token) (n : ℕ) → number_to_in most t ≡ Some n → Within 0 (decimal n) (t ∷ [])
number_within most (token.Word w) n e = absurd cc
number_within most (token.Number k) n e = subst (λ (i : ℕ). Within 0 (decimal i) (token.Number k ∷ [])) (test_some (nat_le k most) k n e).1 (omega arith)
number_within most (token.Quoted s) n e = absurd cc
number_within most (token.Mark m) n e = absurd cc

pub fits_number : (most : ℕ) → Fits 0 (number_to most) decimal
fits_number most = fits_meant 0 (number_to_in most) decimal (number_within most)

-- ---- Texts in quotes.

-- with its quotes, a text is printed as it was
pub same_quotes : (s : List ℕ) → length (quoted_text s) ≡ length (flat_map doubled s) + 2
same_quotes s = omega (arith, length-append (flat_map doubled s) (codes "'"))

quoted_within : (t : Token) (s : List ℕ) → quoted_in t ≡ Some s → Within 8 (quoted_text s) (t ∷ [])
quoted_within (token.Word w) s e = absurd cc
quoted_within (token.Number n) s e = absurd cc
quoted_within (token.Quoted q) s e = subst (λ (x : List ℕ). Within 8 (quoted_text x) (token.Quoted q ∷ [])) (some_is q s e) (omega (arith, same_quotes q, length-append (flat_map doubled q) (39 ∷ [])))
quoted_within (token.Mark m) s e = absurd cc

pub fits_text : (most : ℕ) → Fits 8 (text_to most) quoted_text
fits_text most = fits_tested 8 (is_text_to most) quoted quoted_text (fits_meant 8 quoted_in quoted_text quoted_within)

-- ---- Literals.

-- NULL for an empty text in quotes, else the same bytes
constant_within : (t : Token) (v : Value) → constant_in t ≡ Some v → Within 2 (text_of_value v) (t ∷ [])
constant_within (token.Word w) v e =
    let h = test_some (bytes_eq w (codes "NULL")) values.Null v e in
    let same : w ≡ codes "NULL" = (bytes_eq-Decides w (codes "NULL")).0 h.0 in
    subst (λ (x : Value). Within 2 (text_of_value x) (token.Word w ∷ [])) h.1 (rw same (omega arith))
constant_within (token.Number n) v e =
    let h = test_some (nat_le n largest) (values.Number (pos n)) v e in
    let most = leb-true n largest h.0 in
    let some = decimal_nonempty n (omega (arith, most)) in
    subst (λ (x : Value). Within 2 (text_of_value x) (token.Number n ∷ [])) h.1 (omega (arith, some))
constant_within (token.Quoted []) v e = subst (λ (x : Value). Within 2 (text_of_value x) (token.Quoted [] ∷ [])) (some_is values.Null v e) (omega arith)
constant_within (token.Quoted (b ∷ s)) v e =
    let h = test_some (is_text (b ∷ s)) (values.Text (b ∷ s)) v e in
    let printed = same_quotes (b ∷ s) in
    let given = length-append (flat_map doubled (b ∷ s)) (39 ∷ []) in
    subst (λ (x : Value). Within 2 (text_of_value x) (token.Quoted (b ∷ s) ∷ [])) h.1 (omega (arith, printed, given))
constant_within (token.Mark m) v e = absurd cc

-- a number after a minus; 0 is printed without it
negative_short : (n : ℕ) → length (text_of_value (values.Number (neg_ℤ (pos n)))) ≤ length (codes "-" ++ decimal n)
negative_short zero = omega arith
negative_short (suc n) = omega arith

fits_negative : Fits 2 negative text_of_value
fits_negative = fits_shorter 2 (λ n. values.Number (neg_ℤ (pos n))) (mark marks.Minus ▹ number_to smallest) (λ n. codes "-" ++ decimal n) text_of_value negative_short
    (fits_after 7 0 2 (mark marks.Minus) (number_to smallest) (codes "-") decimal (omega arith) (fits_mark marks.Minus) (fits_number smallest))

pub fits_literal : Fits 2 literal text_of_value
unfolding literal
fits_literal = fits_or_else 2 (begins (is_mark marks.Minus)) negative (meant constant_in) text_of_value fits_negative (fits_meant 2 constant_in text_of_value constant_within)

-- ---- Tables and sums.

pub fits_table : Fits 0 table_ref table_text
unfolding table_ref
fits_table v ts s = fits_pair 0 0 identifier (optional (is_mark marks.At) (mark marks.At ▹ name)) itself link_text fits_id
    (fits_optional (is_mark marks.At) (mark marks.At ▹ name) link_text refl (fits_after 7 0 0 (mark marks.At) name (codes "@") itself (omega arith) (fits_mark marks.At) fits_name))
    (v.name, v.link) ts s

fits_term : Fits 2 term term_text
unfolding term
fits_term = fits_or_else 2 (begins is_naming) (built terms.Column identifier) (built terms.Literal literal) term_text
    (fits_built 2 terms.Column identifier itself term_text (λ a. refl) (fits_less 4 2 identifier itself (omega arith) fits_identifier))
    (fits_built 2 terms.Literal literal text_of_value term_text (λ a. refl) fits_literal)

-- a sign between blanks: ` + NULL` for `+''` leaves nothing to spare
minus_owed : (t : Token) (b : Bool) → minus_in t ≡ Some b → 9 ≤ 7 * length (token_text t) + 2
minus_owed (token.Word w) b e = absurd cc
minus_owed (token.Number n) b e = absurd cc
minus_owed (token.Quoted s) b e = absurd cc
minus_owed (token.Mark m) b e = omega (arith, mark_long m)

minus_long : (b : Bool) → length (minus_text b) ≡ 3
minus_long true = refl
minus_long false = refl

owes_minus : Owes 2 (meant minus_in) minus_text
owes_minus v ts s = let lack = minus_owed s.0 v s.2 in rw s.1 (omega (arith, lack, minus_long v))

fits_step : Fits 0 step step_text
unfolding step
fits_step v ts s = fits_owed 2 (meant minus_in) term minus_text term_text owes_minus fits_term (v.minus, v.term) ts s

-- a sum of terms
pub fits_sum : Fits 2 sum sum_text
unfolding sum
fits_sum v ts s = joined (term_text v.first) (each_text [] step_text v.rest) ts s.0 s.1 2 0 s.4 (fits_term v.first s.0 s.2) (fits_each step [] step_text fits_step v.rest s.1 s.3)

-- ---- Conditions.

sign_owed : (t : Token) (sign : Sign) → sign_in t ≡ Some sign → 3 * length (sign_text sign) ≤ 7 * length (token_text t) + 2
sign_owed (token.Word w) sign e = absurd cc
sign_owed (token.Number n) sign e = absurd cc
sign_owed (token.Quoted s) sign e = absurd cc
sign_owed (token.Mark marks.Equal) sign e = subst (λ (x : Sign). 3 * length (sign_text x) ≤ 9) (some_is signs.Eq sign e) (omega arith)
sign_owed (token.Mark marks.Unequal) sign e = subst (λ (x : Sign). 3 * length (sign_text x) ≤ 16) (some_is signs.Ne sign e) (omega arith)
sign_owed (token.Mark marks.Below) sign e = subst (λ (x : Sign). 3 * length (sign_text x) ≤ 9) (some_is signs.Lt sign e) (omega arith)
sign_owed (token.Mark marks.AtMost) sign e = subst (λ (x : Sign). 3 * length (sign_text x) ≤ 16) (some_is signs.Le sign e) (omega arith)
sign_owed (token.Mark marks.Above) sign e = subst (λ (x : Sign). 3 * length (sign_text x) ≤ 9) (some_is signs.Gt sign e) (omega arith)
sign_owed (token.Mark marks.AtLeast) sign e = subst (λ (x : Sign). 3 * length (sign_text x) ≤ 16) (some_is signs.Ge sign e) (omega arith)
sign_owed (token.Mark _) sign e = absurd cc

owes_sign : Owes 2 (meant sign_in) sign_text
owes_sign v ts s = let lack = sign_owed s.0 v s.2 in rw s.1 (omega (arith, lack))

fits_compared : Fits 0 compared cond_text
fits_compared = fits_built 0 _ (identifier · (meant sign_in · literal)) (λ x. x.0 ++ (sign_text x.1.0 ++ text_of_value x.1.1)) cond_text (λ a. refl)
    (fits_pair 0 0 identifier (meant sign_in · literal) itself (λ x. sign_text x.0 ++ text_of_value x.1) fits_id
    (fits_owed 2 (meant sign_in) literal sign_text text_of_value owes_sign fits_literal))

-- IS [NOT] NULL
abbrev null_part : Grammar Bool
null_part = word (codes "IS") ▹ (stands (is_word (codes "NOT")) (word (codes "NOT")) ◃ word (codes "NULL"))

-- NOT, where it stands
abbrev not_text : Bool → List ℕ
not_text true = codes "NOT "
not_text false = []

fits_not : Fits 0 (stands (is_word (codes "NOT")) (word (codes "NOT"))) not_text
fits_not true ts s = let k = fits_word (codes "NOT") tt ts s in omega (arith, k)
fits_not false ts s = omega arith

same_null : (b : Bool) → length (null_text b) ≡ length (codes " IS " ++ (not_text b ++ codes "NULL"))
same_null true = refl
same_null false = refl

fits_null : Fits 0 null_part null_text
fits_null v ts s =
    let k = fits_after 14 16 0 (word (codes "IS")) (stands (is_word (codes "NOT")) (word (codes "NOT")) ◃ word (codes "NULL")) (codes " IS ") (λ b. not_text b ++ codes "NULL") (omega arith) (fits_word (codes "IS"))
    (fits_before 0 28 16 (stands (is_word (codes "NOT")) (word (codes "NOT"))) (word (codes "NULL")) (codes "NULL") not_text (omega arith) fits_not (fits_word (codes "NULL"))) v ts s in
    omega (arith, k, same_null v)

fits_is_null : Fits 0 is_null cond_text
fits_is_null = fits_built 0 _ (identifier · null_part) (λ x. x.0 ++ null_text x.1) cond_text (λ a. refl) (fits_pair 0 0 identifier null_part itself null_text fits_id fits_null)

fits_condition : Fits 0 condition cond_text
unfolding condition
fits_condition = fits_or_else 0 (begins_two anything (is_word (codes "IS"))) is_null compared cond_text fits_is_null fits_compared

fits_where : Fits 0 where_part (λ cs. codes " WHERE " ++ separated_text (codes " AND ") cond_text cs)
fits_where = fits_after 35 0 0 (word (codes "WHERE")) (separated (is_word (codes "AND")) (word (codes "AND")) condition) (codes " WHERE ") (separated_text (codes " AND ") cond_text) (omega arith) (fits_word (codes "WHERE"))
    (fits_separated (is_word (codes "AND")) (word (codes "AND")) condition (codes " AND ") cond_text fits_condition
    (fits_after 21 0 0 (word (codes "AND")) condition (codes " AND ") cond_text (omega arith) (fits_word (codes "AND")) fits_condition))

-- the conditions of a WHERE
pub fits_conditions : Fits 0 conditions where_text
unfolding conditions
fits_conditions [] ts s = omega arith
fits_conditions (c ∷ cs) ts s = fits_where (c ∷ cs) ts s
