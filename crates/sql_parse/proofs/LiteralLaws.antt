-- Literals, tables and sums are exact.
use Rattle.std.proofs.Common.{◌≡◌, ℕ, Bool, true, List, Some, None, refl, inl, inr}
use Rattle.std.specs.Prelude.{codes}
use Rattle.std.specs.Str.{bytes_eq}
use Rattle.std.proofs.lemmas.Bool.{cases_Bool}
use Rattle.dtx_values.specs.declared.value.Value.{Value}
use Rattle.token_grammar.specs.declared.mark.Mark.TheVariants as marks
use Rattle.token_grammar.specs.declared.token.Token.{Token}
use Rattle.token_grammar.specs.declared.token.Token.TheVariants as token
use Rattle.token_grammar.specs.Grammar.{Grammar, is_mark, nothing, either, mark, meant, identifier, identifier_of, identifier_in, name, name_in, number_to, number_to_in, ◌▹◌}
use Rattle.token_grammar.specs.Exact.{IsExact, Leads}
use Rattle.token_grammar.proofs.Beginnings.{leads_mark, leads_after, leads_pair, apart_nothing}
use Rattle.token_grammar.proofs.OneToken.{mark_exact, meant_exact}
use Rattle.token_grammar.proofs.Parts.{after, seq, optional_exact, many_exact}
use Rattle.token_grammar.proofs.Values.{mapped_exact}
use Rattle.sql_parse.specs.Literals.{constant_in, smallest, negative, literal, table_ref, is_naming, term, minus_in, is_step, step, sum}
use Rattle.sql_parse.proofs.PartLaws.{led_exact, built_exact, leads_built, meant_leads, fails, fails_apart, reserved_is_no_name}

-- ---- Literals.

constant_is_no_minus : (t : Token) (v : Value) → constant_in t ≡ Some v → fails (is_mark marks.Minus) t ≡ true
constant_is_no_minus (token.Word w) v e = refl
constant_is_no_minus (token.Number n) v e = refl
constant_is_no_minus (token.Quoted s) v e = refl
constant_is_no_minus (token.Mark m) v e = absurd cc

-- a literal is exact, whatever follows
pub literal_exact : IsExact literal nothing
unfolding literal
literal_exact = led_exact negative (meant constant_in) _ (fails (is_mark marks.Minus)) nothing
    (built_exact _ _ _ (after (mark_exact marks.Minus) (meant_exact (number_to_in smallest)))) (meant_exact constant_in)
    (leads_built _ (mark marks.Minus ▹ number_to smallest) _ (leads_after (mark marks.Minus) (number_to smallest) _ (leads_mark marks.Minus)))
    (meant_leads constant_in _ constant_is_no_minus) (fails_apart _)

-- ---- Tables.

abbrev link_part : Grammar (List ℕ)
link_part = mark marks.At ▹ name

-- after a table: `@`
abbrev pub after_table : Token → Bool
after_table = either (is_mark marks.At) nothing

-- a table is exact, where no `@` follows
pub table_ref_exact : IsExact table_ref after_table
unfolding table_ref
table_ref_exact = mapped_exact _ _ _ _
    (seq (meant_exact identifier_in) (optional_exact link_part _ nothing (after (mark_exact marks.At) (meant_exact name_in)) (leads_after (mark marks.At) name _ (leads_mark marks.At))))
    (λ a ts s. refl) (λ b. refl)

-- ---- Sums.

-- NULL is reserved
null_is_none : identifier_of (codes "NULL") ≡ None
null_is_none = refl

identifier_leads : (t : Token) (v : List ℕ) → identifier_in t ≡ Some v → is_naming t ≡ true
identifier_leads (token.Word w) v e = let other = reserved_is_no_name (codes "NULL") null_is_none (token.Word w) v e in rw other refl
identifier_leads (token.Number n) v e = absurd cc
identifier_leads (token.Quoted s) v e = absurd cc
identifier_leads (token.Mark m) v e = absurd cc

constant_is_no_name : (t : Token) (v : Value) → constant_in t ≡ Some v → fails is_naming t ≡ true
constant_is_no_name (token.Word w) v e = elim (cases_Bool (bytes_eq w (codes "NULL"))) [
  | inl k ↦ rw k refl
  | inr k ↦ (let no = rw k at e in absurd cc)
]
constant_is_no_name (token.Number n) v e = refl
constant_is_no_name (token.Quoted s) v e = refl
constant_is_no_name (token.Mark m) v e = absurd cc

literal_leads : Leads literal (fails is_naming)
unfolding literal
literal_leads v ts (inl s) = rw (s.1.4, s.1.2) refl
literal_leads v ts (inr s) = rw s.1 (constant_is_no_name s.0 v s.2)

-- a term is exact, whatever follows
pub term_exact : IsExact term nothing
unfolding term
term_exact = led_exact _ _ is_naming (fails is_naming) nothing (built_exact _ _ _ (meant_exact identifier_in)) (built_exact _ literal _ literal_exact)
    (leads_built _ identifier _ (meant_leads identifier_in is_naming identifier_leads)) (leads_built _ literal _ literal_leads) (fails_apart _)

minus_leads : (t : Token) (b : Bool) → minus_in t ≡ Some b → is_step t ≡ true
minus_leads (token.Mark marks.Plus) b e = refl
minus_leads (token.Mark marks.Minus) b e = refl
minus_leads _ b e = absurd cc

step_exact : IsExact step nothing
unfolding step
step_exact = mapped_exact _ _ _ _ (seq (meant_exact minus_in) term_exact) (λ a ts s. refl) (λ b. refl)

step_leads : Leads step is_step
unfolding step
step_leads v ts s = leads_pair (meant minus_in) term is_step (meant_leads minus_in is_step minus_leads) (v.minus, v.term) ts s

-- after a sum: a further term
abbrev pub after_sum : Token → Bool
after_sum = either is_step nothing

-- a sum is exact, where no sign follows
pub sum_exact : IsExact sum after_sum
unfolding sum
sum_exact = mapped_exact _ _ _ _ (seq term_exact (many_exact step is_step nothing step_exact step_leads (apart_nothing _))) (λ a ts s. refl) (λ b. refl)
