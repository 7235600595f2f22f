-- The bytes of a text are no fewer than those that its tokens are printed in.
use Rattle.std.proofs.Common.{◌≡◌, ℕ, ◌+◌, ◌<◌, ◌≤◌, ◌^◌, true, List, [], ◌∷◌, ◌++◌, length, Some, rules, ap, subst, ◌∙◌, arith}
use Rattle.std.specs.Prelude.{decimal, IsTrue}
use Rattle.std.specs.List.{list_all}
use Rattle.std.specs.Char.{to_ascii_uppercase}
use Rattle.std.proofs.lemmas.Bool.Decides.{nat_tests}
use Rattle.std.proofs.lemmas.Fmt.{length-decimal-le}
use Rattle.std.proofs.lemmas.List.{length-append, length-map}
use Rattle.std.proofs.lemmas.Str.Parse.{IsNumeralModel, numerals_by_fold, digits_value_short}
use Rattle.token_grammar.specs.declared.mark.Mark.{Mark}
use Rattle.token_grammar.specs.declared.mark.Mark.TheVariants as marks
use Rattle.token_grammar.specs.declared.token.Token.{Token}
use Rattle.token_grammar.specs.declared.token.Token.TheVariants as token
use Rattle.token_grammar.specs.Bytes.{is_digit, value_from, one_mark}
use Rattle.token_grammar.specs.Steps.{begins}
use Rattle.token_grammar.specs.Tokens.{MarkText, TokenText, Tokens}
use Rattle.token_grammar.specs.Printing.{token_text}

-- the bytes that the tokens are printed in, with nothing between them
abbrev pub tokens_length : List Token → ℕ
tokens_length [] = 0
tokens_length (t ∷ ts) = length (token_text t) + tokens_length ts

-- ---- One token.

own : IsNumeralModel (λ ds. list_all is_digit ds ≡ true) (value_from 0)
own = numerals_by_fold _ (search rules) value_from (search rules)

-- leading zeros make digits no fewer than those of their number in decimal
number_fits : (ds : List ℕ) → IsTrue (begins is_digit ds) → list_all is_digit ds ≡ true → value_from 0 ds < 2 ^ 64 → length (decimal (value_from 0 ds)) ≤ length ds
number_fits [] first all lt = absurd cc
number_fits (d ∷ ds) first all lt =
    let short = digits_value_short own (d ∷ ds) (length (d ∷ ds)) all (omega arith) in
    length-decimal-le (length (d ∷ ds)) (value_from 0 (d ∷ ds)) (omega arith) short lt

not_unequal : (b : ℕ) → one_mark b ≡ Some marks.Unequal → ⊥
not_unequal b e = grind (arith, nat_tests)

not_at_most : (b : ℕ) → one_mark b ≡ Some marks.AtMost → ⊥
not_at_most b e = grind (arith, nat_tests)

not_at_least : (b : ℕ) → one_mark b ≡ Some marks.AtLeast → ⊥
not_at_least b e = grind (arith, nat_tests)

-- a mark is printed in one byte or two
pub mark_long : (m : Mark) → 1 ≤ length (token_text (token.Mark m))
mark_long marks.Open = omega arith
mark_long _ = omega arith

mark_short : (m : Mark) → length (token_text (token.Mark m)) ≤ 2
mark_short marks.Open = omega arith
mark_short _ = omega arith

one_byte : (m : Mark) (b : ℕ) → one_mark b ≡ Some m → length (token_text (token.Mark m)) ≤ 1
one_byte marks.Unequal b e = absurd (not_unequal b e)
one_byte marks.AtMost b e = absurd (not_at_most b e)
one_byte marks.AtLeast b e = absurd (not_at_least b e)
one_byte _ b e = omega arith

mark_fits : (m : Mark) (text : List ℕ) → MarkText m text → length (token_text (token.Mark m)) ≤ length text
mark_fits m [] h = absurd h
mark_fits m (b ∷ []) h = omega (arith, one_byte m b h)
mark_fits m (b ∷ c ∷ []) h = omega (arith, mark_short m)
mark_fits m (b ∷ c ∷ d ∷ text) h = absurd h

token_fits : (t : Token) (text : List ℕ) → TokenText t text → length (token_text t) ≤ length text
token_fits (token.Word w) text h =
    let same = ap (λ (s : List ℕ). length s) h.2 ∙ length-map text to_ascii_uppercase in
    omega (arith, same)
token_fits (token.Number n) text h =
    let lt : value_from 0 text < 2 ^ 64 = subst (λ (k : ℕ). k < 2 ^ 64) h.2 h.3 in
    let fits = number_fits text h.0 h.1 lt in
    let same = ap (λ (k : ℕ). length (decimal k)) h.2 in
    omega (arith, fits, same)
token_fits (token.Quoted s) text h = let same = ap (λ (x : List ℕ). length x) h in omega (arith, same)
token_fits (token.Mark m) text h = mark_fits m text h

-- ---- All of them.

pub tokens_fit : (ts : List Token) (text : List ℕ) → Tokens ts text → tokens_length ts ≤ length text
tokens_fit [] text h = omega arith
tokens_fit (t ∷ ts) text h =
    let one = token_fits t h.1 h.4 in
    let others = tokens_fit ts h.2 h.6 in
    let whole = ap (λ (s : List ℕ). length s) h.7 ∙ length-append h.0 (h.1 ++ h.2) in
    let parts = length-append h.1 h.2 in
    omega (arith, one, others, whole, parts)

pub tokens_length-append : (ts us : List Token) → tokens_length (ts ++ us) ≡ tokens_length ts + tokens_length us
tokens_length-append [] us = omega arith
tokens_length-append (t ∷ ts) us = omega (arith, tokens_length-append ts us)
