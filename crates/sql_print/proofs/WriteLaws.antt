-- Bytes that are tokens, where what follows makes them no longer; and the tokens that some text is.
use Rattle.std.proofs.Common.{◌≡◌, ℕ, ◌<◌, ◌^◌, Bool, true, false, List, [], ◌∷◌, ◌++◌, length, map, None, rules, refl, sym, ap, subst, ◌∙◌, append_assoc, arith, inl, inr}
use Rattle.std.specs.Prelude.{codes, decimal, ◌||◌, ◌&&◌}
use Rattle.std.specs.List.{list_all}
use Rattle.std.specs.Char.{to_ascii_uppercase}
use Rattle.std.proofs.Math.Path.{ap₂}
use Rattle.std.proofs.lemmas.Bool.Decides.{nat_tests}
use Rattle.std.proofs.lemmas.Bool.{cases_Bool, or_parts}
use Rattle.std.proofs.lemmas.Fmt.{digits_value-decimal, digits_decimal, decimal_nonempty}
use Rattle.std.proofs.lemmas.Str.Parse.{IsNumeralModel, numerals_by_fold}
use Rattle.dtx_values.proofs.NameLemmas.{uppers}
use Rattle.token_grammar.specs.declared.mark.Mark.TheVariants as marks
use Rattle.token_grammar.specs.declared.token.Token.{Token}
use Rattle.token_grammar.specs.declared.token.Token.TheVariants as token
use Rattle.token_grammar.specs.Bytes.{is_letter, is_digit, is_word_byte, is_quote, value_from, two_marks}
use Rattle.token_grammar.specs.Steps.{begins}
use Rattle.token_grammar.specs.Tokens.{TokenText, MarkEnds, Ends, Tokens}
use Rattle.sql_print.specs.Printing.{quoted_text}

-- ---- Bytes that are tokens.

-- a byte that a word, a number or a text in quotes goes on with
abbrev pub goes_on : ℕ → Bool
goes_on b = is_word_byte b || is_quote b

-- no byte
abbrev pub no_byte : ℕ → Bool
no_byte b = false

-- the bytes are the tokens, in front of what begins with no such byte
abbrev pub Writes : (ℕ → Bool) → List Token → List ℕ → Type 0
Writes p us x = (ts : List Token) (rest : List ℕ) → begins p rest ≡ false → Tokens ts rest → Tokens (us ++ ts) (x ++ rest)

no_word : (rest : List ℕ) → begins goes_on rest ≡ false → begins is_word_byte rest ≡ false
no_word [] h = refl
no_word (b ∷ rest) h = (or_parts (is_word_byte b) (is_quote b) h).0

no_quote : (rest : List ℕ) → begins goes_on rest ≡ false → begins is_quote rest ≡ false
no_quote [] h = refl
no_quote (b ∷ rest) h = (or_parts (is_word_byte b) (is_quote b) h).1

no_digit : (rest : List ℕ) → begins goes_on rest ≡ false → begins is_digit rest ≡ false
no_digit [] h = refl
no_digit (b ∷ rest) h = (or_parts (is_digit b) _ (or_parts (is_letter b) _ (or_parts (is_word_byte b) (is_quote b) h).0).1).0

nothing_goes_on : (rest : List ℕ) → begins no_byte rest ≡ false
nothing_goes_on [] = refl
nothing_goes_on (b ∷ rest) = refl

-- one token, where what follows makes it no longer
token_written : (p : ℕ → Bool) (t : Token) (x : List ℕ) → TokenText t x → ((rest : List ℕ) → begins p rest ≡ false → Ends t x rest) → Writes p (t ∷ []) x
token_written p t x spelled ends ts rest q h = ([], x, rest, refl, spelled, ends rest q, h, refl)

-- a word that is spelled as it is
pub word_written : (w : List ℕ) → TokenText (token.Word w) w → Writes goes_on (token.Word w ∷ []) w
word_written w spelled = token_written goes_on (token.Word w) w spelled (λ rest h. no_word rest h)

-- a text in quotes
pub quoted_written : (s : List ℕ) → Writes goes_on (token.Quoted s ∷ []) (quoted_text s)
quoted_written s = token_written goes_on (token.Quoted s) (quoted_text s) refl (λ rest h. no_quote rest h)

own : IsNumeralModel (λ ds. list_all is_digit ds ≡ true) (value_from 0)
own = numerals_by_fold _ (search rules) value_from (search rules)

first_digit : (ds : List ℕ) → 0 < length ds → list_all is_digit ds ≡ true → begins is_digit ds ≡ true
first_digit [] lt h = absurd (omega arith)
first_digit (d ∷ ds) lt h = elim (cases_Bool (is_digit d)) [ inl k ↦ k | inr k ↦ (let q : false ≡ true = rw k at h in absurd cc) ]

number_text : (n : ℕ) → n < 2 ^ 64 → TokenText (token.Number n) (decimal n)
number_text n lt =
    let all = digits_decimal own n lt in
    (first_digit (decimal n) (decimal_nonempty n lt) all, all, sym (digits_value-decimal own n lt), lt)

-- a number in decimal
pub number_written : (n : ℕ) → n < 2 ^ 64 → Writes goes_on (token.Number n ∷ []) (decimal n)
number_written n lt = token_written goes_on (token.Number n) (decimal n) (number_text n lt) (λ rest h. no_digit rest h)

-- a mark that no second byte makes longer
mark_ends : (b : ℕ) → ((c : ℕ) → two_marks b c ≡ None) → (rest : List ℕ) → MarkEnds (b ∷ []) rest
mark_ends b h [] = tt
mark_ends b h (c ∷ rest) = h c

-- the marks; each ends by itself
pub open_written : Writes no_byte (token.Mark marks.Open ∷ []) (codes "(")
open_written = token_written no_byte (token.Mark marks.Open) (codes "(") refl (λ rest h. mark_ends 40 (λ c. refl) rest)

pub close_written : Writes no_byte (token.Mark marks.Close ∷ []) (codes ")")
close_written = token_written no_byte (token.Mark marks.Close) (codes ")") refl (λ rest h. mark_ends 41 (λ c. refl) rest)

pub comma_written : Writes no_byte (token.Mark marks.Comma ∷ []) (codes ",")
comma_written = token_written no_byte (token.Mark marks.Comma) (codes ",") refl (λ rest h. mark_ends 44 (λ c. refl) rest)

pub star_written : Writes no_byte (token.Mark marks.Star ∷ []) (codes "*")
star_written = token_written no_byte (token.Mark marks.Star) (codes "*") refl (λ rest h. mark_ends 42 (λ c. refl) rest)

pub at_written : Writes no_byte (token.Mark marks.At ∷ []) (codes "@")
at_written = token_written no_byte (token.Mark marks.At) (codes "@") refl (λ rest h. mark_ends 64 (λ c. refl) rest)

pub minus_written : Writes no_byte (token.Mark marks.Minus ∷ []) (codes "-")
minus_written = token_written no_byte (token.Mark marks.Minus) (codes "-") refl (λ rest h. mark_ends 45 (λ c. refl) rest)

pub plus_written : Writes no_byte (token.Mark marks.Plus ∷ []) (codes "+")
plus_written = token_written no_byte (token.Mark marks.Plus) (codes "+") refl (λ rest h. mark_ends 43 (λ c. refl) rest)

-- a blank in front
pub blank_first : (ts : List Token) (bytes : List ℕ) → Tokens ts bytes → Tokens ts (32 ∷ bytes)
blank_first [] bytes h = h
blank_first (t ∷ ts) bytes s = (32 ∷ s.0, s.1, s.2, s.3, s.4, s.5, s.6, ap (λ (r : List ℕ). 32 ∷ r) s.7)

-- tokens with a blank in front
pub blank_written : (p : ℕ → Bool) (us : List Token) (x : List ℕ) → Writes p us x → Writes p us (32 ∷ x)
blank_written p us x w ts rest h t = blank_first (us ++ ts) (x ++ rest) (w ts rest h t)

-- no bytes are no tokens
pub nothing_written : (p : ℕ → Bool) → Writes p [] []
nothing_written p ts rest h t = t

-- some tokens and then others, whose bytes keep the first from going on
pub then_written : (p q : ℕ → Bool) (us vs : List Token) (x y : List ℕ) → Writes p us x → Writes q vs y → ((rest : List ℕ) → begins q rest ≡ false → begins p (y ++ rest) ≡ false)
    → Writes q (us ++ vs) (x ++ y)
then_written p q us vs x y a b meets ts rest h t = rw (append_assoc us vs ts, append_assoc x y rest) (a (vs ++ ts) (y ++ rest) (meets rest h) (b ts rest h t))

-- some tokens that end by themselves, and then others
pub joined_written : (q : ℕ → Bool) (us vs : List Token) (x y : List ℕ) → Writes no_byte us x → Writes q vs y → Writes q (us ++ vs) (x ++ y)
joined_written q us vs x y a b = then_written no_byte q us vs x y a b (λ rest h. nothing_goes_on (y ++ rest))

-- what ends by itself ends before anything
pub ended : (us : List Token) (x : List ℕ) → Writes no_byte us x → Writes goes_on us x
ended us x w ts rest h t = w ts rest (nothing_goes_on rest) t

-- ends with a blank
pub spaced : (us : List Token) (x : List ℕ) → Writes goes_on us x → Writes no_byte us (x ++ 32 ∷ [])
spaced us x w ts rest h t = rw (append_assoc x (32 ∷ []) rest) (w ts (32 ∷ rest) refl (blank_first ts rest t))

-- ---- Tokens that some text is.

-- a word is written as itself, and a number has its place
abbrev pub IsMade : Token → Type 0
IsMade (token.Word w) = TokenText (token.Word w) w
IsMade (token.Number n) = n < 2 ^ 64
IsMade (token.Quoted s) = Unit {0}
IsMade (token.Mark m) = Unit {0}

-- each of the tokens is so
abbrev pub AreMade : List Token → Type 0
AreMade [] = Unit {0}
AreMade (t ∷ ts) = IsMade t × AreMade ts

letter_upper : (b : ℕ) → is_letter (to_ascii_uppercase b) ≡ is_letter b
letter_upper b = grind (arith, nat_tests)

word_byte_upper : (b : ℕ) → is_word_byte (to_ascii_uppercase b) ≡ is_word_byte b
word_byte_upper b = grind (arith, nat_tests)

letters_upper : (bs : List ℕ) → begins is_letter (map to_ascii_uppercase bs) ≡ begins is_letter bs
letters_upper [] = refl
letters_upper (b ∷ bs) = letter_upper b

word_bytes_upper : (bs : List ℕ) → list_all is_word_byte (map to_ascii_uppercase bs) ≡ list_all is_word_byte bs
word_bytes_upper [] = refl
word_bytes_upper (b ∷ bs) = ap₂ (λ x y. x && y) (word_byte_upper b) (word_bytes_upper bs)

word_is_made : (w x : List ℕ) → TokenText (token.Word w) x → TokenText (token.Word w) w
word_is_made w x s = rw s.2 (letters_upper x ∙ s.0, word_bytes_upper x ∙ s.1, sym (uppers x))

is_made : (t : Token) (x : List ℕ) → TokenText t x → IsMade t
is_made (token.Word w) x s = word_is_made w x s
is_made (token.Number n) x s = s.3
is_made (token.Quoted q) x s = tt
is_made (token.Mark m) x s = tt

-- the tokens of a text are so
pub are_made : (ts : List Token) (bytes : List ℕ) → Tokens ts bytes → AreMade ts
are_made [] bytes s = tt
are_made (t ∷ ts) bytes s = (is_made t s.1 s.4, are_made ts s.2 s.6)

front_of : (xs ys : List Token) → AreMade (xs ++ ys) → AreMade xs
front_of [] ys h = tt
front_of (x ∷ xs) ys h = (h.0, front_of xs ys h.1)

rest_of : (xs ys : List Token) → AreMade (xs ++ ys) → AreMade ys
rest_of [] ys h = h
rest_of (x ∷ xs) ys h = rest_of xs ys h.1

-- and so are the tokens of a front
pub front_made : (ts xs ys : List Token) → ts ≡ xs ++ ys → AreMade ts → AreMade xs
front_made ts xs ys e h = front_of xs ys (subst AreMade e h)

-- and those after it
pub rest_made : (ts xs ys : List Token) → ts ≡ xs ++ ys → AreMade ts → AreMade ys
rest_made ts xs ys e h = rest_of xs ys (subst AreMade e h)
