-- A text without quotes, dashes and semicolons is one piece of a script, just as it stands.
use Rattle.std.proofs.Common.{◌≡◌, ℕ, suc, zero, ◌<◌, ◌^◌, Bool, true, false, List, [], ◌∷◌, ◌++◌, rules, refl, sym, ap, subst, ◌∙◌, arith}
use Rattle.std.specs.Prelude.{◌&&◌, ◌||◌, ◌==◌, not, nat_lt, nat_le, nat_eq, decimal, slice_index, codes}
use Rattle.std.specs.List.{list_all}
use Rattle.std.specs.Str.{IsAscii}
use Rattle.std.proofs.lemmas.Bool.{and_from, and_parts}
use Rattle.std.proofs.lemmas.Bool.Decides.{nat_tests}
use Rattle.std.proofs.lemmas.Fmt.{digits_decimal}
use Rattle.std.proofs.lemmas.Str.{IsUtf8-from_ascii, is_utf8-from_IsUtf8}
use Rattle.std.proofs.lemmas.Str.Parse.{IsNumeralModel, numerals_by_fold}
use Rattle.token_grammar.specs.Bytes.{is_digit, is_quote, value_from}
use Rattle.script_read.specs.declared.part.Part.TheVariants.{Plain}
use Rattle.script_read.specs.Parts.{all_may_stand, begins_comment, is_clean, is_semicolon, may_stand, outside_comments, part_behind, pieces_from, said, with_byte}

-- a byte that neither ends a command nor begins a text in quotes or a comment, and may stand anywhere
abbrev pub is_calm : ℕ → Bool
is_calm b = nat_lt b 127 && ((nat_le 32 b || b == 10) && not (b == 39 || (b == 45 || b == 59)))

no_semicolon : (b : ℕ) → is_calm b ≡ true → is_semicolon b ≡ false
no_semicolon b h = grind (arith, nat_tests)

no_quote : (b : ℕ) → is_calm b ≡ true → is_quote b ≡ false
no_quote b h = grind (arith, nat_tests)

no_dash : (b : ℕ) → is_calm b ≡ true → nat_eq 45 b ≡ false
no_dash b h = grind (arith, nat_tests)

stands : (b : ℕ) → is_calm b ≡ true → may_stand Plain b ≡ true
stands b h = grind (arith, nat_tests)

low : (b : ℕ) → is_calm b ≡ true → b < 128
low b h = grind (arith, nat_tests)

digit_calm : (b : ℕ) → is_digit b ≡ true → is_calm b ≡ true
digit_calm b h = grind (arith, nat_tests)

no_comment : (b : ℕ) (bs : List ℕ) → is_calm b ≡ true → begins_comment (b ∷ bs) ≡ false
no_comment b bs h = rw (no_dash b h) refl

-- what stands behind such a byte is outside quotes and comments
plain_behind : (b : ℕ) (bs : List ℕ) → is_calm b ≡ true → part_behind Plain b bs ≡ Plain
plain_behind b bs h = rw (no_quote b h, no_comment b bs h) refl

-- ---- texts of such bytes

abbrev pub IsCalm : List ℕ → Type 0
IsCalm text = list_all is_calm text ≡ true

pub calm_append : (xs ys : List ℕ) → IsCalm xs → IsCalm ys → IsCalm (xs ++ ys)
calm_append [] ys p q = q
calm_append (x ∷ xs) ys p q = let u = and_parts (is_calm x) (list_all is_calm xs) p in and_from (is_calm x) _ u.0 (calm_append xs ys u.1 q)

digits_calm : (ds : List ℕ) → list_all is_digit ds ≡ true → IsCalm ds
digits_calm [] h = refl
digits_calm (d ∷ ds) h = let u = and_parts (is_digit d) (list_all is_digit ds) h in and_from (is_calm d) _ (digit_calm d u.0) (digits_calm ds u.1)

own : IsNumeralModel (λ ds. list_all is_digit ds ≡ true) (value_from 0)
own = numerals_by_fold _ (search rules) value_from (search rules)

-- a number in decimal is such a text
pub decimal_calm : (n : ℕ) → n < 2 ^ 64 → IsCalm (decimal n)
decimal_calm n small = digits_calm (decimal n) (digits_decimal own n small)

-- it is cut at the semicolon behind it
pub calm_cut : (text rest : List ℕ) → IsCalm text → pieces_from Plain (text ++ 59 ∷ rest) ≡ (text ∷ (pieces_from Plain rest).0, (pieces_from Plain rest).1)
calm_cut [] rest h = refl
calm_cut (b ∷ bs) rest h =
    let u = and_parts (is_calm b) (list_all is_calm bs) h in
    rw (no_semicolon b u.0, plain_behind b (bs ++ 59 ∷ rest) u.0) (ap (with_byte b) (calm_cut bs rest u.1))

-- it has no comments
pub calm_said : (text : List ℕ) → IsCalm text → said text ≡ text
calm_said [] h = refl
calm_said (b ∷ bs) h =
    let u = and_parts (is_calm b) (list_all is_calm bs) h in
    rw (plain_behind b bs u.0) (ap (λ (r : List ℕ). b ∷ r) (calm_said bs u.1))

all_stand : (text : List ℕ) → IsCalm text → all_may_stand Plain text ≡ true
all_stand [] h = refl
all_stand (b ∷ bs) h =
    let u = and_parts (is_calm b) (list_all is_calm bs) h in
    rw (stands b u.0, plain_behind b bs u.0) (all_stand bs u.1)

ascii : (text : List ℕ) → IsCalm text → IsAscii text
ascii [] h i = omega arith
ascii (b ∷ bs) h zero = low b (and_parts (is_calm b) (list_all is_calm bs) h).0
ascii (b ∷ bs) h (suc i) = ascii bs (and_parts (is_calm b) (list_all is_calm bs) h).1 i

-- and no byte that may not stand
pub calm_clean : (text : List ℕ) → IsCalm text → is_clean text ≡ true
calm_clean text h = and_from _ _ (is_utf8-from_IsUtf8 text (IsUtf8-from_ascii text (ascii text h))) (all_stand text h)

-- ---- texts of single bytes

-- a byte of ASCII but the last
abbrev pub is_low : ℕ → Bool
is_low b = nat_lt b 127

low_byte : (b : ℕ) → is_low b ≡ true → b < 128
low_byte b h = grind (arith, nat_tests)

low_ascii : (text : List ℕ) → list_all is_low text ≡ true → IsAscii text
low_ascii [] h i = omega arith
low_ascii (b ∷ bs) h zero = low_byte b (and_parts (is_low b) (list_all is_low bs) h).0
low_ascii (b ∷ bs) h (suc i) = low_ascii bs (and_parts (is_low b) (list_all is_low bs) h).1 i

-- a text that is written out is clean where each of its bytes may stand
pub low_clean : (text : List ℕ) → list_all is_low text ≡ true → all_may_stand Plain text ≡ true → is_clean text ≡ true
low_clean text h stands = and_from _ _ (is_utf8-from_IsUtf8 text (IsUtf8-from_ascii text (low_ascii text h))) stands
