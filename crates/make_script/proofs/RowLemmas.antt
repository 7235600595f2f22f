-- The statements of a made script are read, whatever their numbers are.
use Rattle.std.proofs.Common.{◌≡◌, ℕ, zero, suc, ◌<◌, ◌≤◌, ◌^◌, Bool, true, false, List, [], ◌∷◌, ◌++◌, length, Option, Some, None, rules, refl, sym, ap, arith}
use Rattle.std.specs.Prelude.{codes, decimal, nat_le}
use Rattle.std.specs.List.{list_all}
use Rattle.std.proofs.lemmas.Bool.{and_parts}
use Rattle.std.proofs.lemmas.Bool.Decides.{nat_tests}
use Rattle.std.proofs.lemmas.Fmt.{decimal_nonempty, digits_decimal, digits_value-decimal}
use Rattle.std.proofs.lemmas.Str.Parse.{IsNumeralModel, numerals_by_fold}
use Rattle.token_grammar.specs.declared.mark.Mark.TheVariants as marks
use Rattle.token_grammar.specs.declared.token.Token.{Token}
use Rattle.token_grammar.specs.declared.token.Token.TheVariants as token
use Rattle.token_grammar.specs.Steps.{◌>>=◌, begins, whole_of}
use Rattle.token_grammar.specs.Bytes.{is_digit, value_from}
use Rattle.token_grammar.specs.Tokens.{MarkEnds, TokenText, Tokens}
use Rattle.token_grammar.proofs.TextLaws.{tokens_again}
use Rattle.sql_statement.specs.declared.statement.Stmt.{Stmt}
use Rattle.sql_statement.specs.declared.statement.Stmt.TheVariants as statements
use Rattle.sql_parse.specs.Literals.{largest, literal, sum, table_ref, term}
use Rattle.sql_parse.specs.Changes.{insert}
use Rattle.sql_parse.specs.Statement.{statement_grammar, statement_of}
use Rattle.make_script.specs.Script.{digit, link_name, literal_of, values_text}

-- ---- tokens

-- a blank in front
blank_first : (ts : List Token) (bytes : List ℕ) → Tokens ts bytes → Tokens ts (32 ∷ bytes)
blank_first [] bytes h = h
blank_first (t ∷ ts) bytes s = (32 ∷ s.0, s.1, s.2, s.3, s.4, s.5, s.6, ap (λ (r : List ℕ). 32 ∷ r) s.7)

own : IsNumeralModel (λ ds. list_all is_digit ds ≡ true) (value_from 0)
own = numerals_by_fold _ (search rules) value_from (search rules)

first_digit : (ds : List ℕ) → 0 < length ds → list_all is_digit ds ≡ true → begins is_digit ds ≡ true
first_digit [] lt h = absurd (omega arith)
first_digit (d ∷ ds) lt h = (and_parts (is_digit d) (list_all is_digit ds) h).0

number_text : (n : ℕ) → n < 2 ^ 64 → TokenText (token.Number n) (decimal n)
number_text n lt =
    let all = digits_decimal own n lt in
    (first_digit (decimal n) (decimal_nonempty n lt) all, all, sym (digits_value-decimal own n lt), lt)

-- a number in decimal, in front of what does not go on with a digit
number_written : (n : ℕ) → n < 2 ^ 64 → (ts : List Token) (rest : List ℕ) → begins is_digit rest ≡ false → Tokens ts rest → Tokens (token.Number n ∷ ts) (decimal n ++ rest)
number_written n lt ts rest ends h = ([], decimal n, rest, refl, number_text n lt, ends, h, refl)

open_ends : (rest : List ℕ) → MarkEnds (codes "(") rest
open_ends [] = tt
open_ends (b ∷ rest) = refl

-- an open bracket, in front of anything
open_written : (ts : List Token) (rest : List ℕ) → Tokens ts rest → Tokens (token.Mark marks.Open ∷ ts) (codes "(" ++ rest)
open_written ts rest h = ([], codes "(", rest, refl, refl, open_ends rest, h, refl)

-- ` VALUES (number, value)`
abbrev value_tokens : ℕ → ℕ → List Token
value_tokens n v = token.Word (codes "VALUES") ∷ token.Mark marks.Open ∷ token.Number n ∷ token.Mark marks.Comma ∷ token.Number v ∷ token.Mark marks.Close ∷ []

close : Tokens (token.Mark marks.Close ∷ []) (codes ")")
close = ([], codes ")", [], refl, refl, tt, refl, refl)

values_are : (n v : ℕ) → n < 2 ^ 64 → v < 2 ^ 64 → Tokens (value_tokens n v) (values_text n v)
values_are n v p q =
    let value_end : List ℕ = decimal v ++ codes ")" in
    let value = number_written v q (token.Mark marks.Close ∷ []) (codes ")") refl close in
    let comma : Tokens (token.Mark marks.Comma ∷ token.Number v ∷ token.Mark marks.Close ∷ []) (codes ", " ++ value_end) =
    ([], codes ",", 32 ∷ value_end, refl, refl, refl, blank_first (token.Number v ∷ token.Mark marks.Close ∷ []) value_end value, refl) in
    let number = number_written n p (token.Mark marks.Comma ∷ token.Number v ∷ token.Mark marks.Close ∷ []) (codes ", " ++ value_end) refl comma in
    let opening = open_written (token.Number n ∷ token.Mark marks.Comma ∷ token.Number v ∷ token.Mark marks.Close ∷ []) (decimal n ++ (codes ", " ++ value_end)) number in (
      codes " ",
      codes "VALUES",
      codes " (" ++ (decimal n ++ (codes ", " ++ value_end)),
      refl,
      (refl, refl, refl),
      refl,
      blank_first (token.Mark marks.Open ∷ token.Number n ∷ token.Mark marks.Comma ∷ token.Number v ∷ token.Mark marks.Close ∷ []) (codes "(" ++ (decimal n ++ (codes ", " ++ value_end))) opening,
      refl,
    )

-- ` INSERT INTO`
into_are : (ts : List Token) (text : List ℕ) → Tokens ts (32 ∷ text) → Tokens (token.Word (codes "INSERT") ∷ token.Word (codes "INTO") ∷ ts) (codes " INSERT INTO " ++ text)
into_are ts text h = (
  codes " ",
  codes "INSERT",
  codes " INTO " ++ text,
  refl,
  (refl, refl, refl),
  refl,
  (codes " ", codes "INTO", codes " " ++ text, refl, (refl, refl, refl), refl, h, refl),
  refl,
)

abbrev own_tokens : ℕ → ℕ → List Token
own_tokens n v = token.Word (codes "INSERT") ∷ token.Word (codes "INTO") ∷ token.Word (codes "T") ∷ value_tokens n v

own_are : (n v : ℕ) → n < 2 ^ 64 → v < 2 ^ 64 → Tokens (own_tokens n v) (codes " INSERT INTO T" ++ values_text n v)
own_are n v p q =
    into_are (token.Word (codes "T") ∷ value_tokens n v) (codes "T" ++ values_text n v)
    (codes " ", codes "T", values_text n v, refl, (refl, refl, refl), refl, values_are n v p q, refl)

at_ends : (rest : List ℕ) → MarkEnds (codes "@") rest
at_ends [] = tt
at_ends (b ∷ rest) = refl

abbrev other_tokens : List ℕ → ℕ → ℕ → List Token
other_tokens name n v = token.Word (codes "INSERT") ∷ token.Word (codes "INTO") ∷ token.Word (codes "T") ∷ token.Mark marks.At ∷ token.Word name ∷ value_tokens n v

other_are : (name : List ℕ) (n v : ℕ) → Tokens (token.Word name ∷ value_tokens n v) (name ++ values_text n v) → Tokens (other_tokens name n v) (codes " INSERT INTO T@" ++ (name ++ values_text n v))
other_are name n v named =
    into_are (token.Word (codes "T") ∷ token.Mark marks.At ∷ token.Word name ∷ value_tokens n v) (codes "T@" ++ (name ++ values_text n v)) (
      codes " ",
      codes "T",
      codes "@" ++ (name ++ values_text n v),
      refl,
      (refl, refl, refl),
      refl,
      ([], codes "@", name ++ values_text n v, refl, refl, at_ends (name ++ values_text n v), named, refl),
      refl,
    )

-- ---- statements

fits : (n : ℕ) → n < 2 ^ 63 → nat_le n largest ≡ true
fits n h = grind (arith, nat_tests)

read_of : (text : List ℕ) (ts : List Token) (s : Stmt) → Tokens ts text → (statement_grammar.read ts >>= whole_of) ≡ Some s → statement_of text ≡ Some s
unfolding statement_of
read_of text ts s tokens read = rw (tokens_again ts text tokens) read

-- the row of a transaction
abbrev row : Option (List ℕ) → ℕ → ℕ → Stmt
row link n v = statements.Insert (record { name = codes "T"; link = link }) None (literal_of n ∷ literal_of v ∷ [])

own_tokens_read : (n v : ℕ) → n < 2 ^ 63 → v < 2 ^ 63 → (statement_grammar.read (own_tokens n v) >>= whole_of) ≡ Some (row None n v)
unfolding statement_grammar insert table_ref sum term literal
own_tokens_read n v p q = rw (fits n p, fits v q) refl

pub own_read : (n v : ℕ) → n < 2 ^ 63 → v < 2 ^ 63 → statement_of (codes " INSERT INTO T" ++ values_text n v) ≡ Some (row None n v)
own_read n v p q = read_of (codes " INSERT INTO T" ++ values_text n v) (own_tokens n v) (row None n v) (own_are n v (omega (arith, p)) (omega (arith, q))) (own_tokens_read n v p q)

-- the other node's row, at a link whose name is written out
abbrev pub IsOtherRead : ℕ → Type 0
IsOtherRead other = (n v : ℕ) → n < 2 ^ 63 → v < 2 ^ 63 → statement_of (codes " INSERT INTO T@L" ++ (digit other ++ values_text n v)) ≡ Some (row (Some (link_name other)) n v)

other_at : (name : List ℕ) (n v : ℕ) → Tokens (token.Word name ∷ value_tokens n v) (name ++ values_text n v) → (statement_grammar.read (other_tokens name n v) >>= whole_of) ≡ Some (row (Some name) n v)
    → statement_of (codes " INSERT INTO T@" ++ (name ++ values_text n v)) ≡ Some (row (Some name) n v)
other_at name n v named read = read_of (codes " INSERT INTO T@" ++ (name ++ values_text n v)) (other_tokens name n v) (row (Some name) n v) (other_are name n v named) read

-- what is shown of each of the four nodes holds of a node
pub four : (P : ℕ → Type 0) → P 1 → P 2 → P 3 → P 4 → (n : ℕ) → 1 ≤ n → n ≤ 4 → P n
four P a b c d zero low high = absurd (omega arith)
four P a b c d (suc zero) low high = a
four P a b c d (suc (suc zero)) low high = b
four P a b c d (suc (suc (suc zero))) low high = c
four P a b c d (suc (suc (suc (suc zero)))) low high = d
four P a b c d (suc (suc (suc (suc (suc n))))) low high = absurd (omega arith)

other_1 : IsOtherRead 1
unfolding statement_grammar insert table_ref sum term literal
other_1 n v p q =
    other_at (codes "L1") n v ([], codes "L1", values_text n v, refl, (refl, refl, refl), refl, values_are n v (omega (arith, p)) (omega (arith, q)), refl) (rw (fits n p, fits v q) refl)

other_2 : IsOtherRead 2
unfolding statement_grammar insert table_ref sum term literal
other_2 n v p q =
    other_at (codes "L2") n v ([], codes "L2", values_text n v, refl, (refl, refl, refl), refl, values_are n v (omega (arith, p)) (omega (arith, q)), refl) (rw (fits n p, fits v q) refl)

other_3 : IsOtherRead 3
unfolding statement_grammar insert table_ref sum term literal
other_3 n v p q =
    other_at (codes "L3") n v ([], codes "L3", values_text n v, refl, (refl, refl, refl), refl, values_are n v (omega (arith, p)) (omega (arith, q)), refl) (rw (fits n p, fits v q) refl)

other_4 : IsOtherRead 4
unfolding statement_grammar insert table_ref sum term literal
other_4 n v p q =
    other_at (codes "L4") n v ([], codes "L4", values_text n v, refl, (refl, refl, refl), refl, values_are n v (omega (arith, p)) (omega (arith, q)), refl) (rw (fits n p, fits v q) refl)

pub other_read : (other : ℕ) → 1 ≤ other → other ≤ 4 → IsOtherRead other
other_read = four IsOtherRead other_1 other_2 other_3 other_4
