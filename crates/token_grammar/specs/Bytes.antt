-- What single bytes are for tokens, and what some of them say together.
use Rattle.std.specs.Prelude.{ℕ, ◌+◌, ◌-◌, ◌*◌, Bool, ◌&&◌, ◌||◌, List, [], ◌∷◌, Option, Some, None, nat_le, ◌==◌, if◌then◌else◌}
use Rattle.token_grammar.specs.declared.mark.Mark.{Mark}
use Rattle.token_grammar.specs.declared.mark.Mark.TheVariants as mark

-- tab, line feed, carriage return, space
abbrev pub is_blank : ℕ → Bool
is_blank b = b == 9 || (b == 10 || (b == 13 || b == 32))

-- A to Z and a to z
abbrev pub is_letter : ℕ → Bool
is_letter b = (nat_le 65 b && nat_le b 90) || (nat_le 97 b && nat_le b 122)

-- 0 to 9
abbrev pub is_digit : ℕ → Bool
is_digit b = nat_le 48 b && nat_le b 57

-- letters, digits, `_`, `$`, `#`, and the dot that joins the parts of a name
abbrev pub is_word_byte : ℕ → Bool
is_word_byte b = is_letter b || (is_digit b || (b == 95 || (b == 36 || (b == 35 || b == 46))))

-- `'`
abbrev pub is_quote : ℕ → Bool
is_quote b = b == 39

-- the number that digits write behind those of n
abbrev pub value_from : ℕ → List ℕ → ℕ
value_from n [] = n
value_from n (d ∷ ds) = value_from (10 * n + (d - 48)) ds

-- a byte within quotes: a quote is written twice
abbrev pub doubled : ℕ → List ℕ
doubled b = if is_quote b then 39 ∷ 39 ∷ [] else b ∷ []

-- the marks of one byte: `(` `)` `,` `*` `@` `+` `-` `=` `<` `>` `:`
abbrev pub one_mark : ℕ → Option Mark
one_mark b = if b == 40 then Some mark.Open else (if b == 41 then Some mark.Close else (if b == 44 then Some mark.Comma
    else (if b == 42 then Some mark.Star else (if b == 64 then Some mark.At else (if b == 43 then Some mark.Plus
    else (if b == 45 then Some mark.Minus else (if b == 61 then Some mark.Equal else (if b == 60 then Some mark.Below
    else (if b == 62 then Some mark.Above else (if b == 58 then Some mark.Colon else None))))))))))

-- the marks of two bytes: `<>` `!=` `<=` `>=`
abbrev pub two_marks : ℕ → ℕ → Option Mark
two_marks b c = if b == 60 && c == 62 then Some mark.Unequal else (if b == 33 && c == 61 then Some mark.Unequal
    else (if b == 60 && c == 61 then Some mark.AtMost else (if b == 62 && c == 61 then Some mark.AtLeast else None)))
