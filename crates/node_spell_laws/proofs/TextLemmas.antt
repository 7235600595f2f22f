-- Names, numbers and ids are ASCII, so they are texts of UTF-8.
use Rattle.std.proofs.Common.{◌≡◌, ℕ, zero, suc, ◌<◌, ◌/◌, ◌+◌, ◌%◌, Bool, true, false, cond, List, [], ◌∷◌, ◌++◌, map, refl, arith}
use Rattle.std.specs.Prelude.{nat_lt, nat_le, codes, length}
use Rattle.std.specs.Char.{is_ascii_alphabetic, to_ascii_uppercase}
use Rattle.std.specs.List.{AllByRecursion, list_all, slice_split, onto_first}
use Rattle.std.specs.Str.{IsAscii}
use Rattle.std.proofs.lemmas.Bool.{and_parts}
use Rattle.std.proofs.lemmas.Bool.Decides.{nat_tests}
use Rattle.std.proofs.lemmas.Str.{IsUtf8-from_ascii, is_utf8-from_IsUtf8}
use Rattle.std.proofs.lemmas.Str.Ascii.{IsAscii-nil}
use Rattle.dtx_values.specs.Limits.{name_limit}
use Rattle.dtx_values.specs.Name.{is_name_byte, is_word, is_identifier, is_dot, is_name}
use Rattle.token_grammar.proofs.Options.{test_some}
use Rattle.tran_ids.specs.declared.branch.BranchId.{BranchId}
use Rattle.tran_ids.specs.Numbers.{digits, decimal}
use Rattle.tran_ids.specs.Texts.{local_text}
use Rattle.sql_statement.specs.Whole.{IsName}
use Rattle.node_spell_laws.specs.Bytes.{IsUtf8Text}

-- each byte is ASCII
abbrev pub AreAscii : List ℕ → Type 0
AreAscii bytes = AllByRecursion (λ b. b < 128) bytes

ascii_at : (bytes : List ℕ) → AreAscii bytes → IsAscii bytes
ascii_at [] all i = IsAscii-nil i
ascii_at (b ∷ bytes) all zero = all.0
ascii_at (b ∷ bytes) all (suc i) = ascii_at bytes all.1 i

pub ascii_utf8 : (bytes : List ℕ) → AreAscii bytes → IsUtf8Text bytes
ascii_utf8 bytes all = is_utf8-from_IsUtf8 bytes (IsUtf8-from_ascii bytes (ascii_at bytes all))

pub ascii_joined : (xs ys : List ℕ) → AreAscii xs → AreAscii ys → AreAscii (xs ++ ys)
ascii_joined [] ys first second = second
ascii_joined (x ∷ xs) ys first second = (first.0, ascii_joined xs ys first.1 second)

-- ---- Names.

letter_ascii : (b : ℕ) → is_ascii_alphabetic b ≡ true → b < 128
letter_ascii b is = grind (arith, nat_tests)

name_byte_ascii : (b : ℕ) → is_name_byte b ≡ true → b < 128
name_byte_ascii b is = grind (arith, nat_tests)

name_bytes_ascii : (bytes : List ℕ) → list_all is_name_byte bytes ≡ true → AreAscii bytes
name_bytes_ascii [] all = tt
name_bytes_ascii (b ∷ bytes) all = let parts = and_parts (is_name_byte b) (list_all is_name_byte bytes) all in (name_byte_ascii b parts.0, name_bytes_ascii bytes parts.1)

word_ascii : (bytes : List ℕ) → is_word bytes ≡ true → AreAscii bytes
word_ascii [] is = tt
word_ascii (b ∷ bytes) is = let parts = and_parts (is_ascii_alphabetic b) (list_all is_name_byte bytes) is in (letter_ascii b parts.0, name_bytes_ascii bytes parts.1)

parts_ascii : (parts : List (List ℕ)) → list_all is_identifier parts ≡ true → AllByRecursion AreAscii parts
parts_ascii [] all = tt
parts_ascii (p ∷ ps) all = let both = and_parts (is_identifier p) (list_all is_identifier ps) all in (word_ascii p (and_parts (is_word p) _ both.0).0, parts_ascii ps both.1)

-- the parts between dots are ASCII, so the whole is
whole_ascii : (bytes : List ℕ) → AllByRecursion AreAscii (slice_split is_dot bytes) → AreAscii bytes
whole_ascii [] all = tt
whole_ascii (b ∷ bytes) all = by (is_dot b) refl all (whole_ascii bytes)
  where
    behind : (ps : List (List ℕ)) → AllByRecursion AreAscii (onto_first b ps) → (b < 128) × AllByRecursion AreAscii ps
    behind [] is = (is.0.0, tt)
    behind (p ∷ ps) is = (is.0.0, (is.0.1, is.1))

    by : (dot : Bool) → is_dot b ≡ dot → AllByRecursion AreAscii (cond dot ([] ∷ slice_split is_dot bytes) (onto_first b (slice_split is_dot bytes)))
        → (AllByRecursion AreAscii (slice_split is_dot bytes) → AreAscii bytes) → AreAscii (b ∷ bytes)
    by true is each later = ((let it : b < 128 = grind (arith, nat_tests, is) in it), later each.1)
    by false is each later = let parts = behind (slice_split is_dot bytes) each in (parts.0, later parts.1)

pub name_ascii : (name : List ℕ) → IsName name → AreAscii name
name_ascii name is =
    let test = (test_some (is_name name) (map to_ascii_uppercase name) name is).0 in
    whole_ascii name (parts_ascii (slice_split is_dot name) (and_parts (nat_le (length name) name_limit) (list_all is_identifier (slice_split is_dot name)) test).1)

pub name_utf8 : (name : List ℕ) → IsName name → IsUtf8Text name
name_utf8 name is = ascii_utf8 name (name_ascii name is)

-- ---- Numbers and ids.

digit_ascii : (n : ℕ) → 48 + n % 10 < 128
digit_ascii n = omega arith

digits_ascii : (most n : ℕ) → AreAscii (digits most n)
digits_ascii zero n = tt
digits_ascii (suc more) n = by (nat_lt n 10) refl (digits_ascii more (n / 10))
  where
    by : (small : Bool) → nat_lt n 10 ≡ small → AreAscii (digits more (n / 10)) → AreAscii (cond small ((48 + n) ∷ []) (digits more (n / 10) ++ (48 + n % 10) ∷ []))
    by true is later = ((let it : 48 + n < 128 = grind (arith, nat_tests, is) in it), tt)
    by false is later = ascii_joined (digits more (n / 10)) ((48 + n % 10) ∷ []) later (digit_ascii n, tt)

pub decimal_ascii : (n : ℕ) → AreAscii (decimal n)
unfolding decimal
decimal_ascii n = digits_ascii 20 n

pub local_ascii : (b : BranchId) → AreAscii (local_text b)
local_ascii b =
    let dot : AreAscii (codes ".") = (omega arith, tt) in
    let boot = ascii_joined (decimal b.boot) (codes ".") (decimal_ascii b.boot) dot in
    let session = ascii_joined (decimal b.boot ++ codes ".") (decimal b.session) boot (decimal_ascii b.session) in
    ascii_joined (decimal b.boot ++ codes "." ++ decimal b.session ++ codes ".") (decimal b.seq) (ascii_joined (decimal b.boot ++ codes "." ++ decimal b.session) (codes ".") session dot) (decimal_ascii b.seq)
