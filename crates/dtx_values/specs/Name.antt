-- Identifiers, and names made of them.
use Rattle.std.specs.Prelude.{ℕ, Bool, false, if◌then◌else◌, ◌&&◌, ◌||◌, not, ◌==◌, nat_le, List, [], ◌∷◌, length, map, Option, None, Some, codes}
use Rattle.std.specs.Char.{is_ascii_alphabetic, is_ascii_alphanumeric, to_ascii_uppercase}
use Rattle.std.specs.List.{list_all, list_any, slice_split}
use Rattle.std.specs.Str.{str_eq_ignore_ascii_case}
use Rattle.dtx_values.specs.Limits.{identifier_limit, name_limit}

-- the words that are no identifiers
abbrev pub reserved_words : List (List ℕ)
reserved_words =
    codes "SELECT" ∷ codes "FROM" ∷ codes "WHERE" ∷ codes "AND" ∷ codes "INTO" ∷ codes "VALUES" ∷ codes "SET"
    ∷ codes "FOR" ∷ codes "IS" ∷ codes "NOT" ∷ codes "NULL" ∷ codes "INSERT" ∷ codes "UPDATE" ∷ codes "DELETE"
    ∷ codes "CREATE" ∷ codes "TABLE" ∷ codes "SYNONYM" ∷ codes "ALTER" ∷ []

-- one of these words, in any case of letters
abbrev pub is_reserved : List ℕ → Bool
is_reserved word = list_any (λ reserved. str_eq_ignore_ascii_case reserved word) reserved_words

-- a letter, a digit, `_`, `$` or `#`
abbrev pub is_name_byte : ℕ → Bool
is_name_byte b = is_ascii_alphanumeric b || list_any (λ sign. b == sign) (codes "_$#")

-- a letter first, and no other bytes than those of names
abbrev pub is_word : List ℕ → Bool
is_word [] = false
is_word (first ∷ rest) = is_ascii_alphabetic first && list_all is_name_byte rest

-- a word within its limit, and not a reserved one
abbrev pub is_identifier : List ℕ → Bool
is_identifier bytes = is_word bytes && (nat_le (length bytes) identifier_limit && not (is_reserved bytes))

-- the byte between the identifiers of a name
abbrev pub is_dot : ℕ → Bool
is_dot b = b == 46

-- the parts between the dots are identifiers, and the whole is within its limit
abbrev pub is_name : List ℕ → Bool
is_name bytes = nat_le (length bytes) name_limit && list_all is_identifier (slice_split is_dot bytes)

-- the name that these bytes spell: the bytes themselves in upper case
abbrev pub name_of : List ℕ → Option (List ℕ)
name_of bytes = if is_name bytes then Some (map to_ascii_uppercase bytes) else None
