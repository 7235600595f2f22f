-- How bytes are printed. The layout is dtx's own.
use Rattle.std.specs.Prelude.{ℕ, ◌+◌, ◌*◌, ◌/◌, ◌%◌, List, [], ◌∷◌, ◌++◌, map, flat_map, length, take, drop, codes}
use Rattle.std.specs.List.{range_with_len}
use Rattle.tran_ids.specs.Numbers.{hex_digit, hex8}

-- a byte as two digits
abbrev pub hex2 : ℕ → List ℕ
hex2 b = hex_digit (b / 16) ∷ hex_digit (b % 16) ∷ []

-- the line of bytes that begins at a place
abbrev pub byte_line : List ℕ → ℕ → List ℕ
byte_line bytes place = hex8 place ++ codes " " ++ flat_map hex2 (take 32 (drop place bytes))

-- a line for each 32 bytes, and one for the rest
abbrev pub byte_lines : List ℕ → List (List ℕ)
byte_lines bytes = map (λ i. byte_line bytes (32 * i)) (range_with_len 0 ((length bytes + 31) / 32))
