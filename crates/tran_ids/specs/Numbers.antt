-- How numbers are written.
use Rattle.std.specs.Prelude.{ℕ, ◌+◌, ◌/◌, ◌%◌, ◌^◌, if◌then◌else◌, nat_lt, List, [], ◌∷◌, ◌++◌, map, zero, suc}

-- a number in decimal, where it has at most this many digits
abbrev pub digits : ℕ → ℕ → List ℕ
digits zero n = []
digits (suc more) n = if nat_lt n 10 then (48 + n) ∷ [] else digits more (n / 10) ++ (48 + n % 10) ∷ []

-- a number in decimal: the greatest has twenty digits
unfoldable pub decimal : ℕ → List ℕ
decimal n = digits 20 n

-- one hexadecimal digit
abbrev pub hex_digit : ℕ → ℕ
hex_digit d = if nat_lt d 10 then 48 + d else 87 + d

-- a number as eight hexadecimal digits, the most significant first
unfoldable pub hex8 : ℕ → List ℕ
hex8 n = map (λ k. hex_digit ((n / (16 ^ k)) % 16)) (7 ∷ 6 ∷ 5 ∷ 4 ∷ 3 ∷ 2 ∷ 1 ∷ 0 ∷ [])
