-- Numbers, flags and constants: the formats that are made of no other.
use Rattle.std.specs.Prelude.{ℕ, zero, suc, ◌-◌, ◌^◌, ◌<◌, ℤ, Bool, true, false, List, [], ◌∷◌, length, take, drop, Option, Some, None, FitsSigned, slice_index, nat_eq, nat_lt, if◌then◌else◌, ⊤}
use Rattle.std.specs.List.{starts_with}
use Rattle.std.specs.Int.{w64, byte_worth, bytes_high_first, sum_through, cast_signed, cast_unsigned}
use Rattle.byte_format.specs.Format.{Format}
use Rattle.byte_format.specs.Part.{recast}

-- one byte
abbrev pub number8_at : List ℕ → Option (ℕ × List ℕ)
number8_at [] = None
number8_at (b ∷ rest) = Some (b, rest)

-- a number below 2^8
abbrev pub number8 : Format ℕ
number8 = record { Fits = λ n. n < 2 ^ 8; text = λ n. n ∷ []; read = number8_at }

-- the number that so many bytes stand for, most significant first
abbrev pub number_of : ℕ → List ℕ → ℕ
number_of size bytes = sum_through (λ i. byte_worth (size - 1 - i) (slice_index bytes i)) (size - 1)

-- so many bytes at the front, as a number
abbrev pub number_at : ℕ → List ℕ → Option (ℕ × List ℕ)
number_at size bytes = if nat_lt (length bytes) size then None else Some (number_of size (take size bytes), drop size bytes)

-- so many bytes, most significant first: the highest of the lowest `size` bytes of the number, and so on down
abbrev pub number : ℕ → Format ℕ
number size = record { Fits = λ n. n < 256 ^ size; text = bytes_high_first size; read = number_at size }

-- two bytes
abbrev pub number16 : Format ℕ
number16 = number 2

-- four bytes
abbrev pub number32 : Format ℕ
number32 = number 4

-- six bytes
abbrev pub number48 : Format ℕ
number48 = number 6

-- eight bytes
abbrev pub number64 : Format ℕ
number64 = number 8

-- two's complement
abbrev pub signed64 : Format ℤ
signed64 = recast (FitsSigned w64) (cast_signed w64) (cast_unsigned w64) number64

-- 0 for false, 1 for true
abbrev pub flag_text : Bool → List ℕ
flag_text false = 0 ∷ []
flag_text true = 1 ∷ []

-- a byte that is 0 or 1
abbrev pub flag_at : List ℕ → Option (Bool × List ℕ)
flag_at [] = None
flag_at (zero ∷ rest) = Some (false, rest)
flag_at (suc zero ∷ rest) = Some (true, rest)
flag_at (suc (suc b) ∷ rest) = None

-- a flag, as one byte
abbrev pub flag : Format Bool
flag = record { Fits = λ b. ⊤; text = flag_text; read = flag_at }

-- always the same bytes
abbrev pub constant_at : List ℕ → List ℕ → Option (⊤ × List ℕ)
constant_at mark bytes = if starts_with nat_eq bytes mark then Some (tt, drop (length mark) bytes) else None

-- these bytes, which say nothing more
abbrev pub constant : List ℕ → Format ⊤
constant mark = record { Fits = λ u. ⊤; text = λ u. mark; read = constant_at mark }

-- no byte at all
abbrev pub empty : Format ⊤
empty = record { Fits = λ u. ⊤; text = λ u. []; read = λ bytes. Some (tt, bytes) }
