-- One line of bytes more.
use Rattle.std.proofs.Common.{◌≡◌, ℕ, ◌+◌, ◌*◌, min, List, [], ◌∷◌, ◌++◌, map, length, take, ap, ◌/◌, ◌%◌, arith}
use Rattle.std.proofs.lemmas.List.{take_min}
use Rattle.std.proofs.lemmas.List.FromFn.{map-range_with_len_more}
use Rattle.std.specs.List.{range_with_len}
use Rattle.std.proofs.Math.Nat.{div-one}
use Rattle.tran_ids.specs.Numbers.{hex_digit, hex8}
use Rattle.report.specs.Bytes.{byte_line}

pub one_more : (bytes : List ℕ) (n : ℕ) → map (λ i. byte_line bytes (32 * i)) (range_with_len 0 (n + 1)) ≡ map (λ i. byte_line bytes (32 * i)) (range_with_len 0 n) ++ byte_line bytes (32 * n) ∷ []
one_more bytes n = map-range_with_len_more (λ i. byte_line bytes (32 * i)) 0 n n (omega arith)

-- the bytes of a line: those that are there, of 32
pub bytes_of_line : (bytes : List ℕ) → take (min 32 (length bytes)) bytes ≡ take 32 bytes
bytes_of_line bytes = take_min 32 bytes

-- a place as the digits of its halves of bytes
pub hex8_is : (n : ℕ) → hex8 n ≡ hex_digit (n / 268435456 % 16) ∷ hex_digit (n / 16777216 % 16) ∷ hex_digit (n / 1048576 % 16) ∷ hex_digit (n / 65536 % 16) ∷ hex_digit (n / 4096 % 16) ∷ hex_digit (n / 256 % 16) ∷ hex_digit (n / 16 % 16) ∷ hex_digit (n % 16) ∷ []
unfolding hex8
hex8_is n = ap (λ (k : ℕ). hex_digit (n / 268435456 % 16) ∷ hex_digit (n / 16777216 % 16) ∷ hex_digit (n / 1048576 % 16) ∷ hex_digit (n / 65536 % 16) ∷ hex_digit (n / 4096 % 16) ∷ hex_digit (n / 256 % 16) ∷ hex_digit (n / 16 % 16) ∷ hex_digit (k % 16) ∷ []) (div-one n)
