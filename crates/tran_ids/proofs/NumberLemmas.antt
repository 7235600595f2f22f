-- Numbers are written as std writes them.
use Rattle.std.proofs.Common.{◌≡◌, ℕ, ◌/◌, ◌%◌, ◌<◌, ◌^◌, [], ◌∷◌, ◌++◌, codes, refl, sym, arith, rules}
use Rattle.std.proofs.lemmas.Fmt.{decimal_from_appends, length-decimal-le}
use Rattle.std.specs.Fmt.{decimal as decimal_of_std}
use Rattle.tran_ids.specs.Numbers.{digits, decimal, hex_digit, hex8}

-- in decimal
pub decimal_is : (n : ℕ) → n < 2 ^ 64 → decimal_of_std n ≡ decimal n
unfolding decimal
decimal_is n small =
    sym (decimal_from_appends digits (search rules) 20 n small (length-decimal-le 20 n (omega arith) (omega arith) small))

-- six zeros stand before the two digits of a byte
pub byte_is : (n : ℕ) → n < 256 → hex8 n ≡ codes "000000" ++ hex_digit (n / 16) ∷ hex_digit (n % 16) ∷ []
unfolding hex8
byte_is n small =
    let seventh : n / 16 ^ 7 ≡ 0 = omega arith in
    let sixth : n / 16 ^ 6 ≡ 0 = omega arith in
    let fifth : n / 16 ^ 5 ≡ 0 = omega arith in
    let fourth : n / 16 ^ 4 ≡ 0 = omega arith in
    let third : n / 16 ^ 3 ≡ 0 = omega arith in
    let second : n / 16 ^ 2 ≡ 0 = omega arith in
    let first : (n / 16 ^ 1) % 16 ≡ n / 16 = omega arith in
    let zeroth : n / 16 ^ 0 ≡ n = omega arith in
    rw (seventh, sixth, fifth, fourth, third, second, first, zeroth) refl
