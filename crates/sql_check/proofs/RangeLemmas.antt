-- A number is in range where it fits 64 bits.
use Rattle.std.proofs.Common.{◌≡◌, ℤ, ◌^◌, ◌<◌, Option, None, Some, true, false, refl, ap, arith}
use Rattle.std.specs.Prelude.{SomeIff, pos, negsuc, FitsSigned}
use Rattle.std.specs.Int.{w64}
use Rattle.std.proofs.lemmas.Bool.Decides.{nat_tests}
use Rattle.sql_check.specs.Data.{Value}
use Rattle.sql_check.specs.Data.values
use Rattle.sql_check.specs.Sums.{in_range, ranged}

in_range-fits : (n : ℤ) → FitsSigned w64 n → in_range n ≡ true
in_range-fits (pos n) h = let low = h.sfits in grind (arith, nat_tests)
in_range-fits (negsuc n) h = let low = h.sfits in grind (arith, nat_tests)

in_range-past : (n : ℤ) → (FitsSigned w64 n → ⊥) → in_range n ≡ false
in_range-past (pos n) h = let high : ¬ (n < 2 ^ 63) = λ low. h (record { sfits = low }) in grind (arith, nat_tests)
in_range-past (negsuc n) h = let high : ¬ (n < 2 ^ 63) = λ low. h (record { sfits = low }) in grind (arith, nat_tests)

-- the number as a value, where there is one
abbrev number_of : Option ℤ → Option Value
number_of None = None
number_of (Some n) = Some (values.Number n)

pub ranged_is : (r : Option ℤ) (n : ℤ) → SomeIff r (FitsSigned w64 n) n → number_of r ≡ ranged n
ranged_is None n h = rw (in_range-past n h) refl
ranged_is (Some m) n h = rw (in_range-fits n h.0) (ap (λ (k : ℤ). Some (values.Number k)) h.1)
