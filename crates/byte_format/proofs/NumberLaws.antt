-- The formats of numbers, flags and constants are exact.
use Rattle.std.proofs.Common.{◌≡◌, ℕ, zero, suc, ◌/◌, ◌%◌, ◌^◌, ◌<◌, ◌≤◌, ℤ, Bool, true, false, ltb, eqb, List, [], ◌∷◌, ◌++◌, length, take, drop, Some, refl, sym, ap, subst, ◌∙◌, arith}
use Rattle.std.specs.Prelude.{FitsSigned, ⊤}
use Rattle.std.specs.List.{starts_with}
use Rattle.std.specs.Int.{w64, bytes_high_first, cast_signed, cast_unsigned}
use Rattle.std.proofs.lemmas.Bool.{ltb-false, le-ltb}
use Rattle.std.proofs.lemmas.Bool.Decides.{Decides-eqb}
use Rattle.std.proofs.lemmas.Int.{of_z-to_z, to_z-of_z}
use Rattle.std.proofs.lemmas.List.{take_at, drop_at, take-append-drop, length-append, length-take}
use Rattle.std.proofs.lemmas.Nat.{be_bytes_2, be_bytes_4, be_bytes_8, from_be_bytes-to_be_bytes_2, from_be_bytes-to_be_bytes_4, from_be_bytes-to_be_bytes_8}
use Rattle.std.proofs.lemmas.Slice.Eq.{starts_is}
use Rattle.std.proofs.Math.Facts.{Fits-of_z}
use borrow.Author.Gap.{read_sfits}
use Rattle.byte_format.specs.Format.{IsBytes, IsFront, IsExact}
use Rattle.byte_format.specs.Number.{number8_at, number_of, number, number8, number16, number32, number48, number64, signed64, flag, flag_at, flag_text, constant, empty}
use Rattle.byte_format.proofs.Steps.{some_is, guard_some, test_some, IsBytes-take}
use Rattle.byte_format.proofs.PartLaws.{recast_exact}

-- ---- one byte

number8_takes : (bytes : List ℕ) (x : ℕ × List ℕ) → IsBytes bytes → number8_at bytes ≡ Some x → IsFront number8 bytes x.0 x.1
number8_takes [] x fits e = absurd cc
number8_takes (b ∷ rest) x fits e =
    subst (λ (y : ℕ × List ℕ). IsFront number8 (b ∷ rest) y.0 y.1) (some_is (b, rest) x e) (record { fits = fits 0; spelled = refl })

pub number8_exact : IsExact number8
number8_exact = record { takes = number8_takes; again = λ v rest fits. refl }

-- ---- so many bytes

-- so many bytes and the numbers below the limit are each other's
record IsWide (size : ℕ) : Type 0 where
  len : (n : ℕ) → length (bytes_high_first size n) ≡ size
  back : (bytes : List ℕ) → length bytes ≡ size → IsBytes bytes → bytes_high_first size (number_of size bytes) ≡ bytes
  again : (n : ℕ) → n < 256 ^ size → number_of size (bytes_high_first size n) ≡ n
  below : (bytes : List ℕ) → IsBytes bytes → number_of size bytes < 256 ^ size

number_exact : (size : ℕ) → IsWide size → IsExact (number size)
number_exact size wide = record {
  takes = λ bytes x fits e.
      let g = guard_some (ltb (length bytes) size) (number_of size (take size bytes), drop size bytes) x e in
      let enough : size ≤ length bytes = ltb-false _ _ g.0 in
      let front_len : length (take size bytes) ≡ size = omega (arith, length-take size bytes) in
      let front_fits = IsBytes-take size bytes fits in
      subst (λ (y : ℕ × List ℕ). IsFront (number size) bytes y.0 y.1) g.1 (record {
        fits = wide.below (take size bytes) front_fits;
        spelled = sym (take-append-drop size bytes) ∙ ap (λ (t : List ℕ). t ++ drop size bytes) (sym (wide.back (take size bytes) front_len front_fits));
      });
  again = λ n rest lt.
      let long : size ≤ length (bytes_high_first size n ++ rest) = omega (arith, length-append (bytes_high_first size n) rest, wide.len n) in
      rw (le-ltb _ _ long, take_at (bytes_high_first size n) rest size (wide.len n), drop_at (bytes_high_first size n) rest size (wide.len n), wide.again n lt) refl;
}

pub number16_exact : IsExact number16
number16_exact = number_exact 2 (record {
  len = λ n. refl;
  back = λ bytes len fits. be_bytes_2 bytes _ len fits refl;
  again = λ n lt. from_be_bytes-to_be_bytes_2 n lt;
  below = λ bytes fits. omega (arith, fits 0, fits 1);
})

pub number32_exact : IsExact number32
number32_exact = number_exact 4 (record {
  len = λ n. refl;
  back = λ bytes len fits. be_bytes_4 bytes _ len fits refl;
  again = λ n lt. from_be_bytes-to_be_bytes_4 n lt;
  below = λ bytes fits. omega (arith, fits 0, fits 1, fits 2, fits 3);
})

pub number64_exact : IsExact number64
number64_exact = number_exact 8 (record {
  len = λ n. refl;
  back = λ bytes len fits. be_bytes_8 bytes _ len fits refl;
  again = λ n lt. from_be_bytes-to_be_bytes_8 n lt;
  below = λ bytes fits. omega (arith, fits 0, fits 1, fits 2, fits 3, fits 4, fits 5, fits 6, fits 7);
})

-- ---- six bytes are the last of eight, the first two of which are 0

IsBytes-zeros : (bytes : List ℕ) → IsBytes bytes → IsBytes (0 ∷ 0 ∷ bytes)
IsBytes-zeros bytes fits zero = omega arith
IsBytes-zeros bytes fits (suc zero) = omega arith
IsBytes-zeros bytes fits (suc (suc i)) = fits i

pub number_of-zeros : (bytes : List ℕ) → number_of 8 (0 ∷ 0 ∷ bytes) ≡ number_of 6 bytes
number_of-zeros bytes = omega arith

-- below 2^48 the first two bytes are 0
bytes_high_first-zeros : (n : ℕ) → n < 256 ^ 6 → bytes_high_first 8 n ≡ 0 ∷ 0 ∷ bytes_high_first 6 n
bytes_high_first-zeros n lt =
    let first : n / 256 ^ 7 % 256 ≡ 0 = omega arith in
    let second : n / 256 ^ 6 % 256 ≡ 0 = omega arith in
    rw (first, second) refl

pub number48_exact : IsExact number48
number48_exact = number_exact 6 (record {
  len = λ n. refl;
  back = λ bytes len fits.
      ap (drop 2) (be_bytes_8 (0 ∷ 0 ∷ bytes) (number_of 6 bytes) (ap (λ (k : ℕ). suc (suc k)) len) (IsBytes-zeros bytes fits) (sym (number_of-zeros bytes)));
  again = λ n lt.
      sym (number_of-zeros (bytes_high_first 6 n)) ∙ ap (number_of 8) (sym (bytes_high_first-zeros n lt)) ∙ from_be_bytes-to_be_bytes_8 n (omega arith);
  below = λ bytes fits. omega (arith, fits 0, fits 1, fits 2, fits 3, fits 4, fits 5);
})

-- ---- two's complement

cast_unsigned-below : (b : ℤ) → FitsSigned w64 b → cast_unsigned w64 b < 2 ^ 64
cast_unsigned-below b fits = let f = Fits-of_z {w = w64} {z = b} fits in omega arith

pub signed64_exact : IsExact signed64
signed64_exact = recast_exact (FitsSigned w64) (cast_signed w64) (cast_unsigned w64) number64 number64_exact
    (λ a fits. (read_sfits w64 a, of_z-to_z w64 a fits)) (λ b fits. (cast_unsigned-below b fits, to_z-of_z w64 b fits))

-- ---- flags

flag_takes : (bytes : List ℕ) (x : Bool × List ℕ) → IsBytes bytes → flag_at bytes ≡ Some x → IsFront flag bytes x.0 x.1
flag_takes [] x fits e = absurd cc
flag_takes (zero ∷ rest) x fits e =
    subst (λ (y : Bool × List ℕ). IsFront flag (0 ∷ rest) y.0 y.1) (some_is (false, rest) x e) (record { fits = tt; spelled = refl })
flag_takes (suc zero ∷ rest) x fits e =
    subst (λ (y : Bool × List ℕ). IsFront flag (1 ∷ rest) y.0 y.1) (some_is (true, rest) x e) (record { fits = tt; spelled = refl })
flag_takes (suc (suc b) ∷ rest) x fits e = absurd cc

flag_again : (v : Bool) (rest : List ℕ) → flag_at (flag_text v ++ rest) ≡ Some (v, rest)
flag_again false rest = refl
flag_again true rest = refl

pub flag_exact : IsExact flag
flag_exact = record { takes = flag_takes; again = λ v rest fits. flag_again v rest }

-- ---- constants

pub constant_exact : (mark : List ℕ) → IsExact (constant mark)
constant_exact mark = record {
  takes = λ bytes x fits e.
      let g = test_some (starts_with eqb bytes mark) (tt, drop (length mark) bytes) x e in
      subst (λ (y : ⊤ × List ℕ). IsFront (constant mark) bytes y.0 y.1) g.1
      (record { fits = tt; spelled = (starts_is Decides-eqb bytes mark (starts_with eqb bytes mark) refl).0 g.0 });
  again = λ v rest fits.
      rw ((starts_is Decides-eqb (mark ++ rest) mark (starts_with eqb (mark ++ rest) mark) refl).1 rest refl, drop_at mark rest (length mark) refl) refl;
}

-- ---- no byte

pub empty_exact : IsExact empty
empty_exact = record {
  takes = λ bytes x fits e. record { fits = tt; spelled = cc };
  again = λ v rest fits. refl;
}
