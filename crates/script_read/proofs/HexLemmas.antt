-- Hexadecimal digits, read two at a time.
use Rattle.std.proofs.Common.{◌≡◌, ℕ, ◌≤◌, true, false, eqb, List, [], ◌∷◌, ◌++◌, length, Some, None, refl, arith}
use Rattle.std.proofs.lemmas.Bool.{eqb-true}
use Rattle.std.proofs.lemmas.List.{nil_from_length}
use Rattle.script_read.specs.Forms.{hex_byte, hex_behind}

pub more : (bytes rest others : List ℕ) (a b byte : ℕ) → rest ≡ a ∷ b ∷ others → hex_byte a b ≡ Some byte → hex_behind (bytes ++ byte ∷ []) others ≡ hex_behind bytes rest
more bytes rest others a b byte is e = rw (is, e) refl

pub stops : (bytes rest others : List ℕ) (a b : ℕ) → rest ≡ a ∷ b ∷ others → hex_byte a b ≡ None → hex_behind bytes rest ≡ None
stops bytes rest others a b is e = rw (is, e) refl

pub odd : (bytes rest : List ℕ) → length rest ≤ 1 → eqb (length rest) 0 ≡ false → hex_behind bytes rest ≡ None
odd bytes [] le h = absurd cc
odd bytes (a ∷ []) le h = refl
odd bytes (a ∷ b ∷ digits) le h = absurd (omega arith)

pub even : (bytes rest : List ℕ) → eqb (length rest) 0 ≡ true → hex_behind bytes rest ≡ Some bytes
even bytes rest h = rw (nil_from_length rest (eqb-true (length rest) 0 h)) refl
