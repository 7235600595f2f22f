-- The value of some digits, read one after the other.
use Rattle.std.proofs.Common.{◌≡◌, ℕ, ◌+◌, ◌-◌, ◌*◌, ◌≤◌, ◌<◌, Some, None, List, [], ◌∷◌, length, drop, get_or, refl, arith, add-one, drop-cons, ◌∙◌, sym, inl, inr, ◌^◌}
use Rattle.std.proofs.lemmas.Bool.{le-ltb, lt-ltb, cases_lt}
use Rattle.token_grammar.specs.Bytes.{value_from}
use Rattle.token_grammar.specs.Lexing.{small}

pub value_from-le : (n : ℕ) (ds : List ℕ) → n ≤ value_from n ds
value_from-le n [] = omega arith
value_from-le n (d ∷ ds) = omega (arith, value_from-le (10 * n + (d - 48)) ds)

pub value_from-drop : (n i : ℕ) (ds : List ℕ) → i < length ds → value_from n (drop i ds) ≡ value_from (10 * n + (get_or ds i 0 - 48)) (drop (i + 1) ds)
value_from-drop n i ds lt = rw (add-one, drop-cons ds i 0) refl

pub small-none : (n : ℕ) → 2 ^ 64 ≤ n → small n ≡ None
small-none n le = rw (le-ltb n (2 ^ 64) le) refl

pub small-some : (n : ℕ) → n < 2 ^ 64 → small n ≡ Some n
small-some n lt = rw (lt-ltb n (2 ^ 64) lt) refl

pub small_is : (n m : ℕ) → small n ≡ Some m → (n ≡ m) × (n < 2 ^ 64)
small_is n m e = elim (cases_lt n (2 ^ 64)) [
  | inl lt ↦ (let k : Some n ≡ Some m = sym (small-some n lt) ∙ e in (cc), lt)
  | inr le ↦ (let k : None ≡ Some m = sym (small-none n le) ∙ e in absurd cc)
]

pub small_is_none : (n : ℕ) → small n ≡ None → 2 ^ 64 ≤ n
small_is_none n e = elim (cases_lt n (2 ^ 64)) [
  | inl lt ↦ (let k : Some n ≡ None = sym (small-some n lt) ∙ e in absurd cc)
  | inr le ↦ le
]
