-- A comment is a test where it begins as one and goes on with its number.
use Rattle.std.proofs.Common.{◌≡◌, ℕ, ◌&&◌, Bool, true, false, List, ◌++◌, take, drop, refl, ap, sym, ◌∙◌, true≢false}
use Rattle.std.proofs.Math.Seq.{take-append_seam, drop-append_seam}
use Rattle.std.proofs.lemmas.List.{take-append-drop}
use Rattle.std.specs.Str.{bytes_eq}
use Rattle.std.specs.Cmp.Lexicographic.{bytes_decides}
use Rattle.tran_ids.specs.Numbers.{decimal}
use Rattle.crash_points.specs.Points.{test_begins, is_test}

module _ (s p d : List ℕ) (n : ℕ) (front : take n (p ++ d) ≡ p) (rest : drop n (p ++ d) ≡ d) where
  differs : (b : Bool) → bytes_eq s (p ++ d) ≡ b → (s ≡ p ++ d → ⊥) → false ≡ b
  differs true is other = absurd (other ((bytes_decides s (p ++ d)).0 is))
  differs false is other = refl

  -- two texts are equal where both their parts are
  both_if : (a b : Bool) → bytes_eq (take n s) p ≡ a → bytes_eq (drop n s) d ≡ b → (a && b) ≡ bytes_eq s (p ++ d)
  both_if true true first second =
      let fronts = (bytes_decides (take n s) p).0 first in
      let rests = (bytes_decides (drop n s) d).0 second in
      sym ((bytes_decides s (p ++ d)).1 (sym (take-append-drop n s) ∙ (λ i. fronts i ++ rests i)))
  both_if true false first second =
      differs (bytes_eq s (p ++ d)) refl (λ same. true≢false (sym ((bytes_decides (drop n s) d).1 (ap (drop n) same ∙ rest)) ∙ second))
  both_if false b first second =
      differs (bytes_eq s (p ++ d)) refl (λ same. true≢false (sym ((bytes_decides (take n s) p).1 (ap (take n) same ∙ front)) ∙ first))

pub joined_is : (s : List ℕ) (n : ℕ) → (bytes_eq (take 19 s) test_begins && bytes_eq (drop 19 s) (decimal n)) ≡ is_test s n
joined_is s n = both_if s test_begins (decimal n) 19 (take-append_seam test_begins (decimal n)) (drop-append_seam test_begins (decimal n)) (bytes_eq (take 19 s) test_begins) (bytes_eq (drop 19 s) (decimal n)) refl refl
