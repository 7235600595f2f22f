-- Texts that are added at the end, one after the other.
use Rattle.std.proofs.Common.{◌≡◌, ◌∙◌, ℕ, List, ◌++◌, refl, ap, sym, append_assoc}
use Rattle.std.specs.Prelude.{codes}

-- two texts
pub two : (a b c x y : List ℕ) → b ≡ a ++ x → c ≡ b ++ y → c ≡ a ++ (x ++ y)
two a b c x y p q = rw (q, p) (append_assoc a x y)

-- three texts
pub three : (a b c d x y z : List ℕ) → b ≡ a ++ x → c ≡ b ++ y → d ≡ c ++ z → d ≡ a ++ (x ++ (y ++ z))
three a b c d x y z p q r = rw (r, q, p, append_assoc (a ++ x) y z, append_assoc a x (y ++ z)) refl

-- four texts
pub four : (a b c d e x y z w : List ℕ) → b ≡ a ++ x → c ≡ b ++ y → d ≡ c ++ z → e ≡ d ++ w → e ≡ a ++ (x ++ (y ++ (z ++ w)))
four a b c d e x y z w p q r s = rw (s, r, q, p, append_assoc ((a ++ x) ++ y) z w, append_assoc (a ++ x) y (z ++ w), append_assoc a x (y ++ (z ++ w))) refl
