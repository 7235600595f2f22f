-- Formats that hang on a value are exact where what they are made of is.
use Rattle.std.proofs.Common.{ℕ, List, ◌++◌, Some, refl, sym, ap, subst, ◌∙◌, append_assoc}
use Rattle.byte_format.specs.Format.{◌>>=◌, Format, IsFront, IsExact}
use Rattle.byte_format.proofs.Steps.{bind_some, some_is, IsBytes-rest}
use Rattle.byte_format.proofs.SeveralLaws.{counted_exact}
use Rattle.image_codec.specs.By.{known, times, pair_by}

known_exact : (n : ℕ) → IsExact (known n)
known_exact n = record {
  takes = λ bytes x fits e. subst (λ (y : ℕ × List ℕ). IsFront (known n) bytes y.0 y.1) (some_is (n, bytes) x e) (record { fits = refl; spelled = refl });
  again = λ v rest fits. ap (λ (k : ℕ). Some (k, rest)) (sym fits);
}

pub times_exact : {A : Type 0} (n : ℕ) (f : Format A) → IsExact f → IsExact (times n f)
times_exact n f p = counted_exact f p (known n) (known_exact n)

pub pair_by_exact : {A B : Type 0} (a : Format A) (b : A → Format B) → IsExact a → ((x : A) → IsExact (b x)) → IsExact (pair_by a b)
pair_by_exact a b p q = record {
  takes = λ bytes x fits e.
      let u = bind_some (a.read bytes) (λ v. (b v.0).read v.1 >>= λ w. Some ((v.0, w.0), w.1)) x e in
      let w = bind_some ((b u.0.0).read u.0.1) (λ w. Some ((u.0.0, w.0), w.1)) x u.2 in
      let first = p.takes bytes u.0 fits u.1 in
      let second = (q u.0.0).takes u.0.1 w.0 (IsBytes-rest bytes (a.text u.0.0) u.0.1 fits first.spelled) w.1 in
      subst (λ y. IsFront (pair_by a b) bytes y.0 y.1) (some_is ((u.0.0, w.0.0), w.0.1) x w.2) (record {
        fits = (first.fits, second.fits);
        spelled = first.spelled ∙ ap (λ (r : List ℕ). a.text u.0.0 ++ r) second.spelled ∙ sym (append_assoc (a.text u.0.0) ((b u.0.0).text w.0.0) w.0.1);
      });
  again = λ v rest fits. rw (append_assoc (a.text v.0) ((b v.0).text v.1) rest, p.again v.0 ((b v.0).text v.1 ++ rest) fits.0, (q v.0).again v.1 rest fits.1) refl;
}
