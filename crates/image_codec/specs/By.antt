-- Formats that hang on a value: so many items, and a part whose format another part says.
use Rattle.std.specs.Prelude.{◌≡◌, ℕ, List, [], ◌++◌, Option, Some}
use Rattle.byte_format.specs.Format.{Format, ◌>>=◌}
use Rattle.byte_format.specs.Several.{counted}

-- a number that is known, and so has no bytes
abbrev pub known : ℕ → Format ℕ
known n = record { Fits = λ k. k ≡ n; text = λ k. []; read = λ bytes. Some (n, bytes) }

-- so many items, one after the other, without their count
abbrev pub times : {A : Type 0} → ℕ → Format A → Format (List A)
times n f = counted (known n) f

-- one value, and another in the format that the one says
abbrev pub pair_by_at : {A B : Type 0} → (List ℕ → Option (A × List ℕ)) → (A → List ℕ → Option (B × List ℕ)) → List ℕ → Option ((A × B) × List ℕ)
pair_by_at first second bytes = do
  a ← first bytes
  b ← second a.0 a.1
  Some ((a.0, b.0), b.1)

-- one value and then the other, whose format it says
abbrev pub pair_by : {A B : Type 0} → Format A → (A → Format B) → Format (A × B)
pair_by a b = record {
  Fits = λ v. a.Fits v.0 × (b v.0).Fits v.1;
  text = λ v. a.text v.0 ++ (b v.0).text v.1;
  read = pair_by_at a.read (λ v. (b v).read);
}
