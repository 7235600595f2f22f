-- Formats that are made of another: one and then the other, runs of bytes, options, other values, values that pass a test.
use Rattle.std.specs.Prelude.{ℕ, zero, suc, Bool, List, [], ◌∷◌, ◌++◌, length, take, drop, Option, Some, None, IsTrue, IfSome, nat_lt, if◌then◌else◌}
use Rattle.byte_format.specs.Format.{Format, ◌>>=◌}

-- one and then the other
abbrev pub pair_at : {A B : Type 0} → (List ℕ → Option (A × List ℕ)) → (List ℕ → Option (B × List ℕ)) → List ℕ → Option ((A × B) × List ℕ)
pair_at first second bytes = do
  a ← first bytes
  b ← second a.1
  Some ((a.0, b.0), b.1)

-- one value and then the other
abbrev pub pair : {A B : Type 0} → Format A → Format B → Format (A × B)
pair a b = record { Fits = λ v. a.Fits v.0 × b.Fits v.1; text = λ v. a.text v.0 ++ b.text v.1; read = pair_at a.read b.read }

-- how many bytes, and those bytes
abbrev pub run_at : (List ℕ → Option (ℕ × List ℕ)) → List ℕ → Option (List ℕ × List ℕ)
run_at size bytes = do
  n ← size bytes
  if nat_lt (length n.1) n.0 then None else Some (take n.0 n.1, drop n.0 n.1)

-- bytes after their length
abbrev pub run : Format ℕ → Format (List ℕ)
run size = record { Fits = λ s. size.Fits (length s); text = λ s. size.text (length s) ++ s; read = run_at size.read }

-- 0; or 1 and the value
abbrev pub optional_text : {A : Type 0} → (A → List ℕ) → Option A → List ℕ
optional_text text None = 0 ∷ []
optional_text text (Some a) = 1 ∷ text a

-- the value after a 1, or none after a 0
abbrev pub optional_at : {A : Type 0} → (List ℕ → Option (A × List ℕ)) → List ℕ → Option (Option A × List ℕ)
optional_at read [] = None
optional_at read (zero ∷ rest) = Some (None, rest)
optional_at read (suc zero ∷ rest) = do
  a ← read rest
  Some (Some a.0, a.1)
optional_at read (suc (suc b) ∷ rest) = None

-- a value that may be missing
abbrev pub optional : {A : Type 0} → Format A → Format (Option A)
optional f = record { Fits = λ o. IfSome o f.Fits; text = optional_text f.text; read = optional_at f.read }

-- the same bytes for other values
abbrev pub mapped_at : {A B : Type 0} → (A → B) → (List ℕ → Option (A × List ℕ)) → List ℕ → Option (B × List ℕ)
mapped_at to read bytes = do
  a ← read bytes
  Some (to a.0, a.1)

-- other values for the same bytes, where these fit
abbrev pub recast : {A B : Type 0} → (B → Type 0) → (A → B) → (B → A) → Format A → Format B
recast Fits to from f = record { Fits = Fits; text = λ v. f.text (from v); read = mapped_at to f.read }

-- other values for the same bytes, where they fit as those
abbrev pub mapped : {A B : Type 0} → (A → B) → (B → A) → Format A → Format B
mapped to from f = recast (λ v. f.Fits (from v)) to from f

-- those values that pass a test
abbrev pub tested_at : {A : Type 0} → (A → Bool) → (List ℕ → Option (A × List ℕ)) → List ℕ → Option (A × List ℕ)
tested_at test read bytes = do
  a ← read bytes
  if test a.0 then Some a else None

-- the format of the values that pass
abbrev pub tested : {A : Type 0} → (A → Bool) → Format A → Format A
tested test f = record { Fits = λ v. f.Fits v × IsTrue (test v); text = f.text; read = tested_at test f.read }
