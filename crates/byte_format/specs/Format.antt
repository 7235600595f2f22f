-- A format: which values have a spelling, what it is, and how a value is read from the front of some bytes.
use Rattle.std.specs.Prelude.{◌≡◌, ℕ, ◌<◌, List, ◌++◌, Option, Some, get_or, option_and_then}

infixl 10 ◌>>=◌
-- and then, where there is a value
abbrev pub ◌>>=◌ : {A B : Type 0} → Option A → (A → Option B) → Option B
o >>= f = option_and_then f o

-- `read` gives the value whose spelling is at the front, and the bytes after it
pub record Format (V : Type 0) : Type 1 where
  pub Fits : V → Type 0
  pub text : V → List ℕ
  pub read : List ℕ → Option (V × List ℕ)

-- each is a byte
abbrev pub IsBytes : List ℕ → Type 0
IsBytes bytes = (i : ℕ) → get_or bytes i 0 < 256

-- the spelling of the value is at the front, and `rest` follows it
pub record IsFront {V : Type 0} (f : Format V) (bytes : List ℕ) (v : V) (rest : List ℕ) : Type 0 where
  pub fits : f.Fits v
  pub spelled : bytes ≡ f.text v ++ rest

-- no value's spelling is at the front
abbrev pub HasNoFront : {V : Type 0} → Format V → List ℕ → Type 0
HasNoFront {V} f bytes = (v : V) (rest : List ℕ) → IsFront f bytes v rest → ⊥

-- the bytes are the spelling of the value, and nothing follows it
pub record IsSpelling {V : Type 0} (f : Format V) (bytes : List ℕ) (v : V) : Type 0 where
  pub fits : f.Fits v
  pub spelled : bytes ≡ f.text v

-- the spelling of this value is read as the value, whatever follows
abbrev pub ReadsAgain : {V : Type 0} → Format V → V → Type 0
ReadsAgain f v = (rest : List ℕ) → f.Fits v → f.read (f.text v ++ rest) ≡ Some (v, rest)

-- what is read is spelled so; and what is spelled is read as its value, whatever follows
pub record IsExact {V : Type 0} (f : Format V) : Type 0 where
  pub takes : (bytes : List ℕ) (x : V × List ℕ) → IsBytes bytes → f.read bytes ≡ Some x → IsFront f bytes x.0 x.1
  pub again : (v : V) (rest : List ℕ) → f.Fits v → f.read (f.text v ++ rest) ≡ Some (v, rest)

-- no spelling is that of two values, and none begins another's
abbrev pub HasOneReading : {V : Type 0} → Format V → Type 0
HasOneReading {V} f = (a b : V) (x y : List ℕ) → f.Fits a → f.Fits b → f.text a ++ x ≡ f.text b ++ y → (a ≡ b) × (x ≡ y)
