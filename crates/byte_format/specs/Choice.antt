-- A choice: a byte that names the kind of the value, and then what that kind is made of.
use Rattle.std.specs.Prelude.{◌≡◌, ℕ, Bool, true, false, List, [], ◌∷◌, Option, Some, None, IsSomeAnd, ◌==◌}
use Rattle.std.specs.Option.{option_map_or}
use Rattle.byte_format.specs.Format.{Format, IsBytes, IsFront}
use Rattle.byte_format.specs.Part.{mapped_at}

-- the values that `make` makes; `part` gives back what a value was made of, if it was made so
abbrev pub variant : {A V : Type 0} → (A → V) → (V → Option A) → Format A → Format V
variant make part f = record {
  Fits = λ v. IsSomeAnd (part v) f.Fits;
  text = λ v. option_map_or f.text (part v) [];
  read = mapped_at make f.read;
}

-- no value
abbrev pub nothing : {V : Type 0} → Format V
nothing = record { Fits = λ v. ⊥; text = λ v. []; read = λ bytes. None }

-- the one format or the other
abbrev pub either : {V : Type 0} → Bool → Format V → Format V → Format V
either true f g = f
either false f g = g

-- which format each kind has: this one for the kind n, and others for other kinds
abbrev pub kind : {A V : Type 0} → ℕ → (A → V) → (V → Option A) → Format A → (ℕ → Format V) → ℕ → Format V
kind n make part f others k = either (k == n) (variant make part f) (others k)

-- no kind has a format
abbrev pub no_kind : {V : Type 0} → ℕ → Format V
no_kind k = nothing

-- what a kind byte says, and then that kind
abbrev pub choice_at : {V : Type 0} → (ℕ → Format V) → List ℕ → Option (V × List ℕ)
choice_at kinds [] = None
choice_at kinds (k ∷ rest) = (kinds k).read rest

-- the kind byte of a value, and then its kind's format
abbrev pub choice : {V : Type 0} → (V → ℕ) → (ℕ → Format V) → Format V
choice kind_of kinds = record {
  Fits = λ v. (kinds (kind_of v)).Fits v;
  text = λ v. kind_of v ∷ (kinds (kind_of v)).text v;
  read = choice_at kinds;
}

-- what a kind reads is spelled as that kind says, and is of that kind
pub record IsChoice {V : Type 0} (kind_of : V → ℕ) (kinds : ℕ → Format V) : Type 0 where
  pub taken : (k : ℕ) (bytes : List ℕ) (x : V × List ℕ) → IsBytes bytes → (kinds k).read bytes ≡ Some x → IsFront (kinds k) bytes x.0 x.1 × (kind_of x.0 ≡ k)

-- what was made is given back
abbrev pub GivesBack : {A V : Type 0} → (A → V) → (V → Option A) → Type 0
GivesBack {A} make part = (a : A) → part (make a) ≡ Some a

-- what was made is given back, and what is given back was made so
pub record IsVariant {A V : Type 0} (make : A → V) (part : V → Option A) : Type 0 where
  pub parted : GivesBack make part
  pub made : (v : V) (a : A) → part v ≡ Some a → v ≡ make a
