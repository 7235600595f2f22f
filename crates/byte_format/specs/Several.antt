-- Lists: how many items, and then each.
use Rattle.std.specs.Prelude.{ℕ, zero, suc, List, [], ◌∷◌, ◌++◌, length, flat_map, Option, Some}
use Rattle.std.specs.List.{AllByRecursion}
use Rattle.byte_format.specs.Format.{Format, ◌>>=◌}

-- so many, one after the other
abbrev pub times_at : {A : Type 0} → ℕ → (List ℕ → Option (A × List ℕ)) → List ℕ → Option (List A × List ℕ)
times_at zero read bytes = Some ([], bytes)
times_at (suc n) read bytes = do
  first ← read bytes
  others ← times_at n read first.1
  Some (first.0 ∷ others.0, others.1)

-- how many, and then each
abbrev pub counted_at : {A : Type 0} → (List ℕ → Option (ℕ × List ℕ)) → (List ℕ → Option (A × List ℕ)) → List ℕ → Option (List A × List ℕ)
counted_at size read bytes = do
  n ← size bytes
  times_at n.0 read n.1

-- a list after its count
abbrev pub counted : {A : Type 0} → Format ℕ → Format A → Format (List A)
counted size f = record {
  Fits = λ vs. size.Fits (length vs) × AllByRecursion f.Fits vs;
  text = λ vs. size.text (length vs) ++ flat_map f.text vs;
  read = counted_at size.read f.read;
}
