-- Words on texts and lists.
use Rattle.std.specs.Prelude.{ℕ, Bool, List, [], ◌∷◌, Option, Some, None}
use Rattle.std.specs.Str.{bytes_eq}

-- two texts, byte for byte
abbrev pub same_text : List ℕ → List ℕ → Bool
same_text a b = bytes_eq a b

-- a list of one item
abbrev pub one : {A : Type 0} → A → List A
one x = x ∷ []

-- the first that there is
abbrev pub first_some : {A : Type 0} → List (Option A) → Option A
first_some [] = None
first_some (Some x ∷ xs) = Some x
first_some (None ∷ xs) = first_some xs
