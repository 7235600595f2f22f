-- Reading a list from its front, step by step.
use Rattle.std.specs.Prelude.{ℕ, zero, suc, ◌==◌, Bool, false, List, [], ◌∷◌, length, Option, Some, None, option_and_then, if◌then◌else◌}

-- `?`: what was read goes on into the next step
infixl 10 ◌>>=◌
abbrev pub ◌>>=◌ : {A B : Type 0} → Option A → (A → Option B) → Option B
o >>= f = option_and_then f o

-- whether the first item passes a test
abbrev pub begins : {T : Type 0} → (T → Bool) → List T → Bool
begins p [] = false
begins p (t ∷ ts) = p t

-- at most so many parts, one after the other, as long as the next item starts one
abbrev pub many_at : {T V : Type 0} → ℕ → (T → Bool) → (List T → Option (V × List T)) → List T → Option (List V × List T)
many_at zero starts read ts = Some ([], ts)
many_at (suc n) starts read ts = if begins starts ts then (do
  first ← read ts
  others ← many_at n starts read first.1
  Some (first.0 ∷ others.0, others.1)) else Some ([], ts)

-- what was read, where nothing is left behind it
abbrev pub whole_of : {T V : Type 0} → V × List T → Option V
whole_of x = if length x.1 == 0 then Some x.0 else None
