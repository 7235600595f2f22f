-- Refusals, and the first of several.
use Rattle.std.specs.Prelude.{ℕ, ◌+◌, Bool, true, false, List, Option, Some, None}
use Rattle.sql_check.specs.Data.{Refusal}

-- an Oracle refusal, with what its text names
abbrev pub ora : ℕ → List (List ℕ) → Refusal
ora code args = record { code = code; args = args }

-- a refusal of dtx's own
abbrev pub dtx : ℕ → List (List ℕ) → Refusal
dtx code args = record { code = 60000 + code; args = args }

-- the first of two refusals
abbrev pub else_refuse : Option Refusal → Option Refusal → Option Refusal
else_refuse (Some r) other = Some r
else_refuse None other = other

-- this refusal, where the test holds
abbrev pub refuse_if : Bool → Refusal → Option Refusal
refuse_if true r = Some r
refuse_if false r = None
