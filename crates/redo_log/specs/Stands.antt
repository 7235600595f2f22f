-- Whether a body stands whose append an order strikes, by the disk's plan.
use Rattle.std.specs.Prelude.{◌≡◌, ◌≢◌, ◌⊎◌, ◌+◌, ◌==◌, ℕ, Bool, true, false, if◌then◌else◌, List, [], ◌∷◌, ◌++◌, take, Option, Some, None}
use Rattle.block_disk.specs.Plan.{FaultPlan, strikes, left_by_plan}
use Rattle.redo_log.specs.Cells.{bodies}
use Rattle.redo_log.specs.Log.{with_gate}
use Rattle.redo_log.specs.Plans.{plan_after, strikes_any}

-- whether an open gate stands first
abbrev pub is_open : List ℕ → Bool
is_open [] = false
is_open (gate ∷ behind) = gate == 1

-- whether the next write, of an open gate, leaves an open gate
abbrev pub opens_gate : FaultPlan → Bool
opens_gate plan = if strikes plan true then is_open (left_by_plan plan (1 ∷ [])) else true

-- the calls before the gate of an append is opened: its body is written, and a sync
abbrev pub body_calls : List Bool
body_calls = true ∷ false ∷ []

-- whether a body that is appended next stands: its gate stands open, and no order strikes a call before
abbrev pub stands_by : FaultPlan → Bool
stands_by plan = if strikes_any body_calls plan then false else opens_gate (plan_after body_calls plan)

-- whether it stands where it is appended after these calls, and no order strikes one of them
abbrev pub stands_after : List Bool → FaultPlan → Bool
stands_after calls plan = if strikes_any calls plan then false else stands_by (plan_after calls plan)

-- the bytes follow the gate, which is open, or they do not count: the gate is as before, or not open
abbrev pub IsStoredIf : Bool → ℕ → List ℕ → List ℕ → List ℕ → Type 0
IsStoredIf true gate behind before now = now ≡ with_gate 1 gate behind before
IsStoredIf false gate behind before now = (take (gate + 1) now ≡ take (gate + 1) before) ⊎ ((byte : ℕ) × (byte ≢ 1) × (now ≡ with_gate byte gate behind before))

-- bytes that a failed call stored after a gate count where they stand by the plan, if the disk shows it
abbrev pub IsStoredByPlan : Option FaultPlan → ℕ → List ℕ → List ℕ → List ℕ → Type 0
IsStoredByPlan None gate behind before now = Unit {0}
IsStoredByPlan (Some plan) gate behind before now = IsStoredIf (stands_by plan) gate behind before now

-- the bodies, with one more where that stands
abbrev pub with_body_if : Bool → List (List ℕ) → List ℕ → List (List ℕ)
with_body_if true list body = list ++ body ∷ []
with_body_if false list body = list

-- after a failed append the bytes hold these bodies, and the new one where it stands by the plan, if the disk shows it
abbrev pub HoldsByPlan : Option FaultPlan → List (List ℕ) → List ℕ → List ℕ → Type 0
HoldsByPlan None list body image = Unit {0}
HoldsByPlan (Some plan) list body image = bodies image ≡ Some (with_body_if (stands_by plan) list body)
