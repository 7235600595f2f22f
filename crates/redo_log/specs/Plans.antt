-- How a run of disk calls goes by the disk's plan: it ends at the first call that an order strikes.
use Rattle.std.specs.Prelude.{◌≡◌, ◌||◌, if◌then◌else◌, ℕ, Bool, true, false, List, [], ◌∷◌, Option, Some, None}
use Rattle.block_disk.specs.Plan.{FaultPlan, strikes, after_call}

-- the plan after these calls, each of a write or of another, up to the first that an order strikes
abbrev pub plan_after : List Bool → FaultPlan → FaultPlan
plan_after [] plan = plan
plan_after (is_write ∷ calls) plan = if strikes plan is_write then after_call plan is_write else plan_after calls (after_call plan is_write)

-- whether an order strikes one of these calls
abbrev pub strikes_any : List Bool → FaultPlan → Bool
strikes_any [] plan = false
strikes_any (is_write ∷ calls) plan = strikes plan is_write || strikes_any calls (after_call plan is_write)

-- these calls go by the plan, where the disk shows it, and one of them fails or none
abbrev pub CallsGoByPlan : List Bool → Option FaultPlan → Option FaultPlan → Bool → Type 0
CallsGoByPlan calls None now fails = now ≡ None
CallsGoByPlan calls (Some plan) now fails = (now ≡ Some (plan_after calls plan)) × (strikes_any calls plan ≡ fails)

-- the calls of an append: the body is written, then its gate, with a sync after each
abbrev pub append_calls : List Bool
append_calls = true ∷ false ∷ true ∷ false ∷ []

-- the calls that begin a log: its gate is written, and a sync
abbrev pub begin_calls : List Bool
begin_calls = true ∷ false ∷ []

-- the calls that read a content: a sync, its length and, where there is one, the bytes
abbrev pub load_calls : List ℕ → List Bool
load_calls [] = false ∷ false ∷ []
load_calls (byte ∷ bytes) = false ∷ false ∷ false ∷ []
