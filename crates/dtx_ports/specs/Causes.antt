-- Counts of faults: a count never falls, and stays at 2^64 - 1 once it is there.
use Rattle.std.specs.Prelude.{◌≡◌, ℕ, ◌+◌, ◌-◌, ◌^◌, ◌≤◌, min, Result, OnOk, OnErr, MatchResult}

-- the count after one more, at most 2^64 - 1
abbrev pub risen : ℕ → ℕ
risen count = min (count + 1) (2 ^ 64 - 1)

-- the count has risen, or is at least 2^64 - 1
abbrev pub Rose : ℕ → ℕ → Type 0
Rose before now = risen before ≤ now

-- the count of faults before and after a call: it has risen where the call failed, and is the same where it succeeded
pub record HasCause {T E : Type 0} (before now : ℕ) (result : Result T E) : Type 0 where
  pub stays : OnOk result (now ≡ before)
  pub later : before ≤ now
  pub failed : OnErr result (Rose before now)

-- the count of faults before and after a call: one more where the call failed, and the same where it succeeded
abbrev pub CountsFailure : {T E : Type 0} → ℕ → ℕ → Result T E → Type 0
CountsFailure before now result = MatchResult result (λ _. now ≡ before) (λ _. now ≡ risen before)
