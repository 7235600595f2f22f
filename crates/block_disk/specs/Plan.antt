-- The plan of a disk: the orders that have not struck yet, which call they strike, and what they leave of a write.
use Rattle.std.specs.Prelude.{◌≡◌, ℕ, ◌-◌, ◌==◌, ◌||◌, Bool, true, false, if◌then◌else◌, List, [], length, take, Option, Some, None, Result, MatchResult}
use Rattle.block_disk.specs.Images.{IsWritten}
use Rattle.block_disk.specs.declared.fault.Stop.{Stop}
use Rattle.block_disk.specs.declared.fault.How.{How}
use Rattle.block_disk.specs.declared.fault.How.TheVariants.{Keep, Leave}

-- A plan. Its orders are counted from now on: 1 is the next write or call.
pub record FaultPlan : Type 0 where
  pub stopped : Bool  -- whether the disk is stopped
  pub stop : Option Stop  -- the write that will stop it, and what that leaves
  pub fault : Option ℕ  -- the call that will fail

-- no order, and the disk is not stopped
abbrev pub free : FaultPlan
free = record { stopped = false; stop = None; fault = None }

-- the write that will stop the disk
abbrev pub write_of : Option Stop → Option ℕ
write_of None = None
write_of (Some stop) = Some stop.write

-- whether an order strikes the next call
abbrev pub is_next : Option ℕ → Bool
is_next None = false
is_next (Some n) = n == 1

-- an order after one more call, which spends the order where it strikes
abbrev pub counted_down : Option ℕ → Option ℕ
counted_down None = None
counted_down (Some n) = if n == 1 then None else Some (n - 1)

-- a stop after one more write, which spends it where it strikes
abbrev pub stop_counted_down : Option Stop → Option Stop
stop_counted_down None = None
stop_counted_down (Some stop) = if stop.write == 1 then None else Some (record stop { write = stop.write - 1 })

-- whether the next call, of a write or of another, fails
abbrev pub strikes : FaultPlan → Bool → Bool
strikes plan true = plan.stopped || (is_next (write_of plan.stop) || is_next plan.fault)
strikes plan false = plan.stopped || is_next plan.fault

-- the plan after the next call: only writes count for a stop, and a stopped disk counts nothing
abbrev pub after_call : FaultPlan → Bool → FaultPlan
after_call plan true =
    if plan.stopped then plan
    else (record { stopped = is_next (write_of plan.stop); stop = stop_counted_down plan.stop; fault = counted_down plan.fault })
after_call plan false = if plan.stopped then plan else record plan { fault = counted_down plan.fault }

-- a call goes by the plan, where the disk shows it: the call fails exactly where an order strikes it
abbrev pub GoesByPlan : {T E : Type 0} → Option FaultPlan → Option FaultPlan → Bool → Result T E → Type 0
GoesByPlan None now is_write result = now ≡ None
GoesByPlan (Some plan) now is_write result = (now ≡ Some (after_call plan is_write)) × MatchResult result (λ _. strikes plan is_write ≡ false) (λ _. strikes plan is_write ≡ true)

-- what a stop in the write of these bytes leaves at its place: the first of them, or other bytes, but no more of them
abbrev pub left_of : How → List ℕ → List ℕ
left_of (Keep count) bytes = take count bytes
left_of (Leave others) bytes = take (length bytes) others.items

-- what a stop leaves of the next write, where it strikes that
abbrev pub left_by_stop : Option Stop → List ℕ → List ℕ
left_by_stop None bytes = []
left_by_stop (Some stop) bytes = if stop.write == 1 then left_of stop.how bytes else []

-- what the next write leaves of these bytes, where it fails: a stop counts where both orders strike it
abbrev pub left_by_plan : FaultPlan → List ℕ → List ℕ
left_by_plan plan bytes = if plan.stopped then [] else left_by_stop plan.stop bytes

-- where the disk shows its plan, a write that failed left what the plan says
abbrev pub IsLeftByPlan : Option FaultPlan → ℕ → List ℕ → List ℕ → List ℕ → Type 0
IsLeftByPlan None at bytes before after = Unit {0}
IsLeftByPlan (Some plan) at bytes before after = IsWritten before at (left_by_plan plan bytes) after
