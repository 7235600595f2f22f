-- The orders of a disk in memory after a call, as a plan, are the plan after it; and a write leaves what the plan says.
use Rattle.std.proofs.Common.{◌≡◌, ◌+◌, ◌==◌, ◌||◌, ◌∷◌, [], ◌++◌, Bool, true, false, if◌then◌else◌, ℕ, List, take, drop, Option, Some, None, Result, Ok, Err, OnErr, refl, sym, ap, subst, ◌∙◌, arith, take-append-drop}
use Rattle.std.proofs.lemmas.List.{append-nil}
use Rattle.block_disk.specs.Images.{IsWritten}
use Rattle.block_disk.specs.Happenings.{Happening, content_of, wrote}
use Rattle.block_disk.specs.MemDisk.{DiskState, after_write}
use Rattle.block_disk.specs.Plan.{strikes, after_call, is_next, counted_down, write_of, stop_counted_down, left_of, left_by_stop, left_by_plan, GoesByPlan, IsLeftByPlan}
use Rattle.block_disk.specs.Orders.{plan_of, after_orders, fault_strike, strike_by, strike_of, left_by}
use Rattle.block_disk.specs.declared.fault.How.{How}
use Rattle.block_disk.specs.declared.fault.Stop.{Stop}
use Rattle.block_disk.specs.declared.faults.DiskFaults.{DiskFaults}
use Rattle.block_disk.specs.declared.faults.Strike.{Strike}
use Rattle.block_disk.specs.declared.faults.Strike.TheVariants.{Spares, Fails, Stops}

either : (b : Bool) (x y : DiskFaults) → plan_of (if b then x else y) ≡ (if b then plan_of x else plan_of y)
either true x y = refl
either false x y = refl

pub plan_after_look : (orders : DiskFaults) → plan_of (after_orders orders false) ≡ after_call (plan_of orders) false
plan_after_look orders = either orders.stopped orders (record orders { fault = counted_down orders.fault })

pub plan_after_write : (orders : DiskFaults) → plan_of (after_orders orders true) ≡ after_call (plan_of orders) true
plan_after_write orders = either orders.stopped orders (record { stopped = is_next (write_of orders.stop); stop = stop_counted_down orders.stop; fault = counted_down orders.fault })

-- a write is spared where neither order strikes it
spared_by_fault : (fails : Bool) → (if fails then Fails else Spares) ≡ Spares → fails ≡ false
spared_by_fault true is = absurd cc
spared_by_fault false is = refl

spared_by : (stop : Option Stop) (fault : Option ℕ) → strike_by stop fault ≡ Spares → (is_next (write_of stop) || is_next fault) ≡ false
spared_by None fault is = spared_by_fault (is_next fault) is
spared_by (Some stop) fault is = by (stop.write == 1) is where
  by : (b : Bool) → (if b then Stops stop.how else fault_strike fault) ≡ Spares → (b || is_next fault) ≡ false
  by true stops = absurd cc
  by false spares = spared_by_fault (is_next fault) spares

pub spared : (orders : DiskFaults) → strike_of orders ≡ Spares → strikes (plan_of orders) true ≡ false
spared orders is = by orders.stopped is where
  by : (b : Bool) → (if b then Fails else strike_by orders.stop orders.fault) ≡ Spares → (b || (is_next (write_of orders.stop) || is_next orders.fault)) ≡ false
  by true fails = absurd cc
  by false spares = spared_by orders.stop orders.fault spares

-- what a write that is not spared leaves is what the plan says
module _ (bytes : List ℕ) (strike : Strike) (struck : strike ≡ Spares → ⊥) where
  left_by_fault : (fails : Bool) → (if fails then Fails else Spares) ≡ strike → [] ≡ left_by strike bytes
  left_by_fault true is = ap (λ (s : Strike). left_by s bytes) is
  left_by_fault false is = absurd (struck (sym is))

  left_by_order : (b : Bool) (how : How) (fault : Option ℕ) → (if b then Stops how else fault_strike fault) ≡ strike → (if b then left_of how bytes else []) ≡ left_by strike bytes
  left_by_order true how fault is = ap (λ (s : Strike). left_by s bytes) is
  left_by_order false how fault is = left_by_fault (is_next fault) is

  left_in : (stopped : Bool) (stop : Option Stop) (fault : Option ℕ) → (if stopped then Fails else strike_by stop fault) ≡ strike
      → (if stopped then [] else left_by_stop stop bytes) ≡ left_by strike bytes
  left_in true stop fault is = ap (λ (s : Strike). left_by s bytes) is
  left_in false None fault is = left_by_fault (is_next fault) is
  left_in false (Some stop) fault is = left_by_order (stop.write == 1) stop.how fault is

-- what a write left stands at its place
part_written : (happenings : List Happening) (at : ℕ) (part : List ℕ) → IsWritten (content_of happenings) at part (content_of (wrote at part happenings))
part_written happenings at [] =
    let content = content_of happenings in
    sym (ap (λ (l : List ℕ). l ++ drop (at + 0) content) (append-nil (take at content)) ∙ (ap (λ (n : ℕ). take at content ++ drop n content) (omega arith) ∙ take-append-drop at content))
part_written happenings at (byte ∷ bytes) = refl

left_written : (orders : DiskFaults) (happenings : List Happening) (at : ℕ) (bytes : List ℕ) (strike : Strike) → strike_of orders ≡ strike → (strike ≡ Spares → ⊥)
    → IsWritten (content_of happenings) at (left_by_plan (plan_of orders) bytes) (content_of (wrote at (left_by strike bytes) happenings))
left_written orders happenings at bytes strike is struck =
    subst (λ (l : List ℕ). IsWritten (content_of happenings) at l (content_of (wrote at (left_by strike bytes) happenings)))
    (sym (left_in bytes strike struck orders.stopped orders.stop orders.fault is)) (part_written happenings at (left_by strike bytes))

clash : (b : Bool) → b ≡ true → b ≡ false → ⊥
clash true is not_so = cc
clash false is not_so = cc

-- a write that an order strikes leaves what the plan says
pub left_struck : {T E : Type 0} (result : Result T E) (disk now : DiskState) (at : ℕ) (bytes : List ℕ) → now ≡ after_write disk at bytes → GoesByPlan (Some (plan_of disk.orders)) (Some (plan_of now.orders)) true result
    → OnErr result (IsLeftByPlan (Some (plan_of disk.orders)) at bytes (content_of disk.happenings) (content_of now.happenings))
left_struck (Ok value) disk now at bytes is goes = tt
left_struck (Err err) disk now at bytes is goes =
    subst (λ (after : DiskState). IsLeftByPlan (Some (plan_of disk.orders)) at bytes (content_of disk.happenings) (content_of after.happenings)) (sym is)
    (left_written disk.orders disk.happenings at bytes (strike_of disk.orders) refl (λ spares. clash (strikes (plan_of disk.orders) true) goes.1 (spared disk.orders spares)))
