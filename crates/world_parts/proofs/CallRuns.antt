-- Disk calls in a row, by which of them the orders of the disk strike: what is left of the orders then, and whether the record of
-- an append among them stands.
use Rattle.std.proofs.Common.{◌≡◌, ◌+◌, ◌-◌, ◌==◌, ◌||◌, if◌then◌else◌, nat_lt, ℕ, zero, suc, take, Bool, true, false, List, [], ◌∷◌, option_map, Option, Some, None, refl, ◌∙◌, ap, arith}
use Rattle.std.proofs.lemmas.Bool.Decides.{nat_tests}
use Rattle.block_disk.specs.Plan.{FaultPlan, after_call, is_next, counted_down, write_of, stop_counted_down, left_of, left_by_stop}
use Rattle.block_disk.specs.declared.fault.How.{How}
use Rattle.block_disk.specs.declared.fault.How.TheVariants.{Keep, Leave}
use Rattle.block_disk.specs.declared.fault.Stop.{Stop}
use Rattle.redo_log.specs.Plans.{plan_after, strikes_any}
use Rattle.redo_log.specs.Stands.{is_open, opens_gate as opens_by_plan, body_calls, stands_by, stands_after}
use Rattle.run_rules.specs.Disks.{DiskOrders, is_open as is_open_by, opens_gate, stop_left, fault_left}
use Rattle.world_parts.specs.Orders.{how_as, stop_as}

-- ---- each order after some calls

-- a stop after so many writes that it did not strike
abbrev pub stop_after : ℕ → Option Stop → Option Stop
stop_after writes None = None
stop_after writes (Some s) = if nat_lt writes s.write then Some (record s { write = s.write - writes }) else None

pub counted_fault : (k : ℕ) (f : Option ℕ) → counted_down (fault_left k f) ≡ fault_left (k + 1) f
counted_fault k None = refl
counted_fault k (Some c) = by (nat_lt k c) refl where
  by : (b : Bool) → nat_lt k c ≡ b → counted_down (if b then Some (c - k) else None) ≡ (if nat_lt (k + 1) c then Some (c - (k + 1)) else None)
  by true is = grind (arith, nat_tests)
  by false is = grind (arith, nat_tests)

pub next_fault : (k c : ℕ) → is_next (fault_left k (Some c)) ≡ (c == k + 1)
next_fault k c = by (nat_lt k c) refl where
  by : (b : Bool) → nat_lt k c ≡ b → is_next (if b then Some (c - k) else None) ≡ (c == k + 1)
  by true is = grind (arith, nat_tests)
  by false is = grind (arith, nat_tests)

pub counted_stop : (k : ℕ) (s : Option Stop) → stop_counted_down (stop_after k s) ≡ stop_after (k + 1) s
counted_stop k None = refl
counted_stop k (Some s) = by (nat_lt k s.write) refl where
  by : (b : Bool) → nat_lt k s.write ≡ b → stop_counted_down (if b then Some (record s { write = s.write - k }) else None) ≡ (if nat_lt (k + 1) s.write then Some (record s { write = s.write - (k + 1) }) else None)
  by true is = grind (arith, nat_tests)
  by false is = grind (arith, nat_tests)

pub next_stop : (k : ℕ) (s : Stop) → is_next (write_of (stop_after k (Some s))) ≡ (s.write == k + 1)
next_stop k s = by (nat_lt k s.write) refl where
  by : (b : Bool) → nat_lt k s.write ≡ b → is_next (write_of (if b then Some (record s { write = s.write - k }) else None)) ≡ (s.write == k + 1)
  by true is = grind (arith, nat_tests)
  by false is = grind (arith, nat_tests)

-- a stop, as the definitions of a run have it
pub stop_left_as : (k : ℕ) (s : Option Stop) → option_map stop_as (stop_after k s) ≡ stop_left k (option_map stop_as s)
stop_left_as k None = refl
stop_left_as k (Some s) = by (nat_lt k s.write) where
  by : (b : Bool) → option_map stop_as (if b then Some (record s { write = s.write - k }) else None) ≡ (if b then Some (record (stop_as s) { write = s.write - k }) else None)
  by true = refl
  by false = refl

-- what is left of an open gate is open where the definitions of a run say so
pub first_kept : (count : ℕ) → is_open (take count (1 ∷ [])) ≡ nat_lt 0 count
first_kept zero = refl
first_kept (suc count) = grind (arith, nat_tests)

pub first_left : (bytes : List ℕ) → is_open (take 1 bytes) ≡ is_open_by bytes
first_left [] = refl
first_left (byte ∷ bytes) = refl

pub opens_as : (how : How) → is_open (left_of how (1 ∷ [])) ≡ opens_gate (how_as how)
opens_as (Keep count) = first_kept count
opens_as (Leave others) = first_left others.items

pub gate_left : (s : Stop) → is_open (left_by_stop (stop_after 1 (Some s)) (1 ∷ [])) ≡ (if s.write == 2 then opens_gate (how_as s.how) else false)
gate_left s = by (nat_lt 1 s.write) refl where
  struck_by : (b : Bool) → is_open (if b then left_of s.how (1 ∷ []) else []) ≡ (if b then opens_gate (how_as s.how) else false)
  struck_by true = opens_as s.how
  struck_by false = refl

  second : (nat_lt 1 s.write ≡ true) → (s.write - 1 == 1) ≡ (s.write == 2)
  second later = grind (arith, nat_tests)

  by : (b : Bool) → nat_lt 1 s.write ≡ b → is_open (left_by_stop (if b then Some (record s { write = s.write - 1 }) else None) (1 ∷ [])) ≡ (if s.write == 2 then opens_gate (how_as s.how) else false)
  by true later = ap (λ (t : Bool). is_open (if t then left_of s.how (1 ∷ []) else [])) (second later) ∙ struck_by (s.write == 2)
  by false early = ap (λ (t : Bool). if t then opens_gate (how_as s.how) else false) (not_second early) where
    not_second : nat_lt 1 s.write ≡ false → false ≡ (s.write == 2)
    not_second early = grind (arith, nat_tests)

-- ---- calls in a row, by which of them each order strikes

-- whether one of these calls is struck
abbrev pub hits : (ℕ → Bool) → (ℕ → Bool) → List Bool → ℕ → ℕ → Bool
hits faults stops [] k w = false
hits faults stops (false ∷ calls) k w = faults k || hits faults stops calls (k + 1) w
hits faults stops (true ∷ calls) k w = (stops w || faults k) || hits faults stops calls (k + 1) (w + 1)

-- how many are made, up to the first that is struck
abbrev pub counts : (ℕ → Bool) → (ℕ → Bool) → List Bool → ℕ → ℕ → ℕ
counts faults stops [] k w = k
counts faults stops (false ∷ calls) k w = if faults k then k + 1 else counts faults stops calls (k + 1) w
counts faults stops (true ∷ calls) k w = if stops w || faults k then k + 1 else counts faults stops calls (k + 1) (w + 1)

-- what stands after so many calls and writes
abbrev pub made : {A : Type 0} → (ℕ → ℕ → A) → (ℕ → Bool) → (ℕ → Bool) → List Bool → ℕ → ℕ → A
made leaves faults stops [] k w = leaves k w
made leaves faults stops (false ∷ calls) k w = if faults k then leaves (k + 1) w else made leaves faults stops calls (k + 1) w
made leaves faults stops (true ∷ calls) k w = if stops w || faults k then leaves (k + 1) (w + 1) else made leaves faults stops calls (k + 1) (w + 1)

module _ (faults stops other_faults other_stops : ℕ → Bool) (same_faults : (k : ℕ) → faults k ≡ other_faults k) (same_stops : (w : ℕ) → stops w ≡ other_stops w) where
  pub either_same : (k w : ℕ) → (stops w || faults k) ≡ (other_stops w || other_faults k)
  either_same k w = ap (λ (b : Bool). b || faults k) (same_stops w) ∙ ap (λ (b : Bool). other_stops w || b) (same_faults k)

  pub hits_same : (calls : List Bool) (k w : ℕ) → hits faults stops calls k w ≡ hits other_faults other_stops calls k w
  hits_same [] k w = refl
  hits_same (false ∷ calls) k w = ap (λ (b : Bool). b || hits faults stops calls (k + 1) w) (same_faults k) ∙ ap (λ (b : Bool). other_faults k || b) (hits_same calls (k + 1) w)
  hits_same (true ∷ calls) k w = ap (λ (b : Bool). b || hits faults stops calls (k + 1) (w + 1)) (either_same k w) ∙ ap (λ (b : Bool). (other_stops w || other_faults k) || b) (hits_same calls (k + 1) (w + 1))

  pub counts_same : (calls : List Bool) (k w : ℕ) → counts faults stops calls k w ≡ counts other_faults other_stops calls k w
  counts_same [] k w = refl
  counts_same (false ∷ calls) k w = ap (λ (b : Bool). if b then k + 1 else counts faults stops calls (k + 1) w) (same_faults k) ∙ ap (λ (n : ℕ). if other_faults k then k + 1 else n) (counts_same calls (k + 1) w)
  counts_same (true ∷ calls) k w = ap (λ (b : Bool). if b then k + 1 else counts faults stops calls (k + 1) (w + 1)) (either_same k w) ∙ ap (λ (n : ℕ). if other_stops w || other_faults k then k + 1 else n) (counts_same calls (k + 1) (w + 1))

pub if_at : {A : Type 0} (f : ℕ → A) (b : Bool) (m n : ℕ) (x : A) → x ≡ f n → (if b then f m else x) ≡ f (if b then m else n)
if_at f true m n x is = refl
if_at f false m n x is = is

pub made_at : {A : Type 0} (f : ℕ → A) (faults stops : ℕ → Bool) (calls : List Bool) (k w : ℕ) → made (λ m v. f m) faults stops calls k w ≡ f (counts faults stops calls k w)
made_at f faults stops [] k w = refl
made_at f faults stops (false ∷ calls) k w = if_at f (faults k) (k + 1) (counts faults stops calls (k + 1) w) (made (λ m v. f m) faults stops calls (k + 1) w) (made_at f faults stops calls (k + 1) w)
made_at f faults stops (true ∷ calls) k w = if_at f (stops w || faults k) (k + 1) (counts faults stops calls (k + 1) (w + 1)) (made (λ m v. f m) faults stops calls (k + 1) (w + 1)) (made_at f faults stops calls (k + 1) (w + 1))

-- the orders of a plan
abbrev pub orders_in : FaultPlan → DiskOrders
orders_in plan = record { stop = option_map stop_as plan.stop; fault = plan.fault }

-- the calls of a start before its append
abbrev pub looks : List Bool
looks = false ∷ false ∷ false ∷ []

-- ---- the plan after calls

module _ (stop : Option Stop) (fault : Option ℕ) where
  abbrev pub after_calls : ℕ → ℕ → FaultPlan
  after_calls k w = record { stopped = false; stop = stop_after w stop; fault = fault_left k fault }

  abbrev pub fails_at : ℕ → Bool
  fails_at k = is_next (fault_left k fault)

  abbrev pub stops_at : ℕ → Bool
  stops_at w = is_next (write_of (stop_after w stop))

  abbrev pub left_after : ℕ → ℕ → DiskOrders
  left_after k w = record { stop = option_map stop_as (stop_after w stop); fault = fault_left k fault }

  pub looked : (k w : ℕ) → after_call (after_calls k w) false ≡ after_calls (k + 1) w
  looked k w = ap (λ (f : Option ℕ). record { stopped = false; stop = stop_after w stop; fault = f }) (counted_fault k fault)

  pub wrote : (k w : ℕ) → after_call (after_calls k w) true ≡ record (after_calls (k + 1) (w + 1)) { stopped = stops_at w }
  wrote k w =
      ap (λ (f : Option ℕ). record { stopped = stops_at w; stop = stop_counted_down (stop_after w stop); fault = f }) (counted_fault k fault)
      ∙ ap (λ (s : Option Stop). record { stopped = stops_at w; stop = s; fault = fault_left (k + 1) fault }) (counted_stop w stop)

  pub struck_is : (calls : List Bool) (k w : ℕ) → strikes_any calls (after_calls k w) ≡ hits fails_at stops_at calls k w
  struck_is [] k w = refl
  struck_is (false ∷ calls) k w = ap (λ (p : FaultPlan). fails_at k || strikes_any calls p) (looked k w) ∙ ap (λ (b : Bool). fails_at k || b) (struck_is calls (k + 1) w)
  struck_is (true ∷ calls) k w = ap (λ (p : FaultPlan). (stops_at w || fails_at k) || strikes_any calls p) (wrote k w) ∙ by (stops_at w) (struck_is calls (k + 1) (w + 1)) where
    by : (b : Bool) → strikes_any calls (after_calls (k + 1) (w + 1)) ≡ hits fails_at stops_at calls (k + 1) (w + 1)
        → ((b || fails_at k) || strikes_any calls (record (after_calls (k + 1) (w + 1)) { stopped = b })) ≡ ((b || fails_at k) || hits fails_at stops_at calls (k + 1) (w + 1))
    by true rest = refl
    by false rest = ap (λ (b : Bool). fails_at k || b) rest

  pub left_is : (calls : List Bool) (k w : ℕ) → orders_in (plan_after calls (after_calls k w)) ≡ made left_after fails_at stops_at calls k w
  left_is [] k w = refl
  left_is (false ∷ calls) k w = ap (λ (p : FaultPlan). orders_in (if fails_at k then p else plan_after calls p)) (looked k w) ∙ by (fails_at k) (left_is calls (k + 1) w) where
    by : (b : Bool) → orders_in (plan_after calls (after_calls (k + 1) w)) ≡ made left_after fails_at stops_at calls (k + 1) w
        → orders_in (if b then after_calls (k + 1) w else plan_after calls (after_calls (k + 1) w)) ≡ (if b then left_after (k + 1) w else made left_after fails_at stops_at calls (k + 1) w)
    by true rest = refl
    by false rest = rest
  left_is (true ∷ calls) k w = ap (λ (p : FaultPlan). orders_in (if stops_at w || fails_at k then p else plan_after calls p)) (wrote k w) ∙ by (stops_at w) (fails_at k) (left_is calls (k + 1) (w + 1)) where
    by : (b c : Bool) → orders_in (plan_after calls (after_calls (k + 1) (w + 1))) ≡ made left_after fails_at stops_at calls (k + 1) (w + 1)
        → orders_in (if b || c then record (after_calls (k + 1) (w + 1)) { stopped = b } else plan_after calls (record (after_calls (k + 1) (w + 1)) { stopped = b }))
        ≡ (if b || c then left_after (k + 1) (w + 1) else made left_after fails_at stops_at calls (k + 1) (w + 1))
    by true c rest = refl
    by false true rest = refl
    by false false rest = rest

  -- the plan after calls of which none is struck
  abbrev pub ends : List Bool → ℕ → ℕ → FaultPlan
  ends [] k w = after_calls k w
  ends (false ∷ calls) k w = ends calls (k + 1) w
  ends (true ∷ calls) k w = ends calls (k + 1) (w + 1)

  pub passed : (calls : List Bool) (k w : ℕ) → hits fails_at stops_at calls k w ≡ false → plan_after calls (after_calls k w) ≡ ends calls k w
  passed [] k w none = refl
  passed (false ∷ calls) k w none = ap (λ (p : FaultPlan). if fails_at k then p else plan_after calls p) (looked k w) ∙ by (fails_at k) none (passed calls (k + 1) w) where
    by : (b : Bool) → (b || hits fails_at stops_at calls (k + 1) w) ≡ false → (hits fails_at stops_at calls (k + 1) w ≡ false → plan_after calls (after_calls (k + 1) w) ≡ ends calls (k + 1) w)
        → (if b then after_calls (k + 1) w else plan_after calls (after_calls (k + 1) w)) ≡ ends calls (k + 1) w
    by true none rest = absurd cc
    by false none rest = rest none
  passed (true ∷ calls) k w none =
      ap (λ (p : FaultPlan). if stops_at w || fails_at k then p else plan_after calls p) (wrote k w) ∙ by (stops_at w) (fails_at k) none (passed calls (k + 1) (w + 1)) where
        by : (b c : Bool) → ((b || c) || hits fails_at stops_at calls (k + 1) (w + 1)) ≡ false → (hits fails_at stops_at calls (k + 1) (w + 1) ≡ false → plan_after calls (after_calls (k + 1) (w + 1)) ≡ ends calls (k + 1) (w + 1))
            → (if b || c then record (after_calls (k + 1) (w + 1)) { stopped = b } else plan_after calls (record (after_calls (k + 1) (w + 1)) { stopped = b })) ≡ ends calls (k + 1) (w + 1)
        by true c none rest = absurd cc
        by false true none rest = absurd cc
        by false false none rest = rest none

  pub ends_running : (calls : List Bool) (k w : ℕ) → (ends calls k w).stopped ≡ false
  ends_running [] k w = refl
  ends_running (false ∷ calls) k w = ends_running calls (k + 1) w
  ends_running (true ∷ calls) k w = ends_running calls (k + 1) (w + 1)

  pub unless : (b x y : Bool) → (b ≡ false → x ≡ y) → (if b then false else x) ≡ (if b then false else y)
  unless true x y same = refl
  unless false x y same = same refl

  -- whether the record stands, where an append comes after so many calls
  abbrev pub gate_at : ℕ → Bool
  gate_at k = if stops_at 1 || fails_at k then is_open (left_by_stop (stop_after 1 stop) (1 ∷ [])) else true

  abbrev pub stands_at : ℕ → Bool
  stands_at k = if hits fails_at stops_at body_calls k 0 then false else gate_at (k + 1 + 1)

  pub stands_is : (k : ℕ) → stands_by (after_calls k 0) ≡ stands_at k
  stands_is k =
      ap (λ (b : Bool). if b then false else opens_by_plan (plan_after body_calls (after_calls k 0))) (struck_is body_calls k 0)
      ∙ unless (hits fails_at stops_at body_calls k 0) (opens_by_plan (plan_after body_calls (after_calls k 0))) (gate_at (k + 1 + 1)) (λ none. ap opens_by_plan (passed body_calls k 0 none))

  pub stands_after_is : stands_after looks (after_calls 0 0) ≡ (if hits fails_at stops_at looks 0 0 then false else stands_at 3)
  stands_after_is =
      ap (λ (b : Bool). if b then false else stands_by (plan_after looks (after_calls 0 0))) (struck_is looks 0 0)
      ∙ unless (hits fails_at stops_at looks 0 0) (stands_by (plan_after looks (after_calls 0 0))) (stands_at 3) (λ none. ap stands_by (passed looks 0 0 none) ∙ stands_is 3)
