-- The calls of an append and of a start: the plan of a disk strikes them where the definitions of a run say so, the same orders are
-- left, and the record stands in the same cases.
use Rattle.std.proofs.Common.{◌≡◌, ◌+◌, ◌-◌, ◌≤◌, ◌==◌, ◌||◌, if◌then◌else◌, nat_lt, ℕ, Bool, true, false, List, [], ◌∷◌, ◌++◌, option_map, is_some, IfSome, Option, Some, None, refl, sym, ◌∙◌, ap, subst, arith}
use Rattle.std.proofs.lemmas.Bool.Decides.{nat_tests}
use Rattle.block_disk.specs.Plan.{FaultPlan, is_next, write_of, left_by_stop}
use Rattle.block_disk.specs.declared.fault.Stop.{Stop}
use Rattle.redo_log.specs.Plans.{plan_after, strikes_any, append_calls, CallsGoByPlan}
use Rattle.redo_log.specs.Stands.{is_open, body_calls, stands_by, stands_after}
use Rattle.run_rules.specs.Disks.{DiskOrders, Stop_order, struck, stop_left, fault_left, writes_by, calls_made, orders_left, after_append}
use Rattle.world_parts.specs.Orders.{stop_as, orders_as, OrdersLeft}
use Rattle.block_disk.specs.Orders.{plan_of}
use Rattle.block_disk.specs.declared.faults.DiskFaults.{DiskFaults}
use Rattle.world_parts.specs.Orders.{stands_in}
use Rattle.world_parts.proofs.CallRuns.{after_calls, counts, counts_same, either_same, ends_running, fails_at, gate_at, gate_left, hits, hits_same, left_after, left_is, looks, made, made_at, next_fault, next_stop, orders_in, passed, stands_after_is, stands_at, stands_is, stop_after, stop_left_as, stops_at, struck_is}

-- ---- which calls are struck, in numbers

pub some_plan : (p q : FaultPlan) → Some p ≡ Some q → p ≡ q
some_plan p q same = cc

abbrev fault_test : Option ℕ → ℕ → Bool
fault_test None k = false
fault_test (Some c) k = c == k + 1

abbrev stop_test : Option Stop_order → ℕ → Bool
stop_test None w = false
stop_test (Some o) w = o.write == w + 1

abbrev gate_test : Option Stop_order → Bool
gate_test None = false
gate_test (Some o) = if o.write == 2 then o.opens else false

fails_same : (fault : Option ℕ) (k : ℕ) → is_next (fault_left k fault) ≡ fault_test fault k
fails_same None k = refl
fails_same (Some c) k = next_fault k c

stops_same : (stop : Option Stop) (w : ℕ) → is_next (write_of (stop_after w stop)) ≡ stop_test (option_map stop_as stop) w
stops_same None w = refl
stops_same (Some s) w = next_stop w s

gate_same : (stop : Option Stop) → is_open (left_by_stop (stop_after 1 stop) (1 ∷ [])) ≡ gate_test (option_map stop_as stop)
gate_same None = refl
gate_same (Some s) = gate_left s

-- whether the record stands that comes behind so many calls
abbrev stood_at : (ℕ → Bool) → (ℕ → Bool) → Bool → ℕ → Bool
stood_at faults stops gate k = if hits faults stops body_calls k 0 then false else (if stops 1 || faults (k + 1 + 1) then gate else true)

hits_0 : (o : Option Stop_order) (f : Option ℕ) → IfSome f (λ c. 1 ≤ c) → hits (fault_test f) (stop_test o) append_calls 0 0 ≡ is_some (struck 0 (record { stop = o; fault = f }))
unfolding struck
hits_0 None None counted = refl
hits_0 None (Some c) counted = grind (arith, nat_tests)
hits_0 (Some o) None counted = grind (arith, nat_tests)
hits_0 (Some o) (Some c) counted = grind (arith, nat_tests)

counts_0 : (o : Option Stop_order) (f : Option ℕ) → IfSome f (λ c. 1 ≤ c) → counts (fault_test f) (stop_test o) append_calls 0 0 ≡ calls_made 0 (struck 0 (record { stop = o; fault = f }))
unfolding struck
counts_0 None None counted = refl
counts_0 None (Some c) counted = grind (arith, nat_tests)
counts_0 (Some o) None counted = grind (arith, nat_tests)
counts_0 (Some o) (Some c) counted = grind (arith, nat_tests)

stands_0 : (o : Option Stop_order) (f : Option ℕ) → IfSome f (λ c. 1 ≤ c) → stood_at (fault_test f) (stop_test o) (gate_test o) 0 ≡ stands_in (struck 0 (record { stop = o; fault = f }))
unfolding struck
stands_0 None None counted = refl
stands_0 None (Some c) counted = grind (arith, nat_tests)
stands_0 (Some o) None counted = grind (arith, nat_tests)
stands_0 (Some o) (Some c) counted = grind (arith, nat_tests)

hits_3 : (o : Option Stop_order) (f : Option ℕ) → IfSome f (λ c. 1 ≤ c) → hits (fault_test f) (stop_test o) (looks ++ append_calls) 0 0 ≡ is_some (struck 3 (record { stop = o; fault = f }))
unfolding struck
hits_3 None None counted = refl
hits_3 None (Some c) counted = grind (arith, nat_tests)
hits_3 (Some o) None counted = grind (arith, nat_tests)
hits_3 (Some o) (Some c) counted = grind (arith, nat_tests)

counts_3 : (o : Option Stop_order) (f : Option ℕ) → IfSome f (λ c. 1 ≤ c) → counts (fault_test f) (stop_test o) (looks ++ append_calls) 0 0 ≡ calls_made 3 (struck 3 (record { stop = o; fault = f }))
unfolding struck
counts_3 None None counted = refl
counts_3 None (Some c) counted = grind (arith, nat_tests)
counts_3 (Some o) None counted = grind (arith, nat_tests)
counts_3 (Some o) (Some c) counted = grind (arith, nat_tests)

stands_3 : (o : Option Stop_order) (f : Option ℕ) → IfSome f (λ c. 1 ≤ c) → (if hits (fault_test f) (stop_test o) looks 0 0 then false else stood_at (fault_test f) (stop_test o) (gate_test o) 3) ≡ stands_in (struck 3 (record { stop = o; fault = f }))
unfolding struck
stands_3 None None counted = refl
stands_3 None (Some c) counted = grind (arith, nat_tests)
stands_3 (Some o) None counted = grind (arith, nat_tests)
stands_3 (Some o) (Some c) counted = grind (arith, nat_tests)

-- orders that are left are for calls to come
stop_to_come : (writes : ℕ) (o : Option Stop_order) → IfSome (stop_left writes o) (λ x. 1 ≤ x.write)
stop_to_come writes None = tt
stop_to_come writes (Some o) = by (nat_lt writes o.write) refl where
  by : (b : Bool) → nat_lt writes o.write ≡ b → IfSome (if b then Some (record o { write = o.write - writes }) else None) (λ x. 1 ≤ x.write)
  by true low = grind (arith, nat_tests)
  by false low = tt

fault_to_come : (calls : ℕ) (f : Option ℕ) → IfSome (fault_left calls f) (λ c. 1 ≤ c)
fault_to_come calls None = tt
fault_to_come calls (Some c) = by (nat_lt calls c) refl where
  by : (b : Bool) → nat_lt calls c ≡ b → IfSome (if b then Some (c - calls) else None) (λ x. 1 ≤ x)
  by true low = grind (arith, nat_tests)
  by false low = tt

stop_comes : (stop : Option Stop) (o : Option Stop_order) → option_map stop_as stop ≡ o → IfSome o (λ x. 1 ≤ x.write) → IfSome stop (λ s. 1 ≤ s.write)
stop_comes None o is low = tt
stop_comes (Some s) o is low = subst (λ (x : Option Stop_order). IfSome x (λ y. 1 ≤ y.write)) (sym is) low

-- orders after calls of which so many were writes
orders_left_as : (orders after : DiskFaults) (before calls : ℕ) → orders_as after ≡ orders_left before (orders_as orders) calls → OrdersLeft (orders_left before (orders_as orders) calls) after
orders_left_as orders after before calls is = record {
  are = is;
  write = stop_comes after.stop (stop_left (writes_by before calls) (option_map stop_as orders.stop)) (ap (λ (d : DiskOrders). d.stop) is) (stop_to_come (writes_by before calls) (option_map stop_as orders.stop));
  call = subst (λ (f : Option ℕ). IfSome f (λ c. 1 ≤ c)) (sym (ap (λ (d : DiskOrders). d.fault) is)) (fault_to_come calls orders.fault);
}

-- ---- calls that go by the plan

-- orders for calls to come are those after no call
stop_waits : (stop : Option Stop) → IfSome stop (λ s. 1 ≤ s.write) → stop ≡ stop_after 0 stop
stop_waits None low = refl
stop_waits (Some s) low = grind (arith, nat_tests)

fault_waits : (fault : Option ℕ) → IfSome fault (λ c. 1 ≤ c) → fault ≡ fault_left 0 fault
fault_waits None low = refl
fault_waits (Some c) low = grind (arith, nat_tests)

-- What calls that go by the plan come to, where an append is behind so many of them.
pub record GoAs (before : ℕ) (d : DiskOrders) (after : DiskFaults) (fails : Bool) : Type 0 where
  pub struck : is_some (struck before d) ≡ fails
  pub left : OrdersLeft (after_append before d) after
  pub running : fails ≡ false → after.stopped ≡ false

module _ (orders after : DiskFaults) (running : orders.stopped ≡ false) (d : DiskOrders) (left : OrdersLeft d orders) where
  begun : plan_of orders ≡ after_calls orders.stop orders.fault 0 0
  begun =
      ap (λ (b : Bool). record { stopped = b; stop = orders.stop; fault = orders.fault }) running
      ∙ ap (λ (s : Option Stop). record { stopped = false; stop = s; fault = orders.fault }) (stop_waits orders.stop left.write)
      ∙ ap (λ (f : Option ℕ). record { stopped = false; stop = stop_after 0 orders.stop; fault = f }) (fault_waits orders.fault left.call)

  abbrev faults : ℕ → Bool
  faults = fault_test orders.fault

  abbrev stops : ℕ → Bool
  stops = stop_test (option_map stop_as orders.stop)

  abbrev here : DiskOrders
  here = orders_as orders

  faults_are : (k : ℕ) → fails_at orders.stop orders.fault k ≡ faults k
  faults_are k = fails_same orders.fault k

  stops_are : (w : ℕ) → stops_at orders.stop orders.fault w ≡ stops w
  stops_are w = stops_same orders.stop w

  hits_are : (calls : List Bool) → strikes_any calls (plan_of orders) ≡ hits faults stops calls 0 0
  hits_are calls =
      ap (λ (p : FaultPlan). strikes_any calls p) begun
      ∙ struck_is orders.stop orders.fault calls 0 0
      ∙ hits_same (fails_at orders.stop orders.fault) (stops_at orders.stop orders.fault) faults stops faults_are stops_are calls 0 0

  goes_on : (calls : List Bool) → plan_of after ≡ plan_after calls (plan_of orders) → strikes_any calls (plan_of orders) ≡ false → after.stopped ≡ false
  goes_on calls now none =
      ap (λ (p : FaultPlan). p.stopped) now
      ∙ ap (λ (p : FaultPlan). (plan_after calls p).stopped) begun
      ∙ ap (λ (p : FaultPlan). p.stopped) (passed orders.stop orders.fault calls 0 0 (sym (struck_is orders.stop orders.fault calls 0 0) ∙ (sym (ap (λ (p : FaultPlan). strikes_any calls p) begun) ∙ none)))
      ∙ ends_running orders.stop orders.fault calls 0 0

  -- the orders are those after so many calls
  leaves : (before : ℕ) (calls : List Bool)
      → made (left_after orders.stop orders.fault) (fails_at orders.stop orders.fault) (stops_at orders.stop orders.fault) calls 0 0
      ≡ made (λ k w. left_after orders.stop orders.fault k (writes_by before k)) (fails_at orders.stop orders.fault) (stops_at orders.stop orders.fault) calls 0 0
      → counts faults stops calls 0 0 ≡ calls_made before (struck before here)
      → plan_of after ≡ plan_after calls (plan_of orders) → orders_as after ≡ orders_left before here (calls_made before (struck before here))
  leaves before calls writes made_so now =
      ap (λ (p : FaultPlan). orders_in p) now
      ∙ ap (λ (p : FaultPlan). orders_in (plan_after calls p)) begun
      ∙ left_is orders.stop orders.fault calls 0 0
      ∙ writes
      ∙ made_at (λ k. left_after orders.stop orders.fault k (writes_by before k)) (fails_at orders.stop orders.fault) (stops_at orders.stop orders.fault) calls 0 0
      ∙ ap (λ (k : ℕ). left_after orders.stop orders.fault k (writes_by before k))
      (counts_same (fails_at orders.stop orders.fault) (stops_at orders.stop orders.fault) faults stops faults_are stops_are calls 0 0 ∙ made_so)
      ∙ ap (λ (o : Option Stop_order). record { stop = o; fault = fault_left (calls_made before (struck before here)) orders.fault }) (stop_left_as (writes_by before (calls_made before (struck before here))) orders.stop)

  goes : (before : ℕ) (calls : List Bool) (fails : Bool)
      → hits faults stops calls 0 0 ≡ is_some (struck before here)
      → counts faults stops calls 0 0 ≡ calls_made before (struck before here)
      → made (left_after orders.stop orders.fault) (fails_at orders.stop orders.fault) (stops_at orders.stop orders.fault) calls 0 0
      ≡ made (λ k w. left_after orders.stop orders.fault k (writes_by before k)) (fails_at orders.stop orders.fault) (stops_at orders.stop orders.fault) calls 0 0
      → CallsGoByPlan calls (Some (plan_of orders)) (Some (plan_of after)) fails → GoAs before d after fails
  unfolding after_append
  goes before calls fails hit_so made_so writes by_plan =
      let now : plan_of after ≡ plan_after calls (plan_of orders) = some_plan _ _ by_plan.0 in
      let is = leaves before calls writes made_so now in
      record {
        struck = ap (λ (x : DiskOrders). is_some (struck before x)) (sym left.are) ∙ (sym hit_so ∙ (sym (hits_are calls) ∙ by_plan.1));
        left = subst (λ (x : DiskOrders). OrdersLeft (after_append before x) after) left.are (orders_left_as orders after before (calls_made before (struck before here)) is);
        running = λ none. goes_on calls now (by_plan.1 ∙ none);
      }

  -- the calls of an append
  pub append_goes : (fails : Bool) → CallsGoByPlan append_calls (Some (plan_of orders)) (Some (plan_of after)) fails → GoAs 0 d after fails
  append_goes fails = goes 0 append_calls fails (hits_0 here.stop here.fault left.call) (counts_0 here.stop here.fault left.call) refl

  -- the calls of a start
  pub start_goes : (fails : Bool) → CallsGoByPlan (looks ++ append_calls) (Some (plan_of orders)) (Some (plan_of after)) fails → GoAs 3 d after fails
  start_goes fails = goes 3 (looks ++ append_calls) fails (hits_3 here.stop here.fault left.call) (counts_3 here.stop here.fault left.call) refl

module _ (stop : Option Stop) (fault : Option ℕ) where
  abbrev stands_as : ℕ → Bool
  stands_as k = stood_at (fault_test fault) (stop_test (option_map stop_as stop)) (gate_test (option_map stop_as stop)) k

  stood_same : (k : ℕ) → stands_at stop fault k ≡ stands_as k
  stood_same k =
      ap (λ (b : Bool). if b then false else gate_at stop fault (k + 1 + 1))
      (hits_same (fails_at stop fault) (stops_at stop fault) (fault_test fault) (stop_test (option_map stop_as stop)) (fails_same fault) (stops_same stop) body_calls k 0)
      ∙ ap (λ (b : Bool). if hits (fault_test fault) (stop_test (option_map stop_as stop)) body_calls k 0 then false else (if b then is_open (left_by_stop (stop_after 1 stop) (1 ∷ [])) else true))
      (either_same (fails_at stop fault) (stops_at stop fault) (fault_test fault) (stop_test (option_map stop_as stop)) (fails_same fault) (stops_same stop) (k + 1 + 1) 1)
      ∙ ap (λ (b : Bool). if hits (fault_test fault) (stop_test (option_map stop_as stop)) body_calls k 0 then false
      else (if stop_test (option_map stop_as stop) 1 || fault_test fault (k + 1 + 1) then b else true)) (gate_same stop)

module _ (orders : DiskFaults) (running : orders.stopped ≡ false) (d : DiskOrders) (left : OrdersLeft d orders) where
  -- the record of an append stands where the definitions of a run say so
  pub append_stands : stands_by (plan_of orders) ≡ stands_in (struck 0 d)
  append_stands =
      ap stands_by (begun orders orders running d left)
      ∙ stands_is orders.stop orders.fault 0
      ∙ stood_same orders.stop orders.fault 0
      ∙ stands_0 (option_map stop_as orders.stop) orders.fault left.call
      ∙ ap (λ (x : DiskOrders). stands_in (struck 0 x)) left.are

  -- and the record of a start
  pub start_stands : stands_after looks (plan_of orders) ≡ stands_in (struck 3 d)
  start_stands =
      ap (λ (p : FaultPlan). stands_after looks p) (begun orders orders running d left)
      ∙ stands_after_is orders.stop orders.fault
      ∙ ap (λ (b : Bool). if b then false else stands_at orders.stop orders.fault 3)
      (hits_same (fails_at orders.stop orders.fault) (stops_at orders.stop orders.fault) (fault_test orders.fault) (stop_test (option_map stop_as orders.stop)) (fails_same orders.fault) (stops_same orders.stop) looks 0 0)
      ∙ ap (λ (b : Bool). if hits (fault_test orders.fault) (stop_test (option_map stop_as orders.stop)) looks 0 0 then false else b) (stood_same orders.stop orders.fault 3)
      ∙ stands_3 (option_map stop_as orders.stop) orders.fault left.call
      ∙ ap (λ (x : DiskOrders). stands_in (struck 3 x)) left.are
