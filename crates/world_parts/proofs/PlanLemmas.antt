-- How the calls of an append go by the orders of a disk, in the words of the definitions of a run.
use Rattle.std.proofs.Common.{◌≡◌, ◌≤◌, ◌-◌, ◌==◌, ℕ, zero, suc, Bool, true, false, if◌then◌else◌, List, [], ◌∷◌, is_some, take, option_map, subst, Option, Some, None, refl, ap, sym, ◌∙◌, arith}
use Rattle.std.specs.Prelude.{IfSome, nat_le, nat_lt}
use Rattle.std.proofs.lemmas.Bool.Decides.{nat_tests}
use Rattle.block_disk.specs.MemDisk.{DiskState}
use Rattle.block_disk.specs.Orders.{plan_of}
use Rattle.block_disk.specs.declared.faults.DiskFaults.{DiskFaults}
use Rattle.block_disk.specs.Plan.{FaultPlan, after_call, counted_down, left_of, stop_counted_down, strikes}
use Rattle.block_disk.specs.declared.fault.How.{How}
use Rattle.block_disk.specs.declared.fault.How.TheVariants.{Keep, Leave}
use Rattle.block_disk.specs.declared.fault.Stop.{Stop}
use Rattle.redo_log.specs.Plans.{CallsGoByPlan, append_calls, plan_after, strikes_any}
use Rattle.redo_log.specs.Stands.{is_open, stands_by}
use Rattle.run_rules.specs.Data.hows
use Rattle.run_rules.specs.Disks.{DiskOrders, Strike, after_append, opens_gate, struck}
use Rattle.world_parts.specs.Orders.{HasOrders, OrdersLeft, how_as, stop_as}

-- a plan that is not stopped, and its orders as the definitions have them
abbrev plan : Option Stop → Option ℕ → FaultPlan
plan stop fault = record { stopped = false; stop = stop; fault = fault }

abbrev told : Option Stop → Option ℕ → DiskOrders
told stop fault = record { stop = option_map stop_as stop; fault = fault }

-- whether the record stands where a strike says so
abbrev stands_at : Option Strike → Bool → Bool
stands_at None b = b
stands_at (Some s) b = s.stands

-- Both say the same of an append.
pub record Agrees (stop : Option Stop) (fault : Option ℕ) : Type 0 where
  pub strikes : strikes_any append_calls (plan stop fault) ≡ is_some (struck 0 (told stop fault))
  pub left : told (plan_after append_calls (plan stop fault)).stop (plan_after append_calls (plan stop fault)).fault ≡ after_append 0 (told stop fault)
  pub stands : stands_at (struck 0 (told stop fault)) (stands_by (plan stop fault)) ≡ stands_by (plan stop fault)
  pub runs : (if strikes_any append_calls (plan stop fault) then false else (plan_after append_calls (plan stop fault)).stopped) ≡ false

-- whether the first byte is that of an open gate
same_first : (bs : List ℕ) → opens_gate (hows.Leave bs) ≡ is_open (take 1 bs)
same_first [] = refl
same_first (b ∷ bs) = refl

-- whether an open gate is left
opens_same : (h : How) → opens_gate (how_as h) ≡ is_open (left_of h (1 ∷ []))
opens_same (Keep zero) = refl
opens_same (Keep (suc n)) = grind (arith, nat_tests)
opens_same (Leave others) = same_first others.items

-- ---- orders past an append

-- The number of a write past those of an append.
record FarWrite (n : ℕ) : Type 0 where
  one : (n == 1) ≡ false
  two : (n == 2) ≡ false
  next : (n - 1 == 1) ≡ false
  past_one : nat_lt 1 n ≡ true
  past_two : nat_lt 2 n ≡ true
  rest : n - 1 - 1 ≡ n - 2

far_write : (n : ℕ) → 3 ≤ n → FarWrite n
far_write n far = record {
  one = grind (arith, nat_tests);
  two = grind (arith, nat_tests);
  next = grind (arith, nat_tests);
  past_one = grind (arith, nat_tests);
  past_two = grind (arith, nat_tests);
  rest = omega arith;
}

-- The number of a call past those of an append.
record FarCall (n : ℕ) : Type 0 where
  first : (n == 1) ≡ false
  second : (n - 1 == 1) ≡ false
  third : (n - 1 - 1 == 1) ≡ false
  fourth : (n - 3 == 1) ≡ false
  far : nat_le n 4 ≡ false
  past_first : nat_lt 1 n ≡ true
  past_third : nat_lt 3 n ≡ true
  past_fourth : nat_lt 4 n ≡ true
  rest : n - 3 - 1 ≡ n - 4
  rest_of_three : n - 1 - 1 - 1 ≡ n - 3

far_call : (n : ℕ) → 5 ≤ n → FarCall n
far_call n past = record {
  first = grind (arith, nat_tests);
  second = grind (arith, nat_tests);
  third = grind (arith, nat_tests);
  fourth = grind (arith, nat_tests);
  far = grind (arith, nat_tests);
  past_first = grind (arith, nat_tests);
  past_third = grind (arith, nat_tests);
  past_fourth = grind (arith, nat_tests);
  rest = omega arith;
  rest_of_three = omega arith;
}

-- ---- all orders

-- no order to fail, one for each call of an append, or one past them
by_fault : (P : Option ℕ → Type 0) → P None → P (Some 1) → P (Some 2) → P (Some 3) → P (Some 4) → ((n : ℕ) → 5 ≤ n → P (Some n)) → (fault : Option ℕ) → IfSome fault (λ n. 1 ≤ n) → P fault
by_fault P none one two three four more None low = none
by_fault P none one two three four more (Some zero) low = absurd (omega arith)
by_fault P none one two three four more (Some (suc zero)) low = one
by_fault P none one two three four more (Some (suc (suc zero))) low = two
by_fault P none one two three four more (Some (suc (suc (suc zero)))) low = three
by_fault P none one two three four more (Some (suc (suc (suc (suc zero))))) low = four
by_fault P none one two three four more (Some (suc (suc (suc (suc (suc n)))))) low = more (suc (suc (suc (suc (suc n))))) (omega arith)

-- no order to stop
at_no_write : (fault : Option ℕ) → IfSome fault (λ n. 1 ≤ n) → Agrees None fault
unfolding struck after_append
at_no_write = by_fault (Agrees None)
    (record { strikes = refl; left = refl; stands = refl; runs = refl })
    (record { strikes = refl; left = refl; stands = refl; runs = refl })
    (record { strikes = refl; left = refl; stands = refl; runs = refl })
    (record { strikes = refl; left = refl; stands = refl; runs = refl })
    (record { strikes = refl; left = refl; stands = refl; runs = refl })
    (λ n far. let c = far_call n far in record { strikes = simp (c.first, c.second, c.third, c.fourth, c.far, c.rest_of_three); left = simp (c.first, c.second, c.third, c.fourth, c.far, c.past_fourth, c.rest, c.rest_of_three); stands = simp (c.first, c.second, c.third, c.far); runs = simp (c.first, c.second, c.third, c.fourth, c.rest, c.rest_of_three) })

-- one for the first write
at_first_write : (h : How) (fault : Option ℕ) → IfSome fault (λ n. 1 ≤ n) → Agrees (Some (record { write = 1; how = h })) fault
unfolding struck after_append
at_first_write h = by_fault (Agrees (Some (record { write = 1; how = h })))
    (record { strikes = refl; left = refl; stands = refl; runs = refl })
    (record { strikes = refl; left = refl; stands = refl; runs = refl })
    (record { strikes = refl; left = refl; stands = refl; runs = refl })
    (record { strikes = refl; left = refl; stands = refl; runs = refl })
    (record { strikes = refl; left = refl; stands = refl; runs = refl })
    (λ n far. let c = far_call n far in record { strikes = simp (c.far); left = simp (c.first, c.far, c.past_first); stands = simp (c.far); runs = refl })

-- one for the second, which opens the gate or not
at_second_write : (h : How) (fault : Option ℕ) → IfSome fault (λ n. 1 ≤ n) → Agrees (Some (record { write = 2; how = h })) fault
unfolding struck after_append
at_second_write h = by_fault (Agrees (Some (record { write = 2; how = h })))
    (record { strikes = refl; left = refl; stands = opens_same h; runs = refl })
    (record { strikes = refl; left = refl; stands = refl; runs = refl })
    (record { strikes = refl; left = refl; stands = refl; runs = refl })
    (record { strikes = refl; left = refl; stands = opens_same h; runs = refl })
    (record { strikes = refl; left = refl; stands = opens_same h; runs = refl })
    (λ n far. let c = far_call n far in record { strikes = simp (c.first, c.second, c.far); left = simp (c.first, c.second, c.third, c.far, c.past_third, c.rest_of_three); stands = simp (c.first, c.second, c.far, opens_same h); runs = simp (c.first, c.second) })

-- one past them
at_later_write : (h : How) (m : ℕ) → 3 ≤ m → (fault : Option ℕ) → IfSome fault (λ n. 1 ≤ n) → Agrees (Some (record { write = m; how = h })) fault
unfolding struck after_append
at_later_write h m past = let w = far_write m past in by_fault (Agrees (Some (record { write = m; how = h })))
    (record { strikes = simp (w.one, w.two, w.next); left = simp (w.one, w.two, w.next, w.past_two, w.rest); stands = simp (w.one, w.two, w.next); runs = simp (w.one, w.next, w.rest) })
    (record { strikes = simp (w.one, w.two); left = simp (w.one, w.two, w.past_one); stands = simp (w.one, w.two); runs = simp (w.one) })
    (record { strikes = simp (w.one, w.two); left = simp (w.one, w.two, w.past_one); stands = simp (w.one, w.two); runs = simp (w.one) })
    (record { strikes = simp (w.one, w.two, w.next); left = simp (w.one, w.two, w.next, w.past_two, w.rest); stands = simp (w.one, w.two, w.next); runs = simp (w.one, w.next, w.rest) })
    (record { strikes = simp (w.one, w.two, w.next); left = simp (w.one, w.two, w.next, w.past_two, w.rest); stands = simp (w.one, w.two, w.next); runs = simp (w.one, w.next, w.rest) })
    (λ n far. let c = far_call n far in record { strikes = simp (w.one, w.two, w.next, c.first, c.second, c.third, c.fourth, c.far, c.rest_of_three); left = simp (w.one, w.two, w.next, w.past_two, w.rest, c.first, c.second, c.third, c.fourth, c.far, c.past_fourth, c.rest, c.rest_of_three); stands = simp (w.one, w.two, w.next, c.first, c.second, c.third, c.far); runs = simp (w.one, w.next, w.rest, c.first, c.second, c.third, c.fourth, c.rest, c.rest_of_three) })

at_write : (h : How) (m : ℕ) → 1 ≤ m → (fault : Option ℕ) → IfSome fault (λ n. 1 ≤ n) → Agrees (Some (record { write = m; how = h })) fault
at_write h zero low = absurd (omega arith)
at_write h (suc zero) low = at_first_write h
at_write h (suc (suc zero)) low = at_second_write h
at_write h (suc (suc (suc m))) low = at_later_write h (suc (suc (suc m))) (omega arith)

agrees : (stop : Option Stop) (fault : Option ℕ) → IfSome stop (λ s. 1 ≤ s.write) → IfSome fault (λ n. 1 ≤ n) → Agrees stop fault
agrees None fault write call = at_no_write fault call
agrees (Some s) fault write call = at_write s.how s.write write fault call

-- ---- orders stay for calls to come

-- Each order of a plan is for a write or a call to come.
record Ahead (p : FaultPlan) : Type 0 where
  write : IfSome p.stop (λ s. 1 ≤ s.write)
  call : IfSome p.fault (λ c. 1 ≤ c)

call_ahead : (fault : Option ℕ) → IfSome fault (λ c. 1 ≤ c) → IfSome (counted_down fault) (λ c. 1 ≤ c)
call_ahead None ahead = tt
call_ahead (Some n) ahead = by (n == 1) refl
  where
    by : (b : Bool) → (n == 1) ≡ b → IfSome (if b then None else Some (n - 1)) (λ c. 1 ≤ c)
    by true is = tt
    by false is = grind (arith, nat_tests)

write_ahead : (stop : Option Stop) → IfSome stop (λ s. 1 ≤ s.write) → IfSome (stop_counted_down stop) (λ s. 1 ≤ s.write)
write_ahead None ahead = tt
write_ahead (Some s) ahead = by (s.write == 1) refl
  where
    by : (b : Bool) → (s.write == 1) ≡ b → IfSome (if b then None else Some (record s { write = s.write - 1 })) (λ x. 1 ≤ x.write)
    by true is = tt
    by false is = let n = s.write in grind (arith, nat_tests)

either_ahead : (b : Bool) (p q : FaultPlan) → Ahead p → Ahead q → Ahead (if b then p else q)
either_ahead true p q first second = first
either_ahead false p q first second = second

after_ahead : (p : FaultPlan) (is_write : Bool) → Ahead p → Ahead (after_call p is_write)
after_ahead p true ahead = either_ahead p.stopped p _ ahead (record { write = write_ahead p.stop ahead.write; call = call_ahead p.fault ahead.call })
after_ahead p false ahead = either_ahead p.stopped p _ ahead (record { write = ahead.write; call = call_ahead p.fault ahead.call })

all_ahead : (calls : List Bool) (p : FaultPlan) → Ahead p → Ahead (plan_after calls p)
all_ahead [] p ahead = ahead
all_ahead (is_write ∷ calls) p ahead = either_ahead (strikes p is_write) _ _ (after_ahead p is_write ahead) (all_ahead calls (after_call p is_write) (after_ahead p is_write ahead))

-- ---- the calls of an append, by the orders of a disk

none_of : (o : Option Strike) → is_some o ≡ false → o ≡ None
none_of None is = refl
none_of (Some s) is = absurd cc

some_of : (o : Option Strike) (b : Bool) → is_some o ≡ true → stands_at o b ≡ b → (s : Strike) × (o ≡ Some s) × (s.stands ≡ b)
some_of None b is stands = absurd cc
some_of (Some s) b is stands = (s, refl, stands)

plan_same : (a b : FaultPlan) → Some a ≡ Some b → a ≡ b
plan_same a b is = cc

-- the orders of a plan are those of the disk that shows it
left_by : (d : DiskOrders) (orders : DiskFaults) (p : FaultPlan) → plan_of orders ≡ p → told p.stop p.fault ≡ d → Ahead p → OrdersLeft d orders
left_by d orders p is are ahead = record {
  are = ap (λ (x : FaultPlan). told x.stop x.fault) is ∙ are;
  write = subst (λ (x : FaultPlan). IfSome x.stop (λ s. 1 ≤ s.write)) (sym is) ahead.write;
  call = subst (λ (x : FaultPlan). IfSome x.fault (λ c. 1 ≤ c)) (sym is) ahead.call;
}

module _ (d : DiskOrders) (before after : DiskState) (has : HasOrders d before) where
  abbrev p : FaultPlan
  p = plan before.orders.stop before.orders.fault

  plan_is : plan_of before.orders ≡ p
  plan_is = ap (λ (b : Bool). record { stopped = b; stop = before.orders.stop; fault = before.orders.fault }) has.running

  both : Agrees before.orders.stop before.orders.fault
  both = agrees before.orders.stop before.orders.fault has.left.write has.left.call

  -- a disk whose plan is the same has the same orders
  pub same_plan : Some (plan_of after.orders) ≡ Some (plan_of before.orders) → HasOrders d after
  same_plan same =
      let is : plan_of after.orders ≡ p = plan_same (plan_of after.orders) (plan_of before.orders) same ∙ plan_is in
      record { running = ap (λ (x : FaultPlan). x.stopped) is; left = left_by d after.orders p is has.left.are (record { write = has.left.write; call = has.left.call }) }

  struck_is : struck 0 d ≡ struck 0 (told before.orders.stop before.orders.fault)
  struck_is = ap (struck 0) (sym has.left.are)

  after_is : Some (plan_of after.orders) ≡ Some (plan_after append_calls (plan_of before.orders)) → plan_of after.orders ≡ plan_after append_calls p
  after_is is = plan_same (plan_of after.orders) _ is ∙ ap (plan_after append_calls) plan_is

  -- these orders are left
  left_over : Some (plan_of after.orders) ≡ Some (plan_after append_calls (plan_of before.orders)) → OrdersLeft (after_append 0 d) after.orders
  left_over is =
      left_by (after_append 0 d) after.orders (plan_after append_calls p) (after_is is) (both.left ∙ ap (after_append 0) has.left.are)
      (all_ahead append_calls p (record { write = has.left.write; call = has.left.call }))

  module _ (fails : Bool) (goes : CallsGoByPlan append_calls (Some (plan_of before.orders)) (Some (plan_of after.orders)) fails) where
    strikes_so : strikes_any append_calls p ≡ fails
    strikes_so = ap (strikes_any append_calls) (sym plan_is) ∙ goes.1

    is_struck : is_some (struck 0 (told before.orders.stop before.orders.fault)) ≡ fails
    is_struck = sym both.strikes ∙ strikes_so

  -- no order strikes an append that is made
  pub no_strike : CallsGoByPlan append_calls (Some (plan_of before.orders)) (Some (plan_of after.orders)) false → struck 0 d ≡ None
  no_strike goes = struck_is ∙ none_of _ (is_struck false goes)

  -- and the disk is not stopped, with the orders that are left
  pub spared : CallsGoByPlan append_calls (Some (plan_of before.orders)) (Some (plan_of after.orders)) false → HasOrders (after_append 0 d) after
  spared goes =
      let runs : (plan_after append_calls p).stopped ≡ false = sym (ap (λ (b : Bool). if b then false else (plan_after append_calls p).stopped) (strikes_so false goes)) ∙ both.runs in
      record { running = ap (λ (x : FaultPlan). x.stopped) (after_is goes.0) ∙ runs; left = left_over goes.0 }

  -- an order strikes an append that fails, and the record stands or not
  pub one_strike : CallsGoByPlan append_calls (Some (plan_of before.orders)) (Some (plan_of after.orders)) true
      → (s : Strike) × (struck 0 d ≡ Some s) × (s.stands ≡ stands_by (plan_of before.orders)) × OrdersLeft (after_append 0 d) after.orders
  one_strike goes =
      let found = some_of (struck 0 (told before.orders.stop before.orders.fault)) (stands_by p) (is_struck true goes) both.stands in
      (found.0, struck_is ∙ found.1, found.2 ∙ ap stands_by (sym plan_is), left_over goes.0)
