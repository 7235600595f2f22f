-- A disk that is given an order has it, beside those that it had.
use Rattle.std.proofs.Common.{◌≡◌, ◌+◌, ◌-◌, ◌≤◌, ◌==◌, slice_get, arith, ℕ, zero, suc, [], ◌∷◌, length, unwrap_or, Bool, true, false, if◌then◌else◌, List, slice_set, option_map, IfSome, Option, Some, None, refl, sym, ap, subst, ◌∙◌}
use Rattle.std.proofs.lemmas.Bool.{eq-eqb, eqb-true}
use Rattle.tran_ids.proofs.NumberedLemmas.{set_found, set_leaves}
use Rattle.block_disk.specs.MemDisk.{DiskState}
use Rattle.block_disk.specs.Orders.{ordered, plan_of, with_order}
use Rattle.block_disk.specs.Plan.{FaultPlan}
use Rattle.block_disk.specs.declared.fault.DiskFault.{DiskFault}
use Rattle.block_disk.specs.declared.fault.DiskFault.TheVariants as orders
use Rattle.block_disk.specs.declared.fault.Stop.{Stop}
use Rattle.node_rules.specs.Words.{numbered, set_numbered}
use Rattle.block_disk.specs.declared.fault.How.{How}
use Rattle.run_rules.specs.Data.{How as HowByRules}
use Rattle.run_rules.specs.Data.{Command}
use Rattle.run_rules.specs.Data.commands
use Rattle.run_rules.specs.Commands.{orders_after}
use Rattle.run_rules.specs.Facts.{command_at}
use Rattle.run_rules.specs.RunReport.{RunReport, orders_at}
use Rattle.run_rules.proofs.AtNodeLemmas.{there_too}
use Rattle.run_trace.specs.Recorded.{past_of}
use Rattle.script_read.specs.Sound.{IsInRange}
use Rattle.std.specs.List.{AllByRecursion}
use Rattle.world.specs.declared.world.World.{World}
use Rattle.world.specs.Linked.{IsLinked}
use Rattle.world_parts.proofs.CountLemmas.{orders_counted}
use Rattle.run_rules.specs.Disks.{DiskOrders, Stop_order, no_orders, opens_gate}
use Rattle.world.specs.declared.slot.NodeSlot.{NodeSlot}
use Rattle.world_parts.specs.Orders.{HasOrders, IsToCome, armed, how_as, ordered_at, stop_as}
use Rattle.world.specs.Orders.{ArmedAt, OrderedBy, OrdersAre}
use Rattle.world.specs.NodeSlot.{site_disk}
use Rattle.world.proofs.SlotLemmas.{get_at, same_of, set_at}
use Rattle.world_parts.proofs.StartOrders.{some_plan}

-- a disk with one order more
armed_by : (order : DiskFault) (before after : DiskState) (d : DiskOrders) → plan_of after.orders ≡ with_order (plan_of before.orders) order → IsToCome order → HasOrders d before → HasOrders (armed order d) after
armed_by (orders.Stop stop) before after d is comes has =
    let stops : after.orders.stop ≡ Some stop = ap (λ (p : FaultPlan). p.stop) is in
    let faults : after.orders.fault ≡ before.orders.fault = ap (λ (p : FaultPlan). p.fault) is in
    record {
      running = ap (λ (p : FaultPlan). p.stopped) is ∙ has.running;
      left = record {
        are = ap (λ (s : Option Stop). record { stop = option_map stop_as s; fault = after.orders.fault }) stops
            ∙ ap (λ (f : Option ℕ). record { stop = Some (stop_as stop); fault = f }) (faults ∙ ap (λ (x : DiskOrders). x.fault) has.left.are);
        write = subst (λ (s : Option Stop). IfSome s (λ x. 1 ≤ x.write)) (sym stops) comes;
        call = subst (λ (f : Option ℕ). IfSome f (λ c. 1 ≤ c)) (sym faults) has.left.call;
      };
    }
armed_by (orders.Fault call) before after d is comes has =
    let stops : after.orders.stop ≡ before.orders.stop = ap (λ (p : FaultPlan). p.stop) is in
    let faults : after.orders.fault ≡ Some call = ap (λ (p : FaultPlan). p.fault) is in
    record {
      running = ap (λ (p : FaultPlan). p.stopped) is ∙ has.running;
      left = record {
        are = ap (λ (f : Option ℕ). record { stop = option_map stop_as after.orders.stop; fault = f }) faults
            ∙ ap (λ (o : Option Stop_order). record { stop = o; fault = Some call }) (ap (λ (s : Option Stop). option_map stop_as s) stops ∙ ap (λ (x : DiskOrders). x.stop) has.left.are);
        write = subst (λ (s : Option Stop). IfSome s (λ x. 1 ≤ x.write)) (sym stops) has.left.write;
        call = subst (λ (f : Option ℕ). IfSome f (λ c. 1 ≤ c)) (sym faults) comes;
      };
    }

pub armed_has : (order : DiskFault) (before after : DiskState) (d : DiskOrders) → Some (plan_of after.orders) ≡ ordered (Some (plan_of before.orders)) order → IsToCome order → HasOrders d before → HasOrders (armed order d) after
armed_has order before after d is comes has = armed_by order before after d (some_plan (plan_of after.orders) (with_order (plan_of before.orders) order) is) comes has

-- nothing has changed
pub unarmed : (n : ℕ) (order : DiskFault) (slots : List NodeSlot) → numbered slots n ≡ None → ArmedAt n order slots slots
unarmed n order slots none comes m slot now d there here has = by (n == m) refl
  where
    same : HasOrders d (site_disk now)
    same = subst (λ (s : NodeSlot). HasOrders d (site_disk s)) (same_of slot now (sym there ∙ here)) has

    by : (b : Bool) → n == m ≡ b → HasOrders (if b then armed order d else d) (site_disk now)
    by true is = let clash : None ≡ Some slot = sym none ∙ (ap (λ (k : ℕ). numbered slots k) (eqb-true n m is) ∙ there) in absurd cc
    by false is = same

-- one site is set
pub armed_set : (n : ℕ) (order : DiskFault) (slots : List NodeSlot) (old new : NodeSlot) → numbered slots n ≡ Some old → Some (plan_of (site_disk new).orders) ≡ ordered (Some (plan_of (site_disk old).orders)) order
    → (after : List NodeSlot) → after ≡ set_numbered slots n new → ArmedAt n order slots after
armed_set n order slots old new at plan after is comes m slot now d there here has = by (n == m) refl
  where
    true_is_not : true ≡ false → ⊥
    true_is_not clash = cc

    set : numbered (set_numbered slots n new) m ≡ Some now
    set = subst (λ (xs : List NodeSlot). numbered xs m ≡ Some now) is here

    by : (b : Bool) → n == m ≡ b → HasOrders (if b then armed order d else d) (site_disk now)
    by true same =
        let equal : n ≡ m = eqb-true n m same in
        let old_is : old ≡ slot = same_of old slot (sym at ∙ (ap (λ (k : ℕ). numbered slots k) equal ∙ there)) in
        let new_is : new ≡ now = same_of new now (sym (set_found slots n old new at) ∙ (ap (λ (k : ℕ). numbered (set_numbered slots n new) k) equal ∙ set)) in
        subst (λ (s : NodeSlot). HasOrders (armed order d) (site_disk s)) new_is (armed_has order (site_disk old) (site_disk new) d plan comes (subst (λ (s : NodeSlot). HasOrders d (site_disk s)) (sym old_is) has))
    by false other =
        let still : slot ≡ now = same_of slot now (sym there ∙ (sym (set_leaves slots n m new (λ equal. true_is_not (sym (eq-eqb n m equal) ∙ other))) ∙ set)) in
        subst (λ (s : NodeSlot). HasOrders d (site_disk s)) still has

-- CRASH and FAULT
pub crash_ordered : (n write : ℕ) (how : HowByRules) (left : How) (before after : List NodeSlot) → how_as left ≡ how → ArmedAt n (orders.Stop (record { write = write; how = left })) before after → OrderedBy (commands.Crash n write how) before after
crash_ordered n write how left before after is arms range m slot now d there here has =
    subst (λ (h : HowByRules). HasOrders (if n == m then record d { stop = Some (record { write = write; opens = opens_gate h }) } else d) (site_disk now)) is (arms range m slot now d there here has)

pub fault_ordered : (n call : ℕ) (before after : List NodeSlot) → ArmedAt n (orders.Fault call) before after → OrderedBy (commands.Fault n call) before after
fault_ordered n call before after arms range m slot now d there here has = arms range m slot now d there here has

-- sites that are as they were
pub same_sites : (slots : List NodeSlot) (m : ℕ) (slot now : NodeSlot) (d : DiskOrders) → numbered slots m ≡ Some slot → numbered slots m ≡ Some now → HasOrders d (site_disk slot) → HasOrders d (site_disk now)
same_sites slots m slot now d there here has = subst (λ (s : NodeSlot). HasOrders d (site_disk s)) (same_of slot now (sym there ∙ here)) has

-- ---- a command begins

-- the numbers of each command of a script are in their ranges
pub range_at : (asked : List Command) (n : ℕ) → AllByRecursion IsInRange asked → IsInRange (command_at asked n)
range_at asked zero all = tt
range_at [] (suc i) all = tt
range_at (x ∷ xs) (suc zero) all = all.0
range_at (x ∷ xs) (suc (suc i)) all = range_at xs (suc i) all.1

module _ (t : RunReport) (m : ℕ) (x : DiskOrders) (found : numbered t.orders m ≡ Some x) where
  set_at_node : (n : ℕ) (y : DiskOrders) → unwrap_or (numbered (set_numbered t.orders n y) m) no_orders ≡ (if n == m then y else orders_at t m)
  set_at_node n y = by (n == m) refl
    where
      not_both : true ≡ false → ⊥
      not_both clash = cc

      by : (b : Bool) → n == m ≡ b → unwrap_or (numbered (set_numbered t.orders n y) m) no_orders ≡ (if b then y else orders_at t m)
      by true same =
          let equal : n ≡ m = eqb-true n m same in
          ap (λ (k : ℕ). unwrap_or (numbered (set_numbered t.orders n y) k) no_orders) (sym equal)
          ∙ ap (λ (o : Option DiskOrders). unwrap_or o no_orders) (set_found t.orders n x y (ap (λ (k : ℕ). numbered t.orders k) equal ∙ found))
      by false other = ap (λ (o : Option DiskOrders). unwrap_or o no_orders) (set_leaves t.orders n m y (λ equal. not_both (sym (eq-eqb n m equal) ∙ other)))

  -- at its own node the orders are those of that node
  own_orders : (n : ℕ) (f : DiskOrders → DiskOrders) → (if n == m then f (orders_at t n) else orders_at t m) ≡ (if n == m then f (orders_at t m) else orders_at t m)
  own_orders n f = by (n == m) refl
    where
      by : (b : Bool) → n == m ≡ b → (if b then f (orders_at t n) else orders_at t m) ≡ (if b then f (orders_at t m) else orders_at t m)
      by true same = ap (λ (k : ℕ). f (orders_at t k)) (eqb-true n m same)
      by false other = refl

  -- the orders of each disk as a command begins
  told_orders : (command : Command) → unwrap_or (numbered (orders_after t command) m) no_orders ≡ ordered_at command m (orders_at t m)
  told_orders (commands.Crash n write how) =
      set_at_node n (record (orders_at t n) { stop = Some (record { write = write; opens = opens_gate how }) })
      ∙ own_orders n (λ d. record d { stop = Some (record { write = write; opens = opens_gate how }) })
  told_orders (commands.Fault n call) = set_at_node n (record (orders_at t n) { fault = Some call }) ∙ own_orders n (λ d. record d { fault = Some call })
  told_orders _ = refl

-- the begin of a command leaves each disk its orders
pub begun_orders : (w v : World) (command : Command) → IsLinked w → OrdersAre w → IsInRange command → length v.slots.items ≡ length w.slots.items → OrderedBy command w.slots.items v.slots.items
    → (past_of v.trace).run_report.orders ≡ orders_after (past_of w.trace).run_report command → OrdersAre v
begun_orders w v command linked orders range count ordered told m now here =
    let t = (past_of w.trace).run_report in
    let old = there_too v.slots.items w.slots.items m now count here in
    let x = there_too v.slots.items t.orders m now (count ∙ (linked.held.counted.slots ∙ sym (orders_counted w.trace))) here in
    subst (λ (d : DiskOrders). HasOrders d (site_disk now)) (sym (ap (λ (os : List DiskOrders). unwrap_or (numbered os m) no_orders) told ∙ told_orders t m x.0 x.1 command))
    (ordered range m old.0 now (orders_at t m) old.1 here (orders m old.0 old.1))

-- an order for the node whose site is at this place, and one for a node that is not there
pub armed_at_place : (slots : List NodeSlot) (n i : ℕ) (order : DiskFault) (old new : NodeSlot) → n ≡ i + 1 → slice_get slots i ≡ Some old → Some (plan_of (site_disk new).orders) ≡ ordered (Some (plan_of (site_disk old).orders)) order
    → ArmedAt n order slots (slice_set slots i new)
armed_at_place slots n i order old new is at plan =
    let low : 1 ≤ n = omega (arith, is) in
    let place : n - 1 ≡ i = omega (arith, is) in
    armed_set n order slots old new (sym (get_at slots n low) ∙ (ap (λ (k : ℕ). slice_get slots k) place ∙ at)) plan (slice_set slots i new)
    (ap (λ (k : ℕ). slice_set slots k new) (sym place) ∙ set_at slots n new low)

past_end : (slots : List NodeSlot) (i : ℕ) → length slots ≤ i → slice_get slots i ≡ None
past_end [] i high = refl
past_end (s ∷ ss) zero high = absurd (omega (arith, high))
past_end (s ∷ ss) (suc i) high = past_end ss i (omega (arith, high))

pub armed_nowhere : (slots : List NodeSlot) (n i : ℕ) (order : DiskFault) → n ≡ i + 1 → length slots ≤ i → ArmedAt n order slots slots
armed_nowhere slots n i order is high =
    let low : 1 ≤ n = omega (arith, is) in
    let place : n - 1 ≡ i = omega (arith, is) in
    unarmed n order slots (sym (get_at slots n low) ∙ (ap (λ (k : ℕ). slice_get slots k) place ∙ past_end slots i high))
