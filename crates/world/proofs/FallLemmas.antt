-- A start that an order struck, and the stop that follows it; and the orders on the disks after a stop.
use Rattle.std.proofs.Common.{◌≡◌, ◌≢◌, ◌⊎◌, inl, inr, ◌<◌, ◌≤◌, ◌==◌, ◌&&◌, ℕ, Bool, true, false, if◌then◌else◌, List, [], length, is_some, is_none, unwrap_or, Option, Some, None, refl, sym, ap, subst, ◌∙◌, arith}
use Rattle.std.proofs.lemmas.Bool.{eq-eqb}
use Rattle.tran_ids.proofs.NumberedLemmas.{set_found}
use Rattle.node_rules.specs.Data.{Place}
use Rattle.node_rules.specs.NodeState.{NodeState}
use Rattle.node_rules.specs.Turn.{start_of}
use Rattle.node_rules.specs.Words.{numbered, set_numbered}
use Rattle.run_rules.specs.Data.{Command}
use Rattle.run_rules.specs.Data.commands
use Rattle.run_rules.specs.Data.happenings
use Rattle.run_rules.specs.Disks.{DiskOrders, Strike, struck}
use Rattle.net_bag.specs.Net.{started}
use Rattle.run_rules.specs.Due.{Falls, Starts, Stops, acts_once, due_of, falls_first, follows_first, first_losses}
use Rattle.run_rules.specs.Facts.{Facts, command_at, flat, is_up, node_at, with_boot}
use Rattle.run_rules.specs.Cuts.{appends}
use Rattle.run_rules.specs.Lines.{is_down, with_own}
use Rattle.node_rules.specs.Words.{one}
use Rattle.run_rules.specs.Disks.{no_orders}
use Rattle.run_rules.specs.Lawful.{IsNode}
use Rattle.run_rules.specs.Past.{acts, failed_start, falls_if, start_refused, report_started}
use Rattle.run_rules.specs.RunReport.{Past, RunReport, orders_at}
use Rattle.run_rules.proofs.AtNodeLemmas.{item_there}
use Rattle.run_trace.specs.Recorded.{RunSoFar, IsDueNext, past_of}
use Rattle.world.specs.declared.slot.NodeSlot.{NodeSlot}
use Rattle.world.specs.declared.world.World.{World}
use Rattle.world.specs.Halts.{HasHalted}
use Rattle.world.specs.Linked.{IsLinked, OnlyFalls}
use Rattle.world.specs.Needs.{DueNodesAreThere, EachStartsSeldom, due_in}
use Rattle.world_parts.specs.Orders.{HasOrders, OrdersLeft}
use Rattle.world.specs.Orders.{OrdersAre, OtherOrdersAre}
use Rattle.world.specs.NodeSlot.{has_to_fall, site_disk}
use Rattle.world.specs.Starts.{IsStarting, HasBooted, IsTriedAt, boot_at}
use Rattle.world.specs.Steps.{StepsOn, StepsTo}
use Rattle.world_parts.proofs.BegunLemmas.{falls_owed, starts_down, starts_settled, stops_command}
use Rattle.world.proofs.BootLemmas.{counted_elsewhere, counted_here, other_falls}
use Rattle.world.proofs.SlotLemmas.{same_or}
use Rattle.world_parts.proofs.StartLemmas.{next_started}
use Rattle.world.proofs.StartedLemmas.{powered_has}
use Rattle.world.proofs.StopLemmas.{falls_next, next_stopped}
use Rattle.world_parts.proofs.ToStopLemmas.{stop_orders}
use Rattle.world.proofs.TryLemmas.{own_tried, start_is_down, start_there}

-- ---- orders after a stop

refused_elsewhere : (places : List Place) (f : Facts) (t : RunReport) (command : Command) (n m : ℕ) → n ≢ m → orders_at (start_refused places f t command n) m ≡ orders_at t m
refused_elsewhere places f t command n m other = by (failed_start f command n)
  where
    by : (b : Bool) → orders_at (if b then with_own (appends t n 3) (one (is_down places n)) else t) m ≡ orders_at t m
    by true = counted_elsewhere t n m other
    by false = refl

module _ (w v : World) (n : ℕ) (halted : HasHalted n w v) (inside : IsNode (length w.slots.items) n) where
  abbrev p : Past
  p = past_of w.trace

  abbrev refused : RunReport
  refused = start_refused w.trace.places p.facts p.run_report (command_at w.trace.asked p.facts.command) n

  told : (m : ℕ) → orders_at (past_of v.trace).run_report m ≡ orders_at refused m
  told m =
      ap (λ (x : Past). orders_at x.run_report m) (halted.past ∙ next_stopped w.trace.places w.trace.asked p n)
      ∙ ap (λ (os : List DiskOrders). unwrap_or (numbered os m) no_orders) (stop_orders w.trace.places w.trace.asked p.facts p.run_report n)

  pub halted_orders : OtherOrdersAre n w → ((slot : NodeSlot) → numbered w.slots.items n ≡ Some slot → OrdersLeft (orders_at refused n) (site_disk slot).orders) → OrdersAre v
  halted_orders others own m slot at = by (same_or n m)
    where
      by : (n ≡ m) ⊎ (n ≢ m) → HasOrders (orders_at (past_of v.trace).run_report m) (site_disk slot)
      by (inl same) =
          let here : numbered v.slots.items n ≡ Some slot = subst (λ (k : ℕ). numbered v.slots.items k ≡ Some slot) (sym same) at in
          let old = item_there w.slots.items n inside.0 inside.1 in
          let power = (halted.slots.own old.0 slot old.1 here).1.orders in
          subst (λ (k : ℕ). HasOrders (orders_at (past_of v.trace).run_report k) (site_disk slot)) same
          (subst (λ (d : DiskOrders). HasOrders d (site_disk slot)) (sym (told n)) (powered_has (site_disk old.0).orders (site_disk slot) power (own old.0 old.1)))
      by (inr other) =
          subst (λ (d : DiskOrders). HasOrders d (site_disk slot)) (sym (told m ∙ refused_elsewhere w.trace.places p.facts p.run_report (command_at w.trace.asked p.facts.command) n m other))
          (others m slot other (sym (halted.slots.others m other) ∙ at))

-- ---- a start that was struck behind its record

due_falls : (asked : List Command) (q : Past) (n : ℕ) → q.run_report.start_to_stop ≡ Some n → q.facts.node_to_stop ≡ None → q.facts.losses_to_report ≡ [] → due_of asked q ≡ Falls n
unfolding due_of
due_falls asked q n struck settled told =
    let later = follows_first (acts_once asked q.facts q.run_report) q.run_report.next_call in
    ap (λ (ks : List ℕ). first_losses (falls_first (falls_first later q.run_report.start_to_stop) q.facts.node_to_stop) ks) told
    ∙ ap (λ (o : Option ℕ). falls_first (falls_first later q.run_report.start_to_stop) o) settled
    ∙ ap (λ (o : Option ℕ). falls_first later o) struck

struck_falls : (o : Option Strike) (n : ℕ) → (o ≡ None → ⊥) → falls_if n o ≡ Some n
struck_falls None n struck = absurd (struck refl)
struck_falls (Some s) n struck = refl

never : (b c : Bool) → (b && (false && c)) ≡ false
never true c = refl
never false c = refl

module _ (w v : World) (n : ℕ) (begun : IsStarting n w) (due : due_in w.trace ≡ Starts n) (booted : HasBooted n w v) where
  abbrev p1 : Past
  p1 = past_of w.trace

  abbrev strike : Option Strike
  strike = struck 3 (orders_at p1.run_report n)

  abbrev q : Past
  q = record {
    facts = record p1.facts { nodes = set_numbered p1.facts.nodes n (Some (start_of (with_boot p1.facts n (boot_at w n)))); records = set_numbered p1.facts.records n (with_boot p1.facts n (boot_at w n)); net = started p1.facts.net n };
    run_report = acts (report_started w.trace.places p1.run_report n strike);
  }

  past_is : past_of v.trace ≡ q
  past_is = booted.past ∙ next_started w.trace.places w.trace.asked p1 n (boot_at w n)

  up_now : node_at q.facts n ≡ Some (start_of (with_boot p1.facts n (boot_at w n)))
  up_now =
      let old = item_there p1.facts.nodes n begun.there.0 (subst (λ (k : ℕ). n ≤ k) (sym begun.counted.nodes) begun.there.1) in
      ap flat (set_found p1.facts.nodes n old.0 (Some (start_of (with_boot p1.facts n (boot_at w n)))) old.1)

  pub booted_up : true ≡ is_up (past_of v.trace).facts n
  booted_up = sym (ap (λ (x : Past). is_up x.facts n) past_is ∙ ap (λ (o : Option NodeState). is_some o) up_now)

  pub booted_there : IsNode (length v.trace.places) n
  booted_there = subst (λ (places : List Place). IsNode (length places) n) (sym booted.places) begun.there

  pub booted_only : OnlyFalls (past_of v.trace) n
  booted_only m other = ap (λ (x : Past). has_to_fall x.run_report.start_to_stop m) past_is ∙ other_falls strike n m other

  pub booted_next : (strike ≡ None → ⊥) → IsDueNext v.trace (happenings.Stopped n)
  booted_next struck_so =
      let settled = starts_settled w.trace.asked p1 n due in
      let falls : due_of v.trace.asked (past_of v.trace) ≡ Falls n = ap (λ (x : Past). due_of v.trace.asked x) past_is ∙ due_falls v.trace.asked q n (struck_falls strike n struck_so) settled.1 settled.0 in
      falls_next v.trace.places v.trace.asked (past_of v.trace) n falls

  -- where no order struck, none is to stop
  pub booted_upright : strike ≡ None → (past_of v.trace).run_report.start_to_stop ≡ None
  booted_upright none = ap (λ (x : Past). x.run_report.start_to_stop) past_is ∙ ap (λ (o : Option Strike). falls_if n o) none

  command_is : command_at v.trace.asked (past_of v.trace).facts.command ≡ commands.Start n
  command_is =
      ap (λ (cs : List Command). command_at cs (past_of v.trace).facts.command) booted.asked
      ∙ ap (λ (x : Past). command_at w.trace.asked x.facts.command) past_is
      ∙ (starts_down w.trace.asked p1 n due).0

  not_refused : failed_start (past_of v.trace).facts (command_at v.trace.asked (past_of v.trace).facts.command) n ≡ false
  not_refused =
      ap (λ (command : Command). failed_start (past_of v.trace).facts command n) command_is
      ∙ ap (λ (x : Past). (n == n) && (is_none (node_at x.facts n) && is_none x.facts.node_to_stop)) past_is
      ∙ ap (λ (o : Option NodeState). (n == n) && (is_none o && is_none q.facts.node_to_stop)) up_now
      ∙ never (n == n) (is_none q.facts.node_to_stop)

  pub fallen_orders : (u : World) → HasHalted n v u → OrdersAre u
  fallen_orders u halted =
      let t = (past_of v.trace).run_report in
      let inside : IsNode (length v.slots.items) n = subst (λ (k : ℕ). IsNode k n) (sym booted.steps.held.counted.slots) booted_there in
      halted_orders v u n halted inside (λ m slot other at. booted.orders m slot at)
      (λ slot at. subst (λ (d : DiskOrders). OrdersLeft d (site_disk slot).orders)
      (sym (ap (λ (b : Bool). orders_at (if b then with_own (appends t n 3) (one (is_down v.trace.places n)) else t) n) not_refused)) (booted.orders n slot at).left)

-- one happening, and then another
pub steps_then : (w v u : World) → StepsTo w v → StepsOn v u → StepsOn w u
steps_then w v u first second = let one_more = first.longer in let more = second.longer in record { linked = second.linked; longer = omega (arith, one_more, more); few = second.few }

-- the same from a world with the same trace
pub steps_from : (w v u : World) → v.trace ≡ w.trace → StepsOn v u → StepsOn w u
steps_from w v u same steps = record {
  linked = steps.linked;
  longer = subst (λ (r : RunSoFar). length r.happenings < length u.trace.happenings) same steps.longer;
  few = steps.few;
}

-- a start that no order struck
pub booted_on : (w v u : World) (n : ℕ) → v.trace ≡ w.trace → IsStarting n v → due_in v.trace ≡ Starts n → HasBooted n v u → struck 3 (orders_at (past_of v.trace).run_report n) ≡ None → StepsOn w u
booted_on w v u n same begun due booted none =
    steps_from w v u same (record { linked = record { held = booted.steps.held; upright = booted_upright v u n begun due booted none }; longer = booted.steps.longer; few = booted.steps.few })

-- ---- a start that was struck before its record

module _ (w v u : World) (n : ℕ) (due : due_in w.trace ≡ Starts n) (linked : IsLinked w) (orders : OrdersAre w) (there : DueNodesAreThere) (few : EachStartsSeldom) (tried : IsTriedAt n w v) (halted : HasHalted n v u) where
  abbrev p2 : Past
  p2 = past_of w.trace

  refused_now : failed_start p2.facts (command_at w.trace.asked p2.facts.command) n ≡ true
  refused_now =
      let settled = starts_settled w.trace.asked p2 n due in
      ap (λ (command : Command). failed_start p2.facts command n) (starts_down w.trace.asked p2 n due).0
      ∙ ap (λ (b : Bool). b && (is_none (node_at p2.facts n) && is_none p2.facts.node_to_stop)) (eq-eqb n n refl)
      ∙ ap (λ (o : Option NodeState). is_none o && is_none p2.facts.node_to_stop) (start_is_down w n linked due there few)
      ∙ ap (λ (o : Option ℕ). is_none o) settled.1

  trace_same : v.trace ≡ w.trace
  trace_same = ap (λ (x : World). x.trace) tried.same

  pub failed_orders : OrdersAre u
  failed_orders =
      let t = p2.run_report in
      let place = start_there w n linked due there few in
      let inside : IsNode (length v.slots.items) n = subst (λ (k : ℕ). IsNode k n) (sym (tried.slots.count ∙ linked.held.counted.slots)) place in
      halted_orders v u n halted inside
      (λ m slot other at. subst (λ (r : RunSoFar). HasOrders (orders_at (past_of r).run_report m) (site_disk slot)) (sym trace_same) (orders m slot (sym (tried.slots.others m other) ∙ at)))
      (λ slot at. subst (λ (r : RunSoFar). OrdersLeft (orders_at (start_refused r.places (past_of r).facts (past_of r).run_report (command_at r.asked (past_of r).facts.command) n) n) (site_disk slot).orders) (sym trace_same)
      (subst (λ (d : DiskOrders). OrdersLeft d (site_disk slot).orders)
      (sym (ap (λ (b : Bool). orders_at (if b then with_own (appends t n 3) (one (is_down w.trace.places n)) else t) n) refused_now ∙ counted_here t n))
      (own_tried w n linked due there few orders v tried.slots slot at).orders.left))

-- ---- other stops

never_refused : (f : Facts) (command : Command) (n m : ℕ) → f.node_to_stop ≡ Some m → failed_start f command n ≡ false
never_refused f (commands.Start k) n m owed = ap (λ (o : Option ℕ). (k == n) && (is_none (node_at f n) && is_none o)) owed ∙ both_never (k == n) (is_none (node_at f n))
  where
    both_never : (b c : Bool) → (b && (c && false)) ≡ false
    both_never true true = refl
    both_never true false = refl
    both_never false c = refl
never_refused f _ n m owed = refl

module _ (w v : World) (n : ℕ) (linked : IsLinked w) (orders : OrdersAre w) (inside : IsNode (length w.trace.places) n) (halted : HasHalted n w v) where
  stop_leaves : failed_start (past_of w.trace).facts (command_at w.trace.asked (past_of w.trace).facts.command) n ≡ false → OrdersAre v
  stop_leaves fine =
      let t = (past_of w.trace).run_report in
      halted_orders w v n halted (subst (λ (k : ℕ). IsNode k n) (sym linked.held.counted.slots) inside) (λ m slot other at. orders m slot at)
      (λ slot at. subst (λ (d : DiskOrders). OrdersLeft d (site_disk slot).orders)
      (sym (ap (λ (b : Bool). orders_at (if b then with_own (appends t n 3) (one (is_down w.trace.places n)) else t) n) fine)) (orders n slot at).left)

  pub fall_leaves : due_in w.trace ≡ Falls n → OrdersAre v
  fall_leaves due =
      stop_leaves (never_refused (past_of w.trace).facts (command_at w.trace.asked (past_of w.trace).facts.command) n n (falls_owed w.trace.asked (past_of w.trace) n due linked.upright))

  pub stopped_leaves : due_in w.trace ≡ Stops n → OrdersAre v
  stopped_leaves due = stop_leaves (ap (λ (command : Command). failed_start (past_of w.trace).facts command n) (stops_command w.trace.asked (past_of w.trace) n due))

-- orders where neither disks nor what is told of them has changed
pub orders_stay : (w v : World) → v.slots.items ≡ w.slots.items → (past_of v.trace).run_report.orders ≡ (past_of w.trace).run_report.orders → OrdersAre w → OrdersAre v
orders_stay w v slots told orders n slot at =
    subst (λ (os : List DiskOrders). HasOrders (unwrap_or (numbered os n) no_orders) (site_disk slot)) (sym told) (orders n slot (subst (λ (xs : List NodeSlot). numbered xs n ≡ Some slot) slots at))

pub ruleset fall_steps = (booted_up, booted_there, booted_only, booted_next, fallen_orders, steps_then)

pub ruleset start_steps = (booted_on, failed_orders, steps_from)
