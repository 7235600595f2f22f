-- A turn that is cut: its record stands or not, nothing is sent, and its node has to stop.
use Rattle.std.proofs.Common.{◌≡◌, ◌++◌, ℕ, Bool, true, false, List, [], length, is_some, option_map, Option, Some, None, refl, ap, sym, subst, ◌∙◌, append-nil}
use Rattle.std.specs.Option.{option_to_list}
use Rattle.std.specs.Prelude.{OnOk, Result}
use Rattle.std.proofs.lemmas.Result.{on_ok_weaker}
use Rattle.block_disk.specs.MemDisk.{DiskState}
use Rattle.block_disk.specs.Orders.{powered}
use Rattle.block_disk.specs.declared.faults.DiskFaults.{DiskFaults}
use Rattle.record_log.specs.Held.{HoldRecords}
use Rattle.node_points.specs.Passing.{passes_as}
use Rattle.node_points.specs.declared.places.Passes.{Passes}
use Rattle.node_rules.specs.Data.{RedoRecord}
use Rattle.node_rules.specs.Words.{numbered, set_numbered}
use Rattle.node_rules.specs.NodeState.{NodeState, TurnOutput}
use Rattle.node_rules.specs.Turn.{turn_of}
use Rattle.node_disk.specs.declared.err.CutTurn.{CutTurn}
use Rattle.run_rules.specs.Cuts.{Cut_by, cut_by}
use Rattle.run_rules.specs.Data.{Happening, Turn}
use Rattle.run_rules.specs.Data.happenings
use Rattle.run_rules.specs.Disks.{DiskOrders}
use Rattle.run_rules.specs.Due.{turn_by}
use Rattle.run_rules.specs.Facts.{place_at, records_at, taken}
use Rattle.run_rules.specs.Lawful.{boots}
use Rattle.run_rules.specs.Past.{report_turned}
use Rattle.run_rules.specs.RunReport.{Past, RunReport, orders_at}
use Rattle.run_rules.proofs.AtNodeLemmas.{there_too}
use Rattle.run_trace.specs.Recorded.{IsDueNext, past_of}
use Rattle.tran_ids.proofs.NumberedLemmas.{set_found, set_leaves, set_length}
use Rattle.run_report.specs.declared.turn.TurnFacts.{TurnFacts}
use Rattle.run_report.specs.Facts.{Cuts, KnownOfTurn}
use Rattle.world.specs.declared.slot.NodeSlot.{NodeSlot}
use Rattle.world.specs.declared.turning.Begun.{Begun}
use Rattle.world.specs.declared.world.World.{World}
use Rattle.world_parts.specs.Orders.{HasOrders, OrdersLeft, cut_orders}
use Rattle.world.specs.Orders.{OrdersAre}
use Rattle.world.specs.NodeSlot.{bytes_of, site_disk}
use Rattle.world.specs.Steps.{StepsOn}
use Rattle.world.specs.Stops.{HasStopped, IsPowered, StopsAt}
use Rattle.world.specs.Turns.{IsCutDuringAt, TurnIsReported, stands_by, stood}
use Rattle.world_parts.proofs.MailLemmas.{sent_none}
use Rattle.world.proofs.SlotLemmas.{down_runs, same_of}
use Rattle.world.proofs.StepLemmas.{IsPushed}
use Rattle.world.proofs.StopLemmas.{pushed_in}
use Rattle.world.proofs.TurnLemmas.{HasTurned, Turns, caller_of, cut_is, none_to_tell, turn_comes_next, turn_moves, turn_orders_are}

-- a disk whose power is on again has the orders that were left
powered_has : (d : DiskOrders) (before after : DiskState) → after.orders ≡ powered before.orders → OrdersLeft d before.orders → HasOrders d after
powered_has d before after is left = record {
  running = ap (λ (x : DiskFaults). x.stopped) is;
  left = subst (λ (x : DiskFaults). OrdersLeft d x) (sym is) (record { are = left.are; write = left.write; call = left.call });
}

-- one site has stopped
pub stops_set : (n : ℕ) (slots : List NodeSlot) (old new : NodeSlot) → numbered slots n ≡ Some old → HasStopped old new → IsPowered old new → (after : List NodeSlot) → after ≡ set_numbered slots n new → StopsAt n slots after
stops_set n slots old new found stopped powered after set = record {
  count = ap (λ (xs : List NodeSlot). length xs) set ∙ set_length slots n new;
  others = λ m other. ap (λ (xs : List NodeSlot). numbered xs m) set ∙ set_leaves slots n m new other;
  own = λ slot now before then.
      let was : old ≡ slot = same_of old slot (sym found ∙ before) in
      let is : new ≡ now = same_of new now (sym (ap (λ (xs : List NodeSlot). numbered xs n) set ∙ set_found slots n old new found) ∙ then) in
      (subst (λ (x : NodeSlot). HasStopped x now) was (subst (λ (y : NodeSlot). HasStopped old y) is stopped), subst (λ (x : NodeSlot). IsPowered x now) was (subst (λ (y : NodeSlot). IsPowered old y) is powered));
}

-- What a cut turn leaves of the world.
pub record CutLeaves (begun : Begun) (k : NodeState) (u : Turn) (o : TurnOutput) (w v : World) : Type 0 where
  pub running : v.running ≡ w.running
  pub to_stop : v.to_stop ≡ Some begun.node
  pub boots : v.boots.items ≡ w.boots.items
  pub shown : v.shown ≡ w.shown
  pub net : v.net ≡ taken w.net begun.took
  pub losses : v.losses.items ≡ w.losses.items
  pub run_report : v.run_report ≡ report_turned w.running (Some k) w.run_report u (Some o)
  pub stops : StopsAt begun.node w.slots.items v.slots.items

module _ (w : World) (begun : Begun) (c : CutTurn) (k : NodeState) (by : Cut_by) (during : IsCutDuringAt begun c w k by) where
  abbrev p : Past
  p = past_of w.trace

  abbrev o : TurnOutput
  o = turn_of (place_at w.trace.places begun.node) k c.input

  -- what cuts it is what the definitions of a run say
  pub cut_agrees : (writes : Bool) (passed : Option Passes) (b : Cut_by) → writes ≡ is_some c.tried → passed ≡ c.passes → Cuts w.run_report begun.node writes (option_map passes_as passed) b → b ≡ by
  cut_agrees writes passed b is are cuts =
      cuts k c.input o (is ∙ ap is_some during.tried) (ap (option_map passes_as) are ∙ during.passed)
      ∙ (ap (λ (t : RunReport). cut_by t begun.node k c.input o) during.under_way.parts.run_report ∙ during.under_way.cut)

  module _ (s : Bool) (stands : s ≡ stands_by by) where
    abbrev u : Turn
    u = record { node = begun.node; input = c.input; took = begun.took; wrote = stood s c.tried; sent = []; cut = true }

    wrote_is : stood s c.tried ≡ stood (stands_by by) o.wrote
    wrote_is = ap (λ (b : Bool). stood b c.tried) stands ∙ ap (stood (stands_by by)) during.tried

    turn_is : turn_by begun.node c.input begun.took o by ≡ happenings.Turn u
    turn_is =
        cut_is begun.node c.input begun.took o by during.is_cut
        ∙ ap (λ (r : Option RedoRecord). happenings.Turn (record { node = begun.node; input = c.input; took = begun.took; wrote = r; sent = []; cut = true })) (sym wrote_is)

    -- it is the happening that comes next
    pub cut_next : IsDueNext w.trace (happenings.Turn u)
    cut_next =
        turn_comes_next w.trace.places p w.trace.asked begun.node c.input begun.took k by during.under_way.due during.under_way.took during.under_way.up during.under_way.cut
        ∙ ap (λ (h : Happening). Some h) turn_is

    boots_same : boots (records_at p.facts begun.node ++ option_to_list (stood s c.tried)) ≡ boots (records_at p.facts begun.node)
    boots_same = ap (λ (r : Option RedoRecord). boots (records_at p.facts begun.node ++ option_to_list r)) wrote_is ∙ by_stands (stands_by by)
      where
        by_stands : (b : Bool) → boots (records_at p.facts begun.node ++ option_to_list (stood b o.wrote)) ≡ boots (records_at p.facts begun.node)
        by_stands true = during.under_way.boots
        by_stands false = ap boots (append-nil (records_at p.facts begun.node))

    -- what is known of it
    pub cut_known : (facts : TurnFacts) → facts.caller ≡ begun.caller → facts.writes ≡ is_some c.tried → facts.passes ≡ c.passes → KnownOfTurn k u o facts
    cut_known facts caller writes passed = record {
      caller = λ session statement is. caller ∙ caller_of k c.input begun.caller during.under_way.caller session statement is;
      writes = writes ∙ ap is_some during.tried;
      passed = ap (option_map passes_as) passed ∙ during.passed;
      ended = λ whole. absurd cc;
    }

    module _ (v : World) (pushed : IsPushed w.trace v.trace (happenings.Turn u)) (left : CutLeaves begun k u o w v) where
      turns : Turns k u o w v
      turns = record {
        running = left.running;
        to_stop = left.to_stop;
        boots = left.boots;
        shown = left.shown;
        net = left.net ∙ sent_none (taken w.net begun.took);
        losses = left.losses ∙ none_to_tell w begun c.input k by during.under_way;
        run_report = left.run_report;
        slots = left.stops.count;
        others = left.stops.others;
      }

      before : (slot : NodeSlot) → numbered v.slots.items begun.node ≡ Some slot → (x : NodeSlot) × (numbered w.slots.items begun.node ≡ Some x)
      before slot there = there_too v.slots.items w.slots.items begun.node slot left.stops.count there

      own : (slot : NodeSlot) → numbered v.slots.items begun.node ≡ Some slot
          → HasTurned (place_at w.trace.places begun.node) None (records_at p.facts begun.node ++ option_to_list (stood s c.tried)) slot
      own slot there =
          let was = before slot there in
          let off = during.slot was.0 was.1 in
          let has = (left.stops.own was.0 slot was.1 there).0 in
          record {
            kept = has.kept;
            runs = down_runs (place_at w.trace.places begun.node) slot has.kept;
            holds = subst (λ (bytes : List ℕ). HoldRecords (records_at p.facts begun.node ++ option_to_list (stood s c.tried)) bytes) (sym has.bytes)
                (subst (λ (r : Option RedoRecord). HoldRecords (records_at p.facts begun.node ++ option_to_list r) (bytes_of (site_disk was.0))) (sym wrote_is) off.holds);
            starts = has.starts _ off.starts;
          }

      own_orders : (slot : NodeSlot) → numbered v.slots.items begun.node ≡ Some slot → HasOrders (cut_orders (is_some o.wrote) by (orders_at p.run_report begun.node)) (site_disk slot)
      own_orders slot there =
          let was = before slot there in
          let power = (left.stops.own was.0 slot was.1 there).1 in
          let left = (during.slot was.0 was.1).orders in
          powered_has (cut_orders (is_some o.wrote) by (orders_at p.run_report begun.node)) (site_disk was.0) (site_disk slot) power.orders left

      cut_moves : StepsOn w v
      cut_moves = turn_moves w v begun c.input k by during.under_way u turn_is pushed refl refl boots_same turns own

      cut_orders_are : OrdersAre v
      cut_orders_are = turn_orders_are w v begun c.input k by during.under_way u turn_is pushed refl refl boots_same turns own own_orders

    -- What the world is before the turn is told.
    pub record IsCutReady (before : World) : Type 0 where
      pub trace : before.trace ≡ w.trace
      pub running : before.running ≡ w.running
      pub losses : before.losses.items ≡ w.losses.items
      pub boots_are : before.boots.items ≡ w.boots.items
      pub shown : before.shown ≡ w.shown
      pub run_report : before.run_report ≡ w.run_report
      pub net : before.net ≡ taken w.net begun.took
      pub to_stop : before.to_stop ≡ Some begun.node
      pub stops : StopsAt begun.node w.slots.items before.slots.items

    module _ (x : Turn) (is : x ≡ u) (facts : TurnFacts) (known : KnownOfTurn k u o facts) (before v : World) (ready : IsCutReady before) (same : v ≡ record before { trace = v.trace; run_report = v.run_report }) where
      told_so : TurnIsReported x facts before v → StepsOn w v × OrdersAre v
      told_so told =
          let t : TurnIsReported u facts before v = subst (λ (y : Turn). TurnIsReported y facts before v) is told in
          let pushed = pushed_in w.trace before.trace v.trace (happenings.Turn u) ready.trace (record { is = t.trace; past = t.past; few = t.few }) in
          let left : CutLeaves begun k u o w v = record {
            running = ap (λ (y : World). y.running) same ∙ ready.running;
            to_stop = ap (λ (y : World). y.to_stop) same ∙ ready.to_stop;
            boots = ap (λ (y : World). y.boots.items) same ∙ ready.boots_are;
            shown = ap (λ (y : World). y.shown) same ∙ ready.shown;
            net = ap (λ (y : World). y.net) same ∙ ready.net;
            losses = ap (λ (y : World). y.losses.items) same ∙ ready.losses;
            run_report = t.tells k o known
                ∙ (ap (λ (r : ℕ). report_turned r (Some k) before.run_report u (Some o)) ready.running ∙ ap (λ (tl : RunReport). report_turned w.running (Some k) tl u (Some o)) ready.run_report);
            stops = subst (λ (xs : List NodeSlot). StopsAt begun.node w.slots.items xs) (sym (ap (λ (y : World). y.slots.items) same)) ready.stops;
          } in
          (cut_moves v pushed left, cut_orders_are v pushed left)

      -- the world is that of the longer run
      pub cut_steps : {T E : Type 0} (r : Result T E) → OnOk r (TurnIsReported x facts before v) → OnOk r (StepsOn w v)
      cut_steps r told = on_ok_weaker r (λ (t : TurnIsReported x facts before v). (told_so t).0) told

      -- and so are the orders on the disks
      pub cut_keeps_orders : {T E : Type 0} (r : Result T E) → OnOk r (TurnIsReported x facts before v) → OnOk r (OrdersAre v)
      cut_keeps_orders r told = on_ok_weaker r (λ (t : TurnIsReported x facts before v). (told_so t).1) told
