-- A turn that is whole: its record stands, its messages are sent, and its calls end.
use Rattle.std.proofs.Common.{◌≡◌, ◌++◌, ℕ, false, List, length, map, is_some, option_map, Option, Some, refl, ap, sym, subst, ◌∙◌}
use Rattle.std.specs.Option.{option_to_list}
use Rattle.std.specs.Prelude.{OnOk, Result}
use Rattle.std.proofs.lemmas.Result.{on_ok_weaker}
use Rattle.record_log.specs.Held.{HoldRecords}
use Rattle.net_bag.specs.Net.{lost_at_once, sent_on}
use Rattle.node_points.specs.Passing.{passes_as}
use Rattle.node_rules.specs.Data.{Msg, RedoRecord}
use Rattle.node_rules.specs.Words.{numbered}
use Rattle.node_rules.specs.NodeState.{NodeState, TurnOutput}
use Rattle.node_rules.specs.Turn.{turn_of}
use Rattle.node_disk.specs.declared.effects.DurableTurn.{DurableTurn}
use Rattle.node_disk.specs.Effects.{call_of}
use Rattle.run_rules.specs.Cuts.{By_nothing}
use Rattle.run_rules.specs.Data.{Turn}
use Rattle.run_rules.specs.Data.happenings
use Rattle.run_rules.specs.Facts.{place_at, records_at, taken}
use Rattle.run_rules.specs.Lawful.{boots}
use Rattle.run_rules.specs.Past.{report_turned}
use Rattle.run_rules.specs.RunReport.{Past, RunReport, orders_at}
use Rattle.run_trace.specs.Recorded.{past_of}
use Rattle.run_report.specs.declared.turn.TurnFacts.{TurnFacts}
use Rattle.run_report.specs.Facts.{KnownOfTurn}
use Rattle.world.specs.declared.slot.NodeSlot.{NodeSlot}
use Rattle.world.specs.declared.turning.Begun.{Begun}
use Rattle.world.specs.declared.world.World.{World}
use Rattle.world_parts.specs.Orders.{HasOrders, orders_if}
use Rattle.world.specs.Orders.{OrdersAre}
use Rattle.world.specs.NodeSlot.{bytes_of, site_disk}
use Rattle.world.specs.Steps.{StepsOn}
use Rattle.world.specs.Turns.{IsDuringAt, TurnIsReported}
use Rattle.world.proofs.StopLemmas.{pushed_in}
use Rattle.world.proofs.TurnLemmas.{HasTurned, Turns, caller_of, none_to_stop, turn_moves, turn_orders_are, whole_is}

module _ (w : World) (begun : Begun) (e : DurableTurn) (k : NodeState) (during : IsDuringAt begun e w k) (sent : List Msg) where
  abbrev p : Past
  p = past_of w.trace

  abbrev o : TurnOutput
  o = turn_of (place_at w.trace.places begun.node) k e.input

  abbrev u : Turn
  u = record { node = begun.node; input = e.input; took = begun.took; wrote = e.wrote; sent = sent; cut = false }

  -- what is known of it
  pub whole_known : (facts : TurnFacts) → facts.caller ≡ begun.caller → facts.writes ≡ is_some e.wrote → facts.passes ≡ e.passes → facts.ended ≡ map call_of e.ended → KnownOfTurn k u o facts
  whole_known facts caller writes passed ended = record {
    caller = λ session statement is. caller ∙ caller_of k e.input begun.caller during.under_way.caller session statement is;
    writes = writes ∙ ap is_some during.tells.wrote;
    passed = ap (option_map passes_as) passed ∙ during.passed;
    ended = λ whole. ended ∙ during.tells.ended;
  }

  -- What the world is before the turn is told.
  pub record IsWholeReady (before : World) : Type 0 where
    pub trace : before.trace ≡ w.trace
    pub running : before.running ≡ w.running
    pub to_stop : before.to_stop ≡ w.to_stop
    pub boots_are : before.boots.items ≡ w.boots.items
    pub shown : before.shown ≡ w.shown
    pub run_report : before.run_report ≡ w.run_report
    pub slots : before.slots.items ≡ w.slots.items
    pub net : before.net ≡ sent_on (taken w.net begun.took) sent
    pub losses : before.losses.items ≡ lost_at_once (taken w.net begun.took) sent

  module _ (are : sent ≡ o.sent) (facts : TurnFacts) (known : KnownOfTurn k u o facts) (before v : World) (ready : IsWholeReady before) (same : v ≡ record before { trace = v.trace; run_report = v.run_report }) where
    sites_same : v.slots.items ≡ w.slots.items
    sites_same = ap (λ (y : World). y.slots.items) same ∙ ready.slots

    there_before : (slot : NodeSlot) → numbered v.slots.items begun.node ≡ Some slot → numbered w.slots.items begun.node ≡ Some slot
    there_before slot there = sym (ap (λ (xs : List NodeSlot). numbered xs begun.node) sites_same) ∙ there

    own : (slot : NodeSlot) → numbered v.slots.items begun.node ≡ Some slot → HasTurned (place_at w.trace.places begun.node) (Some o.after) (records_at p.facts begun.node ++ option_to_list e.wrote) slot
    own slot there =
        let turned = during.slot slot (there_before slot there) in
        record {
          kept = turned.kept;
          runs = turned.runs;
          holds = subst (λ (r : Option RedoRecord). HoldRecords (records_at p.facts begun.node ++ option_to_list r) (bytes_of (site_disk slot))) (sym during.tells.wrote) turned.holds;
          starts = turned.starts;
        }

    own_orders : (slot : NodeSlot) → numbered v.slots.items begun.node ≡ Some slot → HasOrders (orders_if (is_some o.wrote) (orders_at p.run_report begun.node)) (site_disk slot)
    own_orders slot there = (during.slot slot (there_before slot there)).orders

    told_so : TurnIsReported u facts before v → StepsOn w v × OrdersAre v
    told_so t =
        let pushed = pushed_in w.trace before.trace v.trace (happenings.Turn u) ready.trace (record { is = t.trace; past = t.past; few = t.few }) in
        let turn_is = whole_is begun.node e.input begun.took o e.wrote sent during.tells.wrote are in
        let boots_same = subst (λ (r : Option RedoRecord). boots (records_at p.facts begun.node ++ option_to_list r) ≡ boots (records_at p.facts begun.node)) (sym during.tells.wrote) during.under_way.boots in
        let turns : Turns k u o w v = record {
          running = ap (λ (y : World). y.running) same ∙ ready.running;
          to_stop = ap (λ (y : World). y.to_stop) same ∙ (ready.to_stop ∙ none_to_stop w v begun e.input k By_nothing during.under_way u);
          boots = ap (λ (y : World). y.boots.items) same ∙ ready.boots_are;
          shown = ap (λ (y : World). y.shown) same ∙ ready.shown;
          net = ap (λ (y : World). y.net) same ∙ ready.net;
          losses = ap (λ (y : World). y.losses.items) same ∙ ready.losses;
          run_report = t.tells k o known
              ∙ (ap (λ (r : ℕ). report_turned r (Some k) before.run_report u (Some o)) ready.running ∙ ap (λ (tl : RunReport). report_turned w.running (Some k) tl u (Some o)) ready.run_report);
          slots = ap (λ (xs : List NodeSlot). length xs) sites_same;
          others = λ m other. ap (λ (xs : List NodeSlot). numbered xs m) sites_same;
        } in (
          turn_moves w v begun e.input k By_nothing during.under_way u turn_is pushed refl refl boots_same turns own,
          turn_orders_are w v begun e.input k By_nothing during.under_way u turn_is pushed refl refl boots_same turns own own_orders,
        )

    -- the world is that of the longer run
    pub whole_steps : {T E : Type 0} (r : Result T E) → OnOk r (TurnIsReported u facts before v) → OnOk r (StepsOn w v)
    whole_steps r told = on_ok_weaker r (λ (t : TurnIsReported u facts before v). (told_so t).0) told

    -- and so are the orders on the disks
    pub whole_keeps_orders : {T E : Type 0} (r : Result T E) → OnOk r (TurnIsReported u facts before v) → OnOk r (OrdersAre v)
    whole_keeps_orders r told = on_ok_weaker r (λ (t : TurnIsReported u facts before v). (told_so t).1) told
