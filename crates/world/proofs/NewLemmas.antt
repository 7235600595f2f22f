-- The world of a run in which nothing has happened.
use Rattle.std.proofs.Common.{◌≡◌, ◌<◌, ◌^◌, ℕ, zero, suc, unwrap_or, List, [], ◌∷◌, length, map, replicate, Some, None, refl, ap, sym, subst, ◌∙◌, arith}
use Rattle.std.proofs.lemmas.List.{length-map}
use Rattle.std.specs.List.{AllByRecursion}
use Rattle.script_read.specs.Sound.{IsInRange}
use Rattle.node_rules.specs.Data.{Place}
use Rattle.net_bag.specs.Net.{still}
use Rattle.run_rules.specs.Data.{Command}
use Rattle.run_rules.specs.Due.{IsTheRun}
use Rattle.run_rules.specs.Lawful.{AreOfAScript}
use Rattle.run_rules.specs.Past.{past}
use Rattle.run_rules.specs.RunReport.{Past, empty_report, start}
use Rattle.run_trace.specs.Recorded.{RunSoFar, past_of, IsRunOfScript}
use Rattle.world.specs.declared.world.World.{World}
use Rattle.world.specs.Linked.{IsLinked, PartsAre}
use Rattle.run_spell_laws.specs.ByteRuns.{AsksSpelled}
use Rattle.world.specs.Needs.{IsOfScript}
use Rattle.world_parts.specs.Shown.{CommandHasBegun, ShowDisks, Shown}
use Rattle.world.specs.NodeSlot.{SitesAre}
use Rattle.world.specs.Slots.{AreMade}
use Rattle.node_rules.specs.Words.{numbered}
use Rattle.run_rules.specs.Disks.{DiskOrders, no_orders}
use Rattle.run_rules.specs.RunReport.{orders_at}
use Rattle.world.specs.declared.slot.NodeSlot.{NodeSlot}
use Rattle.world_parts.specs.Orders.{HasOrders}
use Rattle.world.specs.NodeSlot.{site_disk}
use Rattle.world.proofs.BeginLemmas.{booted_once, made_at, made_sites}

module _ (places : List Place) (commands : List Command) where
  abbrev r : RunSoFar
  r = record { places = places; asked = commands; happenings = [] }

  past_is_start : past_of r ≡ start places
  unfolding past
  past_is_start = refl

  is_run : IsRunOfScript r
  unfolding IsTheRun
  is_run = tt

  -- no command has begun
  none_begun : (c : ℕ) → CommandHasBegun r c → ⊥
  none_begun c ([], later, is) = absurd cc
  none_begun c (x ∷ before, later, is) = absurd cc

  nothing_shown : ShowDisks r []
  nothing_shown = record { each = λ c lines at. absurd cc; all = λ c n begun is. absurd (none_begun c begun) }

  -- What the world is made of.
  pub record IsNew (w : World) : Type 0 where
    pub trace : w.trace ≡ r
    pub count : length w.slots.items ≡ length places
    pub made : AreMade places w.slots.items
    pub boots : w.boots.items ≡ replicate (length places) 1
    pub net : w.net ≡ still
    pub running : w.running ≡ 0
    pub losses : w.losses.items ≡ []
    pub to_stop : w.to_stop ≡ None
    pub run_report : w.run_report ≡ empty_report places
    pub shown : w.shown ≡ []

  pub new_linked : (w : World) → AreOfAScript places commands → length commands < 2 ^ 18 → AllByRecursion IsInRange commands → AllByRecursion AsksSpelled commands → IsNew w → IsLinked w
  new_linked w script few in_range spelled new =
      let past_is : past_of w.trace ≡ start places = ap past_of new.trace ∙ past_is_start in
      let same : length w.trace.places ≡ length places = ap (λ (x : RunSoFar). length x.places) new.trace in
      let lawful : IsOfScript r = record { of_a_script = script; few = few; in_range = in_range; spelled = spelled; run = is_run; bounded = omega arith } in
      record {
        held = record {
          script = subst (λ (x : RunSoFar). IsOfScript x) (sym new.trace) lawful;
          parts = subst (λ (q : Past). PartsAre q w) (sym past_is)
              (record { running = new.running; net = new.net; losses = new.losses; to_stop = new.to_stop; boots = new.boots ∙ booted_once places; run_report = new.run_report });
          counted = record {
            slots = new.count ∙ sym same;
            nodes = ap (λ (q : Past). length q.facts.nodes) past_is ∙ (length-map places _ ∙ sym same);
            records = ap (λ (q : Past). length q.facts.records) past_is ∙ (length-map places _ ∙ sym same);
          };
          slots = subst (λ (q : Past). SitesAre w.trace.places q w.slots.items) (sym past_is)
              (subst (λ (x : RunSoFar). SitesAre x.places (start places) w.slots.items) (sym new.trace) (made_sites places w.slots.items new.made));
          shown = subst (λ (ds : Shown). ShowDisks w.trace ds) (sym new.shown) (subst (λ (x : RunSoFar). ShowDisks x []) (sym new.trace) nothing_shown);
        };
        upright = ap (λ (q : Past). q.run_report.start_to_stop) past_is;
      }

  -- no disk has an order
  none_at : (ps : List Place) (n : ℕ) → unwrap_or (numbered (map (λ (p : Place). no_orders) ps) n) no_orders ≡ no_orders
  none_at ps zero = refl
  none_at [] (suc i) = refl
  none_at (p ∷ ps) (suc zero) = refl
  none_at (p ∷ ps) (suc (suc i)) = none_at ps (suc i)

  made_has : (slots : List NodeSlot) (n : ℕ) (slot : NodeSlot) → AreMade places slots → numbered slots n ≡ Some slot → HasOrders no_orders (site_disk slot)
  made_has slots zero slot are at = absurd cc
  made_has slots (suc i) slot are at = (made_at places slots i slot are at).2.orders

  pub new_orders : (trace : RunSoFar) (slots : List NodeSlot) → trace ≡ r → AreMade places slots → (n : ℕ) (slot : NodeSlot) → numbered slots n ≡ Some slot → HasOrders (orders_at (past_of trace).run_report n) (site_disk slot)
  new_orders trace slots is made n slot at =
      let past_is : past_of trace ≡ start places = ap past_of is ∙ past_is_start in
      subst (λ (d : DiskOrders). HasOrders d (site_disk slot)) (sym (ap (λ (q : Past). orders_at q.run_report n) past_is ∙ none_at places n)) (made_has slots n slot made at)
