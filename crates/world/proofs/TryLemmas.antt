-- A start that is due, tried on its disk: where its record stands it may be told, and else its node stays down.
use Rattle.std.proofs.Common.{◌≡◌, ◌≤◌, ◌+◌, ℕ, unwrap_or, Bool, true, false, if◌then◌else◌, List, [], ◌∷◌, ◌++◌, length, is_some, is_none, Option, Some, None, Result, Ok, Err, OnOk, refl, sym, ap, subst, ◌∙◌, arith}
use Rattle.tran_ids.proofs.NumberedLemmas.{set_found, set_leaves, set_length}
use Rattle.record_log.specs.Held.{HoldRecords, HoldOneList, with_record_if}
use Rattle.node_rules.specs.Data.{RedoRecord, Place}
use Rattle.node_rules.specs.Data.records
use Rattle.node_rules.specs.NodeState.{NodeState}
use Rattle.node_rules.specs.Turn.{start_of}
use Rattle.node_rules.specs.Words.{numbered, set_numbered}
use Rattle.node_disk.specs.Starts.{last_boot, next_boot}
use Rattle.run_rules.specs.Data.happenings
use Rattle.run_rules.specs.Data.{Command}
use Rattle.run_rules.specs.Disks.{DiskOrders, Strike, struck}
use Rattle.run_rules.specs.Due.{Due, Starts, comes_next, due_of}
use Rattle.run_rules.specs.Facts.{no_place, node_at, place_at, records_at, with_boot}
use Rattle.run_rules.specs.Lawful.{IsNode, boots}
use Rattle.run_rules.specs.RunReport.{Past, RunReport, orders_at}
use Rattle.run_rules.proofs.AtNodeLemmas.{item_there}
use Rattle.run_trace.specs.Recorded.{IsDueNext, past_of}
use Rattle.world.specs.declared.slot.NodeSlot.{NodeSlot}
use Rattle.world.specs.declared.world.World.{World}
use Rattle.world.specs.Needs.{DueNodesAreThere, EachStartsSeldom, NamesNodes, due_in}
use Rattle.world.specs.Linked.{HoldsRun, IsLinked}
use Rattle.world.specs.Orders.{OrdersAre}
use Rattle.world.specs.NodeSlot.{SiteIs, has_to_fall, up_at, site_disk, bytes_of}
use Rattle.world_parts.specs.Orders.{stands_in}
use Rattle.world.specs.Started.{CanStart, StartIsTried, TriedFrom, TriesAt}
use Rattle.world.specs.Starts.{IsStarting, IsTriedAt, boot_at}
use Rattle.world_parts.proofs.BegunLemmas.{starts_down}
use Rattle.world.proofs.SlotLemmas.{own_and_others, same_of}
use Rattle.world_parts.proofs.StartLemmas.{failed_starts_next, starts_next, struck_starts_next}

not_up : (o : Option NodeState) → is_some o ≡ false → o ≡ None
not_up None is = refl
not_up (Some k) is = absurd cc

clash : (b : Bool) → b ≡ true → b ≡ false → ⊥
clash true is other = cc
clash false is other = cc

module _ (places : List Place) (asked : List Command) (p : Past) (n : ℕ) (due : due_of asked p ≡ Starts n) where
  -- where its record stands it comes next
  stands_next : (o : Option Strike) → struck 3 (orders_at p.run_report n) ≡ o → stands_in o ≡ true → comes_next places asked p ≡ Some (happenings.Started n (boots (records_at p.facts n) + 1))
  stands_next None is stands = starts_next places asked p n due is
  stands_next (Some s) is stands = struck_starts_next places asked p n s due is stands

  -- and else its node's stop does
  fails_next : (o : Option Strike) → struck 3 (orders_at p.run_report n) ≡ o → stands_in o ≡ false → comes_next places asked p ≡ Some (happenings.Stopped n)
  fails_next None is fails = absurd cc
  fails_next (Some s) is fails = failed_starts_next places asked p n s due is fails

stays_down : (o : Option Strike) (k : Option NodeState) → stands_in o ≡ false → (if is_none o then k else None) ≡ None
stays_down None k fails = absurd cc
stays_down (Some s) k fails = refl

module _ (w : World) (n : ℕ) (linked : IsLinked w) (due : due_in w.trace ≡ Starts n) (there : DueNodesAreThere) (few : EachStartsSeldom) where
  abbrev p : Past
  p = past_of w.trace

  abbrev d : DiskOrders
  d = orders_at p.run_report n

  abbrev rs : List RedoRecord
  rs = records_at p.facts n

  pub start_there : IsNode (length w.trace.places) n
  start_there = subst (λ (x : Due). NamesNodes (length w.trace.places) x) due (there w.trace linked.held.script)

  pub start_inside : IsNode (length w.slots.items) n
  start_inside = subst (λ (k : ℕ). IsNode k n) (sym linked.held.counted.slots) start_there

  pub start_is_down : node_at p.facts n ≡ None
  start_is_down = not_up (node_at p.facts n) (starts_down w.trace.asked p n due).1

  up_is : up_at p n ≡ None
  up_is = ap (λ (o : Option ℕ). if has_to_fall o n then None else node_at p.facts n) linked.upright ∙ start_is_down

  -- it has few undo extents
  undo_fits : (place_at w.trace.places n).undo ≤ 1024
  undo_fits =
      let it = item_there w.trace.places n start_there.0 start_there.1 in
      subst (λ (x : Place). x.undo ≤ 1024) (sym (ap (λ (o : Option Place). unwrap_or o no_place) it.1)) (linked.held.script.of_a_script.each n it.0 it.1).undo.1

  -- its site can be started
  pub can_start : HoldOneList → (slot : NodeSlot) → numbered w.slots.items n ≡ Some slot → CanStart (place_at w.trace.places n) slot
  can_start one slot at =
      let is : SiteIs w.trace.places p n slot = linked.held.slots n slot at in
      let seldom = few w.trace n linked.held.script start_there in
      record {
        undo = undo_fits;
        down = is.kept ∙ up_is;
        starts = is.starts;
        boots = λ others holds.
            let same : last_boot others ≡ boots rs = ap last_boot (one (bytes_of (site_disk slot)) others rs holds is.holds) ∙ seldom.counted in
            let low = seldom.few in
            omega (arith, same, low);
      }

  next_is : rs ++ next_boot rs ∷ [] ≡ with_boot p.facts n (boot_at w n)
  next_is = ap (λ (k : ℕ). rs ++ records.Boot (k + 1) ∷ []) (few w.trace n linked.held.script start_there).counted

  module _ (orders : OrdersAre w) (v : World) (tries : TriesAt (place_at w.trace.places n) n w.slots.items v.slots.items) where
    abbrev mid : World
    mid = record w { slots = v.slots }

    pub own_tried : (slot : NodeSlot) → numbered v.slots.items n ≡ Some slot → StartIsTried (place_at w.trace.places n) d rs slot
    own_tried slot at =
        let old = item_there w.slots.items n start_inside.0 start_inside.1 in
        tries.own old.0 slot old.1 at d rs (orders n old.0 old.1) (linked.held.slots n old.0 old.1).holds

    counted_still : length v.slots.items ≡ length w.trace.places
    counted_still = tries.count ∙ linked.held.counted.slots

    -- the start may be told
    begins : stands_in (struck 3 d) ≡ true → IsStarting n mid
    begins stands = record {
      script = linked.held.script;
      parts = record { running = linked.held.parts.running; net = linked.held.parts.net; losses = linked.held.parts.losses; to_stop = linked.held.parts.to_stop; boots = linked.held.parts.boots; run_report = linked.held.parts.run_report };
      upright = linked.upright;
      counted = record { slots = counted_still; nodes = linked.held.counted.nodes; records = linked.held.counted.records };
      others = λ m slot other at. linked.held.slots m slot (sym (tries.others m other) ∙ at);
      other_orders = λ m slot other at. orders m slot (sym (tries.others m other) ∙ at);
      shown = linked.held.shown;
      there = start_there;
      few = (few w.trace n linked.held.script start_there).few;
      next = stands_next w.trace.places w.trace.asked p n due (struck 3 d) refl stands;
      slot = λ slot at.
          let tried : StartIsTried (place_at w.trace.places n) d rs slot = own_tried slot at in
          record {
            kept = tried.kept ∙ ap (λ (xs : List RedoRecord). if is_none (struck 3 d) then Some (start_of xs) else None) next_is;
            runs = tried.runs;
            holds = subst (λ (xs : List RedoRecord). HoldRecords xs (bytes_of (site_disk slot))) next_is
                (subst (λ (b : Bool). HoldRecords (with_record_if b rs (next_boot rs)) (bytes_of (site_disk slot))) stands tried.holds);
            starts = tried.starts;
            orders = tried.orders;
          };
    }

    -- the node stays down
    stays_held : stands_in (struck 3 d) ≡ false → HoldsRun mid
    stays_held fails = record {
      script = linked.held.script;
      parts = record { running = linked.held.parts.running; net = linked.held.parts.net; losses = linked.held.parts.losses; to_stop = linked.held.parts.to_stop; boots = linked.held.parts.boots; run_report = linked.held.parts.run_report };
      counted = record { slots = counted_still; nodes = linked.held.counted.nodes; records = linked.held.counted.records };
      slots = own_and_others w.trace.places p n v.slots.items
          (λ slot at.
          let tried : StartIsTried (place_at w.trace.places n) d rs slot = own_tried slot at in
          record {
            kept = tried.kept ∙ (stays_down (struck 3 d) (Some (start_of (rs ++ next_boot rs ∷ []))) fails ∙ sym up_is);
            runs = tried.runs;
            holds = subst (λ (b : Bool). HoldRecords (with_record_if b rs (next_boot rs)) (bytes_of (site_disk slot))) fails tried.holds;
            starts = tried.starts;
          })
          (λ m slot other at. linked.held.slots m slot (sym (tries.others m other) ∙ at));
      shown = linked.held.shown;
    }

-- the start may be told where its record stands
pub tried_begins : (w v : World) (n : ℕ) → IsLinked w → OrdersAre w → due_in w.trace ≡ Starts n → DueNodesAreThere → EachStartsSeldom → IsTriedAt n w v → stands_in (struck 3 (orders_at (past_of w.trace).run_report n)) ≡ true → IsStarting n v
tried_begins w v n linked orders due there few tried stands = subst (λ (x : World). IsStarting n x) (sym tried.same) (begins w n linked due there few orders v tried.slots stands)

-- and else the world is held still, and the node's stop comes
pub tried_stays : (w v : World) (n : ℕ) → IsLinked w → OrdersAre w → due_in w.trace ≡ Starts n → DueNodesAreThere → EachStartsSeldom → IsTriedAt n w v → stands_in (struck 3 (orders_at (past_of w.trace).run_report n)) ≡ false → HoldsRun v
tried_stays w v n linked orders due there few tried fails = subst (λ (x : World). HoldsRun x) (sym tried.same) (stays_held w n linked due there few orders v tried.slots fails)

pub tried_next : (w v : World) (n : ℕ) → due_in w.trace ≡ Starts n → IsTriedAt n w v → stands_in (struck 3 (orders_at (past_of w.trace).run_report n)) ≡ false → IsDueNext v.trace (happenings.Stopped n)
tried_next w v n due tried fails =
    subst (λ (x : World). IsDueNext x.trace (happenings.Stopped n)) (sym tried.same) (fails_next w.trace.places w.trace.asked (past_of w.trace) n due (struck 3 (orders_at (past_of w.trace).run_report n)) refl fails)

-- an order that strikes by what the world has strikes by what was told
pub strike_is : (w : World) (n : ℕ) (o : Option Strike) → IsLinked w → o ≡ struck 3 (orders_at w.run_report n) → struck 3 (orders_at (past_of w.trace).run_report n) ≡ o
strike_is w n o linked is = sym (is ∙ ap (λ (t : RunReport). struck 3 (orders_at t n)) linked.held.parts.run_report)

-- ---- one site that was tried

pub tries_set : (place : Place) (n : ℕ) (slots : List NodeSlot) (old new : NodeSlot) → numbered slots n ≡ Some old → TriedFrom place old new → (after : List NodeSlot) → after ≡ set_numbered slots n new → TriesAt place n slots after
tries_set place n slots old new there tried after is = subst (λ (xs : List NodeSlot). TriesAt place n slots xs) (sym is) (record {
  count = set_length slots n new;
  others = λ m other. set_leaves slots n m new other;
  own = λ slot now before after_it.
      subst (λ (x : NodeSlot). TriedFrom place x now) (same_of old slot (sym there ∙ before))
      (subst (λ (x : NodeSlot). TriedFrom place old x) (same_of new now (sym (set_found slots n old new there) ∙ after_it)) tried);
})

-- what follows of a result that is Ok
pub on_ok : {T E : Type 0} (result : Result T E) (P Q : Type 0) → OnOk result P → (P → Q) → OnOk result Q
on_ok (Ok value) P Q holds follows = follows holds
on_ok (Err err) P Q holds follows = tt

pub ruleset try_steps = (start_there, start_inside, can_start, tried_begins, tried_stays, tried_next)
