-- A node has started: the world is that of the run with its start, also where an order struck behind its record and it has to stop.
use Rattle.std.proofs.Common.{◌≡◌, ◌≢◌, ◌⊎◌, inl, inr, ◌+◌, ◌≤◌, ◌==◌, ℕ, zero, suc, Bool, true, false, if◌then◌else◌, List, [], ◌∷◌, ◌++◌, length, map, is_none, unwrap_or, Option, Some, None, refl, sym, ap, subst, ◌∙◌, arith}
use Rattle.std.proofs.lemmas.Bool.{eq-eqb, eqb-true}
use Rattle.std.proofs.lemmas.List.{length-map}
use Rattle.tran_ids.proofs.NumberedLemmas.{set_found, set_leaves, set_length, set_or_before}
use Rattle.record_log.specs.Held.{HoldRecords}
use Rattle.net_bag.specs.Net.{Net, started}
use Rattle.node_rules.specs.Data.{RedoRecord}
use Rattle.node_rules.specs.Data.records
use Rattle.node_rules.specs.NodeState.{NodeState}
use Rattle.node_rules.specs.Turn.{start_of}
use Rattle.node_rules.specs.Words.{numbered, set_numbered}
use Rattle.run_rules.specs.Cuts.{appends}
use Rattle.run_rules.specs.Data.happenings
use Rattle.run_rules.specs.Disks.{DiskOrders, Strike, after_append, no_orders, struck}
use Rattle.run_rules.specs.Facts.{flat, node_at, records_at, with_boot}
use Rattle.run_rules.specs.Lawful.{boots}
use Rattle.run_rules.specs.Past.{acts, falls_if, next, report_started}
use Rattle.run_rules.specs.RunReport.{Past, RunReport, orders_at}
use Rattle.run_rules.proofs.AtNodeLemmas.{item_there, there_too}
use Rattle.run_trace.specs.Recorded.{RunSoFar, past_of}
use Rattle.world.specs.declared.slot.NodeSlot.{NodeSlot}
use Rattle.world.specs.declared.world.World.{World}
use Rattle.world_parts.specs.Orders.{HasOrders}
use Rattle.world.specs.Orders.{OrdersAre}
use Rattle.world.specs.NodeSlot.{SiteIs, SitesAre, has_to_fall, site_disk, bytes_of}
use Rattle.world.specs.Starts.{IsStarting, HasBoot, HasBooted, boot_at}
use Rattle.world.proofs.SlotLemmas.{SameAt, others_stay, own_and_others, same_or}
use Rattle.world_parts.proofs.StartLemmas.{next_started}
use Rattle.world.proofs.StepLemmas.{IsPushed, Leaves, Stands, shown_on, steps_to}

-- ---- orders

none_left : after_append 3 no_orders ≡ no_orders
unfolding after_append struck
none_left = refl

-- what such an append leaves of the orders of a number
abbrev left_at : List DiskOrders → ℕ → DiskOrders
left_at xs n = after_append 3 (unwrap_or (numbered xs n) no_orders)

set_here : (xs : List DiskOrders) (n : ℕ) → unwrap_or (numbered (set_numbered xs n (left_at xs n)) n) no_orders ≡ left_at xs n
set_here xs n = by (numbered xs n) refl
  where
    by : (o : Option DiskOrders) → numbered xs n ≡ o → unwrap_or (numbered (set_numbered xs n (left_at xs n)) n) no_orders ≡ left_at xs n
    by (Some x) found = ap (λ (o : Option DiskOrders). unwrap_or o no_orders) (set_found xs n x (left_at xs n) found)
    by None none = elim (set_or_before xs n n (left_at xs n)) [
      | inl same ↦ ap (λ (o : Option DiskOrders). unwrap_or o no_orders) (same ∙ none) ∙ (sym none_left ∙ ap (λ (o : Option DiskOrders). after_append 3 (unwrap_or o no_orders)) (sym none))
      | inr new ↦ ap (λ (o : Option DiskOrders). unwrap_or o no_orders) new.1
    ]

-- the orders of a node whose append comes behind three calls
pub counted_here : (t : RunReport) (n : ℕ) → orders_at (appends t n 3) n ≡ after_append 3 (orders_at t n)
counted_here t n = set_here t.orders n

pub counted_elsewhere : (t : RunReport) (n m : ℕ) → n ≢ m → orders_at (appends t n 3) m ≡ orders_at t m
counted_elsewhere t n m other = ap (λ (o : Option DiskOrders). unwrap_or o no_orders) (set_leaves t.orders n m (after_append 3 (orders_at t n)) other)

-- ---- starts are counted

boots_more : (rs : List RedoRecord) (boot : ℕ) → boots (rs ++ records.Boot boot ∷ []) ≡ boots rs + 1
boots_more [] boot = refl
boots_more (r ∷ rs) boot = let rest = boots_more rs boot in by r rest
  where
    by : (x : RedoRecord) → boots (rs ++ records.Boot boot ∷ []) ≡ boots rs + 1 → boots (x ∷ (rs ++ records.Boot boot ∷ [])) ≡ boots (x ∷ rs) + 1
    by (records.Boot k) rest = omega (arith, rest)
    by _ rest = rest

map_set : (xs : List (List RedoRecord)) (n : ℕ) (x : List RedoRecord) → map boots (set_numbered xs n x) ≡ set_numbered (map boots xs) n (boots x)
map_set xs zero x = refl
map_set [] (suc i) x = refl
map_set (y ∷ ys) (suc zero) x = refl
map_set (y ∷ ys) (suc (suc i)) x = ap (λ (l : List ℕ). boots y ∷ l) (map_set ys (suc i) x)

-- how often a node has started, where it is counted
pub boots_at : (xs : List (List RedoRecord)) (n k : ℕ) → numbered (map boots xs) n ≡ Some k → k ≡ boots (unwrap_or (numbered xs n) [])
boots_at xs zero k is = absurd cc
boots_at [] (suc i) k is = absurd cc
boots_at (y ∷ ys) (suc zero) k is = cc
boots_at (y ∷ ys) (suc (suc i)) k is = boots_at ys (suc i) k is

pub length_boots : (xs : List (List RedoRecord)) → length (map boots xs) ≡ length xs
length_boots xs = length-map xs boots

-- whether a node has to fall
own_falls : (o : Option Strike) (n : ℕ) (k : Option NodeState) → (if has_to_fall (falls_if n o) n then None else k) ≡ (if is_none o then k else None)
own_falls None n k = refl
own_falls (Some s) n k = ap (λ (b : Bool). if b then None else k) (eq-eqb n n refl)

pub other_falls : (o : Option Strike) (n m : ℕ) → n ≢ m → has_to_fall (falls_if n o) m ≡ false
other_falls None n m other = refl
other_falls (Some s) n m other = by (n == m) refl
  where
    by : (b : Bool) → (n == m) ≡ b → (n == m) ≡ false
    by true is = absurd (other (eqb-true n m is))
    by false is = is

-- What a start leaves of the world beside its sites.
pub record Boots (n : ℕ) (w v : World) : Type 0 where
  pub running : v.running ≡ w.running
  pub losses : v.losses.items ≡ w.losses.items
  pub to_stop : v.to_stop ≡ w.to_stop
  pub slots : v.slots.items ≡ w.slots.items
  pub shown : v.shown ≡ w.shown
  pub net : v.net ≡ started w.net n
  pub boots : v.boots.items ≡ set_numbered w.boots.items n (boot_at w n)
  pub run_report : v.run_report ≡ acts (report_started w.trace.places w.run_report n (struck 3 (orders_at w.run_report n)))

module _ (w v : World) (n : ℕ) (begun : IsStarting n w) (pushed : IsPushed w.trace v.trace (happenings.Started n (boot_at w n))) (leaves : Boots n w v) where
  abbrev p : Past
  p = past_of w.trace

  abbrev strike : Option Strike
  strike = struck 3 (orders_at p.run_report n)

  abbrev now : List RedoRecord
  now = with_boot p.facts n (boot_at w n)

  abbrev q : Past
  q = record {
    facts = record p.facts { nodes = set_numbered p.facts.nodes n (Some (start_of now)); records = set_numbered p.facts.records n now; net = started p.facts.net n };
    run_report = acts (report_started w.trace.places p.run_report n strike);
  }

  is_next : next w.trace.places w.trace.asked p (happenings.Started n (boot_at w n)) ≡ q
  is_next = next_started w.trace.places w.trace.asked p n (boot_at w n)

  stands : Stands w
  stands = record { script = begun.script; counted = begun.counted; shown = begun.shown }

  elsewhere : (m : ℕ) → n ≢ m → SameAt p q m
  elsewhere m other = record {
    kept = ap (λ (b : Bool). if b then None else node_at q.facts m) (other_falls strike n m other)
        ∙ (ap flat (set_leaves p.facts.nodes n m (Some (start_of now)) other)
        ∙ sym (ap (λ (o : Option ℕ). if has_to_fall o m then None else node_at p.facts m) begun.upright));
    records = ap (λ (o : Option (List RedoRecord)). unwrap_or o []) (set_leaves p.facts.records n m now other);
  }

  own : (slot : NodeSlot) → numbered w.slots.items n ≡ Some slot → SiteIs w.trace.places q n slot
  own slot at =
      let boot : HasBoot w n slot = begun.slot slot at in
      let node = there_too w.slots.items p.facts.nodes n slot (begun.counted.slots ∙ sym begun.counted.nodes) at in
      let recorded = there_too w.slots.items p.facts.records n slot (begun.counted.slots ∙ sym begun.counted.records) at in
      let up : node_at q.facts n ≡ Some (start_of now) = ap flat (set_found p.facts.nodes n node.0 (Some (start_of now)) node.1) in
      record {
        kept = boot.kept ∙ (sym (own_falls strike n (Some (start_of now))) ∙ ap (λ (o : Option NodeState). if has_to_fall (falls_if n strike) n then None else o) (sym up));
        runs = boot.runs;
        holds = subst (λ (rs : List RedoRecord). HoldRecords rs (bytes_of (site_disk slot))) (sym (ap (λ (o : Option (List RedoRecord)). unwrap_or o []) (set_found p.facts.records n recorded.0 now recorded.1))) boot.holds;
        starts = boot.starts;
      }

  sites_are : SitesAre w.trace.places q v.slots.items
  sites_are = subst (λ (slots : List NodeSlot). SitesAre w.trace.places q slots) (sym leaves.slots)
      (own_and_others w.trace.places q n w.slots.items own (others_stay w.trace.places p q n elsewhere w.slots.items begun.others))

  parts_are : Leaves w v q
  parts_are = record {
    parts = record {
      running = leaves.running ∙ begun.parts.running;
      net = leaves.net ∙ ap (λ (net : Net). started net n) begun.parts.net;
      losses = leaves.losses ∙ begun.parts.losses;
      to_stop = leaves.to_stop ∙ begun.parts.to_stop;
      boots = leaves.boots ∙ (ap (λ (bs : List ℕ). set_numbered bs n (boot_at w n)) begun.parts.boots
          ∙ sym (map_set p.facts.records n now ∙ ap (λ (k : ℕ). set_numbered (map boots p.facts.records) n k) (boots_more (records_at p.facts n) (boot_at w n))));
      run_report = leaves.run_report ∙ ap (λ (t : RunReport). acts (report_started w.trace.places t n (struck 3 (orders_at t n)))) begun.parts.run_report;
    };
    count = ap (λ (slots : List NodeSlot). length slots) leaves.slots;
    nodes = set_length p.facts.nodes n (Some (start_of now));
    records = set_length p.facts.records n now;
    slots = sites_are;
  }

  past_is : past_of v.trace ≡ q
  past_is = pushed.past ∙ is_next

  -- the orders that the start left are those of its disk
  orders_are : OrdersAre v
  orders_are m slot at = by (same_or n m)
    where
      there : numbered w.slots.items m ≡ Some slot
      there = subst (λ (slots : List NodeSlot). numbered slots m ≡ Some slot) leaves.slots at

      told : orders_at (past_of v.trace).run_report m ≡ orders_at (appends p.run_report n 3) m
      told = ap (λ (x : Past). orders_at x.run_report m) past_is

      by : (n ≡ m) ⊎ (n ≢ m) → HasOrders (orders_at (past_of v.trace).run_report m) (site_disk slot)
      by (inl same) =
          let here : numbered w.slots.items n ≡ Some slot = subst (λ (k : ℕ). numbered w.slots.items k ≡ Some slot) (sym same) there in
          let counted : orders_at (past_of v.trace).run_report n ≡ after_append 3 (orders_at p.run_report n) = ap (λ (x : Past). orders_at x.run_report n) past_is ∙ counted_here p.run_report n in
          subst (λ (k : ℕ). HasOrders (orders_at (past_of v.trace).run_report k) (site_disk slot)) same
          (subst (λ (d : DiskOrders). HasOrders d (site_disk slot)) (sym counted) (begun.slot slot here).orders)
      by (inr other) = subst (λ (d : DiskOrders). HasOrders d (site_disk slot)) (sym (told ∙ counted_elsewhere p.run_report n m other)) (begun.other_orders m slot other there)

  pub boots_so : HasBooted n w v
  boots_so = record {
    steps = steps_to w v (happenings.Started n (boot_at w n)) stands begun.next pushed (shown_on w v (happenings.Started n (boot_at w n)) stands begun.next pushed (λ c same. absurd cc) leaves.shown)
        (subst (λ (x : Past). Leaves w v x) (sym is_next) parts_are);
    places = ap (λ (r : RunSoFar). r.places) pushed.is;
    asked = ap (λ (r : RunSoFar). r.asked) pushed.is;
    past = pushed.past;
    orders = orders_are;
  }

-- the number of the next start, by what is counted
pub boot_is : (w : World) (n result : ℕ) → IsStarting n w → ((k : ℕ) → numbered w.boots.items n ≡ Some k → result ≡ k + 1) → result ≡ boot_at w n
boot_is w n result begun tells =
    let inside : n ≤ length w.boots.items = subst (λ (m : ℕ). n ≤ m) (sym (ap (λ (bs : List ℕ). length bs) begun.parts.boots ∙ (length_boots (past_of w.trace).facts.records ∙ begun.counted.records))) begun.there.1 in
    let k = item_there w.boots.items n begun.there.0 inside in
    tells k.0 k.1 ∙ ap (λ (x : ℕ). x + 1) (boots_at (past_of w.trace).facts.records n k.0 (ap (λ (bs : List ℕ). numbered bs n) (sym begun.parts.boots) ∙ k.1))
