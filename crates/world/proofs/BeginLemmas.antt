-- The world before anything happened is that of a run in which nothing has happened.
use Rattle.std.proofs.Common.{◌≡◌, ◌≤◌, ◌-◌, ◌==◌, ◌⊎◌, inl, inr, ℕ, Bool, true, false, if◌then◌else◌, is_some, zero, suc, List, [], ◌∷◌, ◌++◌, length, get_or, map, replicate, unwrap_or, slice_set, Option, Some, None, refl, ap, sym, subst, ◌∙◌}
use Rattle.std.proofs.lemmas.Bool.{eqb-true, eq-eqb}
use Rattle.std.specs.List.{AllByRecursion}
use Rattle.std.specs.List.{slice_get}
use Rattle.std.specs.Option.{option_map}
use Rattle.std.proofs.lemmas.Option.{slice_get-map}
use Rattle.node_rules.specs.Data.{RedoRecord, Place}
use Rattle.node_rules.specs.Data.records
use Rattle.node_rules.specs.Words.{numbered}
use Rattle.node_rules.specs.Turn.{made}
use Rattle.run_rules.specs.Data.{Command}
use Rattle.run_rules.specs.Data.happenings
use Rattle.run_rules.specs.Commands.{begins}
use Rattle.run_rules.specs.Due.{Begins, comes_next, due_of}
use Rattle.run_rules.specs.Facts.{command_at, facts_after, flat, ordered}
use Rattle.run_rules.specs.Past.{next}
use Rattle.run_rules.specs.Lawful.{boots}
use Rattle.run_rules.specs.RunReport.{Past, start}
use Rattle.record_log.specs.Held.{HoldRecords}
use Rattle.record_log.specs.Records.{IsSpelled}
use Rattle.redo_codec.specs.Record.{record_format}
use Rattle.tran_ids.proofs.NumberedLemmas.{set_or_before}
use Rattle.net_bag.specs.Net.{Net}
use Rattle.run_rules.specs.Data.{Happening}
use Rattle.run_rules.specs.Data.commands
use Rattle.run_rules.specs.Facts.{Facts, facts_of, first_facts, place_at, records_at}
use Rattle.run_rules.specs.Reported.{StandsFor}
use Rattle.run_rules.specs.Lawful.{IsNode, IsCommandOver}
use Rattle.run_rules.specs.Shown.{shown_disk}
use Rattle.run_rules.proofs.AtNodeLemmas.{item_there, there_too}
use Rattle.run_rules.proofs.FactLemmas.{facts_are}
use Rattle.run_trace.specs.Recorded.{RunSoFar, past_of}
use Rattle.world.specs.declared.slot.NodeSlot.{NodeSlot}
use Rattle.world.specs.declared.world.World.{World}
use Rattle.world.specs.Needs.{due_in}
use Rattle.world.specs.Linked.{IsLinked, IsOrdered, OrdersStand}
use Rattle.world_parts.specs.Shown.{CommandHasBegun, ShowDisks, Shown, ShowsDiskAt, shown_at}
use Rattle.world.specs.NodeSlot.{SiteIs, SitesAre, site_disk, bytes_of}
use Rattle.world.specs.Slots.{AreMade, IsMade, MayShow, ShowsAfter, bytes_in_site, disk_at, shows_of}
use Rattle.world.specs.Steps.{StepsOn}
use Rattle.world.proofs.SlotLemmas.{read_at}
use Rattle.world_parts.proofs.BegunLemmas.{begins_fresh}
use Rattle.world.proofs.StepLemmas.{IsPushed, Leaves, begun_before, shows_on, split_end, stands_of, steps_on}

-- the place of a site that was made
pub made_at : (places : List Place) (slots : List NodeSlot) (i : ℕ) (slot : NodeSlot) → AreMade places slots → slice_get slots i ≡ Some slot → (p : Place) × (slice_get places i ≡ Some p) × IsMade p slot
made_at [] [] i slot are is = absurd cc
made_at [] (s ∷ ss) i slot are is = absurd are
made_at (p ∷ ps) [] i slot are is = absurd are
made_at (p ∷ ps) (s ∷ ss) zero slot are is = (p, refl, subst (λ (x : NodeSlot). IsMade p x) (cc) are.0)
made_at (p ∷ ps) (s ∷ ss) (suc i) slot are is = made_at ps ss i slot are.1 is

pub made_sites : (places : List Place) (slots : List NodeSlot) → AreMade places slots → SitesAre places (start places) slots
made_sites places slots are zero slot is = absurd cc
made_sites places slots are (suc i) slot is =
    let found = made_at places slots i slot are is in
    let nodes = slice_get-map (λ (p : Place). Some made) places i ∙ ap (option_map (λ (p : Place). Some made)) found.1 in
    let disks = slice_get-map (λ (p : Place). records.Boot 1 ∷ []) places i ∙ ap (option_map (λ (p : Place). records.Boot 1 ∷ [])) found.1 in
    record {
      kept = found.2.kept ∙ sym (ap flat nodes);
      runs = rw (found.1) found.2.runs;
      holds = rw (disks) found.2.holds;
      starts = rw (found.1) found.2.starts;
    }

-- one more is made
pub made_more : (places : List Place) (slots : List NodeSlot) (place : Place) (slot : NodeSlot) → AreMade places slots → IsMade place slot → AreMade (places ++ place ∷ []) (slots ++ slot ∷ [])
made_more [] [] place slot all one = (one, tt)
made_more [] (s ∷ ss) place slot all one = absurd all
made_more (p ∷ ps) [] place slot all one = absurd all
made_more (p ∷ ps) (s ∷ ss) place slot all one = (all.0, made_more ps ss place slot all.1 one)

-- each node has started once
pub booted_once : (places : List Place) → replicate (length places) 1 ≡ map boots (map (λ (p : Place). records.Boot 1 ∷ []) places)
booted_once [] = refl
booted_once (p ∷ ps) = ap (λ (ns : List ℕ). 1 ∷ ns) (booted_once ps)

module _ (places : List Place) (commands : List Command) where
  -- a command that is due begins
  pub begins_next : (p : Past) (c : ℕ) → due_of commands p ≡ Begins c → comes_next places commands p ≡ Some (happenings.Begun c)
  begins_next p c due = rw (due) refl

  pub next_begun : (p : Past) (c : ℕ) → next places commands p (happenings.Begun c)
      ≡ record {
        facts = record p.facts { command = c; net = ordered p.facts.net (command_at commands c) };
        run_report = begins places p.facts p.run_report c (command_at commands c);
      }
  unfolding next facts_after
  next_begun p c = refl

-- ---- a command begins

-- only SHOW DISK shows a disk
only_show_disk : (command : Command) (n : ℕ) → shows_of command ≡ Some n → command ≡ commands.ShowDisk n
only_show_disk (commands.ShowDisk m) n is = cc
only_show_disk (commands.Node name strength links undo) n is = absurd cc
only_show_disk (commands.At node session statement) n is = absurd cc
only_show_disk (commands.Cut a b) n is = absurd cc
only_show_disk (commands.Join a b) n is = absurd cc
only_show_disk (commands.Lose k) n is = absurd cc
only_show_disk (commands.LoseNext kind from to) n is = absurd cc
only_show_disk (commands.Stop m) n is = absurd cc
only_show_disk (commands.Start m) n is = absurd cc
only_show_disk (commands.Crash m write how) n is = absurd cc
only_show_disk (commands.Fault m call) n is = absurd cc
only_show_disk (commands.Hold on) n is = absurd cc
only_show_disk (commands.Deliver k) n is = absurd cc
only_show_disk (commands.Again k) n is = absurd cc
only_show_disk (commands.Pump most) n is = absurd cc
only_show_disk (commands.GiveUp m session) n is = absurd cc
only_show_disk (commands.Reco m) n is = absurd cc
only_show_disk (commands.ShowPending m) n is = absurd cc
only_show_disk (commands.ShowNeighbors m) n is = absurd cc
only_show_disk commands.ShowBook n is = absurd cc
only_show_disk commands.ShowNet n is = absurd cc
only_show_disk (commands.ShowUndo m) n is = absurd cc

-- what holds of all commands holds of one
proper_at : (count : ℕ) (asked : List Command) (i : ℕ) (command : Command) → AllByRecursion (IsCommandOver count) asked → slice_get asked i ≡ Some command → IsCommandOver count command
proper_at count [] i command all is = absurd cc
proper_at count (x ∷ xs) zero command all is = subst (λ (y : Command). IsCommandOver count y) (cc) all.0
proper_at count (x ∷ xs) (suc i) command all is = proper_at count xs i command all.1 is

-- the node whose disk is shown is there
shown_there : (count : ℕ) (asked : List Command) (c n : ℕ) → AllByRecursion (IsCommandOver count) asked → command_at asked c ≡ commands.ShowDisk n → IsNode count n
shown_there count asked zero n all is = absurd cc
shown_there count asked (suc i) n all is = by (slice_get asked i) refl is
  where
    by : (o : Option Command) → slice_get asked i ≡ o → unwrap_or o commands.ShowBook ≡ commands.ShowDisk n → IsNode count n
    by None there is = absurd cc
    by (Some command) there is = proper_at count asked i (commands.ShowDisk n) all (there ∙ ap (λ (x : Command). Some x) is)

-- records that are held are those that the bytes stand for
all_fit : (rs : List RedoRecord) → AllByRecursion IsSpelled rs → AllByRecursion (λ (r : RedoRecord). record_format.Fits r) rs
all_fit [] all = tt
all_fit (r ∷ rs) all = (all.0.fits, all_fit rs all.1)

stands_for : (bytes : List ℕ) (rs : List RedoRecord) → HoldRecords rs bytes → StandsFor bytes rs
stands_for bytes rs holds = (holds.held, all_fit rs holds.spelled)

equal_numbers : (a b : ℕ) → a == b ≡ true → a ≡ b
equal_numbers a b same = eqb-true a b same

-- a command that shows no disk
no_disk : (command : Command) (m : ℕ) → command ≡ commands.ShowDisk m → shows_of command ≡ None → ⊥
no_disk command m is none = absurd (cc (ap shows_of is, none))

-- What the begin of a command leaves of the world.
pub record BeginsAs (n : ℕ) (command : Command) (w v : World) : Type 0 where
  pub running : v.running ≡ n
  pub to_stop : v.to_stop ≡ w.to_stop
  pub boots : v.boots.items ≡ w.boots.items
  pub net : v.net ≡ ordered w.net command
  pub losses : v.losses.items ≡ w.losses.items
  pub run_report : v.run_report ≡ begins w.trace.places (past_of w.trace).facts (past_of w.trace).run_report n command
  pub slots : OrdersStand w v
  pub shown : MayShow (λ m. disk_at w.slots.items m) n command w.shown v.shown

module _ (w v : World) (n : ℕ) (linked : IsLinked w) (due : due_in w.trace ≡ Begins n) (pushed : IsPushed w.trace v.trace (happenings.Begun n))
    (begun : BeginsAs n (command_at w.trace.asked n) w v) where
  abbrev p : Past
  p = past_of w.trace

  abbrev command : Command
  command = command_at w.trace.asked n

  abbrev q : Past
  q = record {
    facts = record p.facts { command = n; net = ordered p.facts.net command };
    run_report = begins w.trace.places p.facts p.run_report n command;
  }

  abbrev r : RunSoFar
  r = record w.trace { happenings = w.trace.happenings ++ happenings.Begun n ∷ [] }

  fresh : CommandHasBegun w.trace n → ⊥
  fresh = begins_fresh w.trace n linked.held.script.run due

  -- the sites
  site_now : (m : ℕ) (slot now : NodeSlot) → SiteIs w.trace.places p m slot → (now ≡ slot) ⊎ IsOrdered slot now → SiteIs w.trace.places q m now
  site_now m slot now is (inl same) = subst (λ (s : NodeSlot). SiteIs w.trace.places q m s) (sym same) (record { kept = is.kept; runs = is.runs; holds = is.holds; starts = is.starts })
  site_now m slot now is (inr order) = record {
    kept = order.kept ∙ is.kept;
    runs = order.runs (place_at w.trace.places m) is.runs;
    holds = subst (λ (bytes : List ℕ). HoldRecords (records_at p.facts m) bytes) (sym order.bytes) is.holds;
    starts = order.starts _ is.starts;
  }

  sites_now : SitesAre w.trace.places q v.slots.items
  sites_now m now there =
      let before = there_too v.slots.items w.slots.items m now begun.slots.count there in
      site_now m before.0 now (linked.held.slots m before.0 before.1) (begun.slots.each m before.0 now before.1 there)

  -- what is shown
  shown_still : (c : ℕ) (lines : List (List ℕ)) → shown_at w.shown c ≡ Some lines → ShowsDiskAt r c lines
  shown_still c lines at = shows_on w.trace (happenings.Begun n) (λ c same begun_c. fresh (subst (λ (k : ℕ). CommandHasBegun w.trace k) (cc) begun_c)) c lines (linked.held.shown.each c lines at)

  held_at : (m : ℕ) → command ≡ commands.ShowDisk m → StandsFor (disk_at w.slots.items m) (records_at p.facts m)
  held_at m is =
      let there : IsNode (length w.trace.places) m = shown_there (length w.trace.places) w.trace.asked n m linked.held.script.of_a_script.proper is in
      let slot = item_there w.slots.items m there.0 (subst (λ (k : ℕ). m ≤ k) (sym linked.held.counted.slots) there.1) in
      subst (λ (o : Option NodeSlot). StandsFor (bytes_in_site o) (records_at p.facts m)) (sym slot.1) (stands_for (bytes_of (site_disk slot.0)) (records_at p.facts m) (linked.held.slots m slot.0 slot.1).holds)

  shown_new : (m : ℕ) → command ≡ commands.ShowDisk m → ShowsDiskAt r n (shown_disk (disk_at w.slots.items m))
  shown_new m is = record {
    begun = (w.trace.happenings, [], refl);
    node = m;
    is = is;
    bytes = disk_at w.slots.items m;
    lines_are = refl;
    stands = λ before later split. elim (split_end w.trace.happenings before later (happenings.Begun n) (happenings.Begun n) split) [
      | inl same ↦ subst (λ (hs : List Happening). StandsFor (disk_at w.slots.items m) (records_at (facts_of w.trace.places w.trace.asked (first_facts w.trace.places) hs) m)) same.1
          (subst (λ (f : Facts). StandsFor (disk_at w.slots.items m) (records_at f m)) (facts_are w.trace.places w.trace.asked (start w.trace.places) w.trace.happenings) (held_at m is))
      | inr more ↦ absurd (fresh (before, more.0, more.1))
    ];
  }

  -- a SHOW DISK that has begun by now is this command, or had begun before
  begun_by : (c m : ℕ) → CommandHasBegun r c → command_at r.asked c ≡ commands.ShowDisk m → ((n ≡ c) × (command ≡ commands.ShowDisk m)) ⊎ (is_some (shown_at w.shown c) ≡ true)
  begun_by c m begun_c is = elim (begun_before w.trace (happenings.Begun n) c begun_c) [
    | inl same ↦ let e : n ≡ c = cc in inl (e, ap (command_at w.trace.asked) e ∙ is)
    | inr before ↦ inr (linked.held.shown.all c m before is)
  ]

  -- what is shown after a SHOW DISK
  disk_each : (m c : ℕ) (lines : List (List ℕ)) (here : Bool) → n == c ≡ here → command ≡ commands.ShowDisk m
      → (if here then Some (shown_disk (disk_at w.slots.items m)) else shown_at w.shown c) ≡ Some lines → ShowsDiskAt r c lines
  disk_each m c lines true same is at = subst (λ (d : ℕ). ShowsDiskAt r d lines) (equal_numbers n c same) (subst (λ (ls : List (List ℕ)). ShowsDiskAt r n ls) (cc) (shown_new m is))
  disk_each m c lines false other is at = shown_still c lines at

  disk_all : (m c : ℕ) (here : Bool) → n == c ≡ here → ((n ≡ c) × (command ≡ commands.ShowDisk m)) ⊎ (is_some (shown_at w.shown c) ≡ true)
      → is_some (if here then Some (shown_disk (disk_at w.slots.items m)) else shown_at w.shown c) ≡ true
  disk_all m c true same either = refl
  disk_all m c false other (inl now) = absurd (cc (eq-eqb n c now.0, other))
  disk_all m c false other (inr before) = before

  shown_by : (o : Option ℕ) → shows_of command ≡ o → ShowsAfter (λ m. disk_at w.slots.items m) n o w.shown v.shown → ShowDisks r v.shown
  shown_by None is same = subst (λ (shown : Shown). ShowDisks r shown) (sym same) (record {
    each = shown_still;
    all = λ c m begun_c disk. elim (begun_by c m begun_c disk) [ inl now ↦ absurd (no_disk command m now.1 is) | inr before ↦ before ];
  })
  shown_by (Some m) is more =
      let show : command ≡ commands.ShowDisk m = only_show_disk command m is in
      record {
        each = λ c lines at. disk_each m c lines (n == c) refl show (sym (more c) ∙ at);
        all = λ c k begun_c disk. ap (λ (o : Option (List (List ℕ))). is_some o) (more c) ∙ disk_all m c (n == c) refl (elim (begun_by c k begun_c disk) [ inl now ↦ inl (now.0, show) | inr before ↦ inr before ]);
      }

  shown_now : ShowDisks v.trace v.shown
  shown_now = subst (λ (x : RunSoFar). ShowDisks x v.shown) (sym pushed.is) (shown_by (shows_of command) refl begun.shown)

  leaves : Leaves w v q
  leaves = record {
    parts = record {
      running = begun.running;
      net = begun.net ∙ ap (λ (net : Net). ordered net command) linked.held.parts.net;
      losses = begun.losses ∙ linked.held.parts.losses;
      to_stop = begun.to_stop ∙ linked.held.parts.to_stop;
      boots = begun.boots ∙ linked.held.parts.boots;
      run_report = begun.run_report;
    };
    count = begun.slots.count;
    nodes = refl;
    records = refl;
    slots = sites_now;
  }

  pub begin_moves : StepsOn w v
  begin_moves =
      let is = next_begun w.trace.places w.trace.asked p n in
      steps_on w v (happenings.Begun n) (stands_of w linked.held) (begins_next w.trace.places w.trace.asked p n due) pushed shown_now (subst (λ (x : Past). Leaves w v x) (sym is) leaves)
      (ap (λ (x : Past). x.run_report.start_to_stop) is ∙ linked.upright)

-- the command that is read at its number
pub command_read : (asked : List Command) (n : ℕ) (x : Command) → 1 ≤ n → n ≤ length asked → x ≡ get_or asked (n - 1) x → command_at asked n ≡ x
command_read asked n x low high is = ap (λ (o : Option Command). unwrap_or o commands.ShowBook) (read_at asked n x low high is)

-- the same orders to the same sites
pub orders_from : (u v w x : World) → u.slots.items ≡ w.slots.items → v.slots.items ≡ x.slots.items → OrdersStand u v → OrdersStand w x
orders_from u v w x from to stand = record {
  count = sym (ap (λ (slots : List NodeSlot). length slots) to) ∙ (stand.count ∙ ap (λ (slots : List NodeSlot). length slots) from);
  each = λ n slot now before after. stand.each n slot now (ap (λ (slots : List NodeSlot). numbered slots n) from ∙ before) (ap (λ (slots : List NodeSlot). numbered slots n) to ∙ after);
}

-- ---- orders to a disk

-- one order
pub order_stands : (slots : List NodeSlot) (i : ℕ) (old new : NodeSlot) → slice_get slots i ≡ Some old → IsOrdered old new → (n : ℕ) (slot now : NodeSlot) → numbered slots n ≡ Some slot → numbered (slice_set slots i new) n ≡ Some now
    → (now ≡ slot) ⊎ IsOrdered slot now
order_stands slots i old new there order n slot now before after =
    elim (set_or_before slots (suc i) n new) [
      | inl same ↦ inl (same_site now slot (sym after ∙ (same ∙ before)))
      | inr set ↦ inr (subst (λ (s : NodeSlot). IsOrdered s now) (same_site old slot (sym there ∙ (ap (numbered slots) set.0 ∙ before))) (subst (λ (s : NodeSlot). IsOrdered old s) (same_site new now (sym set.1 ∙ after)) order))
    ]
  where
    same_site : (a b : NodeSlot) → Some a ≡ Some b → a ≡ b
    same_site a b is = cc

pub ruleset begin_steps = (made_sites, booted_once, begins_next, next_begun)
