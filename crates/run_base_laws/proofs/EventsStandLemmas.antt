-- In every lawful run nodes and disks are as the events of the run say.
use Rattle.std.proofs.Common.{◌≡◌, ◌≢◌, ℕ, zero, suc, ◌+◌, ◌≤◌, true, List, [], ◌∷◌, ◌++◌, map, length, unwrap_or, Option, Some, None, refl, sym, ap, subst, subst₂, ◌∙◌, inl, inr, arith}
use Rattle.std.specs.Prelude.{IfSome}
use Rattle.std.specs.List.{AllByRecursion}
use Rattle.tran_ids.proofs.NumberedLemmas.{set_length}
use Rattle.agreement.specs.Events.{Event, exit, learned, forced}
use Rattle.node_rules.specs.Data.{BranchId, RedoRecord, Place}
use Rattle.node_rules.specs.Data.records
use Rattle.node_rules.specs.Words.{numbered}
use Rattle.node_rules.specs.NodeState.{NodeState, live_id}
use Rattle.node_rules.specs.Records.{nothing_stored, stored_by}
use Rattle.node_rules.specs.Turn.{start_of, made}
use Rattle.run_rules.specs.Data.{Happening, Command}
use Rattle.run_rules.specs.Data.happenings
use Rattle.run_rules.specs.Branches.{is_among}
use Rattle.run_rules.specs.Facts.{Facts, first_facts, flat, place_at, node_at, records_at, with_boot, facts_after}
use Rattle.run_rules.specs.Lawful.{History, IsLawfulRun, facts_at, IsPlace, IsNode, MayHappen, MayStart, boots}
use Rattle.run_base_laws.specs.IdLaws.{IsRecordOf, IdsNameTheirNode}
use Rattle.run_base_laws.specs.NodeLaws.{count_of}
use Rattle.run_base_laws.specs.RunEvents.{lives_at, with_happening, events_after, events_of}
use Rattle.run_base_laws.specs.EventRows.{RowIs, RowsAre}
use Rattle.run_base_laws.specs.EventLaws.{NodesAreAsEvents, TellsAsEvents, TurnsTellAsEvents}
use Rattle.run_rules.proofs.ListLemmas.{all_weaker, all_append}
use Rattle.run_rules.proofs.BootLemmas.{boots_started}
use Rattle.node_rules.proofs.SessionLemmas.{seqs}
use Rattle.run_base_laws.proofs.IdLemmas.{Given, Before, given_before}
use Rattle.run_base_laws.proofs.StoredLemmas.{stored_with}
use Rattle.run_base_laws.proofs.FreshLemmas.{Disk, Node, nodes}
use Rattle.run_base_laws.proofs.NodeLemmas.{Keeps, keeps_both, keeps_alone, AllStand, all_stand_on, first_all, at_node}
use Rattle.run_base_laws.proofs.OwnLemmas.{Own, OwnRecords, OwnAt, owns}
use Rattle.run_base_laws.proofs.LaterLemmas.{Added, Later, exit_later, learned_same, forced_same, exit_made, later_learned, later_forced, later_exit, stop_added, events_keep, events_each}
use Rattle.run_base_laws.proofs.RowEventLemmas.{row_later, rows_booted}
use Rattle.run_base_laws.proofs.NodesStandLemmas.{stored_rows, WasGiven, NodesStand, among_so, some_or_none, acked_back, counts}
use Rattle.run_rules.proofs.AtNodeLemmas.{stop_elsewhere, start_elsewhere, stop_here, start_here}
use Rattle.run_base_laws.proofs.TurnEventLemmas.{cases_nat, all_both, number_is, turn_stands, record_may, sent_may}
use Rattle.run_base_laws.proofs.ClockLemmas.{Covers, covers}
use Rattle.run_base_laws.proofs.RowScnLemmas.{kept_below}
use Rattle.run_base_laws.proofs.SaidLemmas.{NetIsSaid, said_on, acks_came}

-- ---- a stop

module _ (places : List Place) (asked : List Command) (f : Facts) (t : List Event) (now : NodesStand places f t) (even : length f.nodes ≡ length f.records) where
  module _ (m : ℕ) (own : (n : ℕ) (x : NodeState) → node_at f n ≡ Some x → Own n x) (node : (n : ℕ) (x : NodeState) → node_at f n ≡ Some x → Node (records_at f n) x) (there : IsNode (length places) m) where
    abbrev g : Facts
    g = facts_after places asked f (happenings.Stopped m)

    abbrev r : List Event
    r = with_happening f g (happenings.Stopped m) t

    added : Added (Later (lives_at (node_at f m)) []) t r
    added = stop_added f g m t

    here : (node_at g m ≡ None) × (records_at g m ≡ records_at f m)
    here = stop_here places asked f even m there.0 (omega (arith, there.1, now.many))

    -- the disks are as before
    disk_same : (n : ℕ) → records_at g n ≡ records_at f n
    unfolding facts_after
    disk_same n = refl

    was_live : (b : BranchId) (o : Option NodeState) → node_at f m ≡ o → is_among b (lives_at o) ≡ true → (b.node ≡ m) × (exit t b ≡ None) × WasGiven f b
    was_live b None at among = absurd cc
    was_live b (Some x) at among =
        let lives : AllByRecursion (λ l. exit t l.me ≡ None) x.lives = subst (λ o. IfSome o (λ k. AllByRecursion (λ l. exit t l.me ≡ None) k.lives)) at (now.lives m) in
        let own_live : b.node ≡ m = among_so (λ c. c.node ≡ m) b x.lives (own m x at).0 among in
        let told : Given (boots (records_at f m)) (seqs x.sessions) (length x.opens) b
        = among_so (λ c. Given (boots (records_at f m)) (seqs x.sessions) (length x.opens) c) b x.lives (all_weaker (λ l. 1 ≤ count_of live_id l.me x.lives) (λ l. Given (boots (records_at f m)) (seqs x.sessions) (length x.opens) l.me) (λ l some. (node m x at).ids.told l.me (omega (arith, some))) x.lives (counts x.lives)) among in (
          own_live,
          among_so (λ c. exit t c ≡ None) b x.lives lives among,
          subst (λ i. (b.boot ≤ boots (records_at f i)) × IfSome (node_at f i) (λ k. Given (boots (records_at f i)) (seqs k.sessions) (length k.opens) b)) (sym own_live)
              (given_before told, subst (λ o. IfSome o (λ k. Given (boots (records_at f m)) (seqs k.sessions) (length k.opens) b)) (sym at) told),
        )

    stopped_given : (b : BranchId) → WasGiven f b → WasGiven g b
    stopped_given b given = elim (cases_nat b.node m) [
      | inl at ↦ subst (λ i. (b.boot ≤ boots (records_at g i)) × IfSome (node_at g i) (λ k. Given (boots (records_at g i)) (seqs k.sessions) (length k.opens) b)) (sym at) (
        subst (λ (xs : List RedoRecord). b.boot ≤ boots xs) (sym here.1) (subst (λ i. b.boot ≤ boots (records_at f i)) at given.0),
        subst (λ o. IfSome o (λ k. Given (boots (records_at g m)) (seqs k.sessions) (length k.opens) b)) (sym here.0) tt,
      )
      | inr other ↦ (let same_there = stop_elsewhere places asked f even m b.node (λ e. other (sym e)) in
          subst₂ (λ o (xs : List RedoRecord). (b.boot ≤ boots xs) × IfSome o (λ k. Given (boots xs) (seqs k.sessions) (length k.opens) b)) (sym same_there.0) (sym same_there.1) given)
    ]

    stop_given : (b : BranchId) → exit r b ≢ None → WasGiven g b
    stop_given b left = elim (some_or_none (exit r b)) [
      | inr none ↦ absurd (left none)
      | inl some ↦ elim (exit_made b some.0 added some.1) [
        | inl old ↦ stopped_given b (now.given b (λ none. absurd (cc (old, none))))
        | inr made ↦ stopped_given b (was_live b (node_at f m) refl (later_exit b made.0 some.0 made.1 made.2).0).2
      ]
    ]

    none_after : (b : BranchId) → exit t b ≡ None → b.node ≢ m → exit r b ≡ None
    none_after b none other = elim (some_or_none (exit r b)) [
      | inr is_none ↦ is_none
      | inl some ↦ elim (exit_made b some.0 added some.1) [
        | inl old ↦ absurd (cc (old, none))
        | inr made ↦ absurd (other (was_live b (node_at f m) refl (later_exit b made.0 some.0 made.1 made.2).0).0)
      ]
    ]

    lives_elsewhere : (n : ℕ) → n ≢ m → (o : Option NodeState) → node_at f n ≡ o → IfSome o (λ x. AllByRecursion (λ l. exit t l.me ≡ None) x.lives) → IfSome o (λ x. AllByRecursion (λ l. exit r l.me ≡ None) x.lives)
    lives_elsewhere n other None at all = tt
    lives_elsewhere n other (Some x) at all =
        all_weaker _ _ (λ l so. none_after l.me so.1 (λ e. other (sym so.0 ∙ e))) x.lives (all_both _ _ x.lives (own n x at).0 all)

    lives_after : (n : ℕ) → IfSome (node_at g n) (λ x. AllByRecursion (λ l. exit r l.me ≡ None) x.lives)
    lives_after n = elim (cases_nat n m) [
      | inl at ↦ subst (λ i. IfSome (node_at g i) (λ x. AllByRecursion (λ l. exit r l.me ≡ None) x.lives)) (sym at)
          (subst (λ o. IfSome o (λ x. AllByRecursion (λ l. exit r l.me ≡ None) x.lives)) (sym here.0) tt)
      | inr other ↦ subst (λ o. IfSome o (λ x. AllByRecursion (λ l. exit r l.me ≡ None) x.lives)) (sym (stop_elsewhere places asked f even m n (λ e. other (sym e))).0)
          (lives_elsewhere n other (node_at f n) refl (now.lives n))
    ]

    untaught_after : (b : BranchId) → exit r b ≡ None → (learned r b ≡ None) × (forced r b ≡ None)
    untaught_after b none =
        let none_before : exit t b ≡ None = elim (some_or_none (exit t b)) [
          | inr is_none ↦ is_none
          | inl some ↦ (let stays : exit r b ≡ Some some.0 = exit_later b some.0 added some.1 in absurd (cc (stays, none)))
        ] in
        let un = now.untaught b none_before in
        (learned_same b (λ e later. later_learned b e later) added ∙ un.0, forced_same b (λ e later. later_forced b e later) added ∙ un.1)

    many_after : length g.nodes ≡ length places
    unfolding facts_after
    many_after = set_length f.nodes m None ∙ now.many

    stop_stands : NodesStand places g (events_after places asked f (happenings.Stopped m) t)
    stop_stands = record {
      many = many_after;
      untaught = untaught_after;
      own = λ n. subst (λ (xs : List RedoRecord). AllByRecursion (IsRecordOf (λ b. b.node ≡ n)) xs) (sym (disk_same n)) (now.own n);
      rows = λ n. subst (λ (xs : List RedoRecord). RowsAre r (stored_by nothing_stored xs).durable.kept) (sym (disk_same n))
          (all_weaker (RowIs t) (RowIs r) (λ s so. row_later added s (λ e later. later_learned s.me e later) (λ e later. later_forced s.me e later) so) (stored_rows f n) (now.rows n));
      lives = lives_after;
      given = stop_given;
    }

  -- ---- a start

  module _ (m boot : ℕ) (may : MayStart (length places) f m boot) where
    abbrev h : Facts
    h = facts_after places asked f (happenings.Started m boot)

    begun : (node_at h m ≡ Some (start_of (with_boot f m boot))) × (records_at h m ≡ with_boot f m boot)
    begun = start_here places asked f even m boot may.there.0 (omega (arith, may.there.1, now.many))

    -- what is started has no live branch
    none_live : (rs : List RedoRecord) → AllByRecursion (λ l. exit t l.me ≡ None) (start_of rs).lives
    unfolding start_of
    none_live rs = tt

    booted_rows : (rs : List RedoRecord) → RowsAre t (stored_by nothing_stored rs).durable.kept → RowsAre t (stored_by nothing_stored (rs ++ records.Boot boot ∷ [])).durable.kept
    booted_rows rs rows = subst (λ s. RowsAre t s.durable.kept) (sym (stored_with rs (Some (records.Boot boot)))) (rows_booted t (stored_by nothing_stored rs) boot rows)

    start_given : (b : BranchId) → WasGiven f b → WasGiven h b
    start_given b given = elim (cases_nat b.node m) [
      | inl at ↦ (let more : boots (with_boot f m boot) ≡ boots (records_at f m) + 1 = boots_started (records_at f m) boot in
          let old : b.boot ≤ boots (records_at f m) = subst (λ i. b.boot ≤ boots (records_at f i)) at given.0 in
          subst (λ i. (b.boot ≤ boots (records_at h i)) × IfSome (node_at h i) (λ k. Given (boots (records_at h i)) (seqs k.sessions) (length k.opens) b)) (sym at)
          (subst₂ (λ o (xs : List RedoRecord). (b.boot ≤ boots xs) × IfSome o (λ k. Given (boots xs) (seqs k.sessions) (length k.opens) b)) (sym begun.0) (sym begun.1)
          (omega (arith, old, more), Before (omega (arith, old, more)))))
      | inr other ↦ (let same_there = start_elsewhere places asked f even m boot b.node (λ e. other (sym e)) in
          subst₂ (λ o (xs : List RedoRecord). (b.boot ≤ boots xs) × IfSome o (λ k. Given (boots xs) (seqs k.sessions) (length k.opens) b)) (sym same_there.0) (sym same_there.1) given)
    ]

    -- a law of what each node keeps and of its disk
    at_each : (P : ℕ → Option NodeState → List RedoRecord → Type 0) → P m (Some (start_of (with_boot f m boot))) (with_boot f m boot) → ((n : ℕ) → P n (node_at f n) (records_at f n)) → (n : ℕ) → P n (node_at h n) (records_at h n)
    at_each P new old n = elim (cases_nat n m) [
      | inl at ↦ subst (λ i. P i (node_at h i) (records_at h i)) (sym at) (subst₂ (P m) (sym begun.0) (sym begun.1) new)
      | inr other ↦ (let same_there = start_elsewhere places asked f even m boot n (λ e. other (sym e)) in subst₂ (P n) (sym same_there.0) (sym same_there.1) (old n))
    ]

    many_started : length h.nodes ≡ length places
    unfolding facts_after
    many_started = set_length f.nodes m _ ∙ now.many

    start_stands : NodesStand places h (events_after places asked f (happenings.Started m boot) t)
    start_stands = record {
      many = many_started;
      untaught = now.untaught;
      own = at_each (λ n o (xs : List RedoRecord). AllByRecursion (IsRecordOf (λ b. b.node ≡ n)) xs) (all_append (IsRecordOf (λ b. b.node ≡ m)) (records_at f m) (records.Boot boot ∷ []) (now.own m) (tt, tt)) now.own;
      rows = at_each (λ n o (xs : List RedoRecord). RowsAre t (stored_by nothing_stored xs).durable.kept) (booted_rows (records_at f m) (now.rows m)) now.rows;
      lives = at_each (λ n o xs. IfSome o (λ k. AllByRecursion (λ l. exit t l.me ≡ None) k.lives)) (none_live (with_boot f m boot)) now.lives;
      given = λ b left. start_given b (now.given b left);
    }

-- ---- every run

pub first_disk : (P : List RedoRecord → Type 0) → P [] → P (records.Boot 1 ∷ []) → (ps : List Place) (n : ℕ) → P (unwrap_or (numbered (map (λ p. records.Boot 1 ∷ []) ps) n) [])
first_disk P none one ps zero = none
first_disk P none one [] (suc i) = none
first_disk P none one (p ∷ ps) (suc zero) = one
first_disk P none one (p ∷ ps) (suc (suc i)) = first_disk P none one ps (suc i)

pub first_node : (P : Option NodeState → Type 0) → P None → P (Some made) → (ps : List Place) (n : ℕ) → P (flat (numbered (map (λ p. Some made) ps) n))
first_node P none one ps zero = none
first_node P none one [] (suc i) = none
first_node P none one (p ∷ ps) (suc zero) = one
first_node P none one (p ∷ ps) (suc (suc i)) = first_node P none one ps (suc i)

first_many : (ps : List Place) → length (map (λ p. Some made) ps) ≡ length ps
first_many [] = refl
first_many (p ∷ ps) = ap suc (first_many ps)

first_stands : (places : List Place) → NodesStand places (first_facts places) []
unfolding stored_by start_of
first_stands places = record {
  many = first_many places;
  untaught = λ b none. (refl, refl);
  own = λ n. first_disk (AllByRecursion (IsRecordOf (λ b. b.node ≡ n))) tt (tt, tt) places n;
  rows = λ n. first_disk (λ (xs : List RedoRecord). RowsAre [] (stored_by nothing_stored xs).durable.kept) tt (rows_booted [] nothing_stored 1 tt) places n;
  lives = λ n. first_node (λ o. IfSome o (λ k. AllByRecursion (λ l. exit [] l.me ≡ None) k.lives)) tt tt places n;
  given = λ b left. absurd (left refl);
}

-- what each disk and each node keeps
abbrev pub J : Place → List RedoRecord → Type 0
J p rs = (Disk rs × OwnRecords p.number rs) × Unit {0}

abbrev pub I : Place → List RedoRecord → NodeState → Type 0
I p rs k = (Node rs k × OwnAt p rs k) × Covers k

pub both : Keeps J I
both = keeps_both (keeps_both nodes owns) (keeps_alone covers)

module _ (places : List Place) (asked : List Command) (each : (n : ℕ) (p : Place) → numbered places n ≡ Some p → IsPlace places n p) where
  abbrev pub BranchStatus : Facts → List Event → Type 0
  BranchStatus f t = AllStand J I both places f × NodesStand places f t × NetIsSaid f t

  module _ (f : Facts) (t : List Event) (now : BranchStatus f t) where
    pub node_so : (n : ℕ) (x : NodeState) → node_at f n ≡ Some x → Node (records_at f n) x
    node_so n x up = (at_node J I both places f n (now.0.nodes n) x up).0.0

    pub owned_so : (n : ℕ) (x : NodeState) → node_at f n ≡ Some x → OwnAt (place_at places n) (records_at f n) x
    owned_so n x up = (at_node J I both places f n (now.0.nodes n) x up).0.1

    covers_so : (n : ℕ) (x : NodeState) → node_at f n ≡ Some x → Covers x
    covers_so n x up = (at_node J I both places f n (now.0.nodes n) x up).1

    own_so : (n : ℕ) (x : NodeState) → node_at f n ≡ Some x → Own n x
    own_so n x up = subst (λ i. Own i x) (number_is places asked each f n x now.1.many up) (owned_so n x up).1

    nodes_on : (h : Happening) → MayHappen places asked f h → NodesStand places (facts_after places asked f h) (events_after places asked f h t)
    unfolding facts_after
    nodes_on (happenings.Turn u) may = turn_stands places asked each f t u may.0 now.1 now.0.even node_so owned_so may.1
    nodes_on (happenings.Stopped m) may = stop_stands places asked f t now.1 now.0.even m own_so node_so may.0
    nodes_on (happenings.Started m boot) may = start_stands places asked f t now.1 now.0.even m boot may
    nodes_on _ may = record { many = now.1.many; untaught = now.1.untaught; own = now.1.own; rows = now.1.rows; lives = now.1.lives; given = now.1.given }

  -- each turn writes and says what it may
  pub tells_so : (f : Facts) (t : List Event) (h : Happening) → BranchStatus f t → MayHappen places asked f h → TellsAsEvents f t h
  tells_so f t (happenings.Turn u) now may =
      let node : (n : ℕ) (x : NodeState) → node_at f n ≡ Some x → Node (records_at f n) x = node_so f t now in
      let owned : (n : ℕ) (x : NodeState) → node_at f n ≡ Some x → OwnAt (place_at places n) (records_at f n) x = owned_so f t now in (
        record_may places asked each f t u may.0 now.1 now.0.even node owned may.1,
        sent_may places asked each f t u may.0 now.1 now.0.even node owned may.1
            (kept_below (records_at f u.node) may.0 (node u.node may.0 may.1.up).stored (covers_so f t now u.node may.0 may.1.up))
            (acks_came f t now.2 may.0 u.node u.input u.took may.1.comes),
      )
  tells_so f t _ now may = tt

  pub stand_on : (f : Facts) (t : List Event) (h : Happening) → BranchStatus f t → MayHappen places asked f h → BranchStatus (facts_after places asked f h) (events_after places asked f h t)
  stand_on f t h now may = (all_stand_on J I both places asked f h now.0 may, nodes_on f t now h may, said_on places asked f t h now.2)

  pub stand_first : BranchStatus (first_facts places) []
  stand_first = (first_all J I both places, first_stands places, tt)

-- at the end of every run
pub run_stands : (t : History) → IsLawfulRun t → BranchStatus t.places t.commands t.of_a_script.each (facts_at t) (events_of t)
run_stands t lawful =
    events_keep t.places t.commands (BranchStatus t.places t.commands t.of_a_script.each) (stand_on t.places t.commands t.of_a_script.each) (first_facts t.places) t.trace [] (stand_first t.places t.commands t.of_a_script.each) lawful

pub nodes_are_as_events : NodesAreAsEvents
nodes_are_as_events t lawful n k up =
    let now : BranchStatus t.places t.commands t.of_a_script.each (facts_at t) (events_of t) = run_stands t lawful in (
      subst (λ o. IfSome o (λ x. AllByRecursion (λ l. exit (events_of t) l.me ≡ None) x.lives)) up (now.1.lives n),
      acked_back (events_of t) k.stored.durable.kept
          (subst (λ s. RowsAre (events_of t) s.durable.kept) (sym (node_so t.places t.commands t.of_a_script.each (facts_at t) (events_of t) now n k up).stored) (now.1.rows n)),
    )

pub ids_name_their_node : IdsNameTheirNode
ids_name_their_node t lawful n k up =
    let now : BranchStatus t.places t.commands t.of_a_script.each (facts_at t) (events_of t) = run_stands t lawful in
    let own : OwnAt (place_at t.places n) (records_at (facts_at t) n) k = owned_so t.places t.commands t.of_a_script.each (facts_at t) (events_of t) now n k up in
    let number : (place_at t.places n).number ≡ n = number_is t.places t.commands t.of_a_script.each (facts_at t) n k now.1.many up in
    let here : Own n k = subst (λ i. Own i k) number own.1 in
    record { lives = here.0; rows = here.1; opens = here.2; records = subst (λ i. OwnRecords i (records_at (facts_at t) n)) number own.0 }

pub turns_tell_as_events : TurnsTellAsEvents
turns_tell_as_events t lawful =
    events_each t.places t.commands (BranchStatus t.places t.commands t.of_a_script.each) (stand_on t.places t.commands t.of_a_script.each) TellsAsEvents (tells_so t.places t.commands t.of_a_script.each)
    (first_facts t.places) t.trace [] (stand_first t.places t.commands t.of_a_script.each) lawful
