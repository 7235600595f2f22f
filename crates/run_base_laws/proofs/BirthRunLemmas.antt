-- In every lawful run no id begins twice, the branches that began are trees, nodes, records and messages name them as they
-- began, and each of them is live or has an exit.
use Rattle.std.proofs.Common.{◌≡◌, ◌≢◌, ℕ, true, List, [], ◌∷◌, length, Option, Some, None, inl, inr, refl, sym, ap, subst, subst₂, ◌⊎◌, arith}
use Rattle.std.specs.Prelude.{IfSome}
use Rattle.std.specs.List.{AllByRecursion}
use Rattle.agreement.specs.Events.{Event, exit}
use Rattle.node_rules.specs.Data.{BranchId, Msg, RedoRecord, Place}
use Rattle.node_rules.specs.Data.records
use Rattle.node_rules.specs.Words.{numbered}
use Rattle.node_rules.specs.NodeState.{NodeState}
use Rattle.node_rules.specs.Records.{nothing_stored}
use Rattle.node_rules.specs.Turn.{made, start_of}
use Rattle.run_rules.specs.Data.{Happening, Command}
use Rattle.run_rules.specs.Data.happenings
use Rattle.run_rules.specs.Branches.{is_among}
use Rattle.run_rules.specs.Facts.{Facts, first_facts, flat, node_at, records_at, with_boot, facts_after, facts_of}
use Rattle.run_rules.specs.Lawful.{IsPlace, MayHappen, MayStart, IsNode, IsLawful, History, IsLawfulRun, facts_at}
use Rattle.run_base_laws.specs.RunEvents.{lives_at, with_happening, events_after, events_from, events_of}
use Rattle.run_rules.specs.Births.{Born, births_after, births_from, births_of, born_at}
use Rattle.run_base_laws.specs.BirthLaws.{Began, NamesAre, RecordNames, GoesSo, NoIdBeginsTwice, BirthsAreTrees, NodesNameTheBorn, RecordsNameTheBorn, MessagesAreOfNeighbors, BornAreLiveOrLeft}
use Rattle.run_rules.proofs.ListLemmas.{all_append}
use Rattle.run_base_laws.proofs.SaidLemmas.{sent_after}
use Rattle.run_rules.proofs.AtNodeLemmas.{stop_elsewhere, stop_here, start_elsewhere, start_here}
use Rattle.run_base_laws.proofs.NodesStandLemmas.{NodesStand}
use Rattle.run_base_laws.proofs.TurnEventLemmas.{cases_nat, number_is}
use Rattle.run_base_laws.proofs.EventsStandLemmas.{first_disk, first_node, BranchStatus, node_so, owned_so, stand_on, stand_first}
use Rattle.run_base_laws.proofs.NeighborLemmas.{rows_stored}
use Rattle.run_base_laws.proofs.BirthLemmas.{stop_left, stop_leaves}
use Rattle.run_base_laws.proofs.BirthsStandLemmas.{BirthsStand, turn_born}

module _ (places : List Place) (asked : List Command) (each : (n : ℕ) (p : Place) → numbered places n ≡ Some p → IsPlace places n p) where
  -- ---- stops and starts

  module _ (f : Facts) (t : List Event) (bs : List Born) (now : NodesStand places f t) (even : length f.nodes ≡ length f.records) (born : BirthsStand f t bs) where
    module _ (m : ℕ) (place : IsNode (length places) m) where
      abbrev stopped : Facts
      stopped = facts_after places asked f (happenings.Stopped m)

      abbrev rest : List Event
      rest = with_happening f stopped (happenings.Stopped m) t

      stop_node : (n : ℕ) → IfSome (node_at stopped n) (NamesAre (Began bs))
      stop_node n = elim (cases_nat n m) [
        | inl at ↦ subst (λ i. IfSome (node_at stopped i) (NamesAre (Began bs))) (sym at)
            (subst (λ o. IfSome o (NamesAre (Began bs))) (sym (stop_here places asked f even m place.0 (omega (arith, place.1, now.many))).0) tt)
        | inr other ↦ subst (λ o. IfSome o (NamesAre (Began bs))) (sym (stop_elsewhere places asked f even m n (λ e. other (sym e))).0) (born.lives n)
      ]

      stop_disk : (n : ℕ) → AllByRecursion (RecordNames (Began bs)) (records_at stopped n)
      unfolding facts_after
      stop_disk n = born.disks n

      stop_there : (b : BranchId) → born_at bs b ≢ None → (exit rest b ≢ None) ⊎ (is_among b (lives_at (node_at stopped b.node)) ≡ true)
      stop_there b some = elim (born.there b some) [
        | inl left ↦ inl (stop_left b f stopped m t left)
        | inr living ↦ elim (cases_nat b.node m) [
          | inl at ↦ inl (stop_leaves b f stopped m t (subst (λ i. is_among b (lives_at (node_at f i)) ≡ true) at living))
          | inr other ↦ inr (subst (λ o. is_among b (lives_at o) ≡ true) (sym (stop_elsewhere places asked f even m b.node (λ e. other (sym e))).0) living)
        ]
      ]

      pub stop_born : BirthsStand stopped rest bs
      stop_born = record {
        once = born.once;
        trees = born.trees;
        lives = stop_node;
        disks = stop_disk;
        said = sent_after (λ y. GoesSo (Began bs) y.from y.to y.kind) places asked f (happenings.Stopped m) tt born.said;
        there = stop_there;
      }

    module _ (m boot : ℕ) (may : MayStart (length places) f m boot) where
      abbrev begun : Facts
      begun = facts_after places asked f (happenings.Started m boot)

      up : (node_at begun m ≡ Some (start_of (with_boot f m boot))) × (records_at begun m ≡ with_boot f m boot)
      up = start_here places asked f even m boot may.there.0 (omega (arith, may.there.1, now.many))

      disk : AllByRecursion (RecordNames (Began bs)) (with_boot f m boot)
      disk = all_append (RecordNames (Began bs)) (records_at f m) (records.Boot boot ∷ []) (born.disks m) (tt, tt)

      start_names : (zs : List RedoRecord) → AllByRecursion (RecordNames (Began bs)) zs → NamesAre (Began bs) (start_of zs)
      unfolding start_of
      start_names zs all = (tt, rows_stored (Began bs) nothing_stored zs all tt, tt)

      start_each : (P : Option NodeState → List RedoRecord → Type 0) → P (Some (start_of (with_boot f m boot))) (with_boot f m boot) → ((n : ℕ) → P (node_at f n) (records_at f n)) → (n : ℕ) → P (node_at begun n) (records_at begun n)
      start_each P new old n = elim (cases_nat n m) [
        | inl at ↦ subst (λ i. P (node_at begun i) (records_at begun i)) (sym at) (subst₂ P (sym up.0) (sym up.1) new)
        | inr other ↦ (let same_there = start_elsewhere places asked f even m boot n (λ e. other (sym e)) in subst₂ P (sym same_there.0) (sym same_there.1) (old n))
      ]

      start_there : (b : BranchId) → born_at bs b ≢ None → (exit t b ≢ None) ⊎ (is_among b (lives_at (node_at begun b.node)) ≡ true)
      start_there b some = elim (born.there b some) [
        | inl left ↦ inl left
        | inr living ↦ elim (cases_nat b.node m) [
          | inl at ↦ (let none : is_among b (lives_at None) ≡ true = subst (λ o. is_among b (lives_at o) ≡ true) may.down (subst (λ i. is_among b (lives_at (node_at f i)) ≡ true) at living) in absurd cc)
          | inr other ↦ inr (subst (λ o. is_among b (lives_at o) ≡ true) (sym (start_elsewhere places asked f even m boot b.node (λ e. other (sym e))).0) living)
        ]
      ]

      pub start_born : BirthsStand begun t bs
      start_born = record {
        once = born.once;
        trees = born.trees;
        lives = start_each (λ o zs. IfSome o (NamesAre (Began bs))) (start_names (with_boot f m boot) disk) born.lives;
        disks = start_each (λ o (zs : List RedoRecord). AllByRecursion (RecordNames (Began bs)) zs) disk born.disks;
        said = sent_after (λ y. GoesSo (Began bs) y.from y.to y.kind) places asked f (happenings.Started m boot) tt born.said;
        there = start_there;
      }

  -- ---- every happening

  module _ (f : Facts) (t : List Event) (bs : List Born) (stand : BranchStatus places asked each f t) (born : BirthsStand f t bs) where
    -- what happens neither to a node nor to a disk
    still_born : (h : Happening) → AllByRecursion (λ x. GoesSo (Began bs) x.msg.from x.msg.to x.msg.kind) (facts_after places asked f h).net.packets
        → ((n : ℕ) → node_at (facts_after places asked f h) n ≡ node_at f n) → ((n : ℕ) → records_at (facts_after places asked f h) n ≡ records_at f n) → BirthsStand (facts_after places asked f h) t bs
    still_born h said nodes disks = record {
      once = born.once;
      trees = born.trees;
      lives = λ n. subst (λ o. IfSome o (NamesAre (Began bs))) (sym (nodes n)) (born.lives n);
      disks = λ n. subst (λ (zs : List RedoRecord). AllByRecursion (RecordNames (Began bs)) zs) (sym (disks n)) (born.disks n);
      said = said;
      there = λ b some. subst (λ o. (exit t b ≢ None) ⊎ (is_among b (lives_at o) ≡ true)) (sym (nodes b.node)) (born.there b some);
    }

    abbrev SentSo : Msg → Type 0
    SentSo y = GoesSo (Began bs) y.from y.to y.kind

    same_nodes : (h : Happening) → (facts_after places asked f h).nodes ≡ f.nodes → (n : ℕ) → node_at (facts_after places asked f h) n ≡ node_at f n
    same_nodes h is n = ap (λ (xs : List (Option NodeState)). flat (numbered xs n)) is

    pub births_on : (h : Happening) → MayHappen places asked f h → BirthsStand (facts_after places asked f h) (events_after places asked f h t) (births_after places f h bs)
    unfolding facts_after
    births_on (happenings.Turn u) may =
        turn_born places asked each f t bs u may.0 stand.1 stand.0.even (node_so places asked each f t stand) (owned_so places asked each f t stand) may.1 (number_is places asked each f u.node may.0 stand.1.many may.1.up) born
    births_on (happenings.Stopped m) may = stop_born f t bs stand.1 stand.0.even born m may.0
    births_on (happenings.Started m boot) may = start_born f t bs stand.1 stand.0.even born m boot may
    births_on (happenings.Begun c) may = still_born (happenings.Begun c) (sent_after SentSo places asked f (happenings.Begun c) tt born.said) (λ n. refl) (λ n. refl)
    births_on (happenings.Cut a b) may = still_born (happenings.Cut a b) (sent_after SentSo places asked f (happenings.Cut a b) tt born.said) (λ n. refl) (λ n. refl)
    births_on (happenings.Join a b) may = still_born (happenings.Join a b) (sent_after SentSo places asked f (happenings.Join a b) tt born.said) (λ n. refl) (λ n. refl)
    births_on (happenings.Lost k) may = still_born (happenings.Lost k) (sent_after SentSo places asked f (happenings.Lost k) tt born.said) (λ n. refl) (λ n. refl)

  -- ---- every run

  made_names : NamesAre (Began []) made
  unfolding start_of
  made_names = (tt, rows_stored (Began []) nothing_stored (records.Boot 1 ∷ []) (tt, tt) tt, tt)

  first_born : BirthsStand (first_facts places) [] []
  first_born = record {
    once = λ b. omega arith;
    trees = tt;
    lives = λ n. first_node (λ o. IfSome o (NamesAre (Began []))) tt made_names places n;
    disks = λ n. first_disk (AllByRecursion (RecordNames (Began []))) tt (tt, tt) places n;
    said = tt;
    there = λ b some. absurd (some refl);
  }

  -- nodes, disks and events, and the branches that began
  abbrev pub StandBorn : Facts → List Event → List Born → Type 0
  StandBorn f t bs = BranchStatus places asked each f t × BirthsStand f t bs

  pub stand_born_on : (f : Facts) (t : List Event) (bs : List Born) (h : Happening) → StandBorn f t bs → MayHappen places asked f h
      → StandBorn (facts_after places asked f h) (events_after places asked f h t) (births_after places f h bs)
  stand_born_on f t bs h now may = (stand_on places asked each f t h now.0 may, births_on f t bs now.0 now.1 h may)

  pub stand_born_first : StandBorn (first_facts places) [] []
  stand_born_first = (stand_first places asked each, first_born)

  births_keep : (f : Facts) (hs : List Happening) (t : List Event) (bs : List Born) → StandBorn f t bs → IsLawful places asked f hs
      → StandBorn (facts_of places asked f hs) (events_from places asked f hs t) (births_from places asked f hs bs)
  unfolding facts_of events_from births_from IsLawful
  births_keep f [] t bs now lawful = now
  births_keep f (h ∷ hs) t bs now lawful = births_keep (facts_after places asked f h) hs (events_after places asked f h t) (births_after places f h bs) (stand_born_on f t bs h now lawful.0) lawful.1

-- at the end of every run
pub run_births : (t : History) → IsLawfulRun t → StandBorn t.places t.commands t.of_a_script.each (facts_at t) (events_of t) (births_of t)
run_births t lawful = births_keep t.places t.commands t.of_a_script.each (first_facts t.places) t.trace [] [] (stand_born_first t.places t.commands t.of_a_script.each) lawful

pub no_id_begins_twice : NoIdBeginsTwice
no_id_begins_twice t lawful b = (run_births t lawful).1.once b

pub births_are_trees : BirthsAreTrees
births_are_trees t lawful = (run_births t lawful).1.trees

pub nodes_name_the_born : NodesNameTheBorn
nodes_name_the_born t lawful n k up = subst (λ o. IfSome o (NamesAre (Began (births_of t)))) up ((run_births t lawful).1.lives n)

pub records_name_the_born : RecordsNameTheBorn
records_name_the_born t lawful n = (run_births t lawful).1.disks n

pub messages_are_of_neighbors : MessagesAreOfNeighbors
messages_are_of_neighbors t lawful = (run_births t lawful).1.said

pub born_are_live_or_left : BornAreLiveOrLeft
born_are_live_or_left t lawful b some = (run_births t lawful).1.there b some
