-- In a lawful run each node that is up keeps its undo, and the records of each disk fit beside the branches in doubt: by induction over the
-- happenings.
use Rattle.std.proofs.Common.{◌≡◌, ℕ, ◌≤◌, List, [], ◌∷◌, ◌++◌, IfSome, Option, Some, None, refl, sym, ap, subst, ◌∙◌, arith, append-nil, zero, suc, take}
use Rattle.std.specs.Option.{option_to_list}
use Rattle.row_store.specs.Store.{doubt_extents}
use Rattle.node_rules.specs.Data.{RedoRecord, Place}
use Rattle.node_rules.specs.Data.records
use Rattle.node_rules.specs.NodeState.{NodeState, Stored}
use Rattle.node_rules.specs.Records.{nothing_stored, applied, stored_by}
use Rattle.node_rules.specs.Turn.{turn_of, start_of}
use Rattle.run_rules.specs.Data.{Turn, Happening, Command}
use Rattle.run_rules.specs.Data.happenings
use Rattle.run_rules.specs.Branches.{Trail, no_trail}
use Rattle.run_rules.specs.Facts.{Facts, first_facts, place_at, node_at, records_at, facts_after, facts_of}
use Rattle.run_rules.specs.Lawful.{MayTurn, MayHappen, Comes, IsLawful, History, IsLawfulRun, facts_at}
use Rattle.run_base_laws.specs.NodeLaws.{unacked}
use Rattle.run_base_laws.proofs.EventsStandLemmas.{first_disk, first_node}
use Rattle.run_base_laws.proofs.LawfulLemmas.{lawful_keeps, lawful_each, of_facts, of_wrote, serves}
use Rattle.run_base_laws.proofs.NodeLemmas.{Goes, Stays, Turns, Is_cut, Stops, Starts, goes_so, AllStand, all_stand_on, first_all, at_node}
use Rattle.run_base_laws.proofs.PastLemmas.{facts_on, lawful_on}
use Rattle.run_base_laws.proofs.StoredLemmas.{StoresOf, stores, with_wrote, stored_with}
use Rattle.node_ready_laws.specs.Following.{MayFollow, MayAllFollow}
use Rattle.node_ready_laws.specs.Sound.{IsNext}
use Rattle.node_ready_laws.specs.Ready.{IsReady, IsExpected}
use Rattle.node_ready_laws.proofs.FollowLemmas.{rows_do_not_matter}
use Rattle.node_ready_laws.proofs.ReadyLemmas.{turns_stay_ready}
use Rattle.node_ready_laws.proofs.StartLemmas.{starts_are_ready}
use Rattle.node_undo_laws.specs.Kept.{HasUndo}
use Rattle.node_undo_laws.specs.Fits.{FitsDoubts, AllFitDoubts}
use Rattle.node_undo_laws.specs.Laws.{NeedsNoMore}
use Rattle.node_undo_laws.proofs.LawLemmas.{turns_keep_undo, records_fit_doubts, records_need_no_more, acks_do_not_matter}
use Rattle.node_undo_laws.proofs.StartLemmas.{left_by, none_left, fits_last, starts_have_undo, no_undo_at_first}
use Rattle.run_ready_laws.proofs.ComerLemmas.{comers_are_expected}
use Rattle.run_ready_laws.proofs.CountRunLemmas.{counts_are_few}
use Rattle.run_ready_laws.proofs.ReadyRunLemmas.{nodes_are_ready}
use Rattle.run_undo_laws.specs.UndoRuns.{NodesKeepUndo, DisksFitDoubts, extents_used, extents_in_doubt, seen_last, last_up_from, DisksNeedNoMore, StartFits, StartsAlwaysFit, run_upto, EveryRunKeepsUndo}

-- ---- records

follow_last : (s : Stored) (rs : List RedoRecord) (r : RedoRecord) → MayAllFollow s rs → MayFollow (stored_by s rs) r → MayAllFollow s (rs ++ r ∷ [])
unfolding MayAllFollow stored_by
follow_last s [] r all may = (may, tt)
follow_last s (x ∷ rs) r all may = (all.0, follow_last (applied s x) rs r all.1 may)

-- Each record of a disk may stand after those before it, and fits beside the branches in doubt.
record DiskFits (undo : ℕ) (rs : List RedoRecord) : Type 0 where
  follow : MayAllFollow nothing_stored rs
  fits : AllFitDoubts undo nothing_stored rs

module _ (undo : ℕ) (rs : List RedoRecord) (now : DiskFits undo rs) where
  -- the branches in doubt have their undo extents
  in_doubt_fit : extents_in_doubt rs ≤ undo
  in_doubt_fit = let left = (left_by undo nothing_stored rs now.follow now.fits (none_left undo)).stands.room in omega (arith, left)

  -- with one more record
  disk_with : (r : RedoRecord) → MayFollow (stored_by nothing_stored rs) r → FitsDoubts undo (stored_by nothing_stored rs) r → DiskFits undo (rs ++ r ∷ [])
  disk_with r may fits = record { follow = follow_last nothing_stored rs r now.follow may; fits = fits_last undo nothing_stored rs r now.fits fits }

  -- with one more start
  disk_started : (boot : ℕ) → DiskFits undo (rs ++ records.Boot boot ∷ [])
  disk_started boot = disk_with (records.Boot boot) (record { listed = tt; stored = tt }) (record { free = tt; room = in_doubt_fit })

empty_disk : (undo : ℕ) → DiskFits undo []
unfolding MayAllFollow AllFitDoubts
empty_disk undo = record { follow = tt; fits = tt }

-- ---- a turn's record

-- What a turn's record has, by what its node stores.
record IsFitting (undo : ℕ) (k : NodeState) (r : RedoRecord) : Type 0 where
  may : MayFollow k.stored r
  fits : FitsDoubts undo k.stored r
  less : NeedsNoMore k r

module _ (undo : ℕ) (rs : List RedoRecord) (k : NodeState) (stored : StoresOf rs k) where
  -- the same by the records before it
  follows : (r : RedoRecord) → MayFollow k.stored r → MayFollow (stored_by nothing_stored rs) r
  follows r may = subst (λ s. MayFollow s r) stored (record { listed = may.listed; stored = may.stored })

  fits_there : (r : RedoRecord) → FitsDoubts undo k.stored r → FitsDoubts undo (stored_by nothing_stored rs) r
  fits_there r fits = subst (λ s. FitsDoubts undo s r) stored (acks_do_not_matter undo k.stored (unacked k.stored).durable.kept r fits)

  disk_after : (w : Option RedoRecord) → IfSome w (IsFitting undo k) → DiskFits undo rs → DiskFits undo (rs ++ option_to_list w)
  disk_after None fits now = subst (DiskFits undo) (sym (append-nil rs)) now
  disk_after (Some r) fits now = disk_with undo rs now r (follows r fits.may) (fits_there r fits.fits)

  -- the branches in doubt after it need no more
  same_doubts : (w : Option RedoRecord) → doubt_extents (with_wrote (unacked k.stored) w).doubts ≡ extents_in_doubt (rs ++ option_to_list w)
  same_doubts w = ap (λ s. doubt_extents (with_wrote s w).doubts) stored ∙ sym (ap (λ s. doubt_extents s.doubts) (stored_with rs w))

  no_more : (w : Option RedoRecord) → IfSome w (IsFitting undo k) → extents_in_doubt (rs ++ option_to_list w) ≤ extents_used k
  unfolding applied
  no_more None fits = let same = same_doubts None in omega (arith, same)
  no_more (Some r) fits = let same = same_doubts (Some r) in let less = fits.less in omega (arith, same, less)

-- the branches in doubt by these records need no more than this node used, if there is one
abbrev NeedsNoMoreThan : List RedoRecord → Option NodeState → Type 0
NeedsNoMoreThan rs o = IfSome o (λ k. extents_in_doubt rs ≤ extents_used k)

-- ---- a start

started_uses : (rs : List RedoRecord) (boot : ℕ) → extents_used (start_of (rs ++ records.Boot boot ∷ [])) ≡ extents_in_doubt rs
unfolding start_of applied
started_uses rs boot = let same = ap (λ s. doubt_extents s.doubts) (stored_with rs (Some (records.Boot boot))) in omega (arith, same)

-- ---- runs

module _ (t : History) where
  -- These facts are those of a lawful run.
  record Reached (f : Facts) : Type 0 where
    before : List Happening
    is : facts_of t.places t.commands (first_facts t.places) before ≡ f
    lawful : IsLawful t.places t.commands (first_facts t.places) before

  -- the run so far
  abbrev run_of : List Happening → History
  run_of before = record { places = t.places; commands = t.commands; of_a_script = t.of_a_script; trace = before }

  -- what each node stores is what its records say
  abbrev AllStored : Facts → Type 0
  AllStored f = AllStand (λ p rs. Unit {0}) (λ p rs k. StoresOf rs k) stores t.places f

  -- disks and nodes
  abbrev AllKept : Facts → Type 0
  AllKept f = (n : ℕ) → DiskFits (place_at t.places n).undo (records_at f n) × IfSome (node_at f n) (HasUndo (place_at t.places n))

  module _ (f : Facts) (reached : Reached f) (stand : AllStored f) (now : AllKept f) where
    -- a turn of a node
    module _ (u : Turn) (k : NodeState) (may : MayTurn t.places f u k) where
      abbrev here : Place
      here = place_at t.places u.node

      up : node_at (facts_at (run_of reached.before)) u.node ≡ Some k
      up = subst (λ g. node_at g u.node ≡ Some k) (sym reached.is) may.up

      ready : IsReady here k
      ready = nodes_are_ready turns_stay_ready starts_are_ready rows_do_not_matter (run_of reached.before) reached.lawful (counts_are_few (run_of reached.before) reached.lawful) u.node k up

      expected : IsExpected u.input
      expected = comers_are_expected (run_of reached.before) reached.lawful u.node k up u.input u.took (subst (λ g. Comes g k u.node u.input u.took) (sym reached.is) may.comes)

      stored : StoresOf (records_at f u.node) k
      stored = at_node (λ p rs. Unit {0}) (λ p rs k. StoresOf rs k) stores t.places f u.node (stand.nodes u.node) k may.up

      has_undo : HasUndo here k
      has_undo = subst (λ o. IfSome o (HasUndo here)) may.up (now u.node).1

      fitting : (w : Option RedoRecord) → IfSome w (IsNext k.stored) → IfSome w (FitsDoubts here.undo k.stored) → IfSome w (NeedsNoMore k) → IfSome w (IsFitting here.undo k)
      fitting None next fits less = tt
      fitting (Some r) next fits less = record { may = next.0; fits = fits; less = less }

      turn_fits : IfSome (turn_of here k u.input).wrote (IsFitting here.undo k)
      turn_fits =
          fitting (turn_of here k u.input).wrote (turns_stay_ready here k u.input expected ready).1 (records_fit_doubts here k u.input expected.fit ready.ids has_undo)
          (records_need_no_more here k u.input expected.fit has_undo)

      after : HasUndo here (turn_of here k u.input).after
      after = turns_keep_undo here k u.input expected.fit ready.rows ready.ids has_undo

      -- the record that stands, where the turn may be cut
      wrote_fits : IfSome u.wrote (IsFitting here.undo k)
      unfolding turn_of
      wrote_fits = of_wrote here k u (serves t.places f u k may) (λ w. IfSome w (IsFitting here.undo k)) tt turn_fits

      whole_disk : DiskFits here.undo (records_at f u.node ++ option_to_list (turn_of here k u.input).wrote)
      whole_disk = disk_after here.undo (records_at f u.node) k stored (turn_of here k u.input).wrote turn_fits (now u.node).0

      cut_disk : DiskFits here.undo (records_at f u.node ++ option_to_list u.wrote)
      cut_disk = disk_after here.undo (records_at f u.node) k stored u.wrote wrote_fits (now u.node).0

    -- what becomes of a node
    goes_kept : (n : ℕ) {o : Option NodeState} {rs : List RedoRecord} → Goes t.places f n o rs → DiskFits (place_at t.places n).undo rs × IfSome o (HasUndo (place_at t.places n))
    goes_kept n Stays = now n
    goes_kept n (Turns u k may is) =
        subst (λ m. DiskFits (place_at t.places m).undo (records_at f m ++ option_to_list (turn_of (place_at t.places m) k u.input).wrote) × HasUndo (place_at t.places m) (turn_of (place_at t.places m) k u.input).after) is
        (whole_disk u k may, after u k may)
    goes_kept n (Is_cut u k may is) = (subst (λ m. DiskFits (place_at t.places m).undo (records_at f m ++ option_to_list u.wrote)) is (cut_disk u k may), tt)
    goes_kept n Stops = ((now n).0, tt)
    goes_kept n (Starts boot down next) =
        let disk : DiskFits (place_at t.places n).undo (records_at f n) = (now n).0 in
        (disk_started (place_at t.places n).undo (records_at f n) disk boot, starts_have_undo (place_at t.places n) (records_at f n) boot disk.follow disk.fits)

    kept_on : (h : Happening) → MayHappen t.places t.commands f h → AllKept (facts_after t.places t.commands f h)
    kept_on h may n = goes_kept n (goes_so t.places f t.commands stand.even h n may)

    reached_on : (h : Happening) → MayHappen t.places t.commands f h → Reached (facts_after t.places t.commands f h)
    unfolding facts_of
    reached_on h may = record {
      before = reached.before ++ h ∷ [];
      is = facts_on t.places t.commands (first_facts t.places) reached.before (h ∷ []) ∙ ap (λ g. facts_after t.places t.commands g h) reached.is;
      lawful = lawful_on t.places t.commands (first_facts t.places) reached.before h reached.lawful (subst (λ g. MayHappen t.places t.commands g h) (sym reached.is) may);
    }

    -- the space at a turn
    space_turn : (u : Turn) (k : NodeState) → MayTurn t.places f u k → extents_in_doubt (records_at f u.node ++ option_to_list u.wrote) ≤ extents_used k
    space_turn u k may = no_more (place_at t.places u.node).undo (records_at f u.node) k (stored u k may) u.wrote (wrote_fits u k may)

    -- of a node that is up
    space_up : (n : ℕ) (k : NodeState) → node_at f n ≡ Some k → extents_in_doubt (records_at f n) ≤ extents_used k
    space_up n k there =
        let is : StoresOf (records_at f n) k = at_node (λ p rs. Unit {0}) (λ p rs k. StoresOf rs k) stores t.places f n (stand.nodes n) k there in
        let same = ap (λ s. doubt_extents s.doubts) is in
        omega (arith, same)

    -- and at a start
    start_fits : (h : Happening) → MayHappen t.places t.commands f h → StartFits t.places f h
    start_fits (happenings.Started n boot) may = (started_uses (records_at f n) boot, in_doubt_fit (place_at t.places n).undo (records_at f n) (now n).0)
    start_fits _ may = tt

    -- the disk of a node that is down needs no more than the node used when it was last up
    down_on : (n : ℕ) (before : Option NodeState) {o : Option NodeState} {rs : List RedoRecord} → Goes t.places f n o rs → o ≡ None → NeedsNoMoreThan (records_at f n) (seen_last before (node_at f n))
        → NeedsNoMoreThan rs (seen_last before (node_at f n))
    down_on n before Stays none less = less
    down_on n before (Turns u k may is) none less = absurd cc
    down_on n before (Is_cut u k may is) none less =
        subst (λ m. NeedsNoMoreThan (records_at f m ++ option_to_list u.wrote) (seen_last before (node_at f m))) is
        (subst (λ x. NeedsNoMoreThan (records_at f u.node ++ option_to_list u.wrote) (seen_last before x)) (sym may.up) (space_turn u k may))
    down_on n before Stops none less = less
    down_on n before (Starts boot down next) none less = absurd cc

  -- all that is known of a run so far
  record AllOf (f : Facts) : Type 0 where
    reached : Reached f
    stand : AllStored f
    kept : AllKept f

  on : (f : Facts) (tr : Trail) (h : Happening) → AllOf f → MayHappen t.places t.commands f h → AllOf (facts_after t.places t.commands f h)
  on f tr h now may = record {
    reached = reached_on f now.reached now.stand now.kept h may;
    stand = all_stand_on (λ p rs. Unit {0}) (λ p rs k. StoresOf rs k) stores t.places t.commands f h now.stand may;
    kept = kept_on f now.reached now.stand now.kept h may;
  }

  first : AllOf (first_facts t.places)
  unfolding facts_of IsLawful
  first = record {
    reached = record { before = []; is = refl; lawful = tt };
    stand = first_all (λ p rs. Unit {0}) (λ p rs k. StoresOf rs k) stores t.places;
    kept = λ n. (
      first_disk (DiskFits (place_at t.places n).undo) (empty_disk (place_at t.places n).undo) (disk_started (place_at t.places n).undo [] (empty_disk (place_at t.places n).undo) 1) t.places n,
      first_node (λ o. IfSome o (HasUndo (place_at t.places n))) tt (no_undo_at_first (place_at t.places n)) t.places n,
    );
  }

  at_end : IsLawfulRun t → AllOf (facts_at t)
  at_end lawful = lawful_keeps t.places t.commands (λ f tr. AllOf f) on (first_facts t.places) no_trail t.trace first lawful

  -- ---- when a node was last up

  module _ (n : ℕ) where
    seen_on : (f g : Facts) (before : Option NodeState) → AllOf f → AllOf g → Goes t.places f n (node_at g n) (records_at g n) → NeedsNoMoreThan (records_at f n) (seen_last before (node_at f n))
        → NeedsNoMoreThan (records_at g n) (seen_last (seen_last before (node_at f n)) (node_at g n))
    seen_on f g before now then goes less = by (node_at g n) refl
      where
        by : (o : Option NodeState) → node_at g n ≡ o → NeedsNoMoreThan (records_at g n) (seen_last (seen_last before (node_at f n)) o)
        by None is = down_on f now.reached now.stand now.kept n before goes is less
        by (Some k) is = space_up g then.reached then.stand then.kept n k is

    up_to : (f : Facts) (before : Option NodeState) (hs : List Happening) → AllOf f → NeedsNoMoreThan (records_at f n) (seen_last before (node_at f n)) → IsLawful t.places t.commands f hs
        → NeedsNoMoreThan (records_at (facts_of t.places t.commands f hs) n) (last_up_from t.places t.commands n f before hs)
    unfolding facts_of IsLawful last_up_from
    up_to f before [] now less lawful = less
    up_to f before (h ∷ hs) now less lawful =
        let then : AllOf (facts_after t.places t.commands f h) = on f no_trail h now lawful.0 in
        up_to (facts_after t.places t.commands f h) (seen_last before (node_at f n)) hs then
        (seen_on f (facts_after t.places t.commands f h) before now then (goes_so t.places f t.commands now.stand.even h n lawful.0) less) lawful.1

    first_up : NeedsNoMoreThan (records_at (first_facts t.places) n) (seen_last None (node_at (first_facts t.places) n))
    first_up = by (node_at (first_facts t.places) n) refl
      where
        by : (o : Option NodeState) → node_at (first_facts t.places) n ≡ o → NeedsNoMoreThan (records_at (first_facts t.places) n) (seen_last None o)
        by None is = tt
        by (Some k) is = space_up (first_facts t.places) first.reached first.stand first.kept n k is

pub nodes_keep_undo : NodesKeepUndo
nodes_keep_undo t lawful n k up = subst (λ o. IfSome o (HasUndo (place_at t.places n))) up ((at_end t lawful).kept n).1

pub disks_fit_doubts : DisksFitDoubts
disks_fit_doubts t lawful n = ((at_end t lawful).kept n).0.fits

pub disks_need_no_more : DisksNeedNoMore
disks_need_no_more t lawful n = up_to t n (first_facts t.places) None t.trace (first t) (first_up t n) lawful

pub starts_always_fit : StartsAlwaysFit
starts_always_fit t lawful =
    of_facts t.places t.commands (StartFits t.places) (first_facts t.places) no_trail t.trace
    (lawful_each t.places t.commands (λ f tr. AllOf t f) (on t) (λ f tr h. StartFits t.places f h) (λ f tr h now may. start_fits t f now.reached now.stand now.kept h may) (first_facts t.places) no_trail t.trace (first t) lawful)

-- ---- up to a moment

lawful_upto : (places : List Place) (asked : List Command) (i : ℕ) (f : Facts) (hs : List Happening) → IsLawful places asked f hs → IsLawful places asked f (take i hs)
unfolding IsLawful
lawful_upto places asked zero f hs lawful = tt
lawful_upto places asked (suc i) f [] lawful = tt
lawful_upto places asked (suc i) f (h ∷ hs) lawful = (lawful.0, lawful_upto places asked i (facts_after places asked f h) hs lawful.1)

pub every_run_keeps_undo : EveryRunKeepsUndo
every_run_keeps_undo t lawful = record {
  nodes = λ i n k up. nodes_keep_undo (run_upto t i) (lawful_upto t.places t.commands i (first_facts t.places) t.trace lawful) n k up;
  disks = λ i n. disks_need_no_more (run_upto t i) (lawful_upto t.places t.commands i (first_facts t.places) t.trace lawful) n;
  starts = starts_always_fit t lawful;
}
