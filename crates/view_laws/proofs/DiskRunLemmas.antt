-- In every lawful run the rows that the records of a disk make are those that the records say, branch by branch.
use Rattle.std.proofs.Common.{◌≡◌, ℕ, ◌≤◌, List, [], ◌∷◌, ◌++◌, unwrap_or, Option, Some, None, inl, inr, refl, sym, ap, subst, subst₂, ◌∙◌, append-nil}
use Rattle.std.specs.Prelude.{true, IfSome, fold}
use Rattle.std.specs.Option.{option_to_list}
use Rattle.std.specs.List.{AllByRecursion}
use Rattle.tran_ids.proofs.NumberedLemmas.{set_or_before}
use Rattle.redo_record.specs.Kept.{kept_after}
use Rattle.redo_record.specs.Durable.{durable_after, no_durable, durable}
use Rattle.agreement.specs.Events.{Event}
use Rattle.node_rules.specs.Data.{BranchId, RedoRecord, Durable, Input}
use Rattle.node_rules.specs.Data.params
use Rattle.node_rules.specs.Data.records
use Rattle.node_rules.specs.Words.{numbered, set_numbered, item_at}
use Rattle.node_rules.specs.NodeState.{kept_row_id}
use Rattle.node_rules.specs.Records.{nothing_stored}
use Rattle.run_rules.specs.Branches.{no_trail}
use Rattle.run_rules.specs.Data.{Turn, Happening}
use Rattle.run_rules.specs.Data.happenings
use Rattle.run_rules.specs.Facts.{Facts, first_facts, place_at, records_at, with_boot, facts_after, facts_of}
use Rattle.run_rules.specs.Lawful.{History, IsLawfulRun}
use Rattle.run_claims.specs.Knowledge.{IsPurge}
use Rattle.run_base_laws.specs.EventLaws.{TellsAsEvents, EachEventFrom}
use Rattle.run_base_laws.specs.EventRows.{MayStand}
use Rattle.run_base_laws.specs.NodeLaws.{EachFactFrom, count_of}
use Rattle.run_base_laws.specs.RunEvents.{wrote_event, with_event, with_record, events_after, events_from}
use Rattle.run_base_laws.proofs.EventsStandLemmas.{BranchStatus, first_disk, run_stands, turns_tell_as_events}
use Rattle.run_base_laws.proofs.LaterLemmas.{Any, Added, Nothing_more, added_on, added_wider, wrote_added, turn_added, stop_added}
use Rattle.run_rules.proofs.ListLemmas.{all_append, all_weaker}
use Rattle.tree_laws.proofs.PrefixLemmas.{so_far, f_at, e_at, one_on, more_on}
use Rattle.tree_laws.proofs.TimeLemmas.{Part, part_lawful, part_of, may_of, each_at, fact_at, keep_on}
use Rattle.book_laws.specs.WriteLaws.{IsToBeWritten, WritesDue}
use Rattle.book_laws.proofs.WriteLemmas.{records_are_due}
use Rattle.book_laws.proofs.KeptLemmas.{durable_stored}
use Rattle.view_laws.proofs.OneMoreLemmas.{says}
use Rattle.view_laws.proofs.RowLemmas.{about, row_with, says_more, Fits, row_on}
use Rattle.view_laws.proofs.SaidLemmas.{HasLeft, Stood, stood_later, stood_now, fits_so, row_left}

fold_last : {A B : Type 0} (f : B → A → B) (z : B) (xs : List A) (x : A) → fold f z (xs ++ x ∷ []) ≡ f (fold f z xs) x
fold_last f z [] x = refl
fold_last f z (y ∷ ys) x = fold_last f (f z y) ys x

pub kept_of : (d : Durable) (r : RedoRecord) → (durable_after d r).kept ≡ kept_after d.kept r
unfolding durable_after kept_after
kept_of d (records.Boot n) = refl
kept_of d (records.Table t) = refl
kept_of d (records.Link l) = refl
kept_of d (records.Synonym y) = refl
kept_of d (records.Param (params.Recovery on)) = refl
kept_of d (records.Param (params.Strength n)) = refl
kept_of d (records.Sealed r) = refl
kept_of d (records.Decided r) = refl
kept_of d (records.Ended b o) = refl
kept_of d (records.Forced b o given) = refl
kept_of d (records.Met b o mixed) = refl
kept_of d (records.Forgot b) = refl
kept_of d (records.Hidden b) = refl
kept_of d (records.Image i) = refl

-- the rows of these records are those that they say
abbrev pub SaysRows : List RedoRecord → Type 0
SaysRows rs = (b : BranchId) → item_at kept_row_id (durable rs).kept b ≡ row_with (says rs b)

abbrev pub Disk : List Event → List RedoRecord → Type 0
Disk e rs = AllByRecursion (Stood e) rs × SaysRows rs

abbrev pub Disks : Facts → List Event → Type 0
Disks f e = (n : ℕ) → Disk e (records_at f n)

rows_more : (rs : List RedoRecord) (r : RedoRecord) → SaysRows rs → ((b : BranchId) → count_of kept_row_id b (durable rs).kept ≤ 1) → ((b : BranchId) → about b r ≡ true → Fits (says rs b) r) → SaysRows (rs ++ r ∷ [])
rows_more rs r now single fits b =
    ap (λ (d : Durable). item_at kept_row_id d.kept b) (fold_last durable_after no_durable rs r)
    ∙ (ap (λ ks. item_at kept_row_id ks b) (kept_of (durable rs) r)
    ∙ (row_on b (durable rs).kept (says rs b) (now b) (single b) r (fits b) ∙ sym (ap row_with (says_more rs r b))))

-- one disk that is set
set_at : (f : Facts) (e : List Event) → Disks f e → (m i : ℕ) (rs : List RedoRecord) → Disk e rs → Disk e (unwrap_or (numbered (set_numbered f.records m rs) i) [])
set_at f e now m i rs new = elim (set_or_before f.records m i rs) [
  | inl still ↦ subst (λ (o : Option (List RedoRecord)). Disk e (unwrap_or o [])) (sym still) (now i)
  | inr set ↦ subst (λ (o : Option (List RedoRecord)). Disk e (unwrap_or o [])) (sym set.1) new
]

module _ (t : History) (whole : IsLawfulRun t) where
  abbrev AreDisks : List Happening → Type 0
  AreDisks hs = Disks (f_at t hs) (e_at t hs)

  module _ (hs : List Happening) (h : Happening) (rest : List Happening) (is : hs ++ h ∷ rest ≡ t.trace) (now : AreDisks hs) where
    abbrev f : Facts
    f = f_at t hs

    abbrev e : List Event
    e = e_at t hs

    abbrev then_events : Happening → List Event
    then_events x = events_after t.places t.commands f x e

    grown : (x : Happening) → Added Any e (then_events x)
    grown (happenings.Turn u) = added_on (wrote_added u e) (added_wider (λ y so. tt) (turn_added f (facts_after t.places t.commands f (happenings.Turn u)) u e))
    grown (happenings.Stopped n) = added_wider (λ y so. tt) (stop_added f (facts_after t.places t.commands f (happenings.Stopped n)) n e)
    grown (happenings.Started n boot) = Nothing_more
    grown (happenings.Begun c) = Nothing_more
    grown (happenings.Cut m n) = Nothing_more
    grown (happenings.Join m n) = Nothing_more
    grown (happenings.Lost k) = Nothing_more

    old : (x : Happening) → Disks f (then_events x)
    old x n = (all_weaker (Stood e) (Stood (then_events x)) (λ r so. stood_later (grown x) r so) (records_at f n) (now n).0, (now n).1)

    stands : BranchStatus t.places t.commands t.of_a_script.each f e
    stands = run_stands (so_far t hs) (part_lawful t whole hs (part_of t whole hs h rest is))

    single : (n : ℕ) (b : BranchId) → count_of kept_row_id b (durable (records_at f n)).kept ≤ 1
    single n b = subst (λ (d : Durable). count_of kept_row_id b d.kept ≤ 1) (durable_stored nothing_stored (records_at f n)) ((stands.0.nodes n).0.0.0.one b)

    tells : TellsAsEvents f e h
    tells = each_at t.places t.commands TellsAsEvents (first_facts t.places) hs h rest [] (subst (λ xs. EachEventFrom TellsAsEvents t.places t.commands (first_facts t.places) [] xs) (sym is) (turns_tell_as_events t whole))

    -- a purge is of a branch that has left
    purged_left : (u : Turn) (input : Input) (b : BranchId) → IsPurge (item_at kept_row_id (durable (records_at f u.node)).kept b) b input → HasLeft e b
    purged_left u input b purge =
        row_left e b (records_at f u.node) (now u.node).0
        (λ none. subst (λ o. IsPurge o b input) ((now u.node).1 b ∙ none) purge)

    -- one record more
    disk_with : (x : Happening) (rs : List RedoRecord) (r : RedoRecord) → Disk (then_events x) rs → ((b : BranchId) → count_of kept_row_id b (durable rs).kept ≤ 1) → ((b : BranchId) → about b r ≡ true → Fits (says rs b) r) → Stood (then_events x) r
        → Disk (then_events x) (rs ++ r ∷ [])
    disk_with x rs r was one fits so = (all_append (Stood (then_events x)) rs (r ∷ []) was.0 (so, tt), rows_more rs r was.1 one fits)

    turn_disk : (u : Turn) (w : Option RedoRecord) → u.wrote ≡ w → IfSome w (MayStand e) → ((r : RedoRecord) → w ≡ Some r → (b : BranchId) → r ≡ records.Hidden b → HasLeft e b)
        → Disk (then_events (happenings.Turn u)) (records_at f u.node ++ option_to_list w)
    turn_disk u None wrote may hides = subst (Disk (then_events (happenings.Turn u))) (sym (append-nil (records_at f u.node))) (old (happenings.Turn u) u.node)
    turn_disk u (Some r) wrote may hides =
        let written : Stood (with_record u e) r = subst (λ w. Stood (with_event (wrote_event u.node w) e) r) (sym wrote) (stood_now e u.node r may (λ b none. (stands.1.untaught b none).0) (hides r refl)) in
        disk_with (happenings.Turn u) (records_at f u.node) r (old (happenings.Turn u) u.node) (single u.node) (λ b here. fits_so e (records_at f u.node) (now u.node).0 r may b here)
        (stood_later (turn_added f (facts_after t.places t.commands f (happenings.Turn u)) u e) r written)

    after_is : Disks (facts_after t.places t.commands f h) (then_events h)
    unfolding facts_after
    after_is = by h is tells (old h) refl
      where
        due : (u : Turn) (at : hs ++ happenings.Turn u ∷ rest ≡ t.trace) → WritesDue t.places f (happenings.Turn u)
        due u at = fact_at t.places t.commands (WritesDue t.places) (first_facts t.places) hs (happenings.Turn u) rest (subst (λ xs. EachFactFrom (WritesDue t.places) t.places t.commands (first_facts t.places) xs) (sym at) (records_are_due t whole))

        hides : (u : Turn) (at : hs ++ happenings.Turn u ∷ rest ≡ t.trace) (r : RedoRecord) → u.wrote ≡ Some r → (b : BranchId) → r ≡ records.Hidden b → HasLeft e b
        hides u at r wrote b hidden =
            let may = may_of t whole hs (happenings.Turn u) rest at in
            let purge : IsToBeWritten (place_at t.places u.node) f may.0 u.node u.input (records.Hidden b) = subst (λ w. IfSome w (IsToBeWritten (place_at t.places u.node) f may.0 u.node u.input)) (wrote ∙ ap Some hidden) (due u at may.0 may.1.up) in
            purged_left u u.input b (purge no_trail no_trail)

        by : (x : Happening) → hs ++ x ∷ rest ≡ t.trace → TellsAsEvents f e x → Disks f (then_events x) → h ≡ x → Disks (facts_after t.places t.commands f x) (then_events x)
        by (happenings.Turn u) at told was same i =
            set_at f (then_events (happenings.Turn u)) was u.node i (records_at f u.node ++ option_to_list u.wrote) (turn_disk u u.wrote refl told.0 (λ r wrote b hidden. hides u at r wrote b hidden))
        by (happenings.Started m boot) at told was same i =
            set_at f (then_events (happenings.Started m boot)) was m i (with_boot f m boot)
            (disk_with (happenings.Started m boot) (records_at f m) (records.Boot boot) (was m) (single m) (λ b here. absurd cc) tt)
        by (happenings.Stopped m) at told was same i = was i
        by (happenings.Begun c) at told was same i = was i
        by (happenings.Cut a b) at told was same i = was i
        by (happenings.Join a b) at told was same i = was i
        by (happenings.Lost k) at told was same i = was i

  disks_on : (hs : List Happening) (h : Happening) (rest : List Happening) → hs ++ h ∷ rest ≡ t.trace → AreDisks hs → AreDisks (hs ++ h ∷ [])
  disks_on hs h rest is now = subst₂ Disks (sym (one_on t hs h)) (sym (more_on t hs h)) (after_is hs h rest is now)

  first_disks : AreDisks []
  unfolding facts_of events_from durable_after
  first_disks n = first_disk (Disk []) (tt, λ b. refl) ((tt, tt), λ b. refl) t.places n

  pub disks_at : (hs : List Happening) → Part t whole hs → AreDisks hs
  disks_at hs part = keep_on t whole AreDisks disks_on [] hs part first_disks
