-- While a node goes on without a start, its clock stays above an SCN that it had reached, and what its branches seal and decide
-- comes later.
use Rattle.std.proofs.Common.{◌≡◌, ℕ, ◌+◌, ◌<◌, ◌≤◌, Bool, true, false, List, [], ◌∷◌, ◌++◌, take, drop, length, zero, suc, IfSome, Option, Some, None, inl, inr, refl, sym, ap, subst, ◌∙◌, append-nil, append_assoc, arith}
use Rattle.std.specs.Option.{option_to_list}
use Rattle.std.specs.List.{list_any}
use Rattle.std.proofs.lemmas.Bool.Decides.{nat_tests}
use Rattle.std.proofs.lemmas.List.{take-append-drop}
use Rattle.std.specs.Prelude.{nat_lt}
use Rattle.node_rules.specs.Data.{RedoRecord, Value, Input}
use Rattle.node_rules.specs.Data.records
use Rattle.node_rules.specs.Data.decisions
use Rattle.node_rules.specs.Data.inputs
use Rattle.node_rules.specs.NodeState.{NodeState}
use Rattle.node_rules.specs.Rows.{same_value, get}
use Rattle.node_rules.specs.Turn.{turn_of, heard, draft_of}
use Rattle.run_rules.specs.Data.{Entry, Happening}
use Rattle.run_rules.specs.Data.entries
use Rattle.run_rules.specs.Data.happenings
use Rattle.run_rules.specs.Book.{Follows, EachAgainst, At, AboveSeals, rows_until}
use Rattle.run_rules.specs.Each.{facts_upto}
use Rattle.run_rules.specs.Entries.{entries_of, entries_in, book_of}
use Rattle.run_rules.specs.Facts.{Facts, first_facts, place_at, node_at, records_at, with_boot, facts_after}
use Rattle.run_rules.specs.Lawful.{MayHappen, History, IsLawfulRun, boots}
use Rattle.run_rules.specs.Runs.{keys_in_doubt}
use Rattle.run_rules.proofs.BootLemmas.{boots_started}
use Rattle.run_rules.proofs.FactLemmas.{book_next}
use Rattle.run_base_laws.specs.IdLaws.{IsRecordOf}
use Rattle.run_base_laws.specs.NodeLaws.{IsLater, ClockRises, EachFactFrom}
use Rattle.run_base_laws.specs.RunEvents.{events_of}
use Rattle.run_base_laws.proofs.ClockLemmas.{Since as Rises, since, clocks_rise}
use Rattle.run_base_laws.proofs.EventsStandLemmas.{BranchStatus, run_stands, node_so, owned_so}
use Rattle.run_base_laws.proofs.LawfulLemmas.{Serves, serves}
use Rattle.run_base_laws.proofs.NodeLemmas.{Goes, Stays, Turns, Is_cut, Stops, Starts, goes_so}
use Rattle.run_base_laws.proofs.TurnEventLemmas.{record_own}
use Rattle.tree_laws.proofs.AgreeLemmas.{runs_agree}
use Rattle.tree_laws.proofs.PrefixLemmas.{so_far, f_at, one_on}
use Rattle.tree_laws.proofs.TimeLemmas.{Part, part_lawful, part_of, may_of, fact_at, keep_on}
use Rattle.book_laws.specs.SealLaws.{ComesFirst}
use Rattle.book_laws.proofs.OpenLemmas.{SealsFit, seals_fit_next}
use Rattle.book_laws.proofs.PlaceLemmas.{IsOne, place_of}
use Rattle.book_laws.proofs.RowLemmas.{run_book}
use Rattle.book_laws.proofs.ScnLemmas.{every_scn_is_later}
use Rattle.book_laws.proofs.SealLemmas.{seals_come_first}
use Rattle.repeat_read_laws.specs.RepeatLaws.{IsAbove, NoneIsForcedBetween, EveryReadStays}
use Rattle.repeat_read_laws.proofs.StayLemmas.{one_of_joined, row_stays}

boots_more : (xs ys : List RedoRecord) → boots (xs ++ ys) ≡ boots xs + boots ys
boots_more [] ys = omega arith
boots_more (records.Boot n ∷ xs) ys = let rest : boots (xs ++ ys) ≡ boots xs + boots ys = boots_more xs ys in omega (arith, rest)
boots_more (_ ∷ xs) ys = boots_more xs ys

heard_rises : (k : NodeState) (input : Input) → k.clock ≤ (heard k input).clock
heard_rises k (inputs.Message m) = omega arith
heard_rises k _ = omega arith

-- what an entry has of the SCN of a seal or a decision
abbrev IsLate : ℕ → ℕ → Entry → Type 0
IsLate n c (entries.Sealed b g cs m) = b.node ≡ n → c ≤ m
IsLate n c (entries.Decided b g cs m) = b.node ≡ n → c < m
IsLate n c _ = Unit {0}

module _ (t : History) (whole : IsLawfulRun t) (n c : ℕ) (start : List Happening) where
  abbrev begun : ℕ
  begun = boots (records_at (f_at t start) n)

  -- After more happenings: the node has started no less often, the book has more entries; and where it has started no more often, its
  -- clock has reached the SCN and these entries come later.
  record GoesOn (z : Facts) : Type 0 where
    booted : begun ≤ boots (records_at z n)
    newer : List Entry
    is : z.book ≡ (f_at t start).book ++ newer
    clock : boots (records_at z n) ≡ begun → (k : NodeState) → node_at z n ≡ Some k → c ≤ k.clock
    late : boots (records_at z n) ≡ begun → (e : Entry) → IsOne e newer → IsLate n c e

  module _ (hs : List Happening) (h : Happening) (rest : List Happening) (is : hs ++ h ∷ rest ≡ t.trace) (now : GoesOn (f_at t hs)) where
    abbrev f : Facts
    f = f_at t hs

    abbrev g : Facts
    g = facts_after t.places t.commands (f_at t hs) h

    lawful : IsLawfulRun (so_far t hs)
    lawful = part_lawful t whole hs (part_of t whole hs h rest is)

    stand : BranchStatus t.places t.commands t.of_a_script.each (f_at t hs) (events_of (so_far t hs))
    stand = run_stands (so_far t hs) lawful

    may : MayHappen t.places t.commands (f_at t hs) h
    may = may_of t whole hs h rest is

    more_boots : {o : Option NodeState} {rs : List RedoRecord} → Goes t.places f n o rs → boots (records_at f n) ≤ boots rs
    more_boots Stays = omega arith
    more_boots (Turns u k may here) = (let more : _ ≡ _ + _ = boots_more (records_at f n) (option_to_list (turn_of (place_at t.places n) k u.input).wrote) in omega (arith, more))
    more_boots (Is_cut u k may here) = (let more : _ ≡ _ + _ = boots_more (records_at f n) (option_to_list u.wrote) in omega (arith, more))
    more_boots Stops = omega arith
    more_boots (Starts boot down next) = (let more : boots (with_boot f n boot) ≡ boots (records_at f n) + 1 = boots_started (records_at f n) boot in omega (arith, more))

    -- the clock
    clock_on : {o : Option NodeState} {rs : List RedoRecord} → Goes t.places f n o rs → boots rs ≡ begun → boots (records_at f n) ≡ begun → (k : NodeState) → o ≡ Some k → c ≤ k.clock
    unfolding turn_of
    clock_on Stays same before k up = now.clock before k up
    clock_on (Turns u j may here) same before k up =
        let serving : Serves (place_at t.places u.node) j u = serves t.places f u j may in
        let rises : Rises (place_at t.places u.node) u.input j.clock (draft_of (place_at t.places u.node) j u.input) = since (place_at t.places u.node) u.input j.clock serving.step (heard_rises j u.input) in
        let was : c ≤ j.clock = now.clock before j (subst (λ m. node_at f m ≡ Some j) here may.up) in
        let high : j.clock ≤ (draft_of (place_at t.places n) j u.input).after.clock = subst (λ m. j.clock ≤ (draft_of (place_at t.places m) j u.input).after.clock) here rises.0 in
        let it : (turn_of (place_at t.places n) j u.input).after ≡ k = cc up in
        subst (λ (z : NodeState). c ≤ z.clock) it (omega (arith, was, high))
    clock_on (Is_cut u j may here) same before k up = absurd cc
    clock_on Stops same before k up = absurd cc
    clock_on (Starts boot down next) same before k up = (let more : boots (with_boot f n boot) ≡ boots (records_at f n) + 1 = boots_started (records_at f n) boot in absurd (omega (arith, more, same, before)))

    goes : Goes t.places f n (node_at g n) (records_at g n)
    goes = goes_so t.places f t.commands stand.0.even h n may

    -- the entries of a turn
    entries_late : boots (records_at f n) ≡ begun → (x : Happening) → h ≡ x → (e : Entry) → IsOne e (entries_in x) → IsLate n c e
    entries_late before (happenings.Turn u) at = wrote_late u.wrote own rises
      where
        turn_may : MayHappen t.places t.commands f (happenings.Turn u)
        turn_may = subst (MayHappen t.places t.commands f) at may

        own : IfSome u.wrote (IsRecordOf (λ b. b.node ≡ u.node))
        own = record_own t.places t.commands t.of_a_script.each f (events_of (so_far t hs)) u turn_may.0 stand.1 stand.0.even (node_so t.places t.commands t.of_a_script.each f (events_of (so_far t hs)) stand)
            (owned_so t.places t.commands t.of_a_script.each f (events_of (so_far t hs)) stand) turn_may.1

        clock_rises : ClockRises t.places f (happenings.Turn u)
        clock_rises =
            fact_at t.places t.commands (ClockRises t.places) (first_facts t.places) hs (happenings.Turn u) rest
            (subst (EachFactFrom (ClockRises t.places) t.places t.commands (first_facts t.places)) (sym (ap (λ y. hs ++ y ∷ rest) (sym at) ∙ is)) (clocks_rise t whole))

        rises : IfSome u.wrote (IsLater turn_may.0.clock)
        rises = (clock_rises turn_may.0 turn_may.1.up).1

        reached : u.node ≡ n → c ≤ turn_may.0.clock
        reached here = now.clock before turn_may.0 (subst (λ m. node_at f m ≡ Some turn_may.0) here turn_may.1.up)

        one : (e x : Entry) → IsOne e (x ∷ []) → IsLate n c x → IsLate n c e
        one e x (inl here) late = subst (IsLate n c) here late
        one e x (inr none) late = absurd none

        wrote_late : (o : Option RedoRecord) → IfSome o (IsRecordOf (λ b. b.node ≡ u.node)) → IfSome o (IsLater turn_may.0.clock) → (e : Entry) → IsOne e (entries_of u.node o) → IsLate n c e
        wrote_late None own rises e there = absurd there
        wrote_late (Some (records.Sealed r)) own rises e there =
            one e (entries.Sealed r.me r.root r.changes r.scn) there (λ here. (let at : u.node ≡ n = sym own ∙ here in let was = reached at in omega (arith, was, rises)))
        wrote_late (Some (records.Decided r)) own rises e there =
            one e (entries.Decided r.me r.root r.changes r.scn) there (λ here. (let at : u.node ≡ n = sym own ∙ here in let was = reached at in omega (arith, was, rises)))
        wrote_late (Some (records.Table x)) own rises e there = one e (entries.Made u.node x) there tt
        wrote_late (Some (records.Ended b d)) own rises e there = one e (entries.Ended b d) there tt
        wrote_late (Some (records.Forced b d given)) own rises e there = one e (entries.Forced b d) there tt
        wrote_late (Some (records.Met b d mixed)) own rises e there = one e (entries.Met b d mixed) there tt
        wrote_late (Some _) own rises e there = absurd there
    entries_late before _ at = λ e there. absurd there

    before : boots (records_at g n) ≡ begun → boots (records_at f n) ≡ begun
    before same = let more : boots (records_at f n) ≤ boots (records_at g n) = more_boots goes in let old = now.booted in omega (arith, more, old, same)

    after : GoesOn g
    after = record {
      booted = (let more : boots (records_at f n) ≤ boots (records_at g n) = more_boots goes in let old = now.booted in omega (arith, more, old));
      newer = now.newer ++ entries_in h;
      is = book_next t.places t.commands f h ∙ (ap (λ (es : List Entry). es ++ entries_in h) now.is ∙ append_assoc (f_at t start).book now.newer (entries_in h));
      clock = λ same k up. clock_on goes same (before same) k up;
      late = λ same e there. elim (one_of_joined e now.newer (entries_in h) there) [
        | inl old ↦ now.late (before same) e old
        | inr new ↦ entries_late (before same) h refl e new
      ];
    }

    goes_on : GoesOn (f_at t (hs ++ h ∷ []))
    goes_on = subst GoesOn (sym (one_on t hs h)) after

  first : (k : NodeState) → node_at (f_at t start) n ≡ Some k → c ≤ k.clock → GoesOn (f_at t start)
  first k up low = record {
    booted = omega arith;
    newer = [];
    is = sym (append-nil (f_at t start).book);
    clock = λ same j is. (let both : Some k ≡ Some j = sym up ∙ is in let one : k ≡ j = cc both in subst (λ (z : NodeState). c ≤ z.clock) one low);
    late = λ same e there. absurd there;
  }

  between : (mid : List Happening) → Part t whole (start ++ mid) → (k : NodeState) → node_at (f_at t start) n ≡ Some k → c ≤ k.clock → GoesOn (f_at t (start ++ mid))
  between mid part k up low = keep_on t whole (λ hs. GoesOn (f_at t hs)) (λ hs h rest is now. goes_on hs h rest is now) start mid part (first k up low)

-- ---- the book of a lawful run

fits_from : (older es : List Entry) → EachAgainst Follows older es → SealsFit older → SealsFit (older ++ es)
fits_from older [] all now = subst SealsFit (sym (append-nil older)) now
fits_from older (e ∷ es) all now = subst SealsFit (append_assoc older (e ∷ []) es) (fits_from (older ++ e ∷ []) es all.1 (seals_fit_next older e all.0 now))

seals_fit : (book : List Entry) → EachAgainst Follows [] book → SealsFit book
seals_fit book all = fits_from [] book all (record { global = λ b g cs scn there. absurd there; undecided = λ b g cs scn there. absurd there; settled = λ b g cs scn there. absurd there })

-- ---- two moments

take_more : {A : Type 0} (i j : ℕ) (xs : List A) → i ≤ j → (mid : List A) × (take j xs ≡ take i xs ++ mid)
take_more zero j xs le = (take j xs, refl)
take_more (suc i) zero xs le = absurd (omega (arith, le))
take_more (suc i) (suc j) [] le = ([], refl)
take_more (suc i) (suc j) (x ∷ xs) le = let rest = take_more i j xs (omega (arith, le)) in (rest.0, ap (λ ys. x ∷ ys) rest.1)

at_later : (xs ys : List Entry) (k : ℕ) (e : Entry) → At ys k e → At (xs ++ ys) (length xs + k) e
at_later [] ys k e at = let is : k ≡ 0 + k = omega arith in subst (λ p. At ys p e) is at
at_later (x ∷ xs) ys k e at = let is : suc (length xs + k) ≡ suc (length xs) + k = omega arith in subst (λ p. At (x ∷ (xs ++ ys)) p e) is (at_later xs ys k e at)

module _ (t : History) (whole : IsLawfulRun t) (i j : ℕ) (le : i ≤ j) (n : ℕ) (k : NodeState) (up : node_at (facts_upto t i) n ≡ Some k) (same : boots (records_at (facts_upto t j) n) ≡ boots (records_at (facts_upto t i) n))
    (scn : ℕ) (low : scn ≤ k.clock) (unforced : NoneIsForcedBetween t i j n scn) where
  abbrev hs0 : List Happening
  hs0 = take i t.trace

  abbrev hs1 : List Happening
  hs1 = take j t.trace

  abbrev older : List Entry
  older = (f_at t hs0).book

  part : Part t whole hs1
  part = record { rest = drop j t.trace; is = take-append-drop j t.trace }

  on : GoesOn t whole n scn hs0 (f_at t hs1)
  on =
      let mid = take_more i j t.trace le in
      subst (λ hs. GoesOn t whole n scn hs0 (f_at t hs)) (sym mid.1) (between t whole n scn hs0 mid.0 (subst (Part t whole) mid.1 part) k up low)

  abbrev s1 : History
  s1 = so_far t hs1

  lawful1 : IsLawfulRun s1
  lawful1 = part_lawful t whole hs1 part

  book_is : book_of hs1 ≡ older ++ on.newer
  book_is = sym (run_book s1) ∙ on.is

  all : EachAgainst Follows [] (older ++ on.newer)
  all = subst (EachAgainst Follows []) book_is (runs_agree s1 lawful1).0

  above_all : (e : Entry) → IsOne e on.newer → IsAbove n scn e
  above_all (entries.Sealed b g cs m) there = on.late same (entries.Sealed b g cs m) there
  above_all (entries.Decided b g cs m) there = on.late same (entries.Decided b g cs m) there
  above_all (entries.Forced b (decisions.Commit m)) there = λ here. by here (nat_lt scn m) refl
    where
      by : b.node ≡ n → (q : Bool) → nat_lt scn m ≡ q → scn < m
      by here true is = grind (arith, nat_tests, is)
      by here false is =
          let p = place_of (entries.Forced b (decisions.Commit m)) on.newer there in
          let at : At (f_at t hs1).book (length older + p.0) (entries.Forced b (decisions.Commit m))
          = subst (λ es. At es (length older + p.0) (entries.Forced b (decisions.Commit m))) (sym on.is) (at_later older on.newer p.0 (entries.Forced b (decisions.Commit m)) p.1) in
          let small : length older + p.0 < length older = unforced (length older + p.0) b m at here (grind (arith, nat_tests, is)) in
          absurd (omega (arith, small))
  above_all (entries.Forced b decisions.Rollback) there = tt
  above_all (entries.Made m x) there = tt
  above_all (entries.Ended b d) there = tt
  above_all (entries.Met b d mixed) there = tt

  stays : (table : List ℕ) (key : Value) → list_any (same_value key) (keys_in_doubt older n table) ≡ false → get (rows_until older n table scn) key ≡ get (rows_until (f_at t hs1).book n table scn) key
  stays table key certain =
      row_stays n table key scn older on.newer all (seals_fit (older ++ on.newer) all) (subst (EachAgainst ComesFirst []) book_is (seals_come_first s1 lawful1)) (subst AboveSeals book_is (every_scn_is_later s1 lawful1).above_seals) above_all certain
      ∙ ap (λ es. get (rows_until es n table scn) key) (sym on.is)

pub every_read_stays : EveryReadStays
every_read_stays t whole i j le n k up same scn low unforced table key certain = stays t whole i j le n k up same scn low unforced table key certain
