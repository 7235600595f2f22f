-- A turn leaves nodes, disks and events in step.
use Rattle.std.proofs.Common.{◌≡◌, ◌≢◌, ℕ, ◌≤◌, ◌==◌, Bool, true, false, List, [], ◌∷◌, ◌++◌, map, length, unwrap_or, Option, Some, None, refl, sym, ap, subst, subst₂, ◌∙◌, ◌⊎◌, inl, inr, true≢false, arith}
use Rattle.std.specs.Prelude.{IfSome}
use Rattle.std.specs.Option.{option_to_list}
use Rattle.std.specs.List.{AllByRecursion}
use Rattle.std.proofs.lemmas.Bool.Decides.{nat_tests}
use Rattle.tran_ids.proofs.NumberedLemmas.{set_length}
use Rattle.agreement.specs.Events.{Event, exit}
use Rattle.node_rules.specs.Data.{BranchId, KeptRow, RedoRecord, Place, Input}
use Rattle.node_rules.specs.Data.inputs
use Rattle.node_rules.specs.Data.records
use Rattle.node_rules.specs.Words.{numbered}
use Rattle.node_rules.specs.NodeState.{NodeState, live_id}
use Rattle.node_rules.specs.Records.{nothing_stored, stored_by}
use Rattle.node_rules.specs.Turn.{turn_of, heard, stamped}
use Rattle.run_rules.specs.Data.{Turn, Command}
use Rattle.run_rules.specs.Data.happenings
use Rattle.run_rules.specs.Branches.{is_among}
use Rattle.run_rules.specs.Facts.{Facts, no_place, place_at, node_at, records_at, kept_after, facts_after}
use Rattle.run_rules.specs.Lawful.{IsPlace, MayTurn, IsOwed, boots}
use Rattle.run_base_laws.specs.IdLaws.{IsRecordOf}
use Rattle.run_base_laws.specs.NodeLaws.{count_of}
use Rattle.run_base_laws.specs.RunEvents.{with_event, wrote_event, lives_at, with_record, with_happening, events_after}
use Rattle.run_rules.proofs.ListLemmas.{all_weaker, all_map}
use Rattle.run_rules.proofs.BootLemmas.{IsOfTurn, step_of_turn, boots_with}
use Rattle.node_rules.proofs.SessionLemmas.{seqs}
use Rattle.run_base_laws.proofs.IdLemmas.{Given, given_before}
use Rattle.run_base_laws.proofs.FreshLemmas.{Node}
use Rattle.run_base_laws.proofs.LawfulLemmas.{Serves, of_wrote, of_sent, serves}
use Rattle.run_base_laws.proofs.OwnLemmas.{rows_stored, recorded_too, Own, own_on, OwnAt}
use Rattle.run_base_laws.proofs.LaterLemmas.{Added, Later, exit_later, learned_same, forced_same, exit_made, later_learned, later_forced, later_exit, turn_added}
use Rattle.run_base_laws.specs.EventRows.{RowIs, RowsAre, MayStand, MaySayByEvents, MaySayAll}
use Rattle.run_base_laws.proofs.RowEventLemmas.{EndsSo, row_later}
use Rattle.run_base_laws.proofs.GivenLemmas.{given_on}
use Rattle.run_base_laws.proofs.MayStandLemmas.{IsUntaught, Fits, may_on, lives_on, ended_given}
use Rattle.run_base_laws.proofs.RowScnLemmas.{Below, below_further}
use Rattle.run_base_laws.proofs.SayLemmas.{AcksWereSent, step_told}
use Rattle.run_base_laws.proofs.NodesStandLemmas.{stored_rows, WasGiven, NodesStand, among_so, lives_among, wrote_elsewhere, exit_alone, row_alone, wrote_untaught, wrote_exit, exit_with, some_or_none, wrote_rows, acked_back, counts}
use Rattle.run_rules.proofs.AtNodeLemmas.{flat_some, there_too, turn_elsewhere, turn_here}
use Rattle.run_base_laws.proofs.OneTurn.{one_turn}

pub cases_nat : (m n : ℕ) → (m ≡ n) ⊎ (m ≢ n)
cases_nat m n = by (m == n) refl
  where
    by : (q : Bool) → (m == n) ≡ q → (m ≡ n) ⊎ (m ≢ n)
    by true is = inl (grind (arith, nat_tests, is))
    by false is = inr (λ same. grind (arith, nat_tests, is, same))

-- two things that hold of each item
pub all_both : {A : Type 0} (P Q : A → Type 0) (xs : List A) → AllByRecursion P xs → AllByRecursion Q xs → AllByRecursion (λ x. P x × Q x) xs
all_both P Q [] first second = tt
all_both P Q (x ∷ xs) first second = ((first.0, second.0), all_both P Q xs first.1 second.1)

-- a node that hears is as before, but for its clock
heard_fits : (t : List Event) (n boot : ℕ) (k : NodeState) (input : Input) → Fits t n boot k → Fits t n boot (heard k input)
heard_fits t n boot k (inputs.Message m) fits = record { started = fits.started; lives = fits.lives; rows = fits.rows; many = fits.many; told = fits.told; given = fits.given }
heard_fits t n boot k _ fits = fits

heard_own : (n : ℕ) (k : NodeState) (input : Input) → Own n k → Own n (heard k input)
heard_own n k (inputs.Message m) own = own
heard_own n k _ own = own

heard_given : (boot : ℕ) (b : BranchId) (k : NodeState) (input : Input) → Given boot (seqs k.sessions) (length k.opens) b → Given boot (seqs (heard k input).sessions) (length (heard k input).opens) b
heard_given boot b k (inputs.Message m) given = given
heard_given boot b k _ given = given

-- the branch that a record ends is of the node, and was given out
ends_both : (P Q : BranchId → Type 0) (r : RedoRecord) → IsRecordOf P r → EndsSo Q r → EndsSo (λ b. P b × Q b) r
ends_both P Q (records.Sealed r) of ends = (of, ends)
ends_both P Q (records.Decided r) of ends = (of, ends)
ends_both P Q _ of ends = tt

wrote_both : (P Q : BranchId → Type 0) (w : Option RedoRecord) → IfSome w (IsRecordOf P) → IfSome w (EndsSo Q) → IfSome w (EndsSo (λ b. P b × Q b))
wrote_both P Q None of ends = tt
wrote_both P Q (Some r) of ends = ends_both P Q r of ends

module _ (places : List Place) (asked : List Command) (each : (n : ℕ) (p : Place) → numbered places n ≡ Some p → IsPlace places n p) where
  -- the place of a node that is up has its number
  pub number_is : (f : Facts) (n : ℕ) (k : NodeState) → length f.nodes ≡ length places → node_at f n ≡ Some k → (place_at places n).number ≡ n
  number_is f n k many up =
      let p = there_too f.nodes places n (Some k) many (flat_some (numbered f.nodes n) k up) in
      let it : place_at places n ≡ p.0 = ap (λ o. unwrap_or o no_place) p.1 in
      ap (λ q. q.number) it ∙ (each n p.0 p.1).number

  module _ (f : Facts) (t : List Event) (u : Turn) (k : NodeState) (now : NodesStand places f t) (even : length f.nodes ≡ length f.records)
      (node : (m : ℕ) (x : NodeState) → node_at f m ≡ Some x → Node (records_at f m) x) (owns : (m : ℕ) (x : NodeState) → node_at f m ≡ Some x → OwnAt (place_at places m) (records_at f m) x)
      (may : MayTurn places f u k) where
    open one_turn places asked f u k use {n, p, rs, d, g}

    -- the events with the record, and with all that the turn does
    abbrev t1 : List Event
    t1 = with_record u t

    abbrev r : List Event
    r = with_happening f g (happenings.Turn u) t

    is : p.number ≡ n
    is = number_is f n k now.many may.up

    own : (m : ℕ) (x : NodeState) → node_at f m ≡ Some x → Own m x
    own m x up = subst (λ i. Own i x) (number_is f m x now.many up) (owns m x up).1

    told_all : AllByRecursion (λ l. Given (boots rs) (seqs k.sessions) (length k.opens) l.me) k.lives
    told_all =
        all_weaker (λ l. 1 ≤ count_of live_id l.me k.lives) (λ l. Given (boots rs) (seqs k.sessions) (length k.opens) l.me) (λ l some. (node n k may.up).ids.told l.me (omega (arith, some))) k.lives
        (counts k.lives)

    pub told : (b : BranchId) → is_among b (map live_id k.lives) ≡ true → (b.node ≡ n) × Given (boots rs) (seqs k.sessions) (length k.opens) b
    told b among =
        among_so (λ c. (c.node ≡ n) × Given (boots rs) (seqs k.sessions) (length k.opens) c) b k.lives
        (all_both (λ l. l.me.node ≡ n) (λ l. Given (boots rs) (seqs k.sessions) (length k.opens) l.me) k.lives (own n k may.up).0 told_all) among

    fits : Fits t n (boots rs) (heard k u.input)
    fits = heard_fits t n (boots rs) k u.input (record {
      started = ap (λ s. s.durable.boot) (node n k may.up).stored ∙ (node n k may.up).boot;
      lives = subst (λ o. IfSome o (λ x. AllByRecursion (λ l. exit t l.me ≡ None) x.lives)) may.up (now.lives n);
      rows = acked_back t k.stored.durable.kept (subst (λ s. RowsAre t s.durable.kept) (sym (node n k may.up).stored) (now.rows n));
      many = (node n k may.up).ids.many;
      told = told_all;
      given = λ b left here. (let at : IfSome (node_at f n) (λ x. Given (boots rs) (seqs x.sessions) (length x.opens) b)
          = subst (λ m. IfSome (node_at f m) (λ x. Given (boots (records_at f m)) (seqs x.sessions) (length x.opens) b)) here (now.given b left).1 in
          subst (λ o. IfSome o (λ x. Given (boots rs) (seqs x.sessions) (length x.opens) b)) may.up at);
    })

    pub serving : Serves p k u
    serving = serves places f u k may

    pub record_may : IfSome u.wrote (MayStand t)
    record_may = of_wrote p k u serving (λ w. IfSome w (MayStand t)) tt (may_on t n (boots rs) now.untaught p u.input is serving.step fits)

    pub record_own : IfSome u.wrote (IsRecordOf (λ b. b.node ≡ n))
    record_own = of_wrote p k u serving (λ w. IfSome w (IsRecordOf (λ b. b.node ≡ n))) tt (own_on n p u.input is serving.step (heard_own n k u.input (own n k may.up))).1

    record_turn : IfSome u.wrote IsOfTurn
    record_turn = of_wrote p k u serving (λ w. IfSome w IsOfTurn) tt (step_of_turn p u.input serving.step)

    -- what is given out at the end of the turn
    abbrev GivenNow : BranchId → Type 0
    GivenNow b = (b.node ≡ n) × Given (boots rs) (seqs d.after.sessions) (length d.after.opens) b

    record_ends : IfSome u.wrote (EndsSo GivenNow)
    record_ends =
        wrote_both (λ b. b.node ≡ n) (λ b. Given (boots rs) (seqs d.after.sessions) (length d.after.opens) b) u.wrote record_own
        (of_wrote p k u serving (λ w. IfSome w (EndsSo (λ b. Given (boots rs) (seqs d.after.sessions) (length d.after.opens) b))) tt (ended_given t n (boots rs) now.untaught p u.input is serving.step fits))

    added : Added (Later (lives_at (node_at f n)) (lives_at (node_at g n))) t1 r
    added = turn_added f g u t

    pub here : (node_at g n ≡ kept_after u.cut (Some (turn_of p k u.input))) × (records_at g n ≡ rs ++ option_to_list u.wrote)
    here = turn_here places asked f even u k may.up

    boots_now : boots (records_at g n) ≡ boots rs
    boots_now = ap boots here.1 ∙ boots_with rs u.wrote record_turn

    given_by : (b : BranchId) (cut : Bool) → Given (boots rs) (seqs d.after.sessions) (length d.after.opens) b
        → IfSome (kept_after cut (Some (turn_of p k u.input))) (λ x. Given (boots rs) (seqs x.sessions) (length x.opens) b)
    unfolding turn_of
    given_by b true given = tt
    given_by b false given = given

    given_now : (b : BranchId) → GivenNow b → WasGiven g b
    given_now b given =
        subst (λ m. (b.boot ≤ boots (records_at g m)) × IfSome (node_at g m) (λ x. Given (boots (records_at g m)) (seqs x.sessions) (length x.opens) b)) (sym given.0) (
          omega (arith, given_before given.1, boots_now),
          subst (λ i. IfSome (node_at g n) (λ x. Given i (seqs x.sessions) (length x.opens) b)) (sym boots_now)
              (subst (λ o. IfSome o (λ x. Given (boots rs) (seqs x.sessions) (length x.opens) b)) (sym here.0) (given_by b u.cut given.1)),
        )

    was_given : (b : BranchId) → (b.node ≡ n) × Given (boots rs) (seqs k.sessions) (length k.opens) b → WasGiven g b
    was_given b given = given_now b (given.0, given_on (boots rs) b p u.input serving.step (heard_given (boots rs) b k u.input given.1))

    -- what was given out stays so
    grown : (b : BranchId) → WasGiven f b → WasGiven g b
    grown b given = elim (cases_nat b.node n) [
      | inl at ↦ was_given b (
        at,
        subst (λ o. IfSome o (λ x. Given (boots rs) (seqs x.sessions) (length x.opens) b)) may.up
            (subst (λ m. IfSome (node_at f m) (λ x. Given (boots (records_at f m)) (seqs x.sessions) (length x.opens) b)) at given.1),
      )
      | inr other ↦ (let same_there = turn_elsewhere places asked f even u b.node (λ e. other (sym e)) in
          subst₂ (λ o (xs : List RedoRecord). (b.boot ≤ boots xs) × IfSome o (λ x. Given (boots xs) (seqs x.sessions) (length x.opens) b)) (sym same_there.0) (sym same_there.1) given)
    ]

    given_after : (b : BranchId) → exit r b ≢ None → WasGiven g b
    given_after b left = elim (some_or_none (exit r b)) [
      | inr none ↦ absurd (left none)
      | inl some ↦ elim (exit_made b some.0 added some.1) [
        | inl old ↦ elim (wrote_exit GivenNow n t u.wrote b some.0 record_ends old) [
          | inl older ↦ grown b (now.given b (λ none. absurd (cc (older, none))))
          | inr new ↦ given_now b new
        ]
        | inr made ↦ was_given b (told b (subst (λ o. is_among b (lives_at o) ≡ true) may.up (later_exit b made.0 some.0 made.1 made.2).0))
      ]
    ]

    -- a branch that the turn does not end
    none_after : (b : BranchId) → exit t1 b ≡ None → ((is_among b (lives_at (node_at f n)) ≡ true) × (is_among b (lives_at (node_at g n)) ≡ false) → ⊥) → exit r b ≡ None
    none_after b none stays = elim (some_or_none (exit r b)) [
      | inr is_none ↦ is_none
      | inl some ↦ elim (exit_made b some.0 added some.1) [
        | inl old ↦ absurd (cc (old, none))
        | inr made ↦ absurd (stays (later_exit b made.0 some.0 made.1 made.2))
      ]
    ]

    lives_elsewhere : (m : ℕ) → m ≢ n → (o : Option NodeState) → node_at f m ≡ o → IfSome o (λ x. AllByRecursion (λ l. exit t l.me ≡ None) x.lives) → IfSome o (λ x. AllByRecursion (λ l. exit r l.me ≡ None) x.lives)
    lives_elsewhere m other None at all = tt
    lives_elsewhere m other (Some x) at all =
        all_weaker _ _ (λ l so. none_after l.me
        (exit_alone (wrote_event n u.wrote) t l.me (wrote_elsewhere n u.wrote l.me record_own (λ e. other (sym so.0 ∙ e))) ∙ so.1)
        (λ left. other (sym so.0 ∙ (told l.me (subst (λ o. is_among l.me (lives_at o) ≡ true) may.up left.0)).0))) x.lives
        (all_both _ _ x.lives (own m x at).0 all)

    lives_here : (cut : Bool) → u.cut ≡ cut → IsOwed p k u.input u.wrote u.sent cut → IfSome (kept_after cut (Some (turn_of p k u.input))) (λ x. AllByRecursion (λ l. exit r l.me ≡ None) x.lives)
    unfolding turn_of
    lives_here true cut owed = tt
    lives_here false cut owed =
        let unended : AllByRecursion (λ l. exit t1 l.me ≡ None) d.after.lives
        = subst (λ w. AllByRecursion (λ l. exit (with_event (wrote_event n w) t) l.me ≡ None) d.after.lives) (sym owed.0) (lives_on t n (boots rs) now.untaught p u.input is serving.step fits) in
        let kept : node_at g n ≡ Some d.after = here.0 ∙ ap (λ c. kept_after c (Some (turn_of p k u.input))) cut in
        all_weaker _ _ (λ l so. none_after l.me so.0 (λ left. true≢false (sym so.1 ∙ subst (λ o. is_among l.me (lives_at o) ≡ false) kept left.1))) d.after.lives (all_both _ _ d.after.lives unended (lives_among d.after.lives))

    lives_after : (m : ℕ) → IfSome (node_at g m) (λ x. AllByRecursion (λ l. exit r l.me ≡ None) x.lives)
    lives_after m = elim (cases_nat m n) [
      | inl at ↦ subst (λ i. IfSome (node_at g i) (λ x. AllByRecursion (λ l. exit r l.me ≡ None) x.lives)) (sym at)
          (subst (λ o. IfSome o (λ x. AllByRecursion (λ l. exit r l.me ≡ None) x.lives)) (sym here.0) (lives_here u.cut refl may.owed))
      | inr other ↦ subst (λ o. IfSome o (λ x. AllByRecursion (λ l. exit r l.me ≡ None) x.lives)) (sym (turn_elsewhere places asked f even u m (λ e. other (sym e))).0)
          (lives_elsewhere m other (node_at f m) refl (now.lives m))
    ]

    -- rows, with the record and with all
    rows_all : (ks : List KeptRow) → RowsAre t1 ks → RowsAre r ks
    rows_all ks all = all_weaker (RowIs t1) (RowIs r) (λ s so. row_later added s (λ e later. later_learned s.me e later) (λ e later. later_forced s.me e later) so) ks all

    rows_elsewhere : (m : ℕ) → m ≢ n → RowsAre t1 (stored_rows f m)
    rows_elsewhere m other =
        all_weaker _ _ (λ s so. row_alone (wrote_event n u.wrote) t s (wrote_elsewhere n u.wrote s.me record_own (λ e. other (sym so.0 ∙ e))) so.1) (stored_rows f m)
        (all_both _ _ (stored_rows f m) (rows_stored (λ b. b.node ≡ m) nothing_stored (records_at f m) (now.own m) tt) (now.rows m))

    rows_after : (m : ℕ) → RowsAre r (stored_rows g m)
    rows_after m = elim (cases_nat m n) [
      | inl at ↦ subst (λ i. RowsAre r (stored_rows g i)) (sym at)
          (subst (λ (xs : List RedoRecord). RowsAre r (stored_by nothing_stored xs).durable.kept) (sym here.1) (rows_all _ (wrote_rows n t rs u.wrote record_may (now.rows n))))
      | inr other ↦ subst (λ (xs : List RedoRecord). RowsAre r (stored_by nothing_stored xs).durable.kept) (sym (turn_elsewhere places asked f even u m (λ e. other (sym e))).1)
          (rows_all _ (rows_elsewhere m other))
    ]

    own_after : (m : ℕ) → AllByRecursion (IsRecordOf (λ b. b.node ≡ m)) (records_at g m)
    own_after m = elim (cases_nat m n) [
      | inl at ↦ subst (λ i. AllByRecursion (IsRecordOf (λ b. b.node ≡ i)) (records_at g i)) (sym at)
          (subst (λ (xs : List RedoRecord). AllByRecursion (IsRecordOf (λ b. b.node ≡ n)) xs) (sym here.1) (recorded_too (λ b. b.node ≡ n) rs u.wrote (now.own n) record_own))
      | inr other ↦ subst (λ (xs : List RedoRecord). AllByRecursion (IsRecordOf (λ b. b.node ≡ m)) xs) (sym (turn_elsewhere places asked f even u m (λ e. other (sym e))).1) (now.own m)
    ]

    untaught_after : IsUntaught r
    untaught_after b none =
        let none_before : exit t b ≡ None = elim (some_or_none (exit t b)) [
          | inr is_none ↦ is_none
          | inl some ↦ (let stays : exit r b ≡ Some some.0 = exit_later b some.0 added (exit_with (wrote_event n u.wrote) t b some.0 some.1) in absurd (cc (stays, none)))
        ] in
        let un = wrote_untaught n t u.wrote b record_may none_before (now.untaught b none_before) in
        (learned_same b (λ e later. later_learned b e later) added ∙ un.0, forced_same b (λ e later. later_forced b e later) added ∙ un.1)

    many_after : length g.nodes ≡ length places
    unfolding facts_after
    many_after = set_length f.nodes u.node _ ∙ now.many

    pub turn_stands : NodesStand places g (events_after places asked f (happenings.Turn u) t)
    turn_stands = record { many = many_after; untaught = untaught_after; own = own_after; rows = rows_after; lives = lives_after; given = given_after }

    -- the messages of the turn, where they hang on no session tree
    heard_below : (input : Input) → Below k.clock k.stored.durable.kept → Below (heard k input).clock (heard k input).stored.durable.kept
    heard_below (inputs.Message m) below = below_further k.clock _ (omega arith) k.stored.durable.kept below
    heard_below _ below = below

    pub sent_may : Below k.clock k.stored.durable.kept → AcksWereSent t u.input → MaySayAll t1 u.sent
    sent_may below acks =
        of_sent p k u serving (λ w ms. MaySayAll (with_event (wrote_event n w) t) ms) tt
        (all_map (λ m. MaySayByEvents (with_event (wrote_event n d.wrote) t) m.from m.to m.scn m.kind) (stamped d.after.clock) d.says
        (step_told t n (boots rs) now.untaught p u.input is acks serving.step fits (heard_below u.input below)))
