-- In every lawful run a sealed branch has a row at its node exactly as long as the row may not go.
use Rattle.std.proofs.Common.{◌≡◌, ◌≢◌, ℕ, zero, suc, not, Bool, true, false, true≢false, if◌then◌else◌, List, [], ◌∷◌, ◌++◌, take, Option, Some, None, inl, inr, refl, sym, ap, subst, subst₂, ◌∙◌, append-nil, arith}
use Rattle.std.specs.Prelude.{IfSome}
use Rattle.std.specs.Option.{option_to_list}
use Rattle.std.specs.List.{list_any}
use Rattle.redo_record.specs.Durable.{durable_after}
use Rattle.redo_record.specs.Kept.{stands_at, kept_after}
use Rattle.agreement.specs.Events.{Exit, Sealed, Decided, Quiet, Dropped, Event, exit_by, exit, learned_by, learned}
use Rattle.agreement.proofs.EventLemmas.{only_at_is}
use Rattle.node_rules.specs.Data.{BranchId, Decision, KeptRow, RedoRecord, Place}
use Rattle.node_rules.specs.Data.params
use Rattle.node_rules.specs.Data.records
use Rattle.node_rules.specs.NodeState.{NodeState, Stored}
use Rattle.node_rules.specs.Records.{applied, nothing_stored, stored_by}
use Rattle.node_rules.specs.Words.{numbered}
use Rattle.run_rules.specs.Book.{is_sealed_of, stands}
use Rattle.run_rules.specs.Data.{Entry, Turn, Happening, Command}
use Rattle.run_rules.specs.Data.happenings
use Rattle.run_rules.specs.Entries.{entries_of}
use Rattle.run_rules.specs.Facts.{Facts, first_facts, node_at, records_at, facts_after}
use Rattle.run_rules.specs.Lawful.{IsPlace, MayHappen, History, IsLawfulRun, facts_at}
use Rattle.run_rules.proofs.AtNodeLemmas.{turn_elsewhere, turn_here, start_elsewhere, start_here}
use Rattle.run_base_laws.specs.EventRows.{MayStand}
use Rattle.run_base_laws.specs.IdLaws.{IsRecordOf}
use Rattle.run_base_laws.specs.NodeLaws.{unacked_row}
use Rattle.run_base_laws.specs.RunEvents.{with_event, wrote_event, record_event, with_record, events_after, events_of}
use Rattle.run_base_laws.proofs.EventsStandLemmas.{BranchStatus, node_so, owned_so, stand_on, stand_first, first_disk}
use Rattle.run_base_laws.proofs.LaterLemmas.{Added, Later, Was_said, Was_quiet, Was_dropped, exit_later, exit_made, learned_same, later_learned, turn_added, stop_added, events_keep}
use Rattle.run_base_laws.proofs.NodesStandLemmas.{LeavesAlone, wrote_elsewhere}
use Rattle.run_base_laws.proofs.StoredLemmas.{stored_with, records_are_kept}
use Rattle.run_base_laws.proofs.TurnEventLemmas.{cases_nat, record_may, record_own}
use Rattle.run_branch_laws.proofs.KeptRowLemmas.{any_map}
use Rattle.tree_laws.proofs.PrefixLemmas.{so_far}
use Rattle.tree_laws.proofs.TimeLemmas.{part_lawful}
use Rattle.commit_obey_laws.specs.RowStayLaws.{row_may_go, keeps_row, EverySealedRowStays}
use Rattle.commit_obey_laws.proofs.RowMarkLemmas.{marks, some_mark, has_marks}
use Rattle.commit_obey_laws.proofs.RowFactLemmas.{BranchFacts, branch_facts, with_record_facts, facts_last, facts_elsewhere, goes_by, RowStands, first_right, on_record}

-- ---- the book and the records of a node

-- the rows of a branch, by these records, stand as the events and the book say
abbrev RowAt : List Event → BranchId → List Entry → List RedoRecord → Type 0
RowAt t b book rs = RowStands (exit t b) (learned t b) (marks b (stored_by nothing_stored rs).durable.kept) (branch_facts b book rs)

module _ (b : BranchId) (t : List Event) (untaught : exit t b ≡ None → learned t b ≡ None) where
  stored_on : (s : Stored) (x : BranchFacts) (r : RedoRecord) → MayStand t r → RowStands (exit t b) (learned t b) (marks b s.durable.kept) x
      → RowStands (exit (with_event (record_event b.node r) t) b) (learned (with_event (record_event b.node r) t) b) (marks b (applied s r).durable.kept) (with_record_facts b b.node x r)
  unfolding applied durable_after kept_after
  stored_on s x (records.Boot m) may now = on_record b b.node t untaught s.durable.kept x now (records.Boot m) may
  stored_on s x (records.Table table) may now = on_record b b.node t untaught s.durable.kept x now (records.Table table) may
  stored_on s x (records.Link l) may now = on_record b b.node t untaught s.durable.kept x now (records.Link l) may
  stored_on s x (records.Synonym y) may now = on_record b b.node t untaught s.durable.kept x now (records.Synonym y) may
  stored_on s x (records.Param (params.Recovery on)) may now = on_record b b.node t untaught s.durable.kept x now (records.Param (params.Recovery on)) may
  stored_on s x (records.Param (params.Strength strength)) may now = on_record b b.node t untaught s.durable.kept x now (records.Param (params.Strength strength)) may
  stored_on s x r may now = on_record b b.node t untaught s.durable.kept x now r may

  wrote_on : (book : List Entry) (rs : List RedoRecord) (w : Option RedoRecord) → IfSome w (MayStand t) → RowAt t b book rs → RowAt (with_event (wrote_event b.node w) t) b (book ++ entries_of b.node w) (rs ++ option_to_list w)
  wrote_on book rs None may now = subst₂ (RowAt t b) (sym (append-nil book)) (sym (append-nil rs)) now
  wrote_on book rs (Some r) may now =
      let after : List Event = with_event (record_event b.node r) t in
      subst₂ (λ (s : Stored) (x : BranchFacts). RowStands (exit after b) (learned after b) (marks b s.durable.kept) x) (sym (stored_with rs (Some r))) (sym (facts_last b b.node book rs r))
      (stored_on (stored_by nothing_stored rs) (branch_facts b book rs) r may now)

-- ---- later events

later_unsealed : {before after : List BranchId} (b : BranchId) (m : ℕ) (e : Event) → Later before after e → exit_by e b ≡ Some (Sealed m) → ⊥
later_unsealed b m e (Was_said x none) is = let no : None ≡ Some (Sealed m) = sym (none b).0 ∙ is in absurd cc
later_unsealed b m e (Was_quiet c was gone) is = let at = only_at_is c b Quiet (Sealed m) is in absurd (cc (at.1))
later_unsealed b m e (Was_dropped c was gone) is = let at = only_at_is c b Dropped (Sealed m) is in absurd (cc (at.1))

module _ {bs cs : List BranchId} {t s : List Event} (more : Added (Later bs cs) t s) (b : BranchId) (ms : List Bool) (x : BranchFacts) where
  row_later_by : (o p : Option Exit) → exit t b ≡ o → exit s b ≡ p → RowStands o (learned t b) ms x → RowStands p (learned t b) ms x
  row_later_by (Some e) p before after now = (let same : Some e ≡ p = sym (exit_later b e more before) ∙ after in subst (λ o. RowStands o (learned t b) ms x) same now)
  row_later_by None None before after now = now
  row_later_by None (Some (Sealed m)) before after now = elim (exit_made b (Sealed m) more after) [
    | inl old ↦ absurd (cc (old, before))
    | inr made ↦ absurd (later_unsealed b m made.0 made.1 made.2)
  ]
  row_later_by None (Some (Decided m)) before after now = ap (λ (z : BranchFacts). z.sealed) now.1
  row_later_by None (Some Quiet) before after now = ap (λ (z : BranchFacts). z.sealed) now.1
  row_later_by None (Some Dropped) before after now = ap (λ (z : BranchFacts). z.sealed) now.1

  row_later : RowStands (exit t b) (learned t b) ms x → RowStands (exit s b) (learned s b) ms x
  row_later now = subst (λ l. RowStands (exit s b) l ms x) (sym (learned_same b (λ e later. later_learned b e later) more)) (row_later_by (exit t b) (exit s b) refl refl now)

at_later : {bs cs : List BranchId} {t s : List Event} → Added (Later bs cs) t s → (b : BranchId) (book : List Entry) (rs : List RedoRecord) → RowAt t b book rs → RowAt s b book rs
at_later more b book rs now = row_later more b (marks b (stored_by nothing_stored rs).durable.kept) (branch_facts b book rs) now

-- ---- happenings

abbrev RowsStand : Facts → List Event → Type 0
RowsStand f t = (b : BranchId) → RowAt t b f.book (records_at f b.node)

-- an event that leaves the branch alone
alone_row : (o : Option Event) (t : List Event) (b : BranchId) (book : List Entry) (rs : List RedoRecord) → LeavesAlone o b → RowAt t b book rs → RowAt (with_event o t) b book rs
alone_row None t b book rs alone now = now
alone_row (Some e) t b book rs alone now =
    let ms : List Bool = marks b (stored_by nothing_stored rs).durable.kept in
    let x : BranchFacts = branch_facts b book rs in
    subst (λ o. RowStands o (learned (e ∷ t) b) ms x) (sym (first_right (exit t b) (exit_by e b) alone.0))
    (subst (λ o. RowStands (exit t b) o ms x) (sym (first_right (learned t b) (learned_by e b) alone.1)) now)

module _ (places : List Place) (asked : List Command) (each : (n : ℕ) (p : Place) → numbered places n ≡ Some p → IsPlace places n p) (f : Facts) (t : List Event) (stand : BranchStatus places asked each f t)
    (now : RowsStand f t) where
  untaught : (b : BranchId) → exit t b ≡ None → learned t b ≡ None
  untaught b none = (stand.1.untaught b none).0

  module _ (u : Turn) (may : MayHappen places asked f (happenings.Turn u)) where
    abbrev g : Facts
    g = facts_after places asked f (happenings.Turn u)

    may_stand : IfSome u.wrote (MayStand t)
    may_stand = record_may places asked each f t u may.0 stand.1 stand.0.even (node_so places asked each f t stand) (owned_so places asked each f t stand) may.1

    own_record : IfSome u.wrote (IsRecordOf (λ b. b.node ≡ u.node))
    own_record = record_own places asked each f t u may.0 stand.1 stand.0.even (node_so places asked each f t stand) (owned_so places asked each f t stand) may.1

    recorded : (b : BranchId) → RowAt (with_record u t) b (f.book ++ entries_of u.node u.wrote) (records_at g b.node)
    recorded b = elim (cases_nat b.node u.node) [
      | inl at ↦ (let its : records_at g b.node ≡ records_at f b.node ++ option_to_list u.wrote = subst (λ i. records_at g i ≡ records_at f i ++ option_to_list u.wrote) (sym at) (turn_here places asked f stand.0.even u may.0 may.1.up).1 in
          subst₂ (λ i rs. RowAt (with_event (wrote_event i u.wrote) t) b (f.book ++ entries_of i u.wrote) rs) at (sym its) (wrote_on b t (untaught b) f.book (records_at f b.node) u.wrote may_stand (now b)))
      | inr other ↦ subst (RowAt (with_record u t) b (f.book ++ entries_of u.node u.wrote)) (sym (turn_elsewhere places asked f stand.0.even u b.node (λ e. other (sym e))).1) (elsewhere b other)
    ]
      where
        elsewhere : (b : BranchId) → b.node ≢ u.node → RowAt (with_record u t) b (f.book ++ entries_of u.node u.wrote) (records_at f b.node)
        elsewhere b other =
            let ms : List Bool = marks b (stored_by nothing_stored (records_at f b.node)).durable.kept in
            subst (RowStands (exit (with_record u t) b) (learned (with_record u t) b) ms) (sym (facts_elsewhere b u.node other f.book (records_at f b.node) u.wrote own_record))
            (alone_row (wrote_event u.node u.wrote) t b f.book (records_at f b.node) (wrote_elsewhere u.node u.wrote b own_record other) (now b))

    turn_rows : RowsStand g (events_after places asked f (happenings.Turn u) t)
    unfolding facts_after
    turn_rows b = at_later (turn_added f g u t) b (f.book ++ entries_of u.node u.wrote) (records_at g b.node) (recorded b)

  module _ (m boot : ℕ) (may : MayHappen places asked f (happenings.Started m boot)) where
    abbrev h : Facts
    h = facts_after places asked f (happenings.Started m boot)

    start_rows : (b : BranchId) → RowAt t b f.book (records_at h b.node)
    start_rows b = elim (cases_nat b.node m) [
      | inl at ↦ (let its : records_at h b.node ≡ records_at f b.node ++ records.Boot boot ∷ [] = subst (λ i. records_at h i ≡ records_at f i ++ records.Boot boot ∷ []) (sym at) (start_here places asked f stand.0.even m boot may.there.0 (omega (arith, may.there.1, stand.1.many))).1 in
          subst₂ (RowAt t b) (append-nil f.book) (sym its) (wrote_on b t (untaught b) f.book (records_at f b.node) (Some (records.Boot boot)) tt (now b)))
      | inr other ↦ subst (RowAt t b f.book) (sym (start_elsewhere places asked f stand.0.even m boot b.node (λ e. other (sym e))).1) (now b)
    ]

  rows_on : (h : Happening) → MayHappen places asked f h → RowsStand (facts_after places asked f h) (events_after places asked f h t)
  unfolding facts_after
  rows_on (happenings.Turn u) may = turn_rows u may
  rows_on (happenings.Stopped n) may = λ b. at_later (stop_added f f n t) b f.book (records_at f b.node) (now b)
  rows_on (happenings.Started n boot) may = start_rows n boot may
  rows_on _ may = now

rows_first : (places : List Place) → RowsStand (first_facts places) []
unfolding stored_by applied durable_after
rows_first places b = first_disk (RowAt [] b []) (refl, refl) (refl, refl) places b.node

rows_end : (t : History) → IsLawfulRun t → RowsStand (facts_at t) (events_of t)
rows_end t lawful =
    (events_keep t.places t.commands (λ f s. BranchStatus t.places t.commands t.of_a_script.each f s × RowsStand f s)
    (λ f s h now may. (stand_on t.places t.commands t.of_a_script.each f s h now.0 may, rows_on t.places t.commands t.of_a_script.each f s now.0 now.1 h may))
    (first_facts t.places) t.trace [] (stand_first t.places t.commands t.of_a_script.each, rows_first t.places) lawful).1

-- ---- the row of a sealed branch

marked : (gone : Bool) (m : Bool) → some_mark (if gone then [] else m ∷ []) ≡ not gone
marked true m = refl
marked false m = refl

-- a sealed branch has a row where it may not go
row_stands : (e : Option Exit) (l : Option Decision) (ms : List Bool) (x : BranchFacts) → x.sealed ≡ true → RowStands e l ms x → some_mark ms ≡ not (goes_by x)
row_stands None l ms x sealed now = absurd (true≢false (sym sealed ∙ ap (λ (z : BranchFacts). z.sealed) now.1))
row_stands (Some (Sealed m)) None ms x sealed now = ap some_mark now.0 ∙ ap (λ z. not (goes_by z)) (sym now.1)
row_stands (Some (Sealed m)) (Some d) ms x sealed now = ap some_mark now ∙ marked (goes_by x) x.mixed
row_stands (Some (Decided m)) l ms x sealed now = absurd (true≢false (sym sealed ∙ now))
row_stands (Some Quiet) l ms x sealed now = absurd (true≢false (sym sealed ∙ now))
row_stands (Some Dropped) l ms x sealed now = absurd (true≢false (sym sealed ∙ now))

module _ (t : History) (lawful : IsLawfulRun t) (b : BranchId) where
  abbrev f : Facts
  f = facts_at t

  row_stays : (k : NodeState) → node_at f b.node ≡ Some k → stands (is_sealed_of b) f.book ≡ true → keeps_row k b ≡ not (row_may_go f b)
  row_stays k up sealed =
      let rows : List KeptRow = (stored_by nothing_stored (records_at f b.node)).durable.kept in
      let same_rows : list_any (stands_at b) k.stored.durable.kept ≡ list_any (stands_at b) rows
      = sym (any_map b unacked_row (λ x. refl) k.stored.durable.kept) ∙ ap (λ (s : Stored). list_any (stands_at b) s.durable.kept) (records_are_kept t lawful b.node k up) in
      same_rows ∙ (has_marks b rows ∙ row_stands (exit (events_of t) b) (learned (events_of t) b) (marks b rows) (branch_facts b f.book (records_at f b.node)) sealed (rows_end t lawful b))

-- ---- each moment

first_part : {A : Type 0} (xs : List A) (i : ℕ) → (rest : List A) × (take i xs ++ rest ≡ xs)
first_part xs zero = (xs, refl)
first_part [] (suc i) = ([], refl)
first_part (x ∷ xs) (suc i) = let more = first_part xs i in (more.0, ap (λ ys. x ∷ ys) more.1)

pub every_sealed_row_stays : EverySealedRowStays
every_sealed_row_stays t whole i b k up sealed =
    let part = first_part t.trace i in
    row_stays (so_far t (take i t.trace)) (part_lawful t whole (take i t.trace) (record { rest = part.0; is = part.1 })) b k up sealed
