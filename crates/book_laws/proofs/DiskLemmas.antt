-- Of each node the book has the entries of the records on its disk.
use Rattle.std.proofs.Common.{◌≡◌, ◌≢◌, ℕ, ◌==◌, Bool, true, false, if◌then◌else◌, List, [], ◌∷◌, ◌++◌, filter, flat_map, Option, Some, None, inl, inr, refl, sym, ap, subst, ◌∙◌, append-nil, arith}
use Rattle.std.specs.Prelude.{IfSome}
use Rattle.std.specs.Option.{option_to_list}
use Rattle.std.proofs.lemmas.Bool.{eqb-true, eq-eqb}
use Rattle.std.proofs.lemmas.List.Elements.{filter-append}
use Rattle.std.proofs.lemmas.Grind.{flat_map-append}
use Rattle.node_rules.specs.Data.{RedoRecord, Place}
use Rattle.node_rules.specs.Data.records
use Rattle.node_rules.specs.Words.{numbered}
use Rattle.run_rules.specs.Data.{Turn, Happening, Command, Entry}
use Rattle.run_rules.specs.Data.entries
use Rattle.run_rules.specs.Data.happenings
use Rattle.run_rules.specs.Entries.{entry_of, entries_of}
use Rattle.run_rules.specs.Facts.{Facts, first_facts, records_at, facts_after}
use Rattle.run_rules.specs.Lawful.{IsPlace, MayHappen, facts_at}
use Rattle.run_base_laws.specs.IdLaws.{IsRecordOf}
use Rattle.run_base_laws.specs.RunEvents.{events_of}
use Rattle.agreement.specs.Events.{Event}
use Rattle.run_rules.proofs.FactLemmas.{book_is}
use Rattle.run_base_laws.proofs.LaterLemmas.{events_keep}
use Rattle.run_rules.proofs.AtNodeLemmas.{turn_elsewhere, turn_here, start_elsewhere, start_here}
use Rattle.run_base_laws.proofs.TurnEventLemmas.{cases_nat, record_own}
use Rattle.run_base_laws.proofs.EventsStandLemmas.{BranchStatus, stand_on, stand_first, node_so, owned_so, first_disk}
use Rattle.book_laws.specs.DiskLaws.{node_of, is_of_node, BooksAreOfDisks}

-- ---- the entry of a record is of its node

kept_one : (n : ℕ) (e : Entry) → node_of e ≡ n → filter (is_of_node n) (e ∷ []) ≡ e ∷ []
kept_one n e at = ap (λ q. if q then e ∷ [] else []) (eq-eqb (node_of e) n at)

left_one : (n : ℕ) (e : Entry) → node_of e ≢ n → filter (is_of_node n) (e ∷ []) ≡ []
left_one n e other = by (node_of e == n) refl
  where
    by : (q : Bool) → (node_of e == n) ≡ q → (if q then e ∷ [] else []) ≡ []
    by false is = refl
    by true is = absurd (other (eqb-true (node_of e) n is))

here_kept : (n : ℕ) (r : RedoRecord) → IsRecordOf (λ b. b.node ≡ n) r → filter (is_of_node n) (entry_of n r) ≡ entry_of n r
here_kept n (records.Table t) own = kept_one n (entries.Made n t) refl
here_kept n (records.Sealed r) own = kept_one n (entries.Sealed r.me r.root r.changes r.scn) own
here_kept n (records.Decided r) own = kept_one n (entries.Decided r.me r.root r.changes r.scn) own
here_kept n (records.Ended b d) own = kept_one n (entries.Ended b d) own
here_kept n (records.Forced b d given) own = kept_one n (entries.Forced b d) own
here_kept n (records.Met b d mixed) own = kept_one n (entries.Met b d mixed) own
here_kept n _ own = refl

module _ (n m : ℕ) (other : n ≢ m) where
  elsewhere : (k : ℕ) → k ≡ m → k ≢ n
  elsewhere k at is = other (sym is ∙ at)

  there_left : (r : RedoRecord) → IsRecordOf (λ b. b.node ≡ m) r → filter (is_of_node n) (entry_of m r) ≡ []
  there_left (records.Table t) own = left_one n (entries.Made m t) (elsewhere m refl)
  there_left (records.Sealed r) own = left_one n (entries.Sealed r.me r.root r.changes r.scn) (elsewhere r.me.node own)
  there_left (records.Decided r) own = left_one n (entries.Decided r.me r.root r.changes r.scn) (elsewhere r.me.node own)
  there_left (records.Ended b d) own = left_one n (entries.Ended b d) (elsewhere b.node own)
  there_left (records.Forced b d given) own = left_one n (entries.Forced b d) (elsewhere b.node own)
  there_left (records.Met b d mixed) own = left_one n (entries.Met b d mixed) (elsewhere b.node own)
  there_left _ own = refl

-- ---- a turn and a start

wrote_kept : (n : ℕ) (book : List Entry) (rs : List RedoRecord) (w : Option RedoRecord) → IfSome w (IsRecordOf (λ b. b.node ≡ n)) → filter (is_of_node n) book ≡ flat_map (entry_of n) rs
    → filter (is_of_node n) (book ++ entries_of n w) ≡ flat_map (entry_of n) (rs ++ option_to_list w)
wrote_kept n book rs None own now = ap (filter (is_of_node n)) (append-nil book) ∙ (now ∙ ap (flat_map (entry_of n)) (sym (append-nil rs)))
wrote_kept n book rs (Some r) own now =
    filter-append (is_of_node n) book (entries_of n (Some r)) ∙ (ap (λ xs. xs ++ filter (is_of_node n) (entries_of n (Some r))) now
    ∙ (ap (λ xs. flat_map (entry_of n) rs ++ xs) (ap (filter (is_of_node n)) (append-nil (entry_of n r)) ∙ (here_kept n r own ∙ sym (append-nil (entry_of n r))))
    ∙ sym (flat_map-append (entry_of n) rs (r ∷ []))))

wrote_left : (n m : ℕ) → n ≢ m → (book : List Entry) (w : Option RedoRecord) → IfSome w (IsRecordOf (λ b. b.node ≡ m)) → filter (is_of_node n) (book ++ entries_of m w) ≡ filter (is_of_node n) book
wrote_left n m other book None own = ap (filter (is_of_node n)) (append-nil book)
wrote_left n m other book (Some r) own =
    filter-append (is_of_node n) book (entries_of m (Some r)) ∙ (ap (λ xs. filter (is_of_node n) book ++ xs) (ap (filter (is_of_node n)) (append-nil (entry_of m r)) ∙ there_left n m other r own)
    ∙ append-nil (filter (is_of_node n) book))

booted_kept : (n boot : ℕ) (rs : List RedoRecord) → flat_map (entry_of n) (rs ++ records.Boot boot ∷ []) ≡ flat_map (entry_of n) rs
booted_kept n boot rs = flat_map-append (entry_of n) rs (records.Boot boot ∷ []) ∙ append-nil (flat_map (entry_of n) rs)

-- the book has of each disk its entries
abbrev pub HasDisks : Facts → Type 0
HasDisks f = (n : ℕ) → filter (is_of_node n) f.book ≡ flat_map (entry_of n) (records_at f n)

module _ (places : List Place) (asked : List Command) (each : (n : ℕ) (p : Place) → numbered places n ≡ Some p → IsPlace places n p) (f : Facts) (t : List Event) (stand : BranchStatus places asked each f t)
    (now : HasDisks f) where
  module _ (u : Turn) (may : MayHappen places asked f (happenings.Turn u)) where
    abbrev g : Facts
    g = facts_after places asked f (happenings.Turn u)

    own_record : IfSome u.wrote (IsRecordOf (λ b. b.node ≡ u.node))
    own_record = record_own places asked each f t u may.0 stand.1 stand.0.even (node_so places asked each f t stand) (owned_so places asked each f t stand) may.1

    book_now : g.book ≡ f.book ++ entries_of u.node u.wrote
    unfolding facts_after
    book_now = refl

    turn_has : HasDisks g
    turn_has n = ap (filter (is_of_node n)) book_now ∙ elim (cases_nat n u.node) [
      | inl at ↦ subst (λ i. filter (is_of_node i) (f.book ++ entries_of u.node u.wrote) ≡ flat_map (entry_of i) (records_at g i)) (sym at)
          (wrote_kept u.node f.book (records_at f u.node) u.wrote own_record (now u.node) ∙ ap (flat_map (entry_of u.node)) (sym (turn_here places asked f stand.0.even u may.0 may.1.up).1))
      | inr other ↦ wrote_left n u.node other f.book u.wrote own_record ∙ (now n ∙ ap (flat_map (entry_of n)) (sym (turn_elsewhere places asked f stand.0.even u n (λ e. other (sym e))).1))
    ]

  start_has : (m boot : ℕ) → MayHappen places asked f (happenings.Started m boot) → (n : ℕ) → filter (is_of_node n) f.book ≡ flat_map (entry_of n) (records_at (facts_after places asked f (happenings.Started m boot)) n)
  start_has m boot may n = elim (cases_nat n m) [
    | inl at ↦ subst (λ i. filter (is_of_node i) f.book ≡ flat_map (entry_of i) (records_at (facts_after places asked f (happenings.Started m boot)) i)) (sym at)
        (now m ∙ (sym (booted_kept m boot (records_at f m)) ∙ ap (flat_map (entry_of m)) (sym (start_here places asked f stand.0.even m boot may.there.0 (omega (arith, may.there.1, stand.1.many))).1)))
    | inr other ↦ now n ∙ ap (flat_map (entry_of n)) (sym (start_elsewhere places asked f stand.0.even m boot n (λ e. other (sym e))).1)
  ]

  has_on : (h : Happening) → MayHappen places asked f h → HasDisks (facts_after places asked f h)
  unfolding facts_after
  has_on (happenings.Turn u) may = turn_has u may
  has_on (happenings.Started n boot) may = start_has n boot may
  has_on _ may = now

has_first : (places : List Place) → HasDisks (first_facts places)
has_first places n = first_disk (λ (rs : List RedoRecord). [] ≡ flat_map (entry_of n) rs) refl refl places n

-- ---- every run

pub books_are_of_disks : BooksAreOfDisks
books_are_of_disks t lawful n =
    let last : BranchStatus t.places t.commands t.of_a_script.each (facts_at t) (events_of t) × HasDisks (facts_at t) = events_keep t.places t.commands (λ f s. BranchStatus t.places t.commands t.of_a_script.each f s × HasDisks f)
    (λ f s h now may. (stand_on t.places t.commands t.of_a_script.each f s h now.0 may, has_on t.places t.commands t.of_a_script.each f s now.0 now.1 h may))
    (first_facts t.places) t.trace [] (stand_first t.places t.commands t.of_a_script.each, has_first t.places) lawful in
    ap (filter (is_of_node n)) (sym (book_is t.places t.commands (first_facts t.places) t.trace)) ∙ last.1 n
