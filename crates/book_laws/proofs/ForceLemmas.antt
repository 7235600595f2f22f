-- An outcome is forced on one branch: by the book, the statement's id names no other branch in doubt at that node.
use Rattle.std.proofs.Common.{◌≡◌, ℕ, ◌||◌, Bool, true, false, true≢false, if◌then◌else◌, map, List, [], ◌∷◌, filter, flat_map, is_some, Option, Some, None, Ok, inl, inr, refl, sym, ap, subst, ◌∙◌}
use Rattle.std.specs.List.{AllByRecursion, list_any}
use Rattle.std.specs.Str.{bytes_eq}
use Rattle.std.proofs.lemmas.Bool.{and_parts, and_from, eq-eqb}
use Rattle.tran_ids.specs.Texts.{local_text, global_text}
use Rattle.tran_ids.proofs.BranchLemmas.{equal_from_same, same_from_equal}
use Rattle.redo_record.specs.Kept.{stands_at}
use Rattle.redo_record.specs.Rows.{sealed_as}
use Rattle.force_cmds.specs.Named.{is_id_of as is_row_of, named_among}
use Rattle.agreement.specs.Events.{Sealed, Event, exit, learned, forced, Lawful}
use Rattle.agreement.specs.BookOf.{book_of}
use Rattle.agreement.proofs.AgreementLaws.{exit_sealed}
use Rattle.agreement.proofs.BookTests.{has_sealed, no_end}
use Rattle.agreement.proofs.Invariant.{Inv}
use Rattle.agreement.proofs.InvariantKept.{inv}
use Rattle.node_rules.specs.Data.{BranchId, Decision, RedoRecord, Sealed as SealedRecord, KeptRow, State}
use Rattle.node_rules.specs.Data.decisions
use Rattle.node_rules.specs.Data.records
use Rattle.node_rules.specs.Data.states
use Rattle.node_rules.specs.Force.{is_sealed, is_named_by, one_named, branch_to_force}
use Rattle.node_rules.specs.Words.{same}
use Rattle.node_rules.specs.NodeState.{NodeState, Stored}
use Rattle.node_rules.specs.Records.{nothing_stored, stored_by}
use Rattle.run_rules.specs.Data.{Entry}
use Rattle.run_rules.specs.Data.entries
use Rattle.run_rules.specs.Births.{Born, born_at, births_of}
use Rattle.run_base_laws.specs.BirthLaws.{Began, KeptIs, RecordNames}
use Rattle.run_rules.specs.Book.{is_sealed_of, is_end_of, stands, in_doubt, EachAgainst}
use Rattle.run_rules.specs.Entries.{entry_of}
use Rattle.run_base_laws.specs.EventRows.{RowIs, IsKnown, IsForcedAs, IsGoneForGood}
use Rattle.run_rules.specs.Facts.{first_facts, node_at, records_at}
use Rattle.run_claims.specs.Knowledge.{is_id_of, named_in_doubt}
use Rattle.run_rules.specs.BranchRecords.{sealed_in}
use Rattle.run_rules.specs.Lawful.{History, IsLawfulRun, facts_at}
use Rattle.run_base_laws.specs.NodeLaws.{unacked_row}
use Rattle.run_base_laws.specs.RunEvents.{events_of}
use Rattle.run_base_laws.proofs.BirthRunLemmas.{nodes_name_the_born, records_name_the_born}
use Rattle.run_branch_laws.proofs.EventBookLemmas.{book_of_events}
use Rattle.run_base_laws.proofs.EventsStandLemmas.{nodes_are_as_events}
use Rattle.run_rules.proofs.FactLemmas.{book_is}
use Rattle.run_branch_laws.proofs.KeptRowLemmas.{sealed_are_kept}
use Rattle.run_base_laws.proofs.StoredLemmas.{StoresOf}
use Rattle.tree_laws.specs.Forests.{forest_of}
use Rattle.tree_laws.proofs.ForestRunLemmas.{runs_have_forests}
use Rattle.book_laws.specs.DiskLaws.{is_of_node}
use Rattle.book_laws.proofs.PlaceLemmas.{IsOne, found, finds, one_kept}
use Rattle.book_laws.proofs.DiskLemmas.{books_are_of_disks}
use Rattle.book_laws.proofs.SealLemmas.{lawful_events}
use Rattle.book_laws.proofs.DecisionLemmas.{has_seal}
use Rattle.book_laws.proofs.AloneLemmas.{SealsOnce, sealed_told, seals_once}
use Rattle.book_laws.proofs.DoubtLemmas.{IsOpenIn, one_filtered, apart_filtered, one_alone, open_of, in_doubt_of, doubts_apart, open_events}

-- ---- lists

one_of_all : {A : Type 0} (P : A → Type 0) (a : A) (xs : List A) → AllByRecursion P xs → IsOne a xs → P a
one_of_all P a [] all there = absurd there
one_of_all P a (x ∷ xs) all (inl here) = subst P here all.0
one_of_all P a (x ∷ xs) all (inr there) = one_of_all P a xs all.1 there

some_of : {A : Type 0} (o : Option A) → is_some o ≡ true → (a : A) × (o ≡ Some a)
some_of (Some a) is = (a, refl)
some_of None is = absurd (true≢false (sym is))

-- the only row that is named
alone_named : (id : List ℕ) (ss : List KeptRow) (b : BranchId) → one_named id (named_among ss) ≡ Ok b → (s : KeptRow) × (ss ≡ s ∷ []) × (s.me ≡ b)
alone_named id [] b is = absurd cc
alone_named id (s ∷ []) b is = (s, refl, cc is)
alone_named id (s ∷ x ∷ ss) b is = absurd cc

-- the record that is found is of the branch
sealed_there : (rs : List RedoRecord) (b : BranchId) (r : SealedRecord) → sealed_in rs b ≡ Some r → IsOne (records.Sealed r) rs × (r.me ≡ b)
sealed_there [] b r is = absurd cc
sealed_there (records.Sealed x ∷ rs) b r is = by (same x.me b) refl is (sealed_there rs b r)
  where
    by : (q : Bool) → same x.me b ≡ q → (if q then Some x else sealed_in rs b) ≡ Some r → (sealed_in rs b ≡ Some r → IsOne (records.Sealed r) rs × (r.me ≡ b)) → IsOne (records.Sealed r) (records.Sealed x ∷ rs) × (r.me ≡ b)
    by true same_id is rest = let here : x ≡ r = cc is in (inl (ap records.Sealed here), subst (λ (z : SealedRecord). z.me ≡ b) here (equal_from_same x.me b same_id))
    by false same_id is rest = (inr (rest is).0, (rest is).1)
sealed_there (records.Boot m ∷ rs) b r is = (let rest = sealed_there rs b r is in (inr rest.0, rest.1))
sealed_there (records.Table t ∷ rs) b r is = (let rest = sealed_there rs b r is in (inr rest.0, rest.1))
sealed_there (records.Link l ∷ rs) b r is = (let rest = sealed_there rs b r is in (inr rest.0, rest.1))
sealed_there (records.Synonym y ∷ rs) b r is = (let rest = sealed_there rs b r is in (inr rest.0, rest.1))
sealed_there (records.Param x ∷ rs) b r is = (let rest = sealed_there rs b r is in (inr rest.0, rest.1))
sealed_there (records.Decided x ∷ rs) b r is = (let rest = sealed_there rs b r is in (inr rest.0, rest.1))
sealed_there (records.Ended c d ∷ rs) b r is = (let rest = sealed_there rs b r is in (inr rest.0, rest.1))
sealed_there (records.Forced c d given ∷ rs) b r is = (let rest = sealed_there rs b r is in (inr rest.0, rest.1))
sealed_there (records.Met c d mixed ∷ rs) b r is = (let rest = sealed_there rs b r is in (inr rest.0, rest.1))
sealed_there (records.Forgot c ∷ rs) b r is = (let rest = sealed_there rs b r is in (inr rest.0, rest.1))
sealed_there (records.Hidden c ∷ rs) b r is = (let rest = sealed_there rs b r is in (inr rest.0, rest.1))
sealed_there (records.Image i ∷ rs) b r is = (let rest = sealed_there rs b r is in (inr rest.0, rest.1))

-- ---- rows

-- a row of a branch in doubt is sealed
module _ (e : List Event) (s : KeptRow) (scn : ℕ) (is : RowIs e s) (sealed : exit e s.me ≡ Some (Sealed scn)) (unlearned : learned e s.me ≡ None) (unforced : forced e s.me ≡ None) where
  undecided_row : (d : Option Decision) → IsKnown e s d → d ≡ None
  undecided_row None known = refl
  undecided_row (Some (decisions.Commit n)) (inl decided) = absurd (cc (sealed, decided))
  undecided_row (Some (decisions.Commit n)) (inr told) = absurd (cc (unlearned, told))
  undecided_row (Some decisions.Rollback) told = absurd (cc (unlearned, told))

  sealed_by : (state : State) → IsForcedAs e s.me state s.decision → is_sealed state ≡ true
  sealed_by states.Sealed force = refl
  sealed_by states.Committed force = absurd (force (undecided_row s.decision is.known))
  sealed_by (states.ForcedCommit n) force = absurd (cc (unforced, force))
  sealed_by states.ForcedRollback force = absurd (cc (unforced, force))

-- and the branch of a sealed row is sealed, and neither learned nor was forced
open_row : (e : List Event) (s : KeptRow) → RowIs e s → is_sealed s.state ≡ true → (exit e s.me ≡ Some (Sealed s.scn)) × (learned e s.me ≡ None) × (forced e s.me ≡ None)
open_row e s is sealed = by s.state is.force sealed
  where
    by : (state : State) → IsForcedAs e s.me state s.decision → is_sealed state ≡ true → (exit e s.me ≡ Some (Sealed s.scn)) × (learned e s.me ≡ None) × (forced e s.me ≡ None)
    by states.Sealed force sealed = let known : IsKnown e s None = subst (IsKnown e s) force.1 is.known in (known.0, known.1, force.0)
    by states.Committed force sealed = absurd (true≢false (sym sealed))
    by (states.ForcedCommit n) force sealed = absurd (true≢false (sym sealed))
    by states.ForcedRollback force sealed = absurd (true≢false (sym sealed))

pub one_born : (bs : List Born) (x y : Born) → Began bs x → Began bs y → x.me ≡ y.me → x ≡ y
one_born bs x y first second same_id = let at : born_at bs x.me ≡ Some y = ap (born_at bs) same_id ∙ second in cc (first, at)

row_before : (c : BranchId) (ks : List KeptRow) → list_any (stands_at c) (map unacked_row ks) ≡ true → list_any (stands_at c) ks ≡ true
row_before c [] there = there
row_before c (s ∷ ks) there = by (same s.me c) there (row_before c ks)
  where
    by : (q : Bool) → (q || list_any (stands_at c) (map unacked_row ks)) ≡ true → (list_any (stands_at c) (map unacked_row ks) ≡ true → list_any (stands_at c) ks ≡ true) → (q || list_any (stands_at c) ks) ≡ true
    by true there rest = refl
    by false there rest = rest there

-- ---- the branches that an id names

module _ (t : History) (lawful : IsLawfulRun t) (n : ℕ) (k : NodeState) (up : node_at (facts_at t) n ≡ Some k) (stored : StoresOf (records_at (facts_at t) n) k) (own : AllByRecursion (λ s. s.me.node ≡ n) k.stored.durable.kept) (names : List (List ℕ)) (id : List ℕ) where
  abbrev e : List Event
  e = events_of t

  l : Lawful (forest_of t) (events_of t)
  l = lawful_events t lawful

  i : Inv (forest_of t) (events_of t)
  i = inv (forest_of t) (events_of t) (runs_have_forests t lawful) l

  in_book : (facts_at t).book ≡ book_of (events_of t)
  in_book = book_is t.places t.commands (first_facts t.places) t.trace ∙ sym (book_of_events t)

  rows : AllByRecursion (RowIs (events_of t)) k.stored.durable.kept
  rows = (nodes_are_as_events t lawful n k up).1

  -- a row names the root of its branch's record
  root_same : (s : KeptRow) (r : SealedRecord) → IsOne s k.stored.durable.kept → sealed_in (records_at (facts_at t) n) s.me ≡ Some r → r.root ≡ s.root
  root_same s r there is =
      let at = sealed_there (records_at (facts_at t) n) s.me r is in
      let row : KeptIs (Began (births_of t)) s = one_of_all (KeptIs (Began (births_of t))) s k.stored.durable.kept (nodes_name_the_born t lawful n k up).1 there in
      let of : KeptIs (Began (births_of t)) (sealed_as r) = one_of_all (RecordNames (Began (births_of t))) (records.Sealed r) (records_at (facts_at t) n) (records_name_the_born t lawful n) at.0 in
      let one : of.born ≡ row.born = one_born (births_of t) of.born row.born of.began row.began (of.is_me ∙ (at.1 ∙ sym row.is_me)) in
      sym of.is_root ∙ (ap (λ (x : Born). x.root) one ∙ row.is_root)

  -- a branch that is sealed in the book has its record
  record_there : (c : BranchId) → c.node ≡ n → stands (is_sealed_of c) (book_of (events_of t)) ≡ true → (r : SealedRecord) × (sealed_in (records_at (facts_at t) n) c ≡ Some r)
  record_there c here some =
      let x = found (is_sealed_of c) (book_of (events_of t)) some in
      let kept : IsOne x.0 (filter (is_of_node n) (book_of (events_of t))) = one_kept (is_of_node n) x.0 (book_of (events_of t)) x.1 (of_here x.0 x.2) in
      let disk : filter (is_of_node n) (book_of (events_of t)) ≡ flat_map (entry_of n) (records_at (facts_at t) n) = ap (filter (is_of_node n)) (book_of_events t) ∙ books_are_of_disks t lawful n in
      let there : stands (is_sealed_of c) (flat_map (entry_of n) (records_at (facts_at t) n)) ≡ true = finds (is_sealed_of c) x.0 (flat_map (entry_of n) (records_at (facts_at t) n)) (subst (IsOne x.0) disk kept) x.2 in
      some_of (sealed_in (records_at (facts_at t) n) c) (sealed_told n c (records_at (facts_at t) n) ∙ there)
    where
      of_here : (x : Entry) → is_sealed_of c x ≡ true → is_of_node n x ≡ true
      of_here (entries.Sealed b g cs scn) is = eq-eqb b.node n (ap (λ (z : BranchId). z.node) (equal_from_same b c is) ∙ here)
      of_here (entries.Made m y) is = absurd (true≢false (sym is))
      of_here (entries.Decided b g cs scn) is = absurd (true≢false (sym is))
      of_here (entries.Ended b d) is = absurd (true≢false (sym is))
      of_here (entries.Forced b d) is = absurd (true≢false (sym is))
      of_here (entries.Met b d mixed) is = absurd (true≢false (sym is))

  -- an id names a branch in doubt where it names its row
  abbrev names_it : BranchId → Bool
  names_it c = is_id_of names id c (sealed_in (records_at (facts_at t) n) c)

  named_same : (s : KeptRow) → IsOne s k.stored.durable.kept → stands (is_sealed_of s.me) (book_of (events_of t)) ≡ true → names_it s.me ≡ is_row_of names id s
  named_same s there sealed =
      let r = record_there s.me (one_of_all (λ x. x.me.node ≡ n) s k.stored.durable.kept own there) sealed in
      ap (is_id_of names id s.me) r.1 ∙ ap (λ z. bytes_eq (local_text s.me) id || bytes_eq (global_text names z) id) (root_same s r.0 there r.1)

  -- a branch in doubt has a sealed row
  row_of : (c : BranchId) → IsOpenIn (book_of (events_of t)) n c → (s : KeptRow) × IsOne s k.stored.durable.kept × (s.me ≡ c) × (is_sealed s.state ≡ true)
  row_of c is =
      let sealed : exit (events_of t) c ≡ Some (Sealed is.scn) = exit_sealed (forest_of t) (events_of t) c is.global is.scn is.changes l (has_seal (events_of t) c is.global is.changes is.scn is.sealed) in
      let untold = open_events (forest_of t) (events_of t) c l is.endless in
      let stored_row : list_any (stands_at c) (stored_by nothing_stored (records_at (facts_at t) c.node)).durable.kept ≡ true = elim (sealed_are_kept t lawful c is.scn sealed) [
        | inl there ↦ there
        | inr done ↦ absurd (not_done c is.scn sealed untold.0 done)
      ] in
      let here : list_any (stands_at c) (map unacked_row k.stored.durable.kept) ≡ true
      = subst (λ (x : Stored). list_any (stands_at c) x.durable.kept ≡ true) (sym stored) (subst (λ m. list_any (stands_at c) (stored_by nothing_stored (records_at (facts_at t) m)).durable.kept ≡ true) is.here stored_row) in
      let s = found (stands_at c) k.stored.durable.kept (row_before c k.stored.durable.kept here) in
      let me : s.0.me ≡ c = equal_from_same s.0.me c s.2 in
      let row : RowIs (events_of t) s.0 = one_of_all (RowIs (events_of t)) s.0 k.stored.durable.kept rows s.1 in
      (s.0, s.1, me, sealed_by (events_of t) s.0 is.scn row (ap (exit (events_of t)) me ∙ sealed) (ap (learned (events_of t)) me ∙ untold.0) (ap (forced (events_of t)) me ∙ untold.1) s.0.state row.force)
    where
      not_done : (c : BranchId) (scn : ℕ) → exit (events_of t) c ≡ Some (Sealed scn) → learned (events_of t) c ≡ None → IsGoneForGood (events_of t) c → ⊥
      not_done c scn sealed unlearned (inl told) = absurd (cc (unlearned, told))
      not_done c scn sealed unlearned (inr forgot) = elim (i.forgets c forgot).0.1 [ inl decided ↦ absurd (cc (sealed, decided)) | inr told ↦ absurd (cc (unlearned, told)) ]

  -- and a sealed row is of a branch in doubt
  open_of_row : (s : KeptRow) → IsOne s k.stored.durable.kept → is_sealed s.state ≡ true → IsOpenIn (book_of (events_of t)) n s.me
  open_of_row s there sealed =
      let row = open_row (events_of t) s (one_of_all (RowIs (events_of t)) s k.stored.durable.kept rows there) sealed in
      let x = found (is_sealed_of s.me) (book_of (events_of t)) (has_sealed (events_of t) s.me s.scn row.0) in
      by x.0 x.1 x.2 (one_of_all (λ z. z.me.node ≡ n) s k.stored.durable.kept own there) (no_end (events_of t) s.me row.1 row.2)
    where
      by : (x : Entry) → IsOne x (book_of (events_of t)) → is_sealed_of s.me x ≡ true → s.me.node ≡ n → stands (is_end_of s.me) (book_of (events_of t)) ≡ false → IsOpenIn (book_of (events_of t)) n s.me
      by (entries.Sealed b g cs scn) one is here endless =
          record { global = g; changes = cs; scn = scn; sealed = subst (λ z. IsOne (entries.Sealed z g cs scn) (book_of (events_of t))) (equal_from_same b s.me is) one; here = here; endless = endless }
      by (entries.Made m y) one is here endless = absurd (true≢false (sym is))
      by (entries.Decided b g cs scn) one is here endless = absurd (true≢false (sym is))
      by (entries.Ended b d) one is here endless = absurd (true≢false (sym is))
      by (entries.Forced b d) one is here endless = absurd (true≢false (sym is))
      by (entries.Met b d mixed) one is here endless = absurd (true≢false (sym is))

  sealed_entry : (c : BranchId) → IsOpenIn (book_of (events_of t)) n c → stands (is_sealed_of c) (book_of (events_of t)) ≡ true
  sealed_entry c is = finds (is_sealed_of c) (entries.Sealed c is.global is.changes is.scn) (book_of (events_of t)) is.sealed (same_from_equal c c refl)

  module _ (s : KeptRow) (alone : filter (is_named_by names id) k.stored.durable.kept ≡ s ∷ []) where
    only : (c : BranchId) → IsOne c (filter names_it (in_doubt (book_of (events_of t)) n)) → c ≡ s.me
    only c there =
        let parts = one_filtered names_it c (in_doubt (book_of (events_of t)) n) there in
        let is : IsOpenIn (book_of (events_of t)) n c = open_of (book_of (events_of t)) n c parts.0 in
        let row = row_of c is in
        let named : names_it row.0.me ≡ true = ap names_it row.2 ∙ parts.1 in
        let by_row : is_row_of names id row.0 ≡ true = sym (named_same row.0 row.1 (ap (λ z. stands (is_sealed_of z) (book_of (events_of t))) row.2 ∙ sealed_entry c is)) ∙ named in
        let kept : IsOne row.0 (filter (is_named_by names id) k.stored.durable.kept) = one_kept (is_named_by names id) row.0 k.stored.durable.kept row.1 (and_from (is_sealed row.0.state) (is_row_of names id row.0) row.3 by_row) in
        sym row.2 ∙ one_row row.0 (subst (IsOne row.0) alone kept)
      where
        one_row : (x : KeptRow) → IsOne x (s ∷ []) → x.me ≡ s.me
        one_row x (inl here) = ap (λ (z : KeptRow). z.me) (sym here)
        one_row x (inr none) = absurd none

    there_is : IsOne s.me (filter names_it (in_doubt (book_of (events_of t)) n))
    there_is =
        let parts = one_filtered (is_named_by names id) s k.stored.durable.kept (subst (IsOne s) (sym alone) (inl refl)) in
        let both = and_parts (is_sealed s.state) (is_row_of names id s) parts.1 in
        let is : IsOpenIn (book_of (events_of t)) n s.me = open_of_row s parts.0 both.0 in
        one_kept names_it s.me (in_doubt (book_of (events_of t)) n) (in_doubt_of (book_of (events_of t)) n s.me is) (named_same s parts.0 (sealed_entry s.me is) ∙ both.1)

    one_in_doubt : filter names_it (in_doubt (book_of (events_of t)) n) ≡ s.me ∷ []
    one_in_doubt =
        one_alone s.me (filter names_it (in_doubt (book_of (events_of t)) n))
        (apart_filtered names_it (in_doubt (book_of (events_of t)) n) (doubts_apart (book_of (events_of t)) n (subst (EachAgainst SealsOnce []) (sym (book_of_events t)) (seals_once t lawful)))) only there_is

  -- the id names the forced branch, and no other branch in doubt
  pub named_one : (b : BranchId) → branch_to_force names k.stored.durable.kept id ≡ Ok b → named_in_doubt names (facts_at t) n id ≡ b ∷ []
  unfolding branch_to_force
  named_one b is =
      let s = alone_named id (filter (is_named_by names id) k.stored.durable.kept) b is in
      ap (λ bk. filter names_it (in_doubt bk n)) in_book ∙ (one_in_doubt s.0 s.1 ∙ ap (λ z. z ∷ []) s.2)
