-- After each start of a lawful run its node keeps what book and records say: the laws of rows, of records and of branches in
-- doubt, at the moment of the start.
use Rattle.std.proofs.Common.{◌≡◌, ℕ, zero, suc, ◌+◌, ◌||◌, ◌&&◌, Bool, true, false, true≢false, if◌then◌else◌, List, [], ◌∷◌, ◌++◌, filter, find, flat_map, fold, map, replicate, slice_get, take, unwrap_or, Some, None, inl, inr, refl, sym, ap, subst, ◌∙◌, arith}
use Rattle.std.specs.List.{AllByRecursion, list_any}
use Rattle.std.specs.Option.{option_map}
use Rattle.std.proofs.lemmas.List.Folds.{list_any-append}
use Rattle.dtx_values.proofs.ValueOrder.{equal_from_same, same_from_equal}
use Rattle.agreement.proofs.BookTests.{not_true}
use Rattle.redo_record.specs.Durable.{durable_after}
use Rattle.row_locks.specs.Locks.{is_lock_on}
use Rattle.node_rules.specs.Data.{Value, Change, BranchId, RedoRecord, Doubt}
use Rattle.node_rules.specs.NodeState.{NodeState, Stored, doubt_id}
use Rattle.node_rules.specs.Records.{applied, nothing_stored, stored_by}
use Rattle.node_rules.specs.Rows.{same_value}
use Rattle.node_rules.specs.Sessions.{fresh_session, session_at}
use Rattle.node_rules.specs.Turn.{start_of}
use Rattle.node_rules.specs.Words.{same_text}
use Rattle.run_rules.specs.Book.{EachAgainst, changes_of, in_doubt, rows_by_book}
use Rattle.run_rules.specs.Data.{Entry, Happening}
use Rattle.run_rules.specs.Data.happenings
use Rattle.run_rules.specs.Each.{facts_upto}
use Rattle.run_rules.specs.Entries.{entry_of, book_of}
use Rattle.run_rules.specs.Facts.{Facts, first_facts, node_at, records_at, with_boot, facts_after, facts_of}
use Rattle.run_rules.specs.Lawful.{MayHappen, History, IsLawfulRun}
use Rattle.run_rules.specs.Runs.{keys_in_doubt}
use Rattle.run_rules.proofs.AtNodeLemmas.{start_here}
use Rattle.run_base_laws.proofs.EventsStandLemmas.{run_stands}
use Rattle.run_key_laws.proofs.BookRunLemmas.{rows_are_told}
use Rattle.tree_laws.proofs.AgreeLemmas.{runs_agree}
use Rattle.tree_laws.proofs.PrefixLemmas.{so_far, f_at, one_on}
use Rattle.tree_laws.proofs.TimeLemmas.{part_lawful, part_on, part_of, may_of}
use Rattle.book_laws.proofs.PlaceLemmas.{IsOne}
use Rattle.book_laws.proofs.DiskLemmas.{books_are_of_disks}
use Rattle.book_laws.proofs.DoubtLemmas.{open_of}
use Rattle.book_laws.proofs.NodeBookLemmas.{own_entries, own_in_doubt, own_changes_of, ComesHere, all_here}
use Rattle.book_laws.proofs.NodeDoubtLemmas.{DoubtsStand, disk_stands}
use Rattle.book_laws.proofs.RowLemmas.{run_book, rows_agree}
use Rattle.start_laws.specs.StartLaws.{is_change_to, has_changed, by_id, doubters, doubter_of, lock_in_doubt, held_back, changed_by, IsRestored, EveryStartRestores}
use Rattle.start_laws.proofs.IdOrderLemmas.{one_by_id, none_by_id}
use Rattle.start_laws.proofs.DoubtIdLemmas.{disk_are}
use Rattle.start_laws.proofs.DoubtLockLemmas.{has_it, doubts_lock}

-- ---- what stands on a disk, and sessions

-- catalog, settings and kept rows are stored as the records say
durable_by : (s : Stored) (rs : List RedoRecord) → (stored_by s rs).durable ≡ fold durable_after s.durable rs
unfolding stored_by applied
durable_by s [] = refl
durable_by s (r ∷ rs) = durable_by (applied s r) rs

fresh_get : (m i : ℕ) → unwrap_or (slice_get (replicate m fresh_session) i) fresh_session ≡ fresh_session
fresh_get zero zero = refl
fresh_get zero (suc i) = refl
fresh_get (suc m) zero = refl
fresh_get (suc m) (suc i) = fresh_get m i

fresh_at : (session : ℕ) → session_at (replicate 64 fresh_session) session ≡ fresh_session
fresh_at zero = refl
fresh_at (suc i) = fresh_get 64 i

-- ---- keys in doubt

turned : (a b : Value) → same_value a b ≡ same_value b a
turned a b = by (same_value a b) refl
  where
    by : (q : Bool) → same_value a b ≡ q → q ≡ same_value b a
    by true is = sym (same_from_equal b a (sym (equal_from_same a b is)))
    by false is = sym (not_true (same_value b a) (λ other. true≢false (sym (same_from_equal a b (sym (equal_from_same b a other))) ∙ is)))

module _ (table : List ℕ) (key : Value) where
  -- the keys of the table in these changes
  abbrev keys_of : List Change → List Value
  keys_of cs = map (λ c. c.key) (filter (λ c. same_text c.table table) cs)

  keys_any : (cs : List Change) → list_any (same_value key) (keys_of cs) ≡ list_any (is_change_to table key) cs
  keys_any [] = refl
  keys_any (c ∷ cs) = by (same_text c.table table) (keys_any cs)
    where
      by : (q : Bool) → list_any (same_value key) (keys_of cs) ≡ list_any (is_change_to table key) cs
          → list_any (same_value key) (map (λ c. c.key) (if q then c ∷ filter (λ c. same_text c.table table) cs else filter (λ c. same_text c.table table) cs)) ≡ ((q && same_value c.key key) || list_any (is_change_to table key) cs)
      by true rest = ap (λ z. z || list_any (same_value key) (keys_of cs)) (turned key c.key) ∙ ap (λ z. same_value c.key key || z) rest
      by false rest = rest

  -- a key that no branch in doubt has changed is none of the keys in doubt
  none_among : (book : List Entry) (bs : List BranchId) → find (has_changed book table key) bs ≡ None → list_any (same_value key) (flat_map (λ b. keys_of (changes_of book b)) bs) ≡ false
  none_among book [] none = refl
  none_among book (b ∷ bs) none = by (has_changed book table key b) refl none (none_among book bs)
    where
      by : (q : Bool) → has_changed book table key b ≡ q → (if q then Some b else find (has_changed book table key) bs) ≡ None
          → (find (has_changed book table key) bs ≡ None → list_any (same_value key) (flat_map (λ b. keys_of (changes_of book b)) bs) ≡ false)
          → list_any (same_value key) (keys_of (changes_of book b) ++ flat_map (λ b. keys_of (changes_of book b)) bs) ≡ false
      by true is none rest = absurd cc
      by false is none rest =
          list_any-append (same_value key) (keys_of (changes_of book b)) (flat_map (λ b. keys_of (changes_of book b)) bs)
          ∙ (ap (λ q. q || list_any (same_value key) (flat_map (λ b. keys_of (changes_of book b)) bs)) (keys_any (changes_of book b) ∙ is) ∙ rest none)

  not_in_doubt : (book : List Entry) (n : ℕ) → doubter_of book n table key ≡ None → list_any (same_value key) (keys_in_doubt book n table) ≡ false
  not_in_doubt book n none = none_among book (in_doubt book n) (none_by_id (has_changed book table key) (in_doubt book n) none)

  -- ---- who is in doubt

  -- the branches of these changes are those that the entries have of them
  doubter_by : (es : List Entry) (ds : List Doubt) → AllByRecursion (λ d. d.changes ≡ changes_of es d.branch) ds → option_map doubt_id (find (has_it table key) ds) ≡ find (has_changed es table key) (map doubt_id ds)
  doubter_by es [] all = refl
  doubter_by es (d ∷ ds) all = by (has_it table key d) (doubter_by es ds all.1) ∙ ap (λ q. if q then Some d.branch else find (has_changed es table key) (map doubt_id ds)) (ap (list_any (is_change_to table key)) all.0)
    where
      by : (q : Bool) → option_map doubt_id (find (has_it table key) ds) ≡ find (has_changed es table key) (map doubt_id ds)
          → option_map doubt_id (if q then Some d else find (has_it table key) ds) ≡ (if q then Some d.branch else find (has_changed es table key) (map doubt_id ds))
      by true rest = refl
      by false rest = rest

  same_find : (p q : BranchId → Bool) (bs : List BranchId) → ((b : BranchId) → IsOne b bs → p b ≡ q b) → find p bs ≡ find q bs
  same_find p q [] same = refl
  same_find p q (b ∷ bs) same = ap (λ k. if k then Some b else find p bs) (same b (inl refl)) ∙ ap (λ o. if q b then Some b else o) (same_find p q bs (λ c there. same c (inr there)))

  -- by all of the book as by the entries of the node
  own_doubter : (n : ℕ) (book : List Entry) → doubter_of (own_entries n book) n table key ≡ doubter_of book n table key
  own_doubter n book =
      ap (λ bs. find (has_changed (own_entries n book) table key) (by_id bs)) (own_in_doubt n book)
      ∙ same_find (has_changed (own_entries n book) table key) (has_changed book table key) (doubters book n)
      (λ b there. ap (list_any (is_change_to table key)) (own_changes_of n book b (open_of book n b (one_by_id b (in_doubt book n) there)).here))

-- ---- what they hold back

abbrev pair_of : BranchId → List Change → BranchId × List Change
pair_of b cs = (b, cs)

with_its : (b : BranchId) {cs ds : List Change} → cs ≡ ds → pair_of b cs ≡ pair_of b ds
with_its b same = ap (pair_of b) same

held_by : (es : List Entry) (ds : List Doubt) → AllByRecursion (λ d. d.changes ≡ changes_of es d.branch) ds → map held_back ds ≡ map (changed_by es) (map doubt_id ds)
held_by es [] all = refl
held_by es (d ∷ ds) all = ap (λ b. b ∷ map held_back ds) (with_its d.branch all.0) ∙ ap (λ more. changed_by es d.branch ∷ more) (held_by es ds all.1)

same_map : (es book : List Entry) (bs : List BranchId) → ((b : BranchId) → IsOne b bs → changes_of es b ≡ changes_of book b) → map (changed_by es) bs ≡ map (changed_by book) bs
same_map es book [] same = refl
same_map es book (b ∷ bs) same = ap (λ c. c ∷ map (changed_by es) bs) (with_its b (same b (inl refl))) ∙ ap (λ more. changed_by book b ∷ more) (same_map es book bs (λ c there. same c (inr there)))

own_held : (n : ℕ) (book : List Entry) → map (changed_by (own_entries n book)) (doubters (own_entries n book) n) ≡ map (changed_by book) (doubters book n)
own_held n book =
    ap (λ bs. map (changed_by (own_entries n book)) (by_id bs)) (own_in_doubt n book)
    ∙ same_map (own_entries n book) book (doubters book n) (λ b there. own_changes_of n book b (open_of book n b (one_by_id b (in_doubt book n) there)).here)

-- ---- a start

module _ (t : History) (whole : IsLawfulRun t) (hs : List Happening) (n boot : ℕ) (rest : List Happening) (is : hs ++ happenings.Started n boot ∷ rest ≡ t.trace) where
  abbrev h : Happening
  h = happenings.Started n boot

  -- the run with the start as its last happening
  abbrev s : History
  s = so_far t (hs ++ h ∷ [])

  abbrev g : Facts
  g = f_at t (hs ++ h ∷ [])

  abbrev rs : List RedoRecord
  rs = records_at g n

  abbrev k : NodeState
  k = start_of rs

  lawful : IsLawfulRun s
  lawful = part_lawful t whole (hs ++ h ∷ []) (part_on t whole hs h rest is)

  begun : (node_at (facts_after t.places t.commands (f_at t hs) h) n ≡ Some (start_of (with_boot (f_at t hs) n boot))) × (records_at (facts_after t.places t.commands (f_at t hs) h) n ≡ with_boot (f_at t hs) n boot)
  begun =
      let may : MayHappen t.places t.commands (f_at t hs) h = may_of t whole hs h rest is in
      let stand = run_stands (so_far t hs) (part_lawful t whole hs (part_of t whole hs h rest is)) in
      start_here t.places t.commands (f_at t hs) stand.0.even n boot may.there.0 (omega (arith, may.there.1, stand.1.many))

  its_records : rs ≡ with_boot (f_at t hs) n boot
  its_records = ap (λ (f : Facts). records_at f n) (one_on t hs h) ∙ begun.1

  is_up : node_at g n ≡ Some k
  is_up = ap (λ (f : Facts). node_at f n) (one_on t hs h) ∙ (begun.0 ∙ ap (λ xs. Some (start_of xs)) (sym its_records))

  disk : own_entries n (book_of s.trace) ≡ flat_map (entry_of n) rs
  disk = books_are_of_disks s lawful n

  comes : EachAgainst (ComesHere n) [] (flat_map (entry_of n) rs)
  comes = subst (EachAgainst (ComesHere n) []) disk (all_here n (book_of s.trace) (runs_agree s lawful).0)

  stand : DoubtsStand n (flat_map (entry_of n) rs) (stored_by nothing_stored rs).doubts
  stand = disk_stands n rs comes

  branches : map doubt_id (stored_by nothing_stored rs).doubts ≡ doubters (flat_map (entry_of n) rs) n
  branches = disk_are n rs comes

  -- what the branches in doubt of the disk hold back, is what the book has of them
  its_doubts : map held_back (stored_by nothing_stored rs).doubts ≡ map (changed_by g.book) (doubters g.book n)
  its_doubts =
      held_by (flat_map (entry_of n) rs) (stored_by nothing_stored rs).doubts stand.changes
      ∙ (ap (map (changed_by (flat_map (entry_of n) rs))) branches
      ∙ (ap (λ es. map (changed_by es) (doubters es n)) (sym disk) ∙ (own_held n (book_of s.trace) ∙ ap (λ es. map (changed_by es) (doubters es n)) (sym (run_book s)))))

  module _ (table : List ℕ) (key : Value) where
    -- the branch in doubt of the disk is that of the book
    its_doubter : option_map doubt_id (find (has_it table key) (stored_by nothing_stored rs).doubts) ≡ doubter_of g.book n table key
    its_doubter =
        doubter_by table key (flat_map (entry_of n) rs) (stored_by nothing_stored rs).doubts stand.changes
        ∙ (ap (find (has_changed (flat_map (entry_of n) rs) table key)) branches
        ∙ (ap (λ es. doubter_of es n table key) (sym disk) ∙ (own_doubter table key n (book_of s.trace) ∙ ap (λ es. doubter_of es n table key) (sym (run_book s)))))

    its_lock : find (is_lock_on table key) k.locks ≡ option_map (lock_in_doubt table key) (doubter_of g.book n table key)
    unfolding start_of
    its_lock = doubts_lock table key (stored_by nothing_stored rs).doubts [] refl ∙ ap (option_map (lock_in_doubt table key)) its_doubter

  restored : IsRestored g n k
  unfolding start_of
  restored = record {
    rows = λ table key none. rows_agree s lawful n k is_up table key (not_in_doubt table key g.book n none);
    committed = λ table. rows_are_told s lawful n k is_up table ∙ ap (λ (es : List Entry). rows_by_book es n table) (sym (run_book s));
    locks = its_lock;
    doubts = its_doubts;
    kept = durable_by nothing_stored rs;
    lives = refl;
    owns = refl;
    works = refl;
    opens = refl;
    sessions = fresh_at;
  }

-- ---- every run

-- a list up to one of its items
cut_at : {A : Type 0} (xs : List A) (i : ℕ) (h : A) → slice_get xs i ≡ Some h → (hs : List A) × (rest : List A) × (hs ++ h ∷ rest ≡ xs) × (take (i + 1) xs ≡ hs ++ h ∷ [])
cut_at [] zero h is = absurd cc
cut_at [] (suc i) h is = absurd cc
cut_at (x ∷ xs) zero h is = let it : Some x ≡ Some h = is in let one : h ≡ x = cc in ([], xs, ap (λ y. y ∷ xs) one, ap (λ y. y ∷ []) (sym one))
cut_at (x ∷ xs) (suc i) h is =
    let more = cut_at xs i h is in
    let one : suc i + 1 ≡ suc (i + 1) = omega arith in
    (x ∷ more.0, more.1, ap (λ ys. x ∷ ys) more.2, ap (λ m. take m (x ∷ xs)) one ∙ ap (λ ys. x ∷ ys) more.3)

pub every_start_restores : EveryStartRestores
every_start_restores t whole i n boot at =
    let cut = cut_at t.trace i (happenings.Started n boot) at in
    let there : facts_upto t (i + 1) ≡ f_at t (cut.0 ++ happenings.Started n boot ∷ []) = ap (facts_of t.places t.commands (first_facts t.places)) cut.3 in
    subst (λ f. (k : NodeState) × (node_at f n ≡ Some k) × IsRestored f n k) (sym there)
    (k t whole cut.0 n boot cut.1 cut.2, is_up t whole cut.0 n boot cut.1 cut.2, restored t whole cut.0 n boot cut.1 cut.2)
