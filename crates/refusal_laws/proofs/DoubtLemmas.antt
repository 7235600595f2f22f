-- A key is in doubt at its node exactly where the book has it in doubt, and by the same branch.
use Rattle.std.proofs.Common.{◌≡◌, ℕ, ◌&&◌, ◌||◌, Bool, true, false, true≢false, if◌then◌else◌, List, [], ◌∷◌, flat_map, find, map, option_map, Option, Some, None, inl, inr, refl, sym, ap, subst, ◌∙◌}
use Rattle.std.specs.List.{AllByRecursion, list_any}
use Rattle.std.proofs.lemmas.Bool.{and_parts, or_cases, or_left, or_right}
use Rattle.tran_ids.proofs.BranchLemmas.{equal_from_same, same_from_equal}
use Rattle.row_locks.specs.Back.{is_change_at, is_changed_in}
use Rattle.row_locks.specs.Held.{in_doubt_one, doubt_on}
use Rattle.row_locks.specs.Locks.{Lock, is_lock_on, named}
use Rattle.dtx_values.proofs.ValueOrder as values
use Rattle.std.specs.Cmp.Lexicographic.{bytes_decides}
use Rattle.node_rules.specs.Data.{Value, Change, BranchId, RedoRecord, Doubt, Live}
use Rattle.node_rules.specs.Words.{same, same_text, is_item_of}
use Rattle.node_rules.specs.Rows.{same_value}
use Rattle.node_rules.specs.NodeState.{NodeState, doubt_id, live_id}
use Rattle.run_rules.specs.Book.{EachAgainst, changes_of, in_doubt}
use Rattle.run_rules.specs.Data.{Entry}
use Rattle.run_rules.specs.Entries.{entry_of, book_of}
use Rattle.run_rules.specs.Facts.{node_at, records_at}
use Rattle.run_rules.specs.Lawful.{History, IsLawfulRun, facts_at}
use Rattle.run_base_laws.proofs.StoredLemmas.{records_are_kept}
use Rattle.run_key_laws.specs.KeyLaws.{is_doubted_by, passes, is_held, AreHeld}
use Rattle.run_key_laws.proofs.KeyRunLemmas.{doubts_same, keys_are_held}
use Rattle.tree_laws.proofs.AgreeLemmas.{runs_agree}
use Rattle.book_laws.proofs.DiskLemmas.{books_are_of_disks}
use Rattle.book_laws.proofs.DoubtLemmas.{open_of}
use Rattle.book_laws.proofs.NodeBookLemmas.{own_entries, own_in_doubt, own_changes_of, ComesHere, all_here}
use Rattle.book_laws.proofs.NodeDoubtLemmas.{DoubtsStand, disk_stands}
use Rattle.book_laws.proofs.PlaceLemmas.{IsOne}
use Rattle.book_laws.proofs.RowLemmas.{run_book}
use Rattle.refusal_laws.specs.Holders.{is_of_doubt, is_of_branch, doubt_at, DoubtsAreOfTheBook}
use Rattle.refusal_laws.proofs.LockLemmas.{locks_are_of_branches}

-- ---- lists

-- one that is found passes, and is one of these
pub found_passes : {A : Type 0} (p : A → Bool) (xs : List A) (y : A) → find p xs ≡ Some y → (p y ≡ true) × IsOne y xs
found_passes p [] y is = absurd cc
found_passes p (x ∷ xs) y is = by (p x) refl is (found_passes p xs y)
  where
    by : (q : Bool) → p x ≡ q → (if q then Some x else find p xs) ≡ Some y → (find p xs ≡ Some y → (p y ≡ true) × IsOne y xs) → (p y ≡ true) × IsOne y (x ∷ xs)
    by true passes is later = (let one : x ≡ y = (let both : Some x ≡ Some y = is in cc) in (subst (λ z. p z ≡ true) one passes, inl one))
    by false fails is later = (let it = later is in (it.0, inr it.1))

-- where none is found none passes
none_passes : {A : Type 0} (p : A → Bool) (xs : List A) → find p xs ≡ None → list_any p xs ≡ false
none_passes p [] is = refl
none_passes p (x ∷ xs) is = by (p x) is (none_passes p xs)
  where
    by : (q : Bool) → (if q then Some x else find p xs) ≡ None → (find p xs ≡ None → list_any p xs ≡ false) → (q || list_any p xs) ≡ false
    by true is later = absurd cc
    by false is later = later is

any_of : {A : Type 0} (p : A → Bool) (xs : List A) (y : A) → IsOne y xs → p y ≡ true → list_any p xs ≡ true
any_of p [] y there passes = absurd there
any_of p (x ∷ xs) y (inl here) passes = or_left (p x) (list_any p xs) (ap p here ∙ passes)
any_of p (x ∷ xs) y (inr there) passes = or_right (p x) (list_any p xs) (any_of p xs y there passes)

-- one passes, where any does
pub one_passes : {A : Type 0} (p : A → Bool) (P : A → Type 0) (xs : List A) → AllByRecursion P xs → list_any p xs ≡ true → (x : A) × P x × (p x ≡ true)
one_passes p P [] all any = absurd cc
one_passes p P (x ∷ xs) all any = elim (or_cases (p x) (list_any p xs) any) [ inl here ↦ (x, all.0, here) | inr later ↦ one_passes p P xs all.1 later ]

any_alike : {A : Type 0} (p q : A → Bool) (xs : List A) → AllByRecursion (λ x. p x ≡ q x) xs → list_any p xs ≡ list_any q xs
any_alike p q [] all = refl
any_alike p q (x ∷ xs) all = ap (λ b. b || list_any p xs) all.0 ∙ ap (λ b. q x || b) (any_alike p q xs all.1)

any_mapped : {A B : Type 0} (f : A → B) (p : B → Bool) (xs : List A) → list_any p (map f xs) ≡ list_any (λ x. p (f x)) xs
any_mapped f p [] = refl
any_mapped f p (x ∷ xs) = ap (λ b. p (f x) || b) (any_mapped f p xs)

-- ---- locks

-- a lock that is found is on the key
lock_on : (locks : List Lock) (table : List ℕ) (key : Value) (l : Lock) → find (is_lock_on table key) locks ≡ Some l → (l.table ≡ table) × (l.key ≡ key)
lock_on locks table key l is =
    let on : is_lock_on table key l ≡ true = (found_passes (is_lock_on table key) locks l is).0 in
    let parts = and_parts (same_text l.table table) (same_value l.key key) on in
    ((bytes_decides l.table table).0 parts.0, values.equal_from_same l.key key parts.1)

pub found_so : (P : Lock → Type 0) (p : Lock → Bool) (locks : List Lock) (l : Lock) → AllByRecursion P locks → find p locks ≡ Some l → P l
found_so P p [] l all is = absurd cc
found_so P p (x ∷ xs) l all is = by (p x) is (found_so P p xs l all.1)
  where
    by : (q : Bool) → (if q then Some x else find p xs) ≡ Some l → (find p xs ≡ Some l → P l) → P l
    by true is later = subst P (let both : Some x ≡ Some l = is in let one : x ≡ l = cc in one) all.0
    by false is later = later is

-- a key that a branch in doubt holds is in doubt by it
pub doubted_on : (locks : List Lock) (table : List ℕ) (key : Value) (b : BranchId) → is_held (is_doubted_by b) locks table key ≡ true → doubt_on locks table key ≡ Some b
doubted_on locks table key b held = by (find (is_lock_on table key) locks) refl held
  where
    by : (o : Option Lock) → find (is_lock_on table key) locks ≡ o → passes (is_doubted_by b) o ≡ true → doubt_on locks table key ≡ Some b
    by None is held = absurd cc
    by (Some x) is held =
        let parts = and_parts (same x.branch b && x.writes) x.in_doubt held in
        let own : x.branch ≡ b = equal_from_same x.branch b (and_parts (same x.branch b) x.writes parts.0).0 in
        ap (λ o. in_doubt_one (option_map named o)) is ∙ (ap (λ q. if q then Some x.branch else None) parts.1 ∙ ap Some own)

-- a change of these at a key is held as they are
pub change_held : (test : Lock → Bool) (locks : List Lock) (table : List ℕ) (key : Value) (cs : List Change) → AreHeld test locks cs → is_changed_in cs table key ≡ true → is_held test locks table key ≡ true
change_held test locks table key cs held is =
    let it = one_passes (is_change_at table key) (λ c. is_held test locks c.table c.key ≡ true) cs held is in
    let parts = and_parts (same_text it.0.table table) (same_value it.0.key key) it.2 in
    subst (λ v. is_held test locks table v ≡ true) (values.equal_from_same it.0.key key parts.1)
    (subst (λ m. is_held test locks m it.0.key ≡ true) ((bytes_decides it.0.table table).0 parts.0) it.1)

-- ---- a node and its book

module _ (book : List Entry) (n : ℕ) (ds : List Doubt) (stands : DoubtsStand n (own_entries n book) ds) where
  -- by the entries of the node, and by all of the book
  own_changed : (table : List ℕ) (key : Value) (c : BranchId) → list_any (λ d. same d.branch c && is_changed_in d.changes table key) ds
      ≡ list_any (λ b. same b c && is_changed_in (changes_of (own_entries n book) b) table key) (in_doubt book n)
  own_changed table key c =
      any_alike (λ d. same d.branch c && is_changed_in d.changes table key) (λ d. same d.branch c && is_changed_in (changes_of (own_entries n book) d.branch) table key) ds (alike ds stands.changes)
      ∙ (sym (any_mapped doubt_id (λ b. same b c && is_changed_in (changes_of (own_entries n book) b) table key) ds)
      ∙ (stands.branches (λ b. same b c && is_changed_in (changes_of (own_entries n book) b) table key)
      ∙ ap (list_any (λ b. same b c && is_changed_in (changes_of (own_entries n book) b) table key)) (own_in_doubt n book)))
    where
      alike : (xs : List Doubt) → AllByRecursion (λ d. d.changes ≡ changes_of (own_entries n book) d.branch) xs
          → AllByRecursion (λ d. (same d.branch c && is_changed_in d.changes table key) ≡ (same d.branch c && is_changed_in (changes_of (own_entries n book) d.branch) table key)) xs
      alike [] all = tt
      alike (d ∷ xs) all = (ap (λ cs. same d.branch c && is_changed_in cs table key) all.0, alike xs all.1)

  -- a branch in doubt of the book that has changed a key is in doubt at the node, with that change
  of_book : (table : List ℕ) (key : Value) (b : BranchId) → IsOne b (in_doubt book n) → is_changed_in (changes_of book b) table key ≡ true → list_any (λ d. same d.branch b && is_changed_in d.changes table key) ds ≡ true
  of_book table key b there is =
      let here : b.node ≡ n = (open_of book n b there).here in
      let own : is_changed_in (changes_of (own_entries n book) b) table key ≡ true = ap (λ cs. is_changed_in cs table key) (own_changes_of n book b here) ∙ is in
      own_changed table key b
      ∙ any_of (λ c. same c b && is_changed_in (changes_of (own_entries n book) c) table key) (in_doubt book n) b there
      (ap (λ q. q && is_changed_in (changes_of (own_entries n book) b) table key) (same_from_equal b b refl) ∙ own)

  -- and the other way
  to_book : (table : List ℕ) (key : Value) (b : BranchId) → list_any (λ d. same d.branch b && is_changed_in d.changes table key) ds ≡ true → list_any (λ c. is_changed_in (changes_of book c) table key) (in_doubt book n) ≡ true
  to_book table key b is =
      let own : list_any (λ c. same c b && is_changed_in (changes_of (own_entries n book) c) table key) (in_doubt book n) ≡ true = sym (own_changed table key b) ∙ is in
      let it = one_passes (λ c. same c b && is_changed_in (changes_of (own_entries n book) c) table key) (λ c. IsOne c (in_doubt book n)) (in_doubt book n) (each_one (in_doubt book n)) own in
      let changed : is_changed_in (changes_of (own_entries n book) it.0) table key ≡ true = (and_parts (same it.0 b) (is_changed_in (changes_of (own_entries n book) it.0) table key) it.2).1 in
      any_of (λ c. is_changed_in (changes_of book c) table key) (in_doubt book n) it.0 it.1
      (ap (λ cs. is_changed_in cs table key) (sym (own_changes_of n book it.0 (open_of book n it.0 it.1).here)) ∙ changed)
    where
      weaker : (y : BranchId) (xs zs : List BranchId) → AllByRecursion (λ c. IsOne c xs) zs → AllByRecursion (λ c. IsOne c (y ∷ xs)) zs
      weaker y xs [] all = tt
      weaker y xs (z ∷ zs) all = (inr all.0, weaker y xs zs all.1)

      each_one : (xs : List BranchId) → AllByRecursion (λ c. IsOne c xs) xs
      each_one [] = tt
      each_one (x ∷ xs) = (inl refl, weaker x xs xs (each_one xs))

  module _ (lives : List Live) (locks : List Lock) (whose : AllByRecursion (λ l. is_of_branch lives ds l ≡ true) locks) (held : AllByRecursion (λ d. AreHeld (is_doubted_by d.branch) locks d.changes) ds) where
    -- a key that is in doubt by the book is held so
    book_held : (table : List ℕ) (key : Value) (b : BranchId) → doubt_at book n table key ≡ Some b → doubt_on locks table key ≡ Some b
    book_held table key b is =
        let found = found_passes (λ c. is_changed_in (changes_of book c) table key) (in_doubt book n) b is in
        let it = one_passes (λ d. same d.branch b && is_changed_in d.changes table key) (λ d. AreHeld (is_doubted_by d.branch) locks d.changes) ds held (of_book table key b found.1 found.0) in
        let parts = and_parts (same it.0.branch b) (is_changed_in it.0.changes table key) it.2 in
        doubted_on locks table key b
        (subst (λ c. is_held (is_doubted_by c) locks table key ≡ true) (equal_from_same it.0.branch b parts.0) (change_held (is_doubted_by it.0.branch) locks table key it.0.changes it.1 parts.1))

    -- a key that is held so is in doubt by the book
    held_book : (table : List ℕ) (key : Value) (b : BranchId) → doubt_on locks table key ≡ Some b → list_any (λ c. is_changed_in (changes_of book c) table key) (in_doubt book n) ≡ true
    held_book table key b is = by (find (is_lock_on table key) locks) refl is
      where
        by : (o : Option Lock) → find (is_lock_on table key) locks ≡ o → in_doubt_one (option_map named o) ≡ Some b → list_any (λ c. is_changed_in (changes_of book c) table key) (in_doubt book n) ≡ true
        by None found is = absurd cc
        by (Some l) found is = doubt l.in_doubt refl is
          where
            its : is_of_branch lives ds l ≡ true
            its = found_so (λ x. is_of_branch lives ds x ≡ true) (is_lock_on table key) locks l whose found

            doubt : (q : Bool) → l.in_doubt ≡ q → (if q then Some l.branch else None) ≡ Some b → list_any (λ c. is_changed_in (changes_of book c) table key) (in_doubt book n) ≡ true
            doubt false was is = absurd cc
            doubt true was is =
                let on = lock_on locks table key l found in
                let of_doubt : is_of_doubt ds l ≡ true = ap (λ q. if q then is_of_doubt ds l else list_any (is_item_of live_id l.branch) lives) (sym was) ∙ its in
                to_book table key l.branch
                (subst (λ v. list_any (λ d. same d.branch l.branch && is_changed_in d.changes table v) ds ≡ true) on.1
                (subst (λ m. list_any (λ d. same d.branch l.branch && is_changed_in d.changes m l.key) ds ≡ true) on.0 of_doubt))

    pub doubts_same_on : (table : List ℕ) (key : Value) → doubt_on locks table key ≡ doubt_at book n table key
    doubts_same_on table key = by (doubt_at book n table key) refl
      where
        by : (o : Option BranchId) → doubt_at book n table key ≡ o → doubt_on locks table key ≡ o
        by (Some b) is = book_held table key b is
        by None is = none (doubt_on locks table key) refl
          where
            none : (o : Option BranchId) → doubt_on locks table key ≡ o → o ≡ None
            none None on = refl
            none (Some b) on = absurd (true≢false (sym (held_book table key b on) ∙ none_passes (λ c. is_changed_in (changes_of book c) table key) (in_doubt book n) is))

-- ---- every run

-- the branches in doubt of a node stand by the entries of its own
pub doubts_stand : (t : History) → IsLawfulRun t → (n : ℕ) (k : NodeState) → node_at (facts_at t) n ≡ Some k → DoubtsStand n (own_entries n (facts_at t).book) k.stored.doubts
doubts_stand t lawful n k up =
    let rs : List RedoRecord = records_at (facts_at t) n in
    let disk : own_entries n (book_of t.trace) ≡ flat_map (entry_of n) rs = books_are_of_disks t lawful n in
    let comes : EachAgainst (ComesHere n) [] (flat_map (entry_of n) rs) = subst (EachAgainst (ComesHere n) []) disk (all_here n (book_of t.trace) (runs_agree t lawful).0) in
    subst (λ book. DoubtsStand n (own_entries n book) k.stored.doubts) (sym (run_book t))
    (subst (λ es. DoubtsStand n es k.stored.doubts) (sym disk)
    (subst (DoubtsStand n (flat_map (entry_of n) rs)) (sym (doubts_same rs k (records_are_kept t lawful n k up))) (disk_stands n rs comes)))

pub doubts_are_of_the_book : DoubtsAreOfTheBook
doubts_are_of_the_book t lawful n k up table key =
    doubts_same_on (facts_at t).book n k.stored.doubts (doubts_stand t lawful n k up) k.lives k.locks (locks_are_of_branches t lawful n k up) (keys_are_held t lawful n k up).doubts table key
