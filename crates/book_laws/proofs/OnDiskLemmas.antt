-- Where the entries of a book stand on the disks of their nodes, and which branch left before another there.
use Rattle.std.proofs.Common.{◌≡◌, ℕ, ◌<◌, ◌||◌, Bool, true, false, if◌then◌else◌, List, [], ◌∷◌, ◌++◌, filter, flat_map, take, inl, inr, refl, sym, ap, subst, ◌∙◌}
use Rattle.std.specs.Prelude.{◌⊎◌}
use Rattle.std.specs.List.{AllByRecursion, list_any}
use Rattle.std.specs.Cmp.Lexicographic.{bytes_decides}
use Rattle.std.proofs.lemmas.Bool.{and_parts, and_from, eq-eqb}
use Rattle.std.proofs.lemmas.List.Elements.{filter-append}
use Rattle.std.proofs.lemmas.List.Folds.{list_any-append}
use Rattle.dtx_values.proofs.ValueOrder.{equal_from_same as one_value, same_from_equal as same_of_one}
use Rattle.node_rules.specs.Data.{Change, BranchId, RedoRecord}
use Rattle.node_rules.specs.Data.records
use Rattle.node_rules.specs.Words.{same, same_text}
use Rattle.node_rules.specs.Rows.{same_value}
use Rattle.run_rules.specs.Data.{Entry}
use Rattle.run_rules.specs.Data.entries
use Rattle.run_rules.specs.Book.{is_end_of, stands, At}
use Rattle.run_rules.specs.Entries.{entry_of}
use Rattle.run_key_laws.specs.RiseLaws.{are_of_one_key}
use Rattle.run_key_laws.specs.OrderLaws.{ends, have_a_key_in_common, IsDoneBefore, ComesInOrder, InOrderFrom}
use Rattle.run_key_laws.specs.CommitOrderLaws.{IsIn, SealsOrDecides, changes_by, LeavesAfter}
use Rattle.run_key_laws.proofs.CommitOrderLemmas.{at_split}
use Rattle.book_laws.specs.DiskLaws.{node_of, is_of_node}
use Rattle.book_laws.proofs.PlaceLemmas.{IsOne, found, finds, one_kept, one_of_flat, one_before, parted, any_unfiltered}

-- ---- keys in common

one_key : (c d : Change) → are_of_one_key c d ≡ true → are_of_one_key d c ≡ true
one_key c d is =
    let parts = and_parts (same_text c.table d.table) (same_value c.key d.key) is in
    and_from (same_text d.table c.table) (same_value d.key c.key) ((bytes_decides d.table c.table).1 (sym ((bytes_decides c.table d.table).0 parts.0))) (same_of_one d.key c.key (sym (one_value c.key d.key parts.1)))

-- changes have a key in common with these, and these with them
pub common_too : (cs ds : List Change) → have_a_key_in_common cs ds ≡ true → have_a_key_in_common ds cs ≡ true
common_too cs ds some =
    let c = found (λ c. list_any (are_of_one_key c) ds) cs some in
    let d = found (are_of_one_key c.0) ds c.2 in
    finds (λ d. list_any (are_of_one_key d) cs) d.0 ds d.1 (finds (are_of_one_key d.0) c.0 cs c.1 (one_key c.0 d.0 d.2))

-- ---- the entry of a record

-- it is the entry by which this branch seals or decides, of this transaction, with these changes
abbrev pub IsOf : BranchId → BranchId → List Change → Entry → Type 0
IsOf x g cs (entries.Sealed b h ds scn) = (b ≡ x) × (h ≡ g) × (ds ≡ cs)
IsOf x g cs (entries.Decided b h ds scn) = (b ≡ x) × (h ≡ g) × (ds ≡ cs)
IsOf x g cs _ = ⊥

-- the branch leaves by its record
pub leaves_by : (n : ℕ) (x g : BranchId) (cs : List Change) (e : Entry) (r : RedoRecord) → entry_of n r ≡ e ∷ [] → IsOf x g cs e → SealsOrDecides x r × (changes_by r ≡ cs)
leaves_by n x g cs e r is of = by r is (subst (λ es. AllByRecursion (IsOf x g cs) es) (sym is) (of, tt))
  where
    by : (r : RedoRecord) → entry_of n r ≡ e ∷ [] → AllByRecursion (IsOf x g cs) (entry_of n r) → SealsOrDecides x r × (changes_by r ≡ cs)
    by (records.Sealed s) is all = (all.0.0, all.0.2)
    by (records.Decided s) is all = (all.0.0, all.0.2)
    by (records.Table t) is all = absurd all.0
    by (records.Ended b d) is all = absurd all.0
    by (records.Forced b d given) is all = absurd all.0
    by (records.Met b d mixed) is all = absurd all.0
    by _ is all = absurd cc

-- a record has one entry or none
alone : (n : ℕ) (r : RedoRecord) (e : Entry) → IsOne e (entry_of n r) → entry_of n r ≡ e ∷ []
alone n (records.Table t) e (inl is) = ap (λ x. x ∷ []) is
alone n (records.Sealed s) e (inl is) = ap (λ x. x ∷ []) is
alone n (records.Decided s) e (inl is) = ap (λ x. x ∷ []) is
alone n (records.Ended b d) e (inl is) = ap (λ x. x ∷ []) is
alone n (records.Forced b d given) e (inl is) = ap (λ x. x ∷ []) is
alone n (records.Met b d mixed) e (inl is) = ap (λ x. x ∷ []) is
alone n (records.Table t) e (inr none) = absurd none
alone n (records.Sealed s) e (inr none) = absurd none
alone n (records.Decided s) e (inr none) = absurd none
alone n (records.Ended b d) e (inr none) = absurd none
alone n (records.Forced b d given) e (inr none) = absurd none
alone n (records.Met b d mixed) e (inr none) = absurd none
alone n _ e there = absurd there

none_or_one : (n : ℕ) (r : RedoRecord) → (entry_of n r ≡ []) ⊎ ((e : Entry) × (entry_of n r ≡ e ∷ []))
none_or_one n (records.Table t) = inr (entries.Made n t, refl)
none_or_one n (records.Sealed r) = inr (entries.Sealed r.me r.root r.changes r.scn, refl)
none_or_one n (records.Decided r) = inr (entries.Decided r.me r.root r.changes r.scn, refl)
none_or_one n (records.Ended b d) = inr (entries.Ended b d, refl)
none_or_one n (records.Forced b d given) = inr (entries.Forced b d, refl)
none_or_one n (records.Met b d mixed) = inr (entries.Met b d mixed, refl)
none_or_one n _ = inl refl

as_before : (q : Bool) → q ≡ (q || false)
as_before true = refl
as_before false = refl

-- a record ends a branch where its entry does
record_ends : (n : ℕ) (b : BranchId) (r : RedoRecord) → ends b r ≡ list_any (is_end_of b) (entry_of n r)
record_ends n b (records.Ended c d) = as_before (same c b)
record_ends n b (records.Forced c d given) = as_before (same c b)
record_ends n b _ = refl

pub disk_ends : (n : ℕ) (b : BranchId) (rs : List RedoRecord) → list_any (ends b) rs ≡ stands (is_end_of b) (flat_map (entry_of n) rs)
disk_ends n b [] = refl
disk_ends n b (r ∷ rs) = ap (λ q. q || list_any (ends b) rs) (record_ends n b r) ∙ (ap (λ q. list_any (is_end_of b) (entry_of n r) || q) (disk_ends n b rs) ∙ sym (list_any-append (is_end_of b) (entry_of n r) (flat_map (entry_of n) rs)))

-- ---- a place of the book on the disk

-- On a disk stands the record of an entry, after the records of those entries.
pub record EntryOnDisk (n : ℕ) (rs : List RedoRecord) (before : List Entry) (e : Entry) : Type 0 where
  pub older : List RedoRecord
  pub newer : List RedoRecord
  pub one : RedoRecord
  pub split : rs ≡ older ++ one ∷ newer
  pub first : flat_map (entry_of n) older ≡ before
  pub is : entry_of n one ≡ e ∷ []

module _ (n : ℕ) where
  one_more : (r : RedoRecord) (rs : List RedoRecord) (before : List Entry) (e : Entry) (s : EntryOnDisk n rs before e) → EntryOnDisk n (r ∷ rs) (entry_of n r ++ before) e
  one_more r rs before e s = record { older = r ∷ s.older; newer = s.newer; one = s.one; split = ap (λ xs. r ∷ xs) s.split; first = ap (λ es. entry_of n r ++ es) s.first; is = s.is }

  first_of : (r : RedoRecord) (rs : List RedoRecord) (x : Entry) (before later : List Entry) (e : Entry) → entry_of n r ≡ x ∷ [] → x ∷ flat_map (entry_of n) rs ≡ before ++ e ∷ later
      → ((es : List Entry) → flat_map (entry_of n) rs ≡ es ++ e ∷ later → EntryOnDisk n rs es e) → EntryOnDisk n (r ∷ rs) before e
  first_of r rs x [] later e is all rest = record { older = []; newer = rs; one = r; split = refl; first = refl; is = is ∙ (let here : x ≡ e = cc all in ap (λ z. z ∷ []) here) }
  first_of r rs x (y ∷ before) later e is all rest =
      let here : x ≡ y = cc all in
      let there : flat_map (entry_of n) rs ≡ before ++ e ∷ later = cc all in
      subst (λ es. EntryOnDisk n (r ∷ rs) es e) (ap (λ es. es ++ before) is ∙ ap (λ z. z ∷ before) here) (one_more r rs before e (rest before there))

  -- where the entries of a disk are parted, the disk is
  disk_parted : (rs : List RedoRecord) (before later : List Entry) (e : Entry) → flat_map (entry_of n) rs ≡ before ++ e ∷ later → EntryOnDisk n rs before e
  disk_parted [] [] later e all = absurd cc
  disk_parted [] (x ∷ before) later e all = absurd cc
  disk_parted (r ∷ rs) before later e all = elim (none_or_one n r) [
    | inl none ↦ (let rest = disk_parted rs before later e (sym (ap (λ es. es ++ flat_map (entry_of n) rs) none) ∙ all) in
        subst (λ es. EntryOnDisk n (r ∷ rs) es e) (ap (λ es. es ++ before) none) (one_more r rs before e rest))
    | inr some ↦ first_of r rs some.0 before later e some.1 (sym (ap (λ es. es ++ flat_map (entry_of n) rs) some.1) ∙ all) (λ es at. disk_parted rs es later e at)
  ]

  module _ (book : List Entry) (rs : List RedoRecord) (disk : filter (is_of_node n) book ≡ flat_map (entry_of n) rs) where
    -- the record of an entry stands after those of the entries of its node before it
    pub on_disk : (k : ℕ) (e : Entry) → At book k e → node_of e ≡ n → EntryOnDisk n rs (filter (is_of_node n) (take k book)) e
    on_disk k e at here =
        let parts = parted e book k at in
        disk_parted rs (filter (is_of_node n) (take k book)) (filter (is_of_node n) parts.0) e
        (sym disk ∙ (ap (filter (is_of_node n)) parts.1 ∙ (filter-append (is_of_node n) (take k book) (e ∷ parts.0)
        ∙ ap (λ q. filter (is_of_node n) (take k book) ++ (if q then e ∷ filter (is_of_node n) parts.0 else filter (is_of_node n) parts.0)) (eq-eqb (node_of e) n here))))

    -- and so does the record of an entry before it
    pub older_on_disk : (k m : ℕ) (d e : Entry) → At book k d → k < m → node_of d ≡ n → (s : EntryOnDisk n rs (filter (is_of_node n) (take m book)) e) → (r : RedoRecord) × IsOne r s.older × (entry_of n r ≡ d ∷ [])
    older_on_disk k m d e at less here s =
        let kept : IsOne d (filter (is_of_node n) (take m book)) = one_kept (is_of_node n) d (take m book) (one_before d book k m at less) (eq-eqb (node_of d) n here) in
        let there = one_of_flat (entry_of n) d s.older (subst (IsOne d) (sym s.first) kept) in
        (there.0, there.1, alone n there.0 d there.2)

    -- of two branches that changed one key the one whose entry stands later left later
    pub leaves_later : (k m : ℕ) (x y g h : BranchId) (cs ds : List Change) (d e : Entry) → At book k d → At book m e → k < m → IsOf x g cs d → IsOf y h ds e → node_of d ≡ n → node_of e ≡ n
        → have_a_key_in_common cs ds ≡ true → LeavesAfter rs x y
    leaves_later k m x y g h cs ds d e at later less of of_later here there common =
        let s : EntryOnDisk n rs (filter (is_of_node n) (take m book)) e = on_disk m e later there in
        let r = older_on_disk k m d e at less here s in
        let one = leaves_by n x g cs d r.0 r.2 of in
        let other = leaves_by n y h ds e s.one s.is of_later in
        record {
          older = s.older;
          newer = s.newer;
          one = r.0;
          other = s.one;
          split = s.split;
          before = is_in r.0 s.older r.1;
          leaves = one.0;
          leaves_after = other.0;
          common = subst (λ xs. have_a_key_in_common xs (changes_by s.one) ≡ true) (sym one.1) (subst (λ ys. have_a_key_in_common cs ys ≡ true) (sym other.1) common);
        }
      where
        is_in : (r : RedoRecord) (rs : List RedoRecord) → IsOne r rs → IsIn r rs
        is_in r [] there = absurd there
        is_in r (s ∷ rs) (inl here) = inl here
        is_in r (s ∷ rs) (inr there) = inr (is_in r rs there)

-- ---- a branch that ended

pub done_in : (P : RedoRecord → Type 0) (r : RedoRecord) (rs : List RedoRecord) → AllByRecursion P rs → IsOne r rs → P r
done_in P r [] all there = absurd there
done_in P r (s ∷ rs) all (inl here) = subst P here all.0
done_in P r (s ∷ rs) all (inr there) = done_in P r rs all.1 there

-- a branch that was sealed before, and changed one of these keys, has ended
done_by : (n : ℕ) (older : List RedoRecord) (cs : List Change) (r : RedoRecord) (b g : BranchId) (ds : List Change) (scn : ℕ) → entry_of n r ≡ entries.Sealed b g ds scn ∷ [] → IsDoneBefore older cs r
    → have_a_key_in_common ds cs ≡ true → list_any (ends b) older ≡ true
done_by n older cs (records.Sealed q) b g ds scn is done common =
    let me : q.me ≡ b = cc is in
    let changes : q.changes ≡ ds = cc is in
    subst (λ z. list_any (ends z) older ≡ true) me (done (subst (λ xs. have_a_key_in_common xs cs ≡ true) (sym changes) common))
done_by n older cs _ b g ds scn is done common = absurd cc

all_done : (older : List RedoRecord) (c : BranchId) (r : RedoRecord) → SealsOrDecides c r → ComesInOrder older r → AllByRecursion (IsDoneBefore older (changes_by r)) older
all_done older c (records.Sealed q) leaves order = order.0
all_done older c (records.Decided q) leaves order = order.0
all_done older c _ leaves order = absurd leaves

module _ (book : List Entry) (n : ℕ) (rs : List RedoRecord) (disk : filter (is_of_node n) book ≡ flat_map (entry_of n) rs) (order : InOrderFrom [] rs) where
  -- before an entry that changes one of its keys the branch of a seal has ended
  pub ended_before : (b g c h : BranchId) (cs ds : List Change) (scn k m : ℕ) (e : Entry) → At book k (entries.Sealed b g cs scn) → At book m e → k < m → b.node ≡ n → node_of e ≡ n → IsOf c h ds e
      → have_a_key_in_common cs ds ≡ true → stands (is_end_of b) (take m book) ≡ true
  ended_before b g c h cs ds scn k m e at later less here there of common =
      let s : EntryOnDisk n rs (filter (is_of_node n) (take m book)) e = on_disk n book rs disk m e later there in
      let r = older_on_disk n book rs disk k m (entries.Sealed b g cs scn) e at less here s in
      let left = leaves_by n c h ds e s.one s.is of in
      let comes : ComesInOrder s.older s.one = at_split [] s.older s.one s.newer (subst (InOrderFrom []) s.split order) in
      let done : IsDoneBefore s.older (changes_by s.one) r.0 = done_in (IsDoneBefore s.older (changes_by s.one)) r.0 s.older (all_done s.older c s.one left.0 comes) r.1 in
      let over : list_any (ends b) s.older ≡ true = done_by n s.older (changes_by s.one) r.0 b g cs scn r.2 done (subst (λ xs. have_a_key_in_common cs xs ≡ true) (sym left.1) common) in
      any_unfiltered (is_end_of b) (is_of_node n) (take m book) (subst (λ xs. stands (is_end_of b) xs ≡ true) s.first (sym (disk_ends n b s.older) ∙ over))
