-- A branch is sealed once, so the record of its seal is the one that its node's disk has of it.
use Rattle.std.proofs.Common.{◌≡◌, ℕ, ◌||◌, Bool, true, false, true≢false, if◌then◌else◌, List, [], ◌∷◌, ◌++◌, filter, flat_map, is_some, Option, Some, None, refl, sym, ap, subst, ◌∙◌, append-nil, append_assoc}
use Rattle.std.specs.Prelude.{◌≢◌}
use Rattle.std.specs.List.{AllByRecursion}
use Rattle.std.proofs.lemmas.List.Elements.{filter-append}
use Rattle.tran_ids.proofs.BranchLemmas.{same_from_equal}
use Rattle.agreement.proofs.BookTests.{not_true}
use Rattle.node_rules.specs.Data.{BranchId, RedoRecord, Sealed, Decided}
use Rattle.node_rules.specs.Data.records
use Rattle.node_rules.specs.Words.{same}
use Rattle.run_rules.specs.Data.{Entry}
use Rattle.run_rules.specs.Data.entries
use Rattle.run_rules.specs.Book.{is_sealed_of, stands, Follows, EachAgainst}
use Rattle.run_rules.specs.Entries.{entry_of}
use Rattle.run_rules.specs.Entries.{book_of as trace_book}
use Rattle.run_rules.specs.Facts.{records_at}
use Rattle.run_rules.specs.BranchRecords.{sealed_in, decided_in}
use Rattle.run_rules.specs.Lawful.{History, IsLawfulRun, facts_at}
use Rattle.tree_laws.proofs.AgreeLemmas.{runs_agree}
use Rattle.book_laws.specs.DiskLaws.{is_of_node}
use Rattle.book_laws.proofs.PlaceLemmas.{any_unfiltered}
use Rattle.book_laws.proofs.DiskLemmas.{books_are_of_disks}

-- ---- by the book

-- no Sealed of the branch stands before its Sealed
abbrev pub SealsOnce : List Entry → Entry → Type 0
SealsOnce older (entries.Sealed b g cs n) = stands (is_sealed_of b) older ≡ false
SealsOnce older _ = Unit {0}

once_of : (older : List Entry) (e : Entry) → Follows older e → SealsOnce older e
once_of older (entries.Sealed b g cs n) follows = follows.0
once_of older _ follows = tt

each_once : (older es : List Entry) → EachAgainst Follows older es → EachAgainst SealsOnce older es
each_once older [] all = tt
each_once older (e ∷ es) all = (once_of older e all.0, each_once (older ++ e ∷ []) es all.1)

-- and none in part of the book
once_in_part : (test : Entry → Bool) (older : List Entry) (e : Entry) → SealsOnce older e → SealsOnce (filter test older) e
once_in_part test older (entries.Sealed b g cs n) once = not_true (stands (is_sealed_of b) (filter test older)) (λ some. true≢false (sym (any_unfiltered (is_sealed_of b) test older some) ∙ once))
once_in_part test older _ once = tt

part_once : (test : Entry → Bool) (older es : List Entry) → EachAgainst SealsOnce older es → EachAgainst SealsOnce (filter test older) (filter test es)
part_once test older [] all = tt
part_once test older (e ∷ es) all = by (test e) refl (subst (λ xs. EachAgainst SealsOnce xs (filter test es)) (filter-append test older (e ∷ [])) (part_once test (older ++ e ∷ []) es all.1))
  where
    by : (q : Bool) → test e ≡ q → EachAgainst SealsOnce (filter test older ++ filter test (e ∷ [])) (filter test es) → EachAgainst SealsOnce (filter test older) (if q then e ∷ filter test es else filter test es)
    by true is rest = (once_in_part test older e all.0, subst (λ k. EachAgainst SealsOnce (filter test older ++ (if k then e ∷ [] else [])) (filter test es)) is rest)
    by false is rest = subst (λ xs. EachAgainst SealsOnce xs (filter test es)) (append-nil (filter test older)) (subst (λ k. EachAgainst SealsOnce (filter test older ++ (if k then e ∷ [] else [])) (filter test es)) is rest)

-- ---- by the records

abbrev pub SealsOnceHere : List RedoRecord → RedoRecord → Type 0
SealsOnceHere older (records.Sealed r) = sealed_in older r.me ≡ None
SealsOnceHere older _ = Unit {0}

abbrev pub OnceFrom : List RedoRecord → List RedoRecord → Type 0
OnceFrom older [] = Unit {0}
OnceFrom older (r ∷ rs) = SealsOnceHere older r × OnceFrom (older ++ r ∷ []) rs

-- a disk has a seal of a branch where it has the entry
pub sealed_told : (n : ℕ) (b : BranchId) (rs : List RedoRecord) → is_some (sealed_in rs b) ≡ stands (is_sealed_of b) (flat_map (entry_of n) rs)
sealed_told n b [] = refl
sealed_told n b (records.Sealed r ∷ rs) = by (same r.me b) (sealed_told n b rs)
  where
    by : (q : Bool) → is_some (sealed_in rs b) ≡ stands (is_sealed_of b) (flat_map (entry_of n) rs) → is_some (if q then Some r else sealed_in rs b) ≡ (q || stands (is_sealed_of b) (flat_map (entry_of n) rs))
    by true rest = refl
    by false rest = rest
sealed_told n b (_ ∷ rs) = sealed_told n b rs

none_left : {A : Type 0} (o : Option A) → is_some o ≡ false → o ≡ None
none_left None none = refl
none_left (Some a) none = absurd (true≢false none)

none_sealed : (n : ℕ) (b : BranchId) (rs : List RedoRecord) → stands (is_sealed_of b) (flat_map (entry_of n) rs) ≡ false → sealed_in rs b ≡ None
none_sealed n b rs none = none_left (sealed_in rs b) (sealed_told n b rs ∙ none)

module _ (n : ℕ) where
  abbrev told : List RedoRecord → List Entry
  told rs = flat_map (entry_of n) rs

  one_once : (older : List RedoRecord) (r : RedoRecord) (rs : List RedoRecord) → EachAgainst SealsOnce (told older) (entry_of n r ++ told rs) → SealsOnceHere older r
  one_once older (records.Sealed r) rs all = none_sealed n r.me older all.0
  one_once older _ rs all = tt

  rest_once : (es : List Entry) (r : RedoRecord) (rs : List RedoRecord) → EachAgainst SealsOnce es (entry_of n r ++ told rs) → EachAgainst SealsOnce (es ++ entry_of n r) (told rs)
  rest_once es (records.Table t) rs all = all.1
  rest_once es (records.Sealed r) rs all = all.1
  rest_once es (records.Decided r) rs all = all.1
  rest_once es (records.Ended b d) rs all = all.1
  rest_once es (records.Forced b d given) rs all = all.1
  rest_once es (records.Met b d mixed) rs all = all.1
  rest_once es _ rs all = subst (λ xs. EachAgainst SealsOnce xs (told rs)) (sym (append-nil es)) all

  told_on : (older : List RedoRecord) (r : RedoRecord) → told (older ++ r ∷ []) ≡ told older ++ entry_of n r
  told_on [] r = append-nil (entry_of n r)
  told_on (x ∷ older) r = ap (λ es. entry_of n x ++ es) (told_on older r) ∙ sym (append_assoc (entry_of n x) (told older) (entry_of n r))

  records_once : (older rs : List RedoRecord) → EachAgainst SealsOnce (told older) (told rs) → OnceFrom older rs
  records_once older [] all = tt
  records_once older (r ∷ rs) all = (one_once older r rs all, records_once (older ++ r ∷ []) rs (subst (λ es. EachAgainst SealsOnce es (told rs)) (sym (told_on older r)) (rest_once (told older) r rs all)))

-- ---- the record of a seal

sealed_after : (older : List RedoRecord) (r : Sealed) (rs : List RedoRecord) → sealed_in older r.me ≡ None → sealed_in (older ++ records.Sealed r ∷ rs) r.me ≡ Some r
sealed_after [] r rs none = ap (λ q. if q then Some r else sealed_in rs r.me) (same_from_equal r.me r.me refl)
sealed_after (records.Sealed x ∷ older) r rs none = by (same x.me r.me) none (sealed_after older r rs)
  where
    by : (q : Bool) → (if q then Some x else sealed_in older r.me) ≡ None → (sealed_in older r.me ≡ None → sealed_in (older ++ records.Sealed r ∷ rs) r.me ≡ Some r)
        → (if q then Some x else sealed_in (older ++ records.Sealed r ∷ rs) r.me) ≡ Some r
    by true none rest = absurd cc
    by false none rest = rest none
sealed_after (_ ∷ older) r rs none = sealed_after older r rs none

-- the disk has a decision of a branch that decided
decided_after : (older : List RedoRecord) (r : Decided) (rs : List RedoRecord) → decided_in (older ++ records.Decided r ∷ rs) r.me ≢ None
decided_after [] r rs none = let found : (if same r.me r.me then Some r else decided_in rs r.me) ≡ Some r = ap (λ q. if q then Some r else decided_in rs r.me) (same_from_equal r.me r.me refl) in absurd (cc (found, none))
decided_after (records.Decided x ∷ older) r rs none = by (same x.me r.me) none (decided_after older r rs)
  where
    by : (q : Bool) → (if q then Some x else decided_in (older ++ records.Decided r ∷ rs) r.me) ≡ None → (decided_in (older ++ records.Decided r ∷ rs) r.me ≢ None) → ⊥
    by true none rest = absurd cc
    by false none rest = rest none
decided_after (_ ∷ older) r rs none = decided_after older r rs none

-- a seal is the one that the disk has of its branch, a decision is one that it has
abbrev pub IsTheRecord : List RedoRecord → RedoRecord → Type 0
IsTheRecord whole (records.Sealed r) = sealed_in whole r.me ≡ Some r
IsTheRecord whole (records.Decided r) = decided_in whole r.me ≢ None
IsTheRecord whole _ = Unit {0}

one_there : (older : List RedoRecord) (r : RedoRecord) (rs : List RedoRecord) → SealsOnceHere older r → IsTheRecord (older ++ r ∷ rs) r
one_there older (records.Sealed r) rs once = sealed_after older r rs once
one_there older (records.Decided r) rs once = decided_after older r rs
one_there older _ rs once = tt

all_there : (older rs : List RedoRecord) → OnceFrom older rs → AllByRecursion (IsTheRecord (older ++ rs)) rs
all_there older [] once = tt
all_there older (r ∷ rs) once = (one_there older r rs once.0, subst (λ whole. AllByRecursion (IsTheRecord whole) rs) (append_assoc older (r ∷ []) rs) (all_there (older ++ r ∷ []) rs once.1))

-- a branch is sealed once in the book of every lawful run
pub seals_once : (t : History) → IsLawfulRun t → EachAgainst SealsOnce [] (trace_book t.trace)
seals_once t lawful = each_once [] (trace_book t.trace) (runs_agree t lawful).0

-- so no branch has two seals on one disk
pub records_are_alone : (t : History) → IsLawfulRun t → (n : ℕ) → AllByRecursion (IsTheRecord (records_at (facts_at t) n)) (records_at (facts_at t) n)
records_are_alone t lawful n =
    let part : EachAgainst SealsOnce [] (filter (is_of_node n) (trace_book t.trace)) = part_once (is_of_node n) [] (trace_book t.trace) (seals_once t lawful) in
    all_there [] (records_at (facts_at t) n) (records_once n [] (records_at (facts_at t) n) (subst (EachAgainst SealsOnce []) (books_are_of_disks t lawful n) part))
