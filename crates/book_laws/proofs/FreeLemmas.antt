-- In the book of a lawful run a seal and a decision change no key of a branch of their node that is sealed without an end.
use Rattle.std.proofs.Common.{◌≡◌, ℕ, zero, suc, ◌<◌, Bool, true, false, true≢false, if◌then◌else◌, List, [], ◌∷◌, ◌++◌, filter, flat_map, take, inl, inr, refl, sym, subst, ◌∙◌, append-nil, append_assoc}
use Rattle.std.specs.Prelude.{◌⊎◌}
use Rattle.std.specs.List.{list_any}
use Rattle.std.specs.Cmp.Lexicographic.{bytes_decides}
use Rattle.std.proofs.lemmas.Bool.{and_parts, and_from}
use Rattle.dtx_values.proofs.ValueOrder.{equal_from_same as one_value, same_from_equal as same_of_one}
use Rattle.node_rules.specs.Data.{Value, Change, BranchId, RedoRecord}
use Rattle.node_rules.specs.Rows.{same_value, is_change_of}
use Rattle.node_rules.specs.Words.{same_text}
use Rattle.run_rules.specs.Data.{Entry}
use Rattle.run_rules.specs.Data.entries
use Rattle.run_rules.specs.Book.{Follows, EachAgainst, At}
use Rattle.run_rules.specs.Entries.{entry_of}
use Rattle.run_rules.specs.Entries.{book_of as trace_book}
use Rattle.run_rules.specs.Facts.{records_at}
use Rattle.run_rules.specs.Lawful.{History, IsLawfulRun, facts_at}
use Rattle.run_key_laws.specs.RiseLaws.{are_of_one_key}
use Rattle.run_key_laws.specs.OrderLaws.{have_a_key_in_common, InOrderFrom}
use Rattle.run_key_laws.proofs.OrderLemmas.{keys_come_in_order}
use Rattle.tree_laws.proofs.AgreeLemmas.{runs_agree}
use Rattle.book_laws.specs.DiskLaws.{node_of, is_of_node}
use Rattle.book_laws.specs.SealLaws.{ComesFirst}
use Rattle.book_laws.proofs.PlaceLemmas.{IsOne, finds, place_before, at_place}
use Rattle.book_laws.proofs.DiskLemmas.{books_are_of_disks}
use Rattle.book_laws.proofs.SealLemmas.{seals_come_first}
use Rattle.book_laws.proofs.OnDiskLemmas.{ended_before, IsOf}
use Rattle.book_laws.proofs.CountLemmas.{picked}
use Rattle.book_laws.proofs.ApartLemmas.{FreeOf, IsFree}
use Rattle.book_laws.proofs.StandLemmas.{Comes}

-- what holds of each place holds of each entry
each_from : (P : List Entry → Entry → Type 0) (older es : List Entry) → ((k : ℕ) (e : Entry) → At es k e → P (older ++ take k es) e) → EachAgainst P older es
each_from P older [] all = tt
each_from P older (x ∷ xs) all = (
  subst (λ os. P os x) (append-nil older) (all zero x refl),
  each_from P (older ++ x ∷ []) xs (λ k e at. subst (λ os. P os e) (sym (append_assoc older (x ∷ []) (take k xs))) (all (suc k) e at)),
)

-- ---- changes at one key

module _ (table : List ℕ) (key : Value) where
  -- one that is at the key
  picked_one : (n : ℕ) (cs : List Change) (c : Change) (more : List Change) → picked n table key cs ≡ c ∷ more → IsOne c cs × (is_change_of table key c ≡ true)
  picked_one n [] c more is = absurd cc
  picked_one n (x ∷ cs) c more is = by (is_change_of table key x) refl is (picked_one n cs c more)
    where
      by : (q : Bool) → is_change_of table key x ≡ q → (if q then x ∷ picked n table key cs else picked n table key cs) ≡ c ∷ more → (picked n table key cs ≡ c ∷ more → IsOne c cs × (is_change_of table key c ≡ true))
          → IsOne c (x ∷ cs) × (is_change_of table key c ≡ true)
      by true at is rest = let here : x ≡ c = cc is in (inl here, subst (λ z. is_change_of table key z ≡ true) here at)
      by false at is rest = let there = rest is in (inr there.0, there.1)

  one_key : (c d : Change) → is_change_of table key c ≡ true → is_change_of table key d ≡ true → are_of_one_key c d ≡ true
  one_key c d at there =
      let here = and_parts (same_text c.table table) (same_value c.key key) at in
      let too = and_parts (same_text d.table table) (same_value d.key key) there in
      and_from (same_text c.table d.table) (same_value c.key d.key)
      ((bytes_decides c.table d.table).1 ((bytes_decides c.table table).0 here.0 ∙ sym ((bytes_decides d.table table).0 too.0)))
      (same_of_one c.key d.key (one_value c.key key here.1 ∙ sym (one_value d.key key too.1)))

  -- of changes without a key in common one list has none at this key
  none_common : (n : ℕ) (cs ds : List Change) → have_a_key_in_common cs ds ≡ false → (picked n table key cs ≡ []) ⊎ (picked n table key ds ≡ [])
  none_common n cs ds none = by (picked n table key cs) (picked n table key ds) refl refl
    where
      by : (xs ys : List Change) → picked n table key cs ≡ xs → picked n table key ds ≡ ys → (picked n table key cs ≡ []) ⊎ (picked n table key ds ≡ [])
      by [] ys is at = inl is
      by (x ∷ xs) [] is at = inr at
      by (x ∷ xs) (y ∷ ys) is at =
          let one = picked_one n cs x xs is in
          let other = picked_one n ds y ys at in
          absurd (true≢false (sym (finds (λ c. list_any (are_of_one_key c) ds) x cs one.0 (finds (are_of_one_key x) y ds other.0 (one_key x y one.1 other.1))) ∙ none))

-- ---- on the disk

module _ (book : List Entry) (n : ℕ) (rs : List RedoRecord) (disk : filter (is_of_node n) book ≡ flat_map (entry_of n) rs) (order : InOrderFrom [] rs) where
  module _ (table : List ℕ) (key : Value) where
    -- so its changes are free
    free_of : (c h : BranchId) (ds : List Change) (m : ℕ) (e : Entry) → At book m e → node_of e ≡ n → IsOf c h ds e → FreeOf n table key (take m book) ds
    free_of c h ds m e at there of b g cs scn one here endless =
        let k = place_before (entries.Sealed b g cs scn) book m one in
        by k.0 k.1 k.2 (have_a_key_in_common cs ds) refl
      where
        by : (k : ℕ) → k < m → At book k (entries.Sealed b g cs scn) → (q : Bool) → have_a_key_in_common cs ds ≡ q → (picked n table key cs ≡ []) ⊎ (picked n table key ds ≡ [])
        by k less seal false none = none_common table key n cs ds none
        by k less seal true common = absurd (true≢false (sym (ended_before book n rs disk order b g c h cs ds scn k m e seal at less here there of common) ∙ endless))

    is_free : (m : ℕ) (e : Entry) → At book m e → IsFree n table key (take m book) e
    is_free m (entries.Sealed c h ds scn) at = λ here. free_of c h ds m (entries.Sealed c h ds scn) at here (refl, refl, refl)
    is_free m (entries.Decided c h ds scn) at = λ here. free_of c h ds m (entries.Decided c h ds scn) at here (refl, refl, refl)
    is_free m (entries.Made i x) at = tt
    is_free m (entries.Ended c d) at = tt
    is_free m (entries.Forced c d) at = tt
    is_free m (entries.Met c d mixed) at = tt

-- ---- every run

pub entries_come : (t : History) → IsLawfulRun t → (n : ℕ) (table : List ℕ) (key : Value) → EachAgainst (Comes n table key) [] (trace_book t.trace)
entries_come t lawful n table key = each_from (Comes n table key) [] (trace_book t.trace) (λ k e at. record {
  follows = at_place Follows [] (trace_book t.trace) k e (runs_agree t lawful).0 at;
  first = at_place ComesFirst [] (trace_book t.trace) k e (seals_come_first t lawful) at;
  free = is_free (trace_book t.trace) n (records_at (facts_at t) n) (books_are_of_disks t lawful n) (keys_come_in_order t lawful n) table key k e at;
})
