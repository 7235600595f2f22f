-- What the book has of a branch, by the events of its run: a sealed branch that learned nothing and was not forced is in doubt, one
-- that knows the commit has it there, and one that is live is neither sealed nor decided.
use Rattle.std.proofs.Common.{◌≡◌, ℕ, ◌||◌, ◌⊎◌, ◌++◌, Bool, true, false, if◌then◌else◌, List, [], ◌∷◌, Option, Some, None, inl, inr, refl, sym, ap, subst, ◌∙◌}
use Rattle.std.proofs.lemmas.Bool.{or_left}
use Rattle.tran_ids.proofs.BranchLemmas.{equal_from_same, same_from_equal}
use Rattle.agreement.specs.BookOf.{entry_by, book_of}
use Rattle.agreement.specs.Events as exits
use Rattle.agreement.specs.Events.{Event, Learn, Knows, exit, exit_by, learned, forced}
use Rattle.agreement.proofs.BookTests.{shows, some_before, some_now, not_true, no_sealed, no_decided, no_end, no_met, has_sealed}
use Rattle.agreement.proofs.EventLemmas.{exit_new, decided_by, learned_new, learn_by}
use Rattle.node_rules.specs.Data.{BranchId, Change, Decided, RedoRecord}
use Rattle.node_rules.specs.Data.decisions
use Rattle.node_rules.specs.Data.records
use Rattle.node_rules.specs.Words.{same}
use Rattle.run_rules.specs.Book.{in_doubt, is_sealed_of, is_decided_of, is_end_of, is_met_of, stands}
use Rattle.run_rules.specs.BranchRecords.{decided_in}
use Rattle.run_rules.specs.Data.{Entry}
use Rattle.run_rules.specs.Data.entries
use Rattle.run_rules.specs.Lawful.{History, IsLawfulRun, facts_at}
use Rattle.run_base_laws.specs.RunEvents.{events_of}
use Rattle.book_laws.proofs.DoubtLemmas.{IsOpenIn, in_doubt_of}
use Rattle.book_laws.proofs.PlaceLemmas.{IsOne, found, finds, place_of}
use Rattle.commit_point_laws.specs.EndLaws.{EntryIs}
use Rattle.commit_point_laws.proofs.BookEndLemmas.{entries_are_exits, run_book}
use Rattle.tree_laws.specs.Forests.{forest_of}
use Rattle.tree_trail_laws.proofs.OwnAfterLemmas.{all_at as slice_all}
use Rattle.commit_answer_laws.specs.CommitCauses.{is_outcome_of, is_commit_of, is_prepared_of, IsInDoubt}

-- ---- a commit that is known

commit_by : (s : Event) (b : BranchId) (n : ℕ) → exit_by s b ≡ Some (exits.Decided n) → shows (is_commit_of b) (entry_by s) ≡ true
commit_by s b n is = (let k = decided_by s b n is in subst (λ r. shows (is_commit_of b) (entry_by r) ≡ true) (sym k.2) (same_from_equal b b refl))

learned_commit_by : (m : Option Bool) (b : BranchId) (n : ℕ) → shows (is_commit_of b) (entry_by (Learn b (decisions.Commit n) m)) ≡ true
learned_commit_by None b n = same_from_equal b b refl
learned_commit_by (Some mixed) b n = same_from_equal b b refl

decided_shows : (t : List Event) (b : BranchId) (n : ℕ) → exit t b ≡ Some (exits.Decided n) → stands (is_commit_of b) (book_of t) ≡ true
decided_shows [] b n is = absurd cc
decided_shows (s ∷ t) b n is = elim (exit_new s t b (exits.Decided n) is) [
  | inl old ↦ some_before (is_commit_of b) s t (decided_shows t b n old)
  | inr new ↦ some_now (is_commit_of b) s t (commit_by s b n new.1)
]

learned_shows : (t : List Event) (b : BranchId) (n : ℕ) → learned t b ≡ Some (decisions.Commit n) → stands (is_commit_of b) (book_of t) ≡ true
learned_shows [] b n is = absurd cc
learned_shows (s ∷ t) b n is = elim (learned_new s t b (decisions.Commit n) is) [
  | inl old ↦ some_before (is_commit_of b) s t (learned_shows t b n old)
  | inr new ↦ (let at = learn_by s b (decisions.Commit n) new.1 in some_now (is_commit_of b) s t (subst (λ r. shows (is_commit_of b) (entry_by r) ≡ true) (sym at.1) (learned_commit_by at.0 b n)))
]

knows_shows : (t : List Event) (b : BranchId) (n : ℕ) → Knows t b n → stands (is_commit_of b) (book_of t) ≡ true
knows_shows t b n (inl decided) = decided_shows t b n decided
knows_shows t b n (inr learnt) = learned_shows t b n learnt

-- ---- entries that stand

sealed_entry : (e : Entry) (b : BranchId) → is_sealed_of b e ≡ true → (g : BranchId) × (cs : List Change) × (n : ℕ) × (e ≡ entries.Sealed b g cs n)
sealed_entry (entries.Sealed c g cs n) b is = (g, cs, n, ap (λ i. entries.Sealed i g cs n) (equal_from_same c b is))
sealed_entry (entries.Made m x) b is = absurd cc
sealed_entry (entries.Decided c g cs n) b is = absurd cc
sealed_entry (entries.Ended c d) b is = absurd cc
sealed_entry (entries.Forced c d) b is = absurd cc
sealed_entry (entries.Met c d mixed) b is = absurd cc

either_is : (q r : Bool) → (q || r) ≡ true → (q ≡ true) ⊎ (r ≡ true)
either_is true r is = inl refl
either_is false r is = inr is

-- a live branch has neither
unprepared : (t : List Event) (b : BranchId) → exit t b ≡ None → stands (is_prepared_of b) (book_of t) ≡ false
unprepared t b none = not_true (stands (is_prepared_of b) (book_of t)) (λ some.
    (let e = found (is_prepared_of b) (book_of t) some in
    elim (either_is (is_sealed_of b e.0) (is_decided_of b e.0) e.2) [
      | inl sealed ↦ (let yes = finds (is_sealed_of b) e.0 (book_of t) e.1 sealed in let no = no_sealed t b none in absurd (cc (yes, no)))
      | inr decided ↦ (let yes = finds (is_decided_of b) e.0 (book_of t) e.1 decided in let no = no_decided t b none in absurd (cc (yes, no)))
    ]))

-- ---- every run

module _ (s : History) (lawful : IsLawfulRun s) (b : BranchId) where
  abbrev e : List Event
  e = events_of s

  pub commit_in_book : (n : ℕ) → Knows e b n → stands (is_commit_of b) (facts_at s).book ≡ true
  commit_in_book n knows = ap (stands (is_commit_of b)) (run_book s) ∙ knows_shows e b n knows

  pub none_in_book : exit e b ≡ None → stands (is_prepared_of b) (facts_at s).book ≡ false
  none_in_book none = ap (stands (is_prepared_of b)) (run_book s) ∙ unprepared e b none

  -- one that is sealed, or decided, has it there
  pub sealed_prepared : (n : ℕ) → exit e b ≡ Some (exits.Sealed n) → stands (is_prepared_of b) (facts_at s).book ≡ true
  sealed_prepared n sealed =
      let x = found (is_sealed_of b) (book_of e) (has_sealed e b n sealed) in
      ap (stands (is_prepared_of b)) (run_book s) ∙ finds (is_prepared_of b) x.0 (book_of e) x.1 (or_left (is_sealed_of b x.0) (is_decided_of b x.0) x.2)

  pub decided_prepared : (n : ℕ) → exit e b ≡ Some (exits.Decided n) → stands (is_prepared_of b) (facts_at s).book ≡ true
  decided_prepared n decided = ap (stands (is_prepared_of b)) (run_book s) ∙ shows_decided e n decided
    where
      by : (x : Event) (m : ℕ) → exit_by x b ≡ Some (exits.Decided m) → shows (is_prepared_of b) (entry_by x) ≡ true
      by x m is = (let k = decided_by x b m is in subst (λ r. shows (is_prepared_of b) (entry_by r) ≡ true) (sym k.2) (same_from_equal b b refl))

      shows_decided : (t : List Event) (m : ℕ) → exit t b ≡ Some (exits.Decided m) → stands (is_prepared_of b) (book_of t) ≡ true
      shows_decided [] m is = absurd cc
      shows_decided (x ∷ t) m is = elim (exit_new x t b (exits.Decided m) is) [
        | inl old ↦ some_before (is_prepared_of b) x t (shows_decided t m old)
        | inr new ↦ some_now (is_prepared_of b) x t (by x m new.1)
      ]

  -- a decision in the book is its exit
  pub decided_entry_exit : (x : Entry) → IsOne x (facts_at s).book → is_decided_of b x ≡ true → (n : ℕ) × (exit e b ≡ Some (exits.Decided n))
  decided_entry_exit (entries.Decided c g cs m) one is =
      let place = place_of (entries.Decided c g cs m) (facts_at s).book one in
      let so : EntryIs (forest_of s) e (entries.Decided c g cs m) = slice_all (EntryIs (forest_of s) e) (facts_at s).book place.0 (entries.Decided c g cs m) (entries_are_exits s lawful) place.1 in
      (m, subst (λ i. exit e i ≡ Some (exits.Decided m)) (equal_from_same c b is) so.0)
  decided_entry_exit (entries.Made m x) one is = absurd cc
  decided_entry_exit (entries.Sealed c g cs m) one is = absurd cc
  decided_entry_exit (entries.Ended c d) one is = absurd cc
  decided_entry_exit (entries.Forced c d) one is = absurd cc
  decided_entry_exit (entries.Met c d mixed) one is = absurd cc

  module _ (n : ℕ) (sealed : exit e b ≡ Some (exits.Sealed n)) (unlearned : learned e b ≡ None) (unforced : forced e b ≡ None) where
    endless : stands (is_end_of b) (book_of e) ≡ false
    endless = no_end e b unlearned unforced

    is_open : IsOpenIn (book_of e) b.node b
    is_open =
        let x = found (is_sealed_of b) (book_of e) (has_sealed e b n sealed) in
        let at = sealed_entry x.0 b x.2 in
        record { global = at.0; changes = at.1; scn = at.2; sealed = subst (λ y. IsOne y (book_of e)) at.3 x.1; here = refl; endless = endless }

    no_outcome : (x : Entry) → IsOne x (book_of e) → is_outcome_of b x ≡ true → ⊥
    no_outcome (entries.Decided c g cs m) one is = (let it = decided_entry_exit (entries.Decided c g cs m) (subst (IsOne (entries.Decided c g cs m)) (sym (run_book s)) one) is in
        let mine = it.1 in absurd (cc (mine, sealed)))
    no_outcome (entries.Ended c d) one is = (let yes = finds (is_end_of b) (entries.Ended c d) (book_of e) one is in let no = endless in absurd (cc (yes, no)))
    no_outcome (entries.Met c d mixed) one is = (let yes = finds (is_met_of b) (entries.Met c d mixed) (book_of e) one is in let no = no_met e b unlearned in absurd (cc (yes, no)))
    no_outcome (entries.Made m x) one is = absurd cc
    no_outcome (entries.Sealed c g cs m) one is = absurd cc
    no_outcome (entries.Forced c d) one is = absurd cc

    doubted : IsInDoubt (book_of e) b
    doubted = record {
      doubt = finds (λ c. same c b) b (in_doubt (book_of e) b.node) (in_doubt_of (book_of e) b.node b is_open) (same_from_equal b b refl);
      unknown = not_true (stands (is_outcome_of b) (book_of e)) (λ some. (let x = found (is_outcome_of b) (book_of e) some in no_outcome x.0 x.1 x.2));
    }

    pub doubt_in_book : IsInDoubt (facts_at s).book b
    doubt_in_book = subst (λ es. IsInDoubt es b) (sym (run_book s)) doubted

-- ---- records

pub decided_before : (rs more : List RedoRecord) (b : BranchId) (r : Decided) → decided_in rs b ≡ Some r → decided_in (rs ++ more) b ≡ Some r
decided_before [] more b r is = absurd cc
decided_before (records.Decided x ∷ rs) more b r is = by (same x.me b) is (decided_before rs more b r)
  where
    by : (q : Bool) → (if q then Some x else decided_in rs b) ≡ Some r → (decided_in rs b ≡ Some r → decided_in (rs ++ more) b ≡ Some r) → (if q then Some x else decided_in (rs ++ more) b) ≡ Some r
    by true is rest = is
    by false is rest = rest is
decided_before (_ ∷ rs) more b r is = decided_before rs more b r is
