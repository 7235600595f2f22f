-- In a book that agrees, whose seals come first and change free keys, what is told at a key that is not in doubt is what the
-- book commits there.
use Rattle.std.proofs.Common.{◌≡◌, ℕ, ◌||◌, ◌&&◌, not, Bool, true, false, true≢false, if◌then◌else◌, List, [], ◌∷◌, ◌++◌, filter, flat_map, map, None, inl, inr, refl, sym, ap, subst, ◌∙◌, append-nil, append_assoc}
use Rattle.std.specs.Prelude.{◌⊎◌}
use Rattle.std.specs.List.{list_any}
use Rattle.dtx_values.proofs.ValueOrder.{same_is}
use Rattle.node_rules.specs.Data.{Value, Change, BranchId}
use Rattle.node_rules.specs.Rows.{same_value, get}
use Rattle.node_rules.specs.Words.{same_text}
use Rattle.run_rules.specs.Data.{Entry}
use Rattle.run_rules.specs.Data.entries
use Rattle.run_rules.specs.Book.{is_forced_of, stands, Follows, EachAgainst, changes_of, commits_at, rows_of, committed_at, rows_by_book, in_doubt}
use Rattle.run_rules.specs.Runs.{keys_in_doubt}
use Rattle.book_laws.specs.SealLaws.{ComesFirst}
use Rattle.book_laws.proofs.PlaceLemmas.{IsOne}
use Rattle.book_laws.proofs.DoubtLemmas.{in_doubt_of}
use Rattle.book_laws.proofs.FlatLemmas.{none_in_part}
use Rattle.book_laws.proofs.KeyChangeLemmas.{last_row, got_applied}
use Rattle.book_laws.proofs.CountLemmas.{picked, unforced, committed_by, picked_book, alike_commits}
use Rattle.book_laws.proofs.OpenLemmas.{is_open, counted, open_parts, IsSealedIn, sealed_in_book, SealsFit, seals_fit_next}
use Rattle.book_laws.proofs.ApartLemmas.{IsFree, AreApart, apart_next}
use Rattle.book_laws.proofs.TellLemmas.{Tells, silent_tells}
use Rattle.book_laws.proofs.EndedLemmas.{ended_tells}
use Rattle.book_laws.proofs.ForcedLemmas.{forced_tells}
use Rattle.book_laws.proofs.SealedLemmas.{sealed_tells}
use Rattle.book_laws.proofs.DecidedLemmas.{decided_tells}

module _ (n : ℕ) (table : List ℕ) (key : Value) where
  -- ---- entry by entry

  -- what a book says of its sealed branches, of those of the node at the key, and of what it commits there
  pub record Stands (book : List Entry) : Type 0 where
    pub fits : SealsFit book
    pub apart : AreApart n table key book
    pub tells : Tells n table key book

  -- what an entry needs of those before it
  pub record Comes (older : List Entry) (e : Entry) : Type 0 where
    pub follows : Follows older e
    pub first : ComesFirst older e
    pub free : IsFree n table key older e

  tells_next : (book : List Entry) (e : Entry) → Comes book e → Stands book → Tells n table key (book ++ e ∷ [])
  tells_next book (entries.Made m x) comes now =
      silent_tells n table key book (entries.Made m x) (record { none = λ b. refl; parts = λ counts g. refl; undecided = λ g. refl; unsealed = λ b g cs scn is. absurd cc }) (λ counts bk. refl) refl (λ b. (refl, refl, refl)) now.tells
  tells_next book (entries.Met c d mixed) comes now =
      silent_tells n table key book (entries.Met c d mixed) (record { none = λ b. refl; parts = λ counts g. refl; undecided = λ g. refl; unsealed = λ b g cs scn is. absurd cc }) (λ counts bk. refl) refl (λ b. (refl, refl, refl))
      now.tells
  tells_next book (entries.Sealed c g ds s) comes now = sealed_tells n table key book c g ds s comes.follows comes.first now.tells
  tells_next book (entries.Decided c g ds s) comes now = decided_tells n table key book c g ds s now.fits comes.follows comes.free now.tells
  tells_next book (entries.Ended c d) comes now = ended_tells n table key book c d now.fits now.apart comes.follows now.tells
  tells_next book (entries.Forced c d) comes now = forced_tells n table key book c d now.apart comes.follows now.tells

  stands_next : (book : List Entry) (e : Entry) → Comes book e → Stands book → Stands (book ++ e ∷ [])
  stands_next book e comes now = record {
    fits = seals_fit_next book e comes.follows now.fits;
    apart = apart_next n table key book e now.fits comes.follows comes.free now.apart;
    tells = tells_next book e comes now;
  }

  stands_from : (older es : List Entry) → EachAgainst Comes older es → Stands older → Stands (older ++ es)
  stands_from older [] all now = subst Stands (sym (append-nil older)) now
  stands_from older (e ∷ es) all now = subst Stands (append_assoc older (e ∷ []) es) (stands_from (older ++ e ∷ []) es all.1 (stands_next older e all.0 now))

  empty_stands : Stands []
  empty_stands = record {
    fits = record { global = λ b g cs scn there. absurd there; undecided = λ b g cs scn there. absurd there; settled = λ b g cs scn there. absurd there };
    apart = λ b c here there opened. absurd (true≢false (sym opened));
    tells = record { told = refl; waits = λ b g cs scn there. absurd there };
  }

  -- ---- at the end

  -- a key that no change of a branch in doubt is at
  key_none : (cs : List Change) → list_any (same_value key) (map (λ c. c.key) (filter (λ c. same_text c.table table) cs)) ≡ false → picked n table key cs ≡ []
  key_none [] none = refl
  key_none (c ∷ cs) none = by (same_text c.table table) none (key_none cs)
    where
      at : (q : Bool) → same_value c.key key ≡ q → (q || list_any (same_value key) (map (λ c. c.key) (filter (λ c. same_text c.table table) cs))) ≡ false
          → (list_any (same_value key) (map (λ c. c.key) (filter (λ c. same_text c.table table) cs)) ≡ false → picked n table key cs ≡ []) → (if q then c ∷ picked n table key cs else picked n table key cs) ≡ []
      at true is none rest = absurd (true≢false none)
      at false is none rest = rest none

      by : (here : Bool) → list_any (same_value key) (map (λ c. c.key) (if here then c ∷ filter (λ c. same_text c.table table) cs else filter (λ c. same_text c.table table) cs)) ≡ false
          → (list_any (same_value key) (map (λ c. c.key) (filter (λ c. same_text c.table table) cs)) ≡ false → picked n table key cs ≡ [])
          → (if here && same_value c.key key then c ∷ picked n table key cs else picked n table key cs) ≡ []
      by true none rest = at (same_value c.key key) refl (ap (λ q. q || list_any (same_value key) (map (λ c. c.key) (filter (λ c. same_text c.table table) cs))) (sym (same_is c.key key)) ∙ none) rest
      by false none rest = rest none

  module _ (book : List Entry) (doubtless : list_any (same_value key) (keys_in_doubt book n table) ≡ false) where
    open_none : (b : BranchId) → b.node ≡ n → is_open book b ≡ true → picked n table key (changes_of book b) ≡ []
    open_none b here opened =
        let parts = open_parts book b opened in
        let seal : IsSealedIn book b = sealed_in_book book b parts.0 in
        let among : IsOne b (in_doubt book n) = in_doubt_of book n b (record { global = seal.global; changes = seal.changes; scn = seal.scn; sealed = seal.there; here = here; endless = parts.1 }) in
        key_none (changes_of book b) (none_in_part (same_value key) (λ b. map (λ c. c.key) (filter (λ c. same_text c.table table) (changes_of book b))) (in_doubt book n) b doubtless among)

    -- all that are open have no changes at the key
    all_counted : committed_by n table key (unforced n table key book) book ≡ committed_by n table key (counted book) book
    all_counted = alike_commits n table key (unforced n table key book) (counted book) book (λ b here. by b here (is_open book b) refl)
      where
        by : (b : BranchId) → b.node ≡ n → (q : Bool) → is_open book b ≡ q → (unforced n table key book b ≡ counted book b) ⊎ (picked n table key (changes_of book b) ≡ [])
        by b here true opened = inr (open_none b here opened)
        by b here false closed = inl (sym (ap (λ q. not (stands (is_forced_of b) book) && not q) closed ∙ and_last (not (stands (is_forced_of b) book))))
          where
            and_last : (q : Bool) → (q && true) ≡ q
            and_last true = refl
            and_last false = refl

    -- so the book has the row that is told
    pub rows_same : EachAgainst Comes [] book → get (rows_by_book book n table) key ≡ get (rows_of book n table) key
    unfolding rows_by_book rows_of
    rows_same all =
        let now : Stands book = stands_from [] book all empty_stands in
        got_applied table key [] (committed_at [] n book)
        ∙ (ap (last_row None) (sym now.tells.told ∙ (sym all_counted ∙ sym (picked_book n table key book)))
        ∙ sym (got_applied table key [] (flat_map (commits_at book n) book)))
