-- A branch ends: with a commit its changes are told behind all others, as it waited to; with a rollback it waited for nothing.
use Rattle.std.proofs.Common.{◌≡◌, ℕ, ◌==◌, ◌||◌, Bool, true, false, true≢false, if◌then◌else◌, List, [], ◌++◌, inl, inr, refl, sym, ap, subst, ◌∙◌, append-nil}
use Rattle.std.specs.Prelude.{◌⊎◌}
use Rattle.std.proofs.lemmas.Bool.{or_right, eqb-true, eq-eqb}
use Rattle.tran_ids.proofs.BranchLemmas.{equal_from_same}
use Rattle.agreement.proofs.BookTests.{not_true}
use Rattle.node_rules.specs.Data.{Value, Change, BranchId, Decision}
use Rattle.node_rules.specs.Data.decisions
use Rattle.node_rules.specs.Words.{same}
use Rattle.run_rules.specs.Data.{Entry}
use Rattle.run_rules.specs.Data.entries
use Rattle.run_rules.specs.Book.{is_sealed_of, is_forced_of, is_end_of, stands, is_decision_on, global_in, AsDecided, Follows, changes_of, commits_now}
use Rattle.book_laws.proofs.PlaceLemmas.{IsOne}
use Rattle.book_laws.proofs.FlatLemmas.{none_if, or_none, any_same, any_now, any_before}
use Rattle.book_laws.proofs.CountLemmas.{alike_commits}
use Rattle.book_laws.proofs.OpenLemmas.{is_open, counted, counted_or, counted_is, open_parts, is_open_from, not_forced, IsSealedIn, sealed_in_book, commit_decided, rollback_undecided, same_counted, open_was, SealsFit}
use Rattle.book_laws.proofs.ApartLemmas.{AreApart, one_free}
use Rattle.book_laws.proofs.TellLemmas.{at_entry, waiting, Tells, IsQuiet, quiet_commits, quiet_waiting, quiet_old, told_next, same_commits}

module _ (n : ℕ) (table : List ℕ) (key : Value) (book : List Entry) (c : BranchId) (d : Decision) (fits : SealsFit book) (apart : AreApart n table key book) (follows : Follows book (entries.Ended c d))
    (now : Tells n table key book) where
  open at_entry n table key book (entries.Ended c d) use {e, more, at_key, commits}

  quiet : IsQuiet n table key e
  quiet = record { none = λ b. refl; parts = λ counts g. refl; undecided = λ g. refl; unsealed = λ b g cs scn is. absurd cc }

  quietly : (counts : BranchId → Bool) → commits counts more ≡ commits counts book
  quietly counts = quiet_commits n table key book e quiet counts ∙ append-nil (commits counts book)

  was_open : is_open book c ≡ true
  was_open = is_open_from book c follows.0 follows.1

  seal : IsSealedIn book c
  seal = sealed_in_book book c follows.0

  -- it is counted now
  ended_counts : (b : BranchId) → counted more b ≡ counted_or c book b
  ended_counts b = by (same c b) refl
    where
      by : (q : Bool) → same c b ≡ q → counted more b ≡ (counted book b || q)
      by true is =
          let me : c ≡ b = equal_from_same c b is in
          counted_is more b false true true
          (any_same (is_forced_of b) book e refl ∙ subst (λ z. stands (is_forced_of z) book ≡ false) me (not_forced book c follows.1))
          (any_before (is_sealed_of b) book e (subst (λ z. stands (is_sealed_of z) book ≡ true) me follows.0))
          (any_now (is_end_of b) book e is)
          ∙ sym (or_right (counted book b) true refl)
      by false is = same_counted book e b refl refl is ∙ sym (or_none (counted book b))

  -- ---- what is told

  -- what it waited for is what is told of it now
  told_now : (x : Decision) → AsDecided x (global_in c book) book → c.node ≡ n → waiting n table key book c seal.global ≡ at_key (commits_now book n (entries.Ended c x))
  told_now (decisions.Commit m) decides here =
      ap (λ q. if q then at_key (changes_of book c) else []) (commit_decided book seal.global m (global_in c book) (fits.global c seal.global seal.changes seal.scn seal.there) decides)
      ∙ ap (λ q. at_key (if q then changes_of book c else [])) (sym (eq-eqb c.node n here))
  told_now decisions.Rollback decides here =
      ap (λ q. if q then at_key (changes_of book c) else []) (rollback_undecided book seal.global (global_in c book) (fits.global c seal.global seal.changes seal.scn seal.there) decides)

  none_told : (x : Decision) → (c.node == n) ≡ false → commits_now book n (entries.Ended c x) ≡ []
  none_told (decisions.Commit m) there = ap (λ q. if q then changes_of book c else []) there
  none_told decisions.Rollback there = refl

  elsewhere : (c.node == n) ≡ false → (b : BranchId) → b.node ≡ n → same c b ≡ false
  elsewhere there b here = not_true (same c b) (λ is. true≢false (sym (eq-eqb c.node n (ap (λ (z : BranchId). z.node) (equal_from_same c b is) ∙ here)) ∙ there))

  counted_too : commits (counted_or c book) book ≡ commits (counted book) book ++ at_key (commits_now book n e)
  counted_too = by (c.node == n) refl
    where
      by : (q : Bool) → (c.node == n) ≡ q → commits (counted_or c book) book ≡ commits (counted book) book ++ at_key (commits_now book n e)
      by true is =
          let here : c.node ≡ n = eqb-true c.node n is in
          now.waits c seal.global seal.changes seal.scn seal.there here was_open ∙ ap (λ cs. commits (counted book) book ++ cs) (told_now d follows.2 here)
      by false is =
          same_commits n table key book e (counted_or c book) (counted book) book (λ b here. ap (λ q. counted book b || q) (elsewhere is b here) ∙ or_none (counted book b))
          ∙ (sym (append-nil (commits (counted book) book)) ∙ ap (λ cs. commits (counted book) book ++ at_key cs) (sym (none_told d is)))

  now_counted : commits (counted more) more ≡ commits (counted_or c book) book
  now_counted = same_commits n table key book e (counted more) (counted_or c book) more (λ b here. ended_counts b) ∙ quietly (counted_or c book)

  -- ---- those that wait on

  module _ (b g : BranchId) (cs : List Change) (scn : ℕ) (there : IsOne (entries.Sealed b g cs scn) more) (here : b.node ≡ n) (opened : is_open more b ≡ true) where
    other : same c b ≡ false
    other = not_true (same c b) (λ is. true≢false (sym (any_now (is_end_of b) book e is) ∙ (open_parts more b opened).1))

    before : is_open book b ≡ true
    before = elim (open_was book e follows b opened) [ inl old ↦ old | inr new ↦ absurd (let is : e ≡ entries.Sealed b new.0 new.1 new.2 = new.3 in cc is) ]

    -- where the ended branch has no changes at the key
    ended_free : ((x : BranchId) → x.node ≡ n → (same c x ≡ false) ⊎ (at_key (changes_of book x) ≡ [])) → commits (counted_or b more) more ≡ commits (counted more) more ++ waiting n table key more b g
    ended_free free =
        quietly (counted_or b more)
        ∙ (alike_commits n table key (counted_or b more) (counted_or b book) book (λ x at. elim (free x at) [ inl apart ↦ inl (ap (λ q. q || same b x) (as_before x apart)) | inr none ↦ inr none ])
        ∙ (now.waits b g cs scn (quiet_old n table key book e quiet b g cs scn there) here before
        ∙ (ap (λ xs. xs ++ waiting n table key book b g)
        (sym (quietly (counted more) ∙ alike_commits n table key (counted more) (counted book) book (λ x at. elim (free x at) [ inl apart ↦ inl (as_before x apart) | inr none ↦ inr none ])))
        ∙ ap (λ xs. commits (counted more) more ++ xs) (sym (quiet_waiting n table key book e quiet b g)))))
      where
        as_before : (x : BranchId) → same c x ≡ false → counted more x ≡ counted book x
        as_before x apart = same_counted book e x refl refl apart

    -- where this branch has none
    open_free : at_key (changes_of book b) ≡ [] → commits (counted_or b more) more ≡ commits (counted more) more ++ waiting n table key more b g
    open_free none =
        quietly (counted_or b more)
        ∙ (alike_commits n table key (counted_or b more) (counted more) book (λ x at. by x (same b x) refl)
        ∙ (sym (quietly (counted more))
        ∙ (sym (append-nil (commits (counted more) more)) ∙ ap (λ xs. commits (counted more) more ++ xs) (sym (quiet_waiting n table key book e quiet b g ∙ none_if (stands (is_decision_on g) book) (at_key (changes_of book b)) none)))))
      where
        by : (x : BranchId) (q : Bool) → same b x ≡ q → ((counted more x || same b x) ≡ counted more x) ⊎ (at_key (changes_of book x) ≡ [])
        by x true is = inr (subst (λ z. at_key (changes_of book z) ≡ []) (equal_from_same b x is) none)
        by x false is = inl (ap (λ q. counted more x || q) is ∙ or_none (counted more x))

    still_waits : commits (counted_or b more) more ≡ commits (counted more) more ++ waiting n table key more b g
    still_waits = elim (one_free n table key book apart b c here before was_open other) [
      | inl none ↦ ended_free (λ x at. by none x at (same c x) refl)
      | inr none ↦ open_free none
    ]
      where
        by : (c.node ≡ n → at_key (changes_of book c) ≡ []) → (x : BranchId) → x.node ≡ n → (q : Bool) → same c x ≡ q → (same c x ≡ false) ⊎ (at_key (changes_of book x) ≡ [])
        by none x at false is = inl is
        by none x at true is = let me : c ≡ x = equal_from_same c x is in inr (subst (λ z. at_key (changes_of book z) ≡ []) me (none (ap (λ (z : BranchId). z.node) me ∙ at)))

  pub ended_tells : Tells n table key more
  ended_tells = record {
    told = told_next n table key book e (now_counted ∙ (counted_too ∙ ap (λ xs. xs ++ at_key (commits_now book n e)) now.told));
    waits = λ b g cs scn there here opened. still_waits b g cs scn there here opened;
  }
