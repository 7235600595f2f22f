-- A branch seals: nothing is told, and it waits for nothing, since its transaction was not decided.
use Rattle.std.proofs.Common.{◌≡◌, ℕ, ◌==◌, ◌||◌, ◌&&◌, Bool, true, false, true≢false, if◌then◌else◌, List, [], ◌++◌, inl, inr, refl, sym, ap, subst, ◌∙◌, append-nil}
use Rattle.std.specs.Prelude.{◌⊎◌}
use Rattle.tran_ids.proofs.BranchLemmas.{equal_from_same}
use Rattle.agreement.proofs.BookTests.{not_true}
use Rattle.node_rules.specs.Data.{Value, Change, BranchId}
use Rattle.node_rules.specs.Data.decisions
use Rattle.node_rules.specs.Words.{same}
use Rattle.run_rules.specs.Data.{Entry}
use Rattle.run_rules.specs.Data.entries
use Rattle.run_rules.specs.Book.{is_sealed_of, is_end_of, stands, is_decision_on, Follows, changes_of}
use Rattle.run_base_laws.proofs.RowEventLemmas.{same_turned}
use Rattle.book_laws.specs.SealLaws.{ComesFirst}
use Rattle.book_laws.proofs.PlaceLemmas.{IsOne}
use Rattle.book_laws.proofs.FlatLemmas.{or_none, any_same, none_passes, one_of_more}
use Rattle.book_laws.proofs.CountLemmas.{alike_commits, StaysBefore, picked_same, commits_more}
use Rattle.book_laws.proofs.OpenLemmas.{is_open, counted, counted_or, seal_found, no_changes, same_open, same_counted}
use Rattle.book_laws.proofs.TellLemmas.{at_entry, waiting, Tells, told_on}

module _ (n : ℕ) (table : List ℕ) (key : Value) (book : List Entry) (c h : BranchId) (ds : List Change) (s : ℕ) (follows : Follows book (entries.Sealed c h ds s)) (first : ComesFirst book (entries.Sealed c h ds s))
    (now : Tells n table key book) where
  open at_entry n table key book (entries.Sealed c h ds s) use {e, more, at_key, commits}

  -- what the book commits stays: its transaction was not decided, and nothing was forced on it
  stays : (counts : BranchId → Bool) (x : Entry) → IsOne x book → StaysBefore n table key counts book e x
  stays counts (entries.Decided b g cs scn) there =
      ap (λ q. if q && ((c.node == n) && counts c) then at_key ds else []) (same_turned g h (none_passes (is_decision_on h) (entries.Decided b g cs scn) book first there))
  stays counts (entries.Forced b (decisions.Commit m)) there =
      ap (λ q. at_key (if q then ds else [])) (same_turned b c (none_passes (is_end_of c) (entries.Forced b (decisions.Commit m)) book follows.2 there))
  stays counts (entries.Forced b decisions.Rollback) there = tt
  stays counts (entries.Made m x) there = tt
  stays counts (entries.Sealed b g cs scn) there = tt
  stays counts (entries.Ended b d) there = tt
  stays counts (entries.Met b d mixed) there = tt

  nothing_more : (counts : BranchId → Bool) → commits counts more ≡ commits counts book
  nothing_more counts = commits_more n table key counts book e (stays counts) ∙ append-nil (commits counts book)

  unchanged : at_key (changes_of book c) ≡ []
  unchanged = ap at_key (no_changes book c follows.0 follows.1)

  -- the same branches are counted, but for the one that seals
  counts_alike : (x : BranchId) → (counted more x ≡ counted book x) ⊎ (at_key (changes_of book x) ≡ [])
  counts_alike x = by (same c x) refl
    where
      by : (q : Bool) → same c x ≡ q → (counted more x ≡ counted book x) ⊎ (at_key (changes_of book x) ≡ [])
      by true is = inr (subst (λ z. at_key (changes_of book z) ≡ []) (equal_from_same c x is) unchanged)
      by false is = inl (same_counted book e x refl is refl)

  now_counted : commits (counted more) more ≡ commits (counted book) book
  now_counted = nothing_more (counted more) ∙ alike_commits n table key (counted more) (counted book) book (λ x here. counts_alike x)

  -- ---- those that wait

  module _ (b g : BranchId) (cs : List Change) (scn : ℕ) (here : b.node ≡ n) (opened : is_open more b ≡ true) (old : IsOne (entries.Sealed b g cs scn) book) where
    other : same c b ≡ false
    other = not_true (same c b) (λ is. true≢false (sym (seal_found book b g cs scn old) ∙ subst (λ z. stands (is_sealed_of z) book ≡ false) (equal_from_same c b is) follows.0))

    same_waiting : waiting n table key more b g ≡ waiting n table key book b g
    same_waiting =
        ap (λ q. if q then at_key (changes_of more b) else []) (any_same (is_decision_on g) book e refl)
        ∙ ap (λ xs. if stands (is_decision_on g) book then xs else []) (picked_same n table key (counted book) book e b (ap (λ q. at_key (if q then ds else [])) other))

    waits_on : commits (counted_or b more) more ≡ commits (counted more) more ++ waiting n table key more b g
    waits_on =
        nothing_more (counted_or b more)
        ∙ (alike_commits n table key (counted_or b more) (counted_or b book) book (λ x at. elim (counts_alike x) [ inl is ↦ inl (ap (λ q. q || same b x) is) | inr none ↦ inr none ])
        ∙ (now.waits b g cs scn old here (sym (same_open book e b other refl) ∙ opened)
        ∙ (ap (λ xs. xs ++ waiting n table key book b g) (sym now_counted) ∙ ap (λ xs. commits (counted more) more ++ xs) (sym same_waiting))))

  -- the one that seals waits for nothing
  seal_waits : commits (counted_or c more) more ≡ commits (counted more) more ++ waiting n table key more c h
  seal_waits =
      nothing_more (counted_or c more)
      ∙ (alike_commits n table key (counted_or c more) (counted book) book (λ x at. by x (same c x) refl)
      ∙ (sym now_counted ∙ (sym (append-nil (commits (counted more) more)) ∙ ap (λ xs. commits (counted more) more ++ xs) (sym none))))
    where
      by : (x : BranchId) (q : Bool) → same c x ≡ q → ((counted more x || same c x) ≡ counted book x) ⊎ (at_key (changes_of book x) ≡ [])
      by x true is = inr (subst (λ z. at_key (changes_of book z) ≡ []) (equal_from_same c x is) unchanged)
      by x false is = inl (ap (λ q. counted more x || q) is ∙ (or_none (counted more x) ∙ same_counted book e x refl is refl))

      none : waiting n table key more c h ≡ []
      none = ap (λ q. if q then at_key (changes_of more c) else []) (any_same (is_decision_on h) book e refl ∙ first)

  all_wait : (b g : BranchId) (cs : List Change) (scn : ℕ) → IsOne (entries.Sealed b g cs scn) more → b.node ≡ n → is_open more b ≡ true
      → commits (counted_or b more) more ≡ commits (counted more) more ++ waiting n table key more b g
  all_wait b g cs scn there here opened = elim (one_of_more (entries.Sealed b g cs scn) book e there) [
    | inl old ↦ waits_on b g cs scn here opened old
    | inr new ↦ (let me : c ≡ b = cc new in
        let global : h ≡ g = cc new in
        subst (λ z. commits (counted_or z more) more ≡ commits (counted more) more ++ waiting n table key more z g) me
        (subst (λ z. commits (counted_or c more) more ≡ commits (counted more) more ++ waiting n table key more c z) global seal_waits))
  ]

  pub sealed_tells : Tells n table key more
  sealed_tells = record { told = told_on n table key book e now_counted refl now; waits = λ b g cs scn there here opened. all_wait b g cs scn there here opened }
