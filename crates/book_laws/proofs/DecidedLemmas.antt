-- A transaction is decided: its site's changes are told at once, and its open branches wait with theirs from now on.
use Rattle.std.proofs.Common.{◌≡◌, ℕ, ◌==◌, ◌||◌, ◌&&◌, Bool, true, false, true≢false, if◌then◌else◌, List, [], ◌++◌, Some, inl, inr, refl, sym, ap, subst, ◌∙◌, append-nil, append_assoc}
use Rattle.std.specs.Prelude.{◌⊎◌}
use Rattle.std.proofs.lemmas.Bool.{and_parts, eqb-true, eq-eqb}
use Rattle.tran_ids.proofs.BranchLemmas.{equal_from_same, same_from_equal}
use Rattle.node_rules.specs.Data.{Value, Change, BranchId}
use Rattle.node_rules.specs.Data.decisions
use Rattle.node_rules.specs.Rows.{is_change_of}
use Rattle.node_rules.specs.Words.{same}
use Rattle.run_rules.specs.Data.{Entry}
use Rattle.run_rules.specs.Data.entries
use Rattle.run_rules.specs.Book.{is_decided_of, is_end_of, stands, is_decision_on, global_in, is_of, is_rollback_of, Follows, changes_in, changes_of, committed_at}
use Rattle.run_base_laws.proofs.RowEventLemmas.{same_turned}
use Rattle.book_laws.proofs.PlaceLemmas.{IsOne, finds}
use Rattle.book_laws.proofs.FlatLemmas.{same_flat, none_flat, filter_flat, none_if, any_same, any_now, none_passes, one_of_more, flat_last}
use Rattle.book_laws.proofs.CountLemmas.{picked_if, part, total, StaysBefore, picked_same, commits_more}
use Rattle.book_laws.proofs.OpenLemmas.{is_open, counted, counted_or, counted_is, open_parts, not_forced, same_open, same_counted, none_later, SealsFit}
use Rattle.book_laws.proofs.ApartLemmas.{IsFree, free_branch}
use Rattle.book_laws.proofs.TellLemmas.{at_entry, either_order, waiting, Tells, told_next, same_commits}

and_true : (q r : Bool) → r ≡ true → (q && r) ≡ q
and_true true r is = is
and_true false r is = refl

or_last : (p q : Bool) → (p || q) ≡ true → q ≡ false → p ≡ true
or_last true q some none = refl
or_last false q some none = absurd (true≢false (sym some ∙ none))

module _ (n : ℕ) (table : List ℕ) (key : Value) (book : List Entry) (c g : BranchId) (ds : List Change) (s : ℕ) (fits : SealsFit book) (follows : Follows book (entries.Decided c g ds s))
    (free : IsFree n table key book (entries.Decided c g ds s)) (now : Tells n table key book) where
  open at_entry n table key book (entries.Decided c g ds s) use {e, more, at_key, commits}

  -- ---- what the entry commits

  -- the site's own changes
  abbrev own : List Change
  own = if c.node == n then at_key ds else []

  counts_on : (b : BranchId) → counted more b ≡ counted book b
  counts_on b = same_counted book e b refl refl refl

  site_counted : counted book c ≡ true
  site_counted = counted_is book c false false false (not_forced book c follows.3) follows.2 follows.3

  stays : (counts : BranchId → Bool) (x : Entry) → IsOne x book → StaysBefore n table key counts book e x
  stays counts (entries.Decided b f cs scn) there =
      ap (λ q. if q && ((c.node == n) && counts c) then at_key ds else []) (same_turned f g (none_passes (is_decision_on g) (entries.Decided b f cs scn) book follows.0 there))
  stays counts (entries.Forced b (decisions.Commit m)) there =
      ap (λ q. at_key (if q then ds else [])) (same_turned b c (none_passes (is_end_of c) (entries.Forced b (decisions.Commit m)) book follows.3 there))
  stays counts (entries.Forced b decisions.Rollback) there = tt
  stays counts (entries.Made m x) there = tt
  stays counts (entries.Sealed b f cs scn) there = tt
  stays counts (entries.Ended b d) there = tt
  stays counts (entries.Met b d mixed) there = tt

  own_part : (counts : BranchId → Bool) → counts c ≡ true → part n table key counts g e ≡ own
  own_part counts is =
      ap (λ q. if q && ((c.node == n) && counts c) then at_key ds else []) (same_from_equal g g refl) ∙ ap (λ q. if q then at_key ds else []) (and_true (c.node == n) (counts c) is)

  more_commits : (counts : BranchId → Bool) → counts c ≡ true → commits counts more ≡ commits counts book ++ (total n table key counts book g ++ own)
  more_commits counts is =
      commits_more n table key counts book e (stays counts)
      ∙ ap (λ xs. commits counts book ++ xs) (flat_last (part n table key counts g) book e ∙ ap (λ xs. total n table key counts book g ++ xs) (own_part counts is))

  -- ---- the transaction's branches

  -- none of them was counted
  not_counted : (x h : BranchId) (cs : List Change) (scn : ℕ) → IsOne (entries.Sealed x h cs scn) book → same h g ≡ true → counted book x ≡ true → ⊥
  not_counted x h cs scn there one counts =
      let at : h ≡ g = equal_from_same h g one in
      elim (fits.settled x h cs scn there counts) [
        | inl decided ↦ true≢false (sym decided ∙ subst (λ z. stands (is_decision_on z) book ≡ false) (sym at) follows.0)
        | inr ended ↦ true≢false (sym (finds (is_rollback_of book g) (entries.Ended x decisions.Rollback) book ended (ap (λ o. is_of o g) (fits.global x h cs scn there) ∙ one)) ∙ follows.1)
      ]

  sealed_none : (counts : BranchId → Bool) (x h : BranchId) (cs : List Change) (scn : ℕ) → (same h g ≡ true → counts x ≡ true → ⊥) → part n table key counts g (entries.Sealed x h cs scn) ≡ []
  sealed_none counts x h cs scn never = by (same h g && ((x.node == n) && counts x)) refl
    where
      by : (q : Bool) → (same h g && ((x.node == n) && counts x)) ≡ q → (if q then at_key cs else []) ≡ []
      by false is = refl
      by true is = let parts = and_parts (same h g) ((x.node == n) && counts x) is in absurd (never parts.0 (and_parts (x.node == n) (counts x) parts.1).1)

  decided_none : (counts : BranchId → Bool) (x h : BranchId) (cs : List Change) (scn : ℕ) → IsOne (entries.Decided x h cs scn) book → part n table key counts g (entries.Decided x h cs scn) ≡ []
  decided_none counts x h cs scn there =
      ap (λ q. if q && ((x.node == n) && counts x) then at_key cs else []) (none_passes (is_decision_on g) (entries.Decided x h cs scn) book follows.0 there)

  none_total : (counts : BranchId → Bool) → ((x h : BranchId) (cs : List Change) (scn : ℕ) → IsOne (entries.Sealed x h cs scn) book → same h g ≡ true → counts x ≡ true → ⊥) → total n table key counts book g ≡ []
  none_total counts never = none_flat (part n table key counts g) book by
    where
      by : (x : Entry) → IsOne x book → part n table key counts g x ≡ []
      by (entries.Sealed x h cs scn) there = sealed_none counts x h cs scn (never x h cs scn there)
      by (entries.Decided x h cs scn) there = decided_none counts x h cs scn there
      by (entries.Made m x) there = refl
      by (entries.Ended x d) there = refl
      by (entries.Forced x d) there = refl
      by (entries.Met x d mixed) there = refl

  now_counted : commits (counted more) more ≡ commits (counted book) book ++ own
  now_counted =
      same_commits n table key book e (counted more) (counted book) more (λ b here. counts_on b)
      ∙ (more_commits (counted book) site_counted ∙ ap (λ xs. commits (counted book) book ++ (xs ++ own)) (none_total (counted book) not_counted))

  -- ---- those that wait

  module _ (b f : BranchId) (cs : List Change) (scn : ℕ) (old : IsOne (entries.Sealed b f cs scn) book) (here : b.node ≡ n) (opened : is_open book b ≡ true) where
    -- what is committed before, and what the branch has changed at the key
    abbrev before : List Change
    before = commits (counted book) book

    abbrev changed : List Change
    changed = at_key (changes_of book b)

    -- a seal of this branch is of its transaction
    of_one : (x h : BranchId) (es : List Change) (m : ℕ) → IsOne (entries.Sealed x h es m) book → x ≡ b → h ≡ f
    of_one x h es m there me = let both : Some h ≡ Some f = sym (fits.global x h es m there) ∙ (ap (λ z. global_in z book) me ∙ fits.global b f cs scn old) in cc both

    -- where it is of another transaction, nothing more is committed
    other_total : same f g ≡ false → total n table key (counted_or b book) book g ≡ []
    other_total other = none_total (counted_or b book) never
      where
        never : (x h : BranchId) (es : List Change) (m : ℕ) → IsOne (entries.Sealed x h es m) book → same h g ≡ true → (counted book x || same b x) ≡ true → ⊥
        never x h es m there one counts = by (same b x) refl
          where
            by : (q : Bool) → same b x ≡ q → ⊥
            by true is = true≢false (sym one ∙ (ap (λ z. same z g) (of_one x h es m there (sym (equal_from_same b x is))) ∙ other))
            by false is = not_counted x h es m there one (or_last (counted book x) (same b x) counts is)

    -- where it is of this one, its changes are
    own_total : same f g ≡ true → total n table key (counted_or b book) book g ≡ at_key (changes_of book b)
    own_total one = same_flat (part n table key (counted_or b book) g) (λ x. at_key (changes_in b x)) book by ∙ sym (filter_flat (is_change_of table key) (changes_in b) book)
      where
        sealed : (x h : BranchId) (es : List Change) (m : ℕ) → IsOne (entries.Sealed x h es m) book → (q : Bool) → same x b ≡ q
            → (if same h g && ((x.node == n) && (counted book x || same b x)) then at_key es else []) ≡ at_key (if q then es else [])
        sealed x h es m there true is =
            let me : x ≡ b = equal_from_same x b is in
            let at : same h g ≡ true = ap (λ z. same z g) (of_one x h es m there me) ∙ one in
            let node : (x.node == n) ≡ true = eq-eqb x.node n (ap (λ (z : BranchId). z.node) me ∙ here) in
            let too : (counted book x || same b x) ≡ true = both (counted book x) (same b x) (same_from_equal b x (sym me)) in
            ap (λ q. if q && ((x.node == n) && (counted book x || same b x)) then at_key es else []) at
            ∙ (ap (λ q. if q && (counted book x || same b x) then at_key es else []) node ∙ ap (λ q. if q then at_key es else []) too)
          where
            both : (p q : Bool) → q ≡ true → (p || q) ≡ true
            both true q is = refl
            both false q is = is
        sealed x h es m there false is =
            sealed_none (counted_or b book) x h es m (λ at counts. not_counted x h es m there at (or_last (counted book x) (same b x) counts (same_turned x b is)))

        by : (x : Entry) → IsOne x book → part n table key (counted_or b book) g x ≡ at_key (changes_in b x)
        by (entries.Sealed x h es m) there = sealed x h es m there (same x b) refl
        by (entries.Decided x h es m) there =
            decided_none (counted_or b book) x h es m there
            ∙ ap (λ q. at_key (if q then es else [])) (sym (none_passes (is_decided_of b) (entries.Decided x h es m) book (fits.undecided b f cs scn old) there))
        by (entries.Made m x) there = refl
        by (entries.Ended x d) there = refl
        by (entries.Forced x d) there = refl
        by (entries.Met x d mixed) there = refl

    -- the branch and the site have not both changed the key
    one_is_none : (at_key (changes_of book b) ≡ []) ⊎ (own ≡ [])
    one_is_none = by (c.node == n) refl
      where
        by : (q : Bool) → (c.node == n) ≡ q → (at_key (changes_of book b) ≡ []) ⊎ ((if q then at_key ds else []) ≡ [])
        by false is = inr refl
        by true is = free_branch n table key book fits b ds here opened (free (eqb-true c.node n is))

    same_changes : at_key (changes_of more b) ≡ at_key (changes_of book b)
    same_changes = picked_same n table key (counted book) book e b (ap at_key (none_later book e follows b (open_parts book b opened).0))

    -- it waits with its changes, if its transaction is the one that is decided now
    still_waits : commits (counted_or b more) more ≡ commits (counted more) more ++ waiting n table key more b f
    still_waits =
        same_commits n table key book e (counted_or b more) (counted_or b book) more (λ x at. ap (λ q. q || same b x) (counts_on x))
        ∙ (more_commits (counted_or b book) (ap (λ q. q || same b c) site_counted)
        ∙ (ap (λ xs. xs ++ (total n table key (counted_or b book) book g ++ own)) (now.waits b f cs scn old here opened)
        ∙ (by (same f g) refl ∙ ap (λ xs. xs ++ waiting n table key more b f) (sym now_counted))))
      where
        -- with what is waiting now
        waits_now : (q : Bool) → stands (is_decision_on f) more ≡ q → waiting n table key more b f ≡ (if q then changed else [])
        waits_now q is = ap (λ q. if q then at_key (changes_of more b) else []) is ∙ ap (λ xs. if q then xs else []) same_changes

        by : (q : Bool) → same f g ≡ q → (before ++ waiting n table key book b f) ++ (total n table key (counted_or b book) book g ++ own) ≡ (before ++ own) ++ waiting n table key more b f
        by true is =
            let none : waiting n table key book b f ≡ [] = ap (λ q. if q then changed else []) (ap (λ z. stands (is_decision_on z) book) (equal_from_same f g is) ∙ follows.0) in
            let some : stands (is_decision_on f) more ≡ true = any_now (is_decision_on f) book e (same_from_equal g f (sym (equal_from_same f g is))) in
            ap (λ xs. (before ++ xs) ++ (total n table key (counted_or b book) book g ++ own)) none
            ∙ (ap (λ xs. xs ++ (total n table key (counted_or b book) book g ++ own)) (append-nil before)
            ∙ (ap (λ xs. before ++ (xs ++ own)) (own_total is)
            ∙ (sym (append_assoc before changed own)
            ∙ (either_order before changed own one_is_none ∙ ap (λ xs. (before ++ own) ++ xs) (sym (waits_now true some))))))
        by false is =
            let same_test : stands (is_decision_on f) more ≡ stands (is_decision_on f) book = any_same (is_decision_on f) book e (same_turned f g is) in
            ap (λ xs. (before ++ waiting n table key book b f) ++ (xs ++ own)) (other_total is)
            ∙ (either_order before (waiting n table key book b f) own (elim (one_is_none) [ inl none ↦ inl (none_if (stands (is_decision_on f) book) changed none) | inr none ↦ inr none ])
            ∙ ap (λ xs. (before ++ own) ++ xs) (sym (waits_now (stands (is_decision_on f) book) same_test)))

  all_wait : (b f : BranchId) (cs : List Change) (scn : ℕ) → IsOne (entries.Sealed b f cs scn) more → b.node ≡ n → is_open more b ≡ true
      → commits (counted_or b more) more ≡ commits (counted more) more ++ waiting n table key more b f
  all_wait b f cs scn there here opened = elim (one_of_more (entries.Sealed b f cs scn) book e there) [
    | inl old ↦ still_waits b f cs scn old here (sym (same_open book e b refl refl) ∙ opened)
    | inr new ↦ absurd (cc new)
  ]

  pub decided_tells : Tells n table key more
  decided_tells = record {
    told = told_next n table key book e (now_counted ∙ (ap (λ xs. xs ++ own) now.told ∙ ap (λ xs. at_key (committed_at [] n book) ++ xs) (sym (picked_if n table key (c.node == n) ds))));
    waits = λ b f cs scn there here opened. all_wait b f cs scn there here opened;
  }
