-- Which branches are open by a book, sealed and neither ended nor forced, and which are counted, neither open nor forced; what
-- one more entry makes of them; and what the book says of the transaction of a sealed branch.
use Rattle.std.proofs.Common.{◌≡◌, ℕ, ◌||◌, ◌&&◌, not, Bool, true, false, true≢false, if◌then◌else◌, List, [], ◌∷◌, ◌++◌, Option, Some, None, inl, inr, refl, sym, ap, subst, ◌∙◌}
use Rattle.std.specs.Prelude.{◌⊎◌}
use Rattle.std.proofs.lemmas.Bool.{and_parts}
use Rattle.tran_ids.proofs.BranchLemmas.{equal_from_same, same_from_equal}
use Rattle.agreement.proofs.BookTests.{not_true}
use Rattle.node_rules.specs.Data.{Change, BranchId, Decision}
use Rattle.node_rules.specs.Data.decisions
use Rattle.node_rules.specs.Words.{same}
use Rattle.run_rules.specs.Data.{Entry}
use Rattle.run_rules.specs.Data.entries
use Rattle.run_rules.specs.Book.{is_sealed_of, is_decided_of, is_forced_of, is_end_of, stands, is_decision_on, is_decision_at, global_in, AsDecided, Follows, changes_in, changes_of}
use Rattle.book_laws.proofs.PlaceLemmas.{IsOne, found, finds}
use Rattle.book_laws.proofs.FlatLemmas.{none_flat, one_now, one_before, one_of_more, any_same, any_before, any_now, any_more, none_passes}
use Rattle.book_laws.proofs.ScnLemmas.{decision_on as decision_by}

-- ---- open, and counted

abbrev pub is_open : List Entry → BranchId → Bool
is_open book b = stands (is_sealed_of b) book && not (stands (is_end_of b) book)

abbrev pub counted : List Entry → BranchId → Bool
counted book b = not (stands (is_forced_of b) book) && not (is_open book b)

-- this one too
abbrev pub counted_or : BranchId → List Entry → BranchId → Bool
counted_or c book b = counted book b || same c b

-- by what stands in the book
pub counted_is : (book : List Entry) (b : BranchId) (f s x : Bool) → stands (is_forced_of b) book ≡ f → stands (is_sealed_of b) book ≡ s → stands (is_end_of b) book ≡ x
    → counted book b ≡ (not f && not (s && not x))
counted_is book b f s x forced sealed ended =
    ap (λ q. not q && not (stands (is_sealed_of b) book && not (stands (is_end_of b) book))) forced
    ∙ (ap (λ q. not f && not (q && not (stands (is_end_of b) book))) sealed ∙ ap (λ q. not f && not (s && not q)) ended)

not_false : (q : Bool) → not q ≡ true → q ≡ false
not_false false is = refl
not_false true is = absurd (true≢false (sym is))

pub open_parts : (book : List Entry) (b : BranchId) → is_open book b ≡ true → (stands (is_sealed_of b) book ≡ true) × (stands (is_end_of b) book ≡ false)
open_parts book b is = let parts = and_parts (stands (is_sealed_of b) book) (not (stands (is_end_of b) book)) is in (parts.0, not_false (stands (is_end_of b) book) parts.1)

pub is_open_from : (book : List Entry) (b : BranchId) → stands (is_sealed_of b) book ≡ true → stands (is_end_of b) book ≡ false → is_open book b ≡ true
is_open_from book b sealed endless = ap (λ q. q && not (stands (is_end_of b) book)) sealed ∙ ap not endless

end_by_force : (b : BranchId) (e : Entry) → is_forced_of b e ≡ true → is_end_of b e ≡ true
end_by_force b (entries.Forced c d) is = is
end_by_force b (entries.Made m x) is = absurd (true≢false (sym is))
end_by_force b (entries.Sealed c g cs scn) is = absurd (true≢false (sym is))
end_by_force b (entries.Decided c g cs scn) is = absurd (true≢false (sym is))
end_by_force b (entries.Ended c d) is = absurd (true≢false (sym is))
end_by_force b (entries.Met c d mixed) is = absurd (true≢false (sym is))

-- a branch without an end was not forced
pub not_forced : (book : List Entry) (b : BranchId) → stands (is_end_of b) book ≡ false → stands (is_forced_of b) book ≡ false
not_forced book b endless = not_true (stands (is_forced_of b) book) (λ some.
    let e = found (is_forced_of b) book some in true≢false (sym (finds (is_end_of b) e.0 book e.1 (end_by_force b e.0 e.2)) ∙ endless))

-- ---- the seal of a branch

-- A branch is sealed by an entry of a book.
pub record IsSealedIn (book : List Entry) (b : BranchId) : Type 0 where
  pub global : BranchId
  pub changes : List Change
  pub scn : ℕ
  pub there : IsOne (entries.Sealed b global changes scn) book

sealed_by : (book : List Entry) (b : BranchId) (e : Entry) → IsOne e book → is_sealed_of b e ≡ true → IsSealedIn book b
sealed_by book b (entries.Sealed c g cs scn) one is = record { global = g; changes = cs; scn = scn; there = subst (λ z. IsOne (entries.Sealed z g cs scn) book) (equal_from_same c b is) one }
sealed_by book b (entries.Made m x) one is = absurd (true≢false (sym is))
sealed_by book b (entries.Decided c g cs scn) one is = absurd (true≢false (sym is))
sealed_by book b (entries.Ended c d) one is = absurd (true≢false (sym is))
sealed_by book b (entries.Forced c d) one is = absurd (true≢false (sym is))
sealed_by book b (entries.Met c d mixed) one is = absurd (true≢false (sym is))

pub sealed_in_book : (book : List Entry) (b : BranchId) → stands (is_sealed_of b) book ≡ true → IsSealedIn book b
sealed_in_book book b some = let e = found (is_sealed_of b) book some in sealed_by book b e.0 e.1 e.2

pub seal_found : (book : List Entry) (b g : BranchId) (cs : List Change) (scn : ℕ) → IsOne (entries.Sealed b g cs scn) book → stands (is_sealed_of b) book ≡ true
seal_found book b g cs scn there = finds (is_sealed_of b) (entries.Sealed b g cs scn) book there (same_from_equal b b refl)

-- the transaction of a sealed branch
pub global_stays : (b g : BranchId) (xs ys : List Entry) → global_in b xs ≡ Some g → global_in b (xs ++ ys) ≡ Some g
global_stays b g [] ys is = absurd cc
global_stays b g (entries.Sealed c h cs n ∷ xs) ys is = by (same c b) is (global_stays b g xs ys)
  where
    by : (q : Bool) → (if q then Some h else global_in b xs) ≡ Some g → (global_in b xs ≡ Some g → global_in b (xs ++ ys) ≡ Some g) → (if q then Some h else global_in b (xs ++ ys)) ≡ Some g
    by true is rest = is
    by false is rest = rest is
global_stays b g (entries.Made n x ∷ xs) ys is = global_stays b g xs ys is
global_stays b g (entries.Decided c h cs n ∷ xs) ys is = global_stays b g xs ys is
global_stays b g (entries.Ended c d ∷ xs) ys is = global_stays b g xs ys is
global_stays b g (entries.Forced c d ∷ xs) ys is = global_stays b g xs ys is
global_stays b g (entries.Met c d mixed ∷ xs) ys is = global_stays b g xs ys is

global_now : (b g : BranchId) (cs : List Change) (scn : ℕ) (xs : List Entry) → stands (is_sealed_of b) xs ≡ false → global_in b (xs ++ entries.Sealed b g cs scn ∷ []) ≡ Some g
global_now b g cs scn [] none = ap (λ q. if q then Some g else None) (same_from_equal b b refl)
global_now b g cs scn (entries.Sealed c h ds n ∷ xs) none = by (same c b) none (global_now b g cs scn xs)
  where
    by : (q : Bool) → (q || stands (is_sealed_of b) xs) ≡ false → (stands (is_sealed_of b) xs ≡ false → global_in b (xs ++ entries.Sealed b g cs scn ∷ []) ≡ Some g)
        → (if q then Some h else global_in b (xs ++ entries.Sealed b g cs scn ∷ [])) ≡ Some g
    by true none rest = absurd (true≢false none)
    by false none rest = rest none
global_now b g cs scn (entries.Made n x ∷ xs) none = global_now b g cs scn xs none
global_now b g cs scn (entries.Decided c h ds n ∷ xs) none = global_now b g cs scn xs none
global_now b g cs scn (entries.Ended c d ∷ xs) none = global_now b g cs scn xs none
global_now b g cs scn (entries.Forced c d ∷ xs) none = global_now b g cs scn xs none
global_now b g cs scn (entries.Met c d mixed ∷ xs) none = global_now b g cs scn xs none

-- a commit that a branch learned was decided before
pub commit_decided : (book : List Entry) (g : BranchId) (m : ℕ) (o : Option BranchId) → o ≡ Some g → AsDecided (decisions.Commit m) o book → stands (is_decision_on g) book ≡ true
commit_decided book g m None is decides = absurd cc
commit_decided book g m (Some h) is decides =
    let one : h ≡ g = cc is in
    let e = found (is_decision_at h m) book decides in
    subst (λ z. stands (is_decision_on z) book ≡ true) one (finds (is_decision_on h) e.0 book e.1 (decision_by h m e.0 e.2))

-- and of a rollback there was no decision
pub rollback_undecided : (book : List Entry) (g : BranchId) (o : Option BranchId) → o ≡ Some g → AsDecided decisions.Rollback o book → stands (is_decision_on g) book ≡ false
rollback_undecided book g None is decides = absurd cc
rollback_undecided book g (Some h) is decides = let one : h ≡ g = cc is in subst (λ z. stands (is_decision_on z) book ≡ false) one decides

-- a branch that neither sealed nor decided has no changes
pub no_changes : (book : List Entry) (c : BranchId) → stands (is_sealed_of c) book ≡ false → stands (is_decided_of c) book ≡ false → changes_of book c ≡ []
no_changes book c unsealed undecided = none_flat (changes_in c) book by
  where
    by : (e : Entry) → IsOne e book → changes_in c e ≡ []
    by (entries.Sealed b g cs scn) there = ap (λ q. if q then cs else []) (none_passes (is_sealed_of c) (entries.Sealed b g cs scn) book unsealed there)
    by (entries.Decided b g cs scn) there = ap (λ q. if q then cs else []) (none_passes (is_decided_of c) (entries.Decided b g cs scn) book undecided there)
    by (entries.Made m x) there = refl
    by (entries.Ended b d) there = refl
    by (entries.Forced b d) there = refl
    by (entries.Met b d mixed) there = refl

-- ---- one more entry

pub same_open : (book : List Entry) (e : Entry) (b : BranchId) → is_sealed_of b e ≡ false → is_end_of b e ≡ false → is_open (book ++ e ∷ []) b ≡ is_open book b
same_open book e b sealed ended =
    ap (λ q. q && not (stands (is_end_of b) (book ++ e ∷ []))) (any_same (is_sealed_of b) book e sealed)
    ∙ ap (λ q. stands (is_sealed_of b) book && not q) (any_same (is_end_of b) book e ended)

pub same_counted : (book : List Entry) (e : Entry) (b : BranchId) → is_forced_of b e ≡ false → is_sealed_of b e ≡ false → is_end_of b e ≡ false → counted (book ++ e ∷ []) b ≡ counted book b
same_counted book e b forced sealed ended =
    counted_is (book ++ e ∷ []) b (stands (is_forced_of b) book) (stands (is_sealed_of b) book) (stands (is_end_of b) book)
    (any_same (is_forced_of b) book e forced) (any_same (is_sealed_of b) book e sealed) (any_same (is_end_of b) book e ended)

end_of_sealed : (b : BranchId) (e : Entry) → is_sealed_of b e ≡ true → (g : BranchId) × (cs : List Change) × (scn : ℕ) × (e ≡ entries.Sealed b g cs scn)
end_of_sealed b (entries.Sealed c g cs scn) is = (g, cs, scn, ap (λ z. entries.Sealed z g cs scn) (equal_from_same c b is))
end_of_sealed b (entries.Made m x) is = absurd (true≢false (sym is))
end_of_sealed b (entries.Decided c g cs scn) is = absurd (true≢false (sym is))
end_of_sealed b (entries.Ended c d) is = absurd (true≢false (sym is))
end_of_sealed b (entries.Forced c d) is = absurd (true≢false (sym is))
end_of_sealed b (entries.Met c d mixed) is = absurd (true≢false (sym is))

or_false : (p q : Bool) → (p || q) ≡ false → p ≡ false
or_false true q none = absurd (true≢false none)
or_false false q none = refl

module _ (book : List Entry) (e : Entry) (follows : Follows book e) where
  -- a sealed branch has no changes in a later entry
  pub none_later : (b : BranchId) → stands (is_sealed_of b) book ≡ true → changes_in b e ≡ []
  none_later b sealed = by e follows
    where
      other : (c : BranchId) → stands (is_sealed_of c) book ≡ false → same c b ≡ false
      other c none = not_true (same c b) (λ is. true≢false (sym sealed ∙ subst (λ z. stands (is_sealed_of z) book ≡ false) (equal_from_same c b is) none))

      by : (x : Entry) → Follows book x → changes_in b x ≡ []
      by (entries.Sealed c g cs scn) follows = ap (λ q. if q then cs else []) (other c follows.0)
      by (entries.Decided c g cs scn) follows = ap (λ q. if q then cs else []) (other c follows.2)
      by (entries.Made m x) follows = refl
      by (entries.Ended c d) follows = refl
      by (entries.Forced c d) follows = refl
      by (entries.Met c d mixed) follows = refl

  -- an open branch was open before, or is sealed now
  pub open_was : (b : BranchId) → is_open (book ++ e ∷ []) b ≡ true → (is_open book b ≡ true) ⊎ ((g : BranchId) × (cs : List Change) × (scn : ℕ) × (e ≡ entries.Sealed b g cs scn))
  open_was b is = by (stands (is_sealed_of b) book) refl
    where
      parts : (stands (is_sealed_of b) (book ++ e ∷ []) ≡ true) × (stands (is_end_of b) (book ++ e ∷ []) ≡ false)
      parts = open_parts (book ++ e ∷ []) b is

      endless : stands (is_end_of b) book ≡ false
      endless = or_false (stands (is_end_of b) book) (is_end_of b e) (sym (any_more (is_end_of b) book e) ∙ parts.1)

      by : (q : Bool) → stands (is_sealed_of b) book ≡ q → (is_open book b ≡ true) ⊎ ((g : BranchId) × (cs : List Change) × (scn : ℕ) × (e ≡ entries.Sealed b g cs scn))
      by true sealed = inl (is_open_from book b sealed endless)
      by false unsealed = inr (end_of_sealed b e (sym (ap (λ q. q || is_sealed_of b e) unsealed) ∙ (sym (any_more (is_sealed_of b) book e) ∙ parts.0)))

-- ---- what a book says of sealed branches

-- Of a sealed branch the book names one transaction, it did not decide, and where it is counted its transaction was decided
-- or it ended with a rollback.
pub record SealsFit (book : List Entry) : Type 0 where
  pub global : (b g : BranchId) (cs : List Change) (scn : ℕ) → IsOne (entries.Sealed b g cs scn) book → global_in b book ≡ Some g
  pub undecided : (b g : BranchId) (cs : List Change) (scn : ℕ) → IsOne (entries.Sealed b g cs scn) book → stands (is_decided_of b) book ≡ false
  pub settled : (b g : BranchId) (cs : List Change) (scn : ℕ) → IsOne (entries.Sealed b g cs scn) book → counted book b ≡ true
      → (stands (is_decision_on g) book ≡ true) ⊎ IsOne (entries.Ended b decisions.Rollback) book

module _ (book : List Entry) (e : Entry) (follows : Follows book e) (now : SealsFit book) where
  global_next : (b g : BranchId) (cs : List Change) (scn : ℕ) → IsOne (entries.Sealed b g cs scn) (book ++ e ∷ []) → global_in b (book ++ e ∷ []) ≡ Some g
  global_next b g cs scn there = elim (one_of_more (entries.Sealed b g cs scn) book e there) [
    | inl old ↦ global_stays b g book (e ∷ []) (now.global b g cs scn old)
    | inr new ↦ (let first : Follows book (entries.Sealed b g cs scn) = subst (Follows book) new follows in
        subst (λ x. global_in b (book ++ x ∷ []) ≡ Some g) (sym new) (global_now b g cs scn book first.0))
  ]

  not_decided_now : (b g : BranchId) (cs : List Change) (scn : ℕ) → IsOne (entries.Sealed b g cs scn) book → (x : Entry) → Follows book x → is_decided_of b x ≡ false
  not_decided_now b g cs scn old (entries.Decided c h ds m) first =
      not_true (same c b) (λ is. true≢false (sym (seal_found book b g cs scn old) ∙ subst (λ z. stands (is_sealed_of z) book ≡ false) (equal_from_same c b is) first.2))
  not_decided_now b g cs scn old (entries.Made m x) first = refl
  not_decided_now b g cs scn old (entries.Sealed c h ds m) first = refl
  not_decided_now b g cs scn old (entries.Ended c d) first = refl
  not_decided_now b g cs scn old (entries.Forced c d) first = refl
  not_decided_now b g cs scn old (entries.Met c d mixed) first = refl

  undecided_next : (b g : BranchId) (cs : List Change) (scn : ℕ) → IsOne (entries.Sealed b g cs scn) (book ++ e ∷ []) → stands (is_decided_of b) (book ++ e ∷ []) ≡ false
  undecided_next b g cs scn there = elim (one_of_more (entries.Sealed b g cs scn) book e there) [
    | inl old ↦ any_same (is_decided_of b) book e (not_decided_now b g cs scn old e follows) ∙ now.undecided b g cs scn old
    | inr new ↦ (let first : Follows book (entries.Sealed b g cs scn) = subst (Follows book) new follows in
        any_same (is_decided_of b) book e (ap (is_decided_of b) new) ∙ first.1)
  ]

  -- a branch that is sealed now is not counted
  sealed_now : (b g : BranchId) (cs : List Change) (scn : ℕ) → e ≡ entries.Sealed b g cs scn → counted (book ++ e ∷ []) b ≡ false
  sealed_now b g cs scn new =
      let first : Follows book (entries.Sealed b g cs scn) = subst (Follows book) new follows in
      counted_is (book ++ e ∷ []) b false true false
      (any_same (is_forced_of b) book e (ap (is_forced_of b) new) ∙ not_forced book b first.2)
      (any_now (is_sealed_of b) book e (ap (is_sealed_of b) new ∙ same_from_equal b b refl))
      (any_same (is_end_of b) book e (ap (is_end_of b) new) ∙ first.2)

  module _ (b g : BranchId) (cs : List Change) (scn : ℕ) (old : IsOne (entries.Sealed b g cs scn) book) where
    abbrev IsSettled : Entry → Type 0
    IsSettled x = (stands (is_decision_on g) (book ++ x ∷ []) ≡ true) ⊎ IsOne (entries.Ended b decisions.Rollback) (book ++ x ∷ [])

    as_before : (x : Entry) → counted (book ++ x ∷ []) b ≡ counted book b → counted (book ++ x ∷ []) b ≡ true → IsSettled x
    as_before x stays counts = elim (now.settled b g cs scn old (sym stays ∙ counts)) [
      | inl decided ↦ inl (any_before (is_decision_on g) book x decided)
      | inr ended ↦ inr (one_before (entries.Ended b decisions.Rollback) book x ended)
    ]

    -- the end of this branch, or of another
    ended_now : (c : BranchId) (d : Decision) → Follows book (entries.Ended c d) → c ≡ b → IsSettled (entries.Ended c d)
    ended_now c (decisions.Commit m) first me =
        let decides : AsDecided (decisions.Commit m) (global_in b book) book = subst (λ z. AsDecided (decisions.Commit m) (global_in z book) book) me first.2 in
        inl (any_before (is_decision_on g) book (entries.Ended c (decisions.Commit m)) (commit_decided book g m (global_in b book) (now.global b g cs scn old) decides))
    ended_now c decisions.Rollback first me = inr (subst (λ z. IsOne (entries.Ended z decisions.Rollback) (book ++ entries.Ended c decisions.Rollback ∷ [])) me (one_now book (entries.Ended c decisions.Rollback)))

    settled_old : (x : Entry) → Follows book x → counted (book ++ x ∷ []) b ≡ true → IsSettled x
    settled_old (entries.Ended c d) first counts = by (same c b) refl
      where
        by : (q : Bool) → same c b ≡ q → IsSettled (entries.Ended c d)
        by true is = ended_now c d first (equal_from_same c b is)
        by false is = as_before (entries.Ended c d) (same_counted book (entries.Ended c d) b refl refl is) counts
    settled_old (entries.Forced c d) first counts = by (same c b) refl
      where
        by : (q : Bool) → same c b ≡ q → IsSettled (entries.Forced c d)
        by true is =
            let none : counted (book ++ entries.Forced c d ∷ []) b ≡ false = ap (λ q. not q && not (is_open (book ++ entries.Forced c d ∷ []) b)) (any_now (is_forced_of b) book (entries.Forced c d) is) in
            absurd (true≢false (sym counts ∙ none))
        by false is = as_before (entries.Forced c d) (same_counted book (entries.Forced c d) b is refl is) counts
    settled_old (entries.Sealed c h ds m) first counts =
        let other : same c b ≡ false = not_true (same c b) (λ is. true≢false (sym (seal_found book b g cs scn old) ∙ subst (λ z. stands (is_sealed_of z) book ≡ false) (equal_from_same c b is) first.0)) in
        as_before (entries.Sealed c h ds m) (same_counted book (entries.Sealed c h ds m) b refl other refl) counts
    settled_old (entries.Decided c h ds m) first counts = as_before (entries.Decided c h ds m) (same_counted book (entries.Decided c h ds m) b refl refl refl) counts
    settled_old (entries.Made m x) first counts = as_before (entries.Made m x) (same_counted book (entries.Made m x) b refl refl refl) counts
    settled_old (entries.Met c d mixed) first counts = as_before (entries.Met c d mixed) (same_counted book (entries.Met c d mixed) b refl refl refl) counts

  settled_next : (b g : BranchId) (cs : List Change) (scn : ℕ) → IsOne (entries.Sealed b g cs scn) (book ++ e ∷ []) → counted (book ++ e ∷ []) b ≡ true
      → (stands (is_decision_on g) (book ++ e ∷ []) ≡ true) ⊎ IsOne (entries.Ended b decisions.Rollback) (book ++ e ∷ [])
  settled_next b g cs scn there counts = elim (one_of_more (entries.Sealed b g cs scn) book e there) [
    | inl old ↦ settled_old b g cs scn old e follows counts
    | inr new ↦ absurd (true≢false (sym counts ∙ sealed_now b g cs scn new))
  ]

  -- each entry leaves it so
  pub seals_fit_next : SealsFit (book ++ e ∷ [])
  seals_fit_next = record { global = global_next; undecided = undecided_next; settled = settled_next }
