-- The branches in doubt by a book: each is sealed and has no end, and none is there twice.
use Rattle.std.proofs.Common.{◌≡◌, ℕ, ◌==◌, ◌||◌, ◌&&◌, not, Bool, true, false, true≢false, if◌then◌else◌, List, [], ◌∷◌, ◌++◌, filter, flat_map, Option, Some, None, inl, inr, refl, sym, ap, subst, ◌∙◌}
use Rattle.std.proofs.lemmas.Bool.{and_parts, or_left, or_right, eqb-true, eq-eqb}
use Rattle.std.proofs.lemmas.List.Folds.{list_any-append}
use Rattle.tran_ids.proofs.BranchLemmas.{same_from_equal}
use Rattle.agreement.specs.Events.{Forest, Event, Learn, mark, learned, forced, forced_by, Allowed, Lawful}
use Rattle.agreement.specs.BookOf.{entry_by, book_of}
use Rattle.agreement.proofs.BookTests.{shows, some_before, some_now, not_true}
use Rattle.agreement.proofs.EventLemmas.{learned_new, learn_by, first_none}
use Rattle.node_rules.specs.Data.{Change, BranchId, Decision}
use Rattle.node_rules.specs.Data.decisions
use Rattle.node_rules.specs.Words.{same}
use Rattle.run_rules.specs.Data.{Entry}
use Rattle.run_rules.specs.Data.entries
use Rattle.run_rules.specs.Book.{is_sealed_of, is_forced_of, is_end_of, stands, EachAgainst, doubt_in, in_doubt}
use Rattle.book_laws.proofs.PlaceLemmas.{IsOne, found, finds, one_of_flat}
use Rattle.book_laws.proofs.AloneLemmas.{SealsOnce}
use Rattle.book_laws.proofs.DecisionLemmas.{unforced_events}

-- ---- lists in which nothing is twice

abbrev pub Apart : List BranchId → Type 0
Apart [] = Unit {0}
Apart (x ∷ xs) = (IsOne x xs → ⊥) × Apart xs

pub one_filtered : {A : Type 0} (p : A → Bool) (a : A) (xs : List A) → IsOne a (filter p xs) → IsOne a xs × (p a ≡ true)
one_filtered p a [] there = absurd there
one_filtered p a (x ∷ xs) there = by (p x) refl there (one_filtered p a xs)
  where
    by : (q : Bool) → p x ≡ q → IsOne a (if q then x ∷ filter p xs else filter p xs) → (IsOne a (filter p xs) → IsOne a xs × (p a ≡ true)) → IsOne a (x ∷ xs) × (p a ≡ true)
    by true is (inl here) rest = (inl here, subst (λ z. p z ≡ true) here is)
    by true is (inr there) rest = (inr (rest there).0, (rest there).1)
    by false is there rest = (inr (rest there).0, (rest there).1)

pub apart_filtered : (p : BranchId → Bool) (xs : List BranchId) → Apart xs → Apart (filter p xs)
apart_filtered p [] apart = tt
apart_filtered p (x ∷ xs) apart = by (p x) (apart_filtered p xs apart.1)
  where
    by : (q : Bool) → Apart (filter p xs) → Apart (if q then x ∷ filter p xs else filter p xs)
    by true rest = (λ there. apart.0 (one_filtered p x xs there).0, rest)
    by false rest = rest

-- where all are one, there is one
pub one_alone : (b : BranchId) (xs : List BranchId) → Apart xs → ((c : BranchId) → IsOne c xs → c ≡ b) → IsOne b xs → xs ≡ b ∷ []
one_alone b [] apart all there = absurd there
one_alone b (x ∷ []) apart all there = ap (λ z. z ∷ []) (all x (inl refl))
one_alone b (x ∷ y ∷ xs) apart all there = absurd (apart.0 (inl (all y (inr (inl refl)) ∙ sym (all x (inl refl)))))

one_in_flat : {A B : Type 0} (f : A → List B) (a : A) (b : B) (xs : List A) → IsOne a xs → IsOne b (f a) → IsOne b (flat_map f xs)
one_in_flat {A} {B} f a b [] there is = absurd there
one_in_flat {A} {B} f a b (x ∷ xs) (inl here) is = before (f x) (flat_map f xs) (subst (λ z. IsOne b (f z)) (sym here) is)
  where
    before : (ys zs : List B) → IsOne b ys → IsOne b (ys ++ zs)
    before [] zs there = absurd there
    before (y ∷ ys) zs (inl here) = inl here
    before (y ∷ ys) zs (inr there) = inr (before ys zs there)
one_in_flat {A} {B} f a b (x ∷ xs) (inr there) is = after (f x) (flat_map f xs) (one_in_flat f a b xs there is)
  where
    after : (ys zs : List B) → IsOne b zs → IsOne b (ys ++ zs)
    after [] zs there = there
    after (y ∷ ys) zs there = inr (after ys zs there)

-- ---- in doubt

-- A branch of a node is sealed by a book, and has no end there.
pub record IsOpenIn (book : List Entry) (n : ℕ) (c : BranchId) : Type 0 where
  pub global : BranchId
  pub changes : List Change
  pub scn : ℕ
  pub sealed : IsOne (entries.Sealed c global changes scn) book
  pub here : c.node ≡ n
  pub endless : stands (is_end_of c) book ≡ false

false_is : (q : Bool) → not q ≡ true → q ≡ false
false_is false is = refl
false_is true is = absurd (true≢false (sym is))

open_by : (book : List Entry) (n : ℕ) (c : BranchId) (e : Entry) → IsOne e book → IsOne c (doubt_in book n e) → IsOpenIn book n c
open_by book n c (entries.Sealed b g cs scn) one there = by ((b.node == n) && not (stands (is_end_of b) book)) refl there
  where
    at : b ≡ c → (b.node ≡ n) × (stands (is_end_of b) book ≡ false) → IsOpenIn book n c
    at here is = record {
      global = g;
      changes = cs;
      scn = scn;
      sealed = subst (λ z. IsOne (entries.Sealed z g cs scn) book) here one;
      here = subst (λ (z : BranchId). z.node ≡ n) here is.0;
      endless = subst (λ z. stands (is_end_of z) book ≡ false) here is.1;
    }

    by : (q : Bool) → ((b.node == n) && not (stands (is_end_of b) book)) ≡ q → IsOne c (if q then b ∷ [] else []) → IsOpenIn book n c
    by true is (inl here) = let parts = and_parts (b.node == n) (not (stands (is_end_of b) book)) is in at here (eqb-true b.node n parts.0, false_is (stands (is_end_of b) book) parts.1)
    by true is (inr none) = absurd none
    by false is there = absurd there
open_by book n c (entries.Made m x) one there = absurd there
open_by book n c (entries.Decided b g cs scn) one there = absurd there
open_by book n c (entries.Ended b d) one there = absurd there
open_by book n c (entries.Forced b d) one there = absurd there
open_by book n c (entries.Met b d mixed) one there = absurd there

pub open_of : (book : List Entry) (n : ℕ) (c : BranchId) → IsOne c (in_doubt book n) → IsOpenIn book n c
unfolding in_doubt
open_of book n c there = let e = one_of_flat (doubt_in book n) c book there in open_by book n c e.0 e.1 e.2

doubted_by : (book : List Entry) (n : ℕ) (c g : BranchId) (cs : List Change) (scn : ℕ) → c.node ≡ n → stands (is_end_of c) book ≡ false → IsOne c (doubt_in book n (entries.Sealed c g cs scn))
doubted_by book n c g cs scn here endless = subst (λ q. IsOne c (if q && not (stands (is_end_of c) book) then c ∷ [] else [])) (sym (eq-eqb c.node n here)) (subst (λ q. IsOne c (if not q then c ∷ [] else [])) (sym endless) (inl refl))

pub in_doubt_of : (book : List Entry) (n : ℕ) (c : BranchId) → IsOpenIn book n c → IsOne c (in_doubt book n)
unfolding in_doubt
in_doubt_of book n c is = one_in_flat (doubt_in book n) (entries.Sealed c is.global is.changes is.scn) c book is.sealed (doubted_by book n c is.global is.changes is.scn is.here is.endless)

module _ (book : List Entry) (n : ℕ) where
  -- a branch that was sealed before is not sealed again
  not_again : (c : BranchId) (older es : List Entry) → EachAgainst SealsOnce older es → stands (is_sealed_of c) older ≡ true → IsOne c (flat_map (doubt_in book n) es) → ⊥
  not_again c older [] all sealed there = there
  not_again c older (entries.Sealed b g cs scn ∷ es) all sealed there =
      by ((b.node == n) && not (stands (is_end_of b) book)) there
      (not_again c (older ++ entries.Sealed b g cs scn ∷ []) es all.1 (list_any-append (is_sealed_of c) older (entries.Sealed b g cs scn ∷ []) ∙ or_left (stands (is_sealed_of c) older) (stands (is_sealed_of c) (entries.Sealed b g cs scn ∷ [])) sealed))
    where
      by : (q : Bool) → IsOne c ((if q then b ∷ [] else []) ++ flat_map (doubt_in book n) es) → (IsOne c (flat_map (doubt_in book n) es) → ⊥) → ⊥
      by true (inl here) rest = true≢false (sym sealed ∙ subst (λ z. stands (is_sealed_of z) older ≡ false) here all.0)
      by true (inr there) rest = rest there
      by false there rest = rest there
  not_again c older (entries.Made m x ∷ es) all sealed there = not_again c (older ++ entries.Made m x ∷ []) es all.1 (list_any-append (is_sealed_of c) older (entries.Made m x ∷ []) ∙ or_left (stands (is_sealed_of c) older) false sealed) there
  not_again c older (entries.Decided b g cs scn ∷ es) all sealed there =
      not_again c (older ++ entries.Decided b g cs scn ∷ []) es all.1 (list_any-append (is_sealed_of c) older (entries.Decided b g cs scn ∷ []) ∙ or_left (stands (is_sealed_of c) older) false sealed) there
  not_again c older (entries.Ended b d ∷ es) all sealed there = not_again c (older ++ entries.Ended b d ∷ []) es all.1 (list_any-append (is_sealed_of c) older (entries.Ended b d ∷ []) ∙ or_left (stands (is_sealed_of c) older) false sealed) there
  not_again c older (entries.Forced b d ∷ es) all sealed there = not_again c (older ++ entries.Forced b d ∷ []) es all.1 (list_any-append (is_sealed_of c) older (entries.Forced b d ∷ []) ∙ or_left (stands (is_sealed_of c) older) false sealed) there
  not_again c older (entries.Met b d mixed ∷ es) all sealed there =
      not_again c (older ++ entries.Met b d mixed ∷ []) es all.1 (list_any-append (is_sealed_of c) older (entries.Met b d mixed ∷ []) ∙ or_left (stands (is_sealed_of c) older) false sealed) there

  apart_from : (older es : List Entry) → EachAgainst SealsOnce older es → Apart (flat_map (doubt_in book n) es)
  apart_from older [] all = tt
  apart_from older (entries.Sealed b g cs scn ∷ es) all = by ((b.node == n) && not (stands (is_end_of b) book)) (apart_from (older ++ entries.Sealed b g cs scn ∷ []) es all.1)
    where
      sealed : stands (is_sealed_of b) (older ++ entries.Sealed b g cs scn ∷ []) ≡ true
      sealed = list_any-append (is_sealed_of b) older (entries.Sealed b g cs scn ∷ []) ∙ or_right (stands (is_sealed_of b) older) (same b b || false) (or_left (same b b) false (same_from_equal b b refl))

      by : (q : Bool) → Apart (flat_map (doubt_in book n) es) → Apart ((if q then b ∷ [] else []) ++ flat_map (doubt_in book n) es)
      by true rest = (not_again b (older ++ entries.Sealed b g cs scn ∷ []) es all.1 sealed, rest)
      by false rest = rest
  apart_from older (entries.Made m x ∷ es) all = apart_from (older ++ entries.Made m x ∷ []) es all.1
  apart_from older (entries.Decided b g cs scn ∷ es) all = apart_from (older ++ entries.Decided b g cs scn ∷ []) es all.1
  apart_from older (entries.Ended b d ∷ es) all = apart_from (older ++ entries.Ended b d ∷ []) es all.1
  apart_from older (entries.Forced b d ∷ es) all = apart_from (older ++ entries.Forced b d ∷ []) es all.1
  apart_from older (entries.Met b d mixed ∷ es) all = apart_from (older ++ entries.Met b d mixed ∷ []) es all.1

pub doubts_apart : (book : List Entry) (n : ℕ) → EachAgainst SealsOnce [] book → Apart (in_doubt book n)
unfolding in_doubt
doubts_apart book n all = apart_from book n [] book all

-- ---- events

end_of_forced : (c : BranchId) (e : Entry) → is_forced_of c e ≡ true → is_end_of c e ≡ true
end_of_forced c (entries.Forced b d) is = is
end_of_forced c (entries.Made m x) is = absurd (true≢false (sym is))
end_of_forced c (entries.Sealed b g cs scn) is = absurd (true≢false (sym is))
end_of_forced c (entries.Decided b g cs scn) is = absurd (true≢false (sym is))
end_of_forced c (entries.Ended b d) is = absurd (true≢false (sym is))
end_of_forced c (entries.Met b d mixed) is = absurd (true≢false (sym is))

module _ (p : Forest) where
  marked_by : (t : List Event) (c : BranchId) (d : Decision) (m : Option Bool) → Allowed p t (Learn c d m) → m ≡ mark (forced t c) d
  marked_by t c (decisions.Commit n) m allowed = allowed.3
  marked_by t c decisions.Rollback m allowed = allowed.3

  -- a branch that learned its decision, and was not forced, has its end in the book
  ended_there : (t : List Event) (c : BranchId) (d : Decision) → Lawful p t → learned t c ≡ Some d → forced t c ≡ None → stands (is_end_of c) (book_of t) ≡ true
  ended_there [] c d l is unforced = absurd cc
  ended_there (s ∷ t) c d l is unforced =
      let before = first_none (forced t c) (forced_by s c) unforced in
      elim (learned_new s t c d is) [
        | inl old ↦ some_before (is_end_of c) s t (ended_there t c d l.1 old before.0)
        | inr new ↦ (let at = learn_by s c d new.1 in
            let marked : at.0 ≡ mark (forced t c) d = marked_by t c d at.0 (subst (Allowed p t) at.1 l.0) in
            let none : at.0 ≡ None = marked ∙ ap (λ o. mark o d) before.0 in
            let it : s ≡ Learn c d None = at.1 ∙ ap (Learn c d) none in
            some_now (is_end_of c) s t (subst (λ r. shows (is_end_of c) (entry_by r) ≡ true) (sym it) (same_from_equal c c refl)))
      ]

  -- a branch without an end in the book learned nothing and was not forced
  pub open_events : (t : List Event) (c : BranchId) → Lawful p t → stands (is_end_of c) (book_of t) ≡ false → (learned t c ≡ None) × (forced t c ≡ None)
  open_events t c l endless =
      let unforced : forced t c ≡ None = unforced_events t c (not_true (stands (is_forced_of c) (book_of t)) (λ some.
      let e = found (is_forced_of c) (book_of t) some in true≢false (sym (finds (is_end_of c) e.0 (book_of t) e.1 (end_of_forced c e.0 e.2)) ∙ endless))) in
      (by (learned t c) refl unforced, unforced)
    where
      by : (o : Option Decision) → learned t c ≡ o → forced t c ≡ None → o ≡ None
      by None is unforced = refl
      by (Some d) is unforced = absurd (true≢false (sym (ended_there t c d l is unforced) ∙ endless))
