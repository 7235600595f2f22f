-- The tests of a book, by the events that it is of.
use Rattle.std.proofs.Common.{◌≡◌, ℕ, ◌==◌, ◌||◌, ◌&&◌, Bool, true, false, List, [], ◌∷◌, ◌++◌, Option, Some, None, refl, sym, ap, subst, ◌∙◌, ◌⊎◌, inl, inr, arith}
use Rattle.std.proofs.lemmas.Bool.Decides.{nat_tests}
use Rattle.std.proofs.lemmas.Bool.{or_left, or_right, or_from}
use Rattle.std.proofs.lemmas.List.Folds.{list_any-append}
use Rattle.agreement.specs.Data.{BranchId, Change, Decision, Entry}
use Rattle.agreement.specs.Data.entries
use Rattle.tran_ids.specs.Branch.{same}
use Rattle.agreement.specs.Outcomes.{is_sealed_of, is_decided_of, is_forced_of, is_end_of, is_met_of, stands, is_decision_at, global_in, forced_in}
use Rattle.agreement.specs.Events.{Forest, Sealed, Decided, Event, only_at, Seal, Decide, Force, Learn, first, exit_by, exit, learned_by, learned, forced_by, forced, Has, Allowed, Lawful}
use Rattle.agreement.specs.BookOf.{entry_by, with_entry, book_of}
use Rattle.agreement.proofs.SameBranch.{same_reports}
use Rattle.agreement.proofs.EventLemmas.{exit_new, first_none, first_is, sealed_by, only_at_same}

-- ---- one entry more

abbrev pub shows : (Entry → Bool) → Option Entry → Bool
shows f None = false
shows f (Some e) = f e

pub stands_with : (f : Entry → Bool) (es : List Entry) (o : Option Entry) → stands f (with_entry es o) ≡ (stands f es || shows f o)
stands_with f es None = go (stands f es)
  where
    go : (q : Bool) → q ≡ (q || false)
    go true = refl
    go false = refl
stands_with f es (Some e) = list_any-append f es (e ∷ []) ∙ go (stands f es) (f e)
  where
    go : (q r : Bool) → (q || (r || false)) ≡ (q || r)
    go true r = refl
    go false true = refl
    go false false = refl

pub none_with : (f : Entry → Bool) (s : Event) (t : List Event) → stands f (book_of t) ≡ false → shows f (entry_by s) ≡ false → stands f (book_of (s ∷ t)) ≡ false
none_with f s t old new = stands_with f (book_of t) (entry_by s) ∙ or_from (stands f (book_of t)) (shows f (entry_by s)) old new

pub some_before : (f : Entry → Bool) (s : Event) (t : List Event) → stands f (book_of t) ≡ true → stands f (book_of (s ∷ t)) ≡ true
some_before f s t old = stands_with f (book_of t) (entry_by s) ∙ or_left (stands f (book_of t)) (shows f (entry_by s)) old

pub some_now : (f : Entry → Bool) (s : Event) (t : List Event) → shows f (entry_by s) ≡ true → stands f (book_of (s ∷ t)) ≡ true
some_now f s t new = stands_with f (book_of t) (entry_by s) ∙ or_right (stands f (book_of t)) (shows f (entry_by s)) new

either_of : (q r : Bool) → (q || r) ≡ true → (q ≡ true) ⊎ (r ≡ true)
either_of true r h = inl refl
either_of false r h = inr h

pub some_is : (f : Entry → Bool) (s : Event) (t : List Event) → stands f (book_of (s ∷ t)) ≡ true → (stands f (book_of t) ≡ true) ⊎ (shows f (entry_by s) ≡ true)
some_is f s t h = either_of (stands f (book_of t)) (shows f (entry_by s)) (sym (stands_with f (book_of t) (entry_by s)) ∙ h)

pub not_true : (q : Bool) → (q ≡ true → ⊥) → q ≡ false
not_true true h = absurd (h refl)
not_true false h = refl

-- ---- no entry of a branch

only_none : {A : Type 0} (c b : BranchId) (a : A) → only_at c b a ≡ None → same c b ≡ false
only_none c b a h = grind (arith, same_reports)

no_seal_by : (s : Event) (b : BranchId) → exit_by s b ≡ None → shows (is_sealed_of b) (entry_by s) ≡ false
no_seal_by (Seal c g n cs) b e = only_none c b (Sealed n) e
no_seal_by (Learn c d None) b e = refl
no_seal_by (Learn c d (Some m)) b e = refl
no_seal_by s b e = refl

-- a branch that did not seal has no Sealed
pub no_sealed : (t : List Event) (b : BranchId) → exit t b ≡ None → stands (is_sealed_of b) (book_of t) ≡ false
no_sealed [] b e = refl
no_sealed (s ∷ t) b e = let q = first_none (exit t b) (exit_by s b) e in none_with (is_sealed_of b) s t (no_sealed t b q.0) (no_seal_by s b q.1)

no_decide_by : (s : Event) (b : BranchId) → exit_by s b ≡ None → shows (is_decided_of b) (entry_by s) ≡ false
no_decide_by (Decide c g n cs) b e = only_none c b (Decided n) e
no_decide_by (Learn c d None) b e = refl
no_decide_by (Learn c d (Some m)) b e = refl
no_decide_by s b e = refl

-- a branch that did not decide has no Decided
pub no_decided : (t : List Event) (b : BranchId) → exit t b ≡ None → stands (is_decided_of b) (book_of t) ≡ false
no_decided [] b e = refl
no_decided (s ∷ t) b e = let q = first_none (exit t b) (exit_by s b) e in none_with (is_decided_of b) s t (no_decided t b q.0) (no_decide_by s b q.1)

no_end_by : (s : Event) (b : BranchId) → learned_by s b ≡ None → forced_by s b ≡ None → shows (is_end_of b) (entry_by s) ≡ false
no_end_by (Force c o) b l f = only_none c b o f
no_end_by (Learn c d None) b l f = only_none c b d l
no_end_by (Learn c d (Some m)) b l f = refl
no_end_by s b l f = refl

-- a branch that learned nothing and was not forced has no end
pub no_end : (t : List Event) (b : BranchId) → learned t b ≡ None → forced t b ≡ None → stands (is_end_of b) (book_of t) ≡ false
no_end [] b l f = refl
no_end (s ∷ t) b l f =
    let q = first_none (learned t b) (learned_by s b) l in
    let r = first_none (forced t b) (forced_by s b) f in
    none_with (is_end_of b) s t (no_end t b q.0 r.0) (no_end_by s b q.1 r.1)

no_met_by : (s : Event) (b : BranchId) → learned_by s b ≡ None → shows (is_met_of b) (entry_by s) ≡ false
no_met_by (Learn c d None) b l = refl
no_met_by (Learn c d (Some m)) b l = only_none c b d l
no_met_by s b l = refl

-- nor has it a Met
pub no_met : (t : List Event) (b : BranchId) → learned t b ≡ None → stands (is_met_of b) (book_of t) ≡ false
no_met [] b l = refl
no_met (s ∷ t) b l = let q = first_none (learned t b) (learned_by s b) l in none_with (is_met_of b) s t (no_met t b q.0) (no_met_by s b q.1)

-- ---- an entry that stands

same_self : (b : BranchId) → same b b ≡ true
same_self b = (same_reports b b).1 refl

pub has_sealed : (t : List Event) (b : BranchId) (n : ℕ) → exit t b ≡ Some (Sealed n) → stands (is_sealed_of b) (book_of t) ≡ true
has_sealed [] b n e = absurd cc
has_sealed (s ∷ t) b n e = elim (exit_new s t b (Sealed n) e) [
  | inl old ↦ some_before (is_sealed_of b) s t (has_sealed t b n old)
  | inr new ↦ (let k = sealed_by s b n new.1 in some_now (is_sealed_of b) s t (subst (λ r. shows (is_sealed_of b) (entry_by r) ≡ true) (sym k.2) (same_self b)))
]

pub has_forced : (t : List Event) (b : BranchId) (o : Decision) → forced t b ≡ Some o → stands (is_forced_of b) (book_of t) ≡ true
has_forced [] b o e = absurd cc
has_forced (s ∷ t) b o e = elim (first_is (forced t b) (forced_by s b) o e) [
  | inl old ↦ some_before (is_forced_of b) s t (has_forced t b o old)
  | inr new ↦ some_now (is_forced_of b) s t (by s new.1)
]
  where
    by : (r : Event) → forced_by r b ≡ Some o → shows (is_forced_of b) (entry_by r) ≡ true
    by (Force c k) h = grind (arith, same_reports)
    by r h = absurd cc

pub has_decision : (t : List Event) (b g : BranchId) (n : ℕ) (cs : List Change) → Has (Decide b g n cs) t → stands (is_decision_at g n) (book_of t) ≡ true
has_decision [] b g n cs h = absurd h
has_decision (s ∷ t) b g n cs (inl e) = some_now (is_decision_at g n) s t (subst (λ r. shows (is_decision_at g n) (entry_by r) ≡ true) (sym e) (by g n))
  where
    by : (g : BranchId) (n : ℕ) → (same g g && (n == n)) ≡ true
    by g n = grind (arith, same_reports, nat_tests)
has_decision (s ∷ t) b g n cs (inr h) = some_before (is_decision_at g n) s t (has_decision t b g n cs h)

-- ---- forced outcomes, and the transactions of branches

abbrev forced_of : BranchId → Option Entry → Option Decision
forced_of b None = None
forced_of b (Some e) = forced_in b (e ∷ [])

first_assoc : (b : BranchId) (es : List Entry) (e : Entry) → forced_in b (es ++ e ∷ []) ≡ first (forced_in b es) (forced_in b (e ∷ []))
first_assoc b [] e = refl
first_assoc b (entries.Forced c o ∷ es) e = go (same c b) refl (first_assoc b es e)
  where
    go : (q : Bool) → same c b ≡ q → forced_in b (es ++ e ∷ []) ≡ first (forced_in b es) (forced_in b (e ∷ [])) → forced_in b ((entries.Forced c o ∷ es) ++ e ∷ []) ≡ first (forced_in b (entries.Forced c o ∷ es)) (forced_in b (e ∷ []))
    go true h rest = rw h refl
    go false h rest = rw h rest
first_assoc b (x ∷ es) e = first_assoc b es e

first_none_right : {A : Type 0} (o : Option A) → o ≡ first o None
first_none_right None = refl
first_none_right (Some a) = refl

forced_with : (b : BranchId) (es : List Entry) (o : Option Entry) → forced_in b (with_entry es o) ≡ first (forced_in b es) (forced_of b o)
forced_with b es None = first_none_right (forced_in b es)
forced_with b es (Some e) = first_assoc b es e

forced_of_by : (s : Event) (b : BranchId) → forced_of b (entry_by s) ≡ forced_by s b
forced_of_by (Learn c d None) b = refl
forced_of_by (Learn c d (Some m)) b = refl
forced_of_by s b = refl

-- the book's forced outcome is that of the events
pub forced_same : (t : List Event) (b : BranchId) → forced_in b (book_of t) ≡ forced t b
forced_same [] b = refl
forced_same (s ∷ t) b = forced_with b (book_of t) (entry_by s) ∙ ap (λ o. first o (forced_of b (entry_by s))) (forced_same t b) ∙ ap (first (forced t b)) (forced_of_by s b)

abbrev global_of : BranchId → Option Entry → Option BranchId
global_of b None = None
global_of b (Some e) = global_in b (e ∷ [])

global_assoc : (b : BranchId) (es : List Entry) (e : Entry) → global_in b (es ++ e ∷ []) ≡ first (global_in b es) (global_in b (e ∷ []))
global_assoc b [] e = refl
global_assoc b (entries.Sealed c g cs n ∷ es) e = go (same c b) refl (global_assoc b es e)
  where
    go : (q : Bool) → same c b ≡ q → global_in b (es ++ e ∷ []) ≡ first (global_in b es) (global_in b (e ∷ [])) → global_in b ((entries.Sealed c g cs n ∷ es) ++ e ∷ []) ≡ first (global_in b (entries.Sealed c g cs n ∷ es)) (global_in b (e ∷ []))
    go true h rest = rw h refl
    go false h rest = rw h rest
global_assoc b (x ∷ es) e = global_assoc b es e

global_with : (b : BranchId) (es : List Entry) (o : Option Entry) → global_in b (with_entry es o) ≡ first (global_in b es) (global_of b o)
global_with b es None = first_none_right (global_in b es)
global_with b es (Some e) = global_assoc b es e

global_of_by : (s : Event) (b g : BranchId) → global_of b (entry_by s) ≡ Some g → (n : ℕ) × (cs : List Change) × (s ≡ Seal b g n cs)
global_of_by (Seal c h n cs) b g e = (n, cs, grind (arith, same_reports))
global_of_by (Learn c d None) b g e = absurd cc
global_of_by (Learn c d (Some m)) b g e = absurd cc
global_of_by s b g e = absurd cc

-- a branch's transaction in the book is that of the plan
pub global_is : (p : Forest) (t : List Event) (b g : BranchId) → Lawful p t → global_in b (book_of t) ≡ Some g → p.root b ≡ g
global_is p [] b g l h = absurd cc
global_is p (s ∷ t) b g l h = elim (first_is (global_in b (book_of t)) (global_of b (entry_by s)) g (sym (global_with b (book_of t) (entry_by s)) ∙ h)) [
  | inl old ↦ global_is p t b g l.1 old
  | inr new ↦ (let k = global_of_by s b g new.1 in (subst (λ r. Allowed p t r) k.2 l.0).4)
]

some_first : (o q : Option BranchId) (g : BranchId) → q ≡ Some g → (h : BranchId) × (first o q ≡ Some h)
some_first (Some x) q g e = (x, refl)
some_first None q g e = (g, e)

global_old : (s : Event) (t : List Event) (b g : BranchId) → global_in b (book_of t) ≡ Some g → global_in b (book_of (s ∷ t)) ≡ Some g
global_old s t b g h = global_with b (book_of t) (entry_by s) ∙ ap (λ o. first o (global_of b (entry_by s))) h

pub has_global : (t : List Event) (b : BranchId) (n : ℕ) → exit t b ≡ Some (Sealed n) → (g : BranchId) × (global_in b (book_of t) ≡ Some g)
has_global [] b n e = absurd cc
has_global (s ∷ t) b n e = elim (exit_new s t b (Sealed n) e) [
  | inl old ↦ (let r = has_global t b n old in (r.0, global_old s t b r.0 r.1))
  | inr new ↦ (let k = sealed_by s b n new.1 in
      let q : global_of b (entry_by s) ≡ Some k.0 = subst (λ r. global_of b (entry_by r) ≡ Some k.0) (sym k.2) (by b k.0) in
      let r = some_first (global_in b (book_of t)) (global_of b (entry_by s)) k.0 q in
      (r.0, global_with b (book_of t) (entry_by s) ∙ r.1))
]
  where
    by : (b g : BranchId) → only_at b b g ≡ Some g
    by b g = only_at_same b b g refl

pub root_in_book : (p : Forest) (t : List Event) (b : BranchId) (n : ℕ) → Lawful p t → exit t b ≡ Some (Sealed n) → global_in b (book_of t) ≡ Some (p.root b)
root_in_book p t b n l e = let r = has_global t b n e in r.1 ∙ ap Some (sym (global_is p t b r.0 l r.1))
