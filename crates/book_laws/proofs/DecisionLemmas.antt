-- What the entries of a book say of its events, and that a transaction has one decision.
use Rattle.std.proofs.Common.{◌≡◌, ℕ, zero, suc, ◌<◌, ◌||◌, Bool, true, false, true≢false, if◌then◌else◌, List, [], ◌∷◌, ◌++◌, take, Option, Some, None, inl, inr, refl, sym, ap, subst, ◌∙◌, arith}
use Rattle.std.specs.Prelude.{◌⊎◌}
use Rattle.std.proofs.lemmas.Bool.{cases_lt}
use Rattle.tran_ids.proofs.BranchLemmas.{equal_from_same}
use Rattle.agreement.specs.Outcomes.{stands, is_forced_of, is_decision_on, global_in, forced_in, Follows, EachAgainst, At}
use Rattle.agreement.specs.Events.{Forest, Decided, Event, Seal, Decide, Learn, exit, forced, Has, Lawful, site_of}
use Rattle.agreement.specs.BookOf.{entry_by, with_entry, book_of}
use Rattle.agreement.proofs.AgreementLaws.{exit_decided, was_allowed}
use Rattle.agreement.proofs.BookTests.{forced_same, global_is}
use Rattle.node_rules.specs.Data.{Change, BranchId, Decision}
use Rattle.node_rules.specs.Words.{same}
use Rattle.run_rules.specs.Data.{Entry}
use Rattle.run_rules.specs.Data.entries
use Rattle.book_laws.proofs.PlaceLemmas.{IsOne, finds, one_before, at_place}
use Rattle.book_laws.proofs.OnDiskLemmas.{IsOf}

-- ---- events

-- each entry is that of an event
abbrev pub EventOf : List Event → Entry → Type 0
EventOf t e = (s : Event) × Has s t × (entry_by s ≡ Some e)

last_one : (e : Entry) (es : List Entry) (x : Entry) → IsOne e (es ++ x ∷ []) → IsOne e es ⊎ (x ≡ e)
last_one e [] x (inl here) = inr here
last_one e [] x (inr none) = absurd none
last_one e (y ∷ es) x (inl here) = inl (inl here)
last_one e (y ∷ es) x (inr there) = elim (last_one e es x there) [ inl before ↦ inl (inr before) | inr now ↦ inr now ]

event_more : (s : Event) (t : List Event) (e : Entry) → EventOf t e → EventOf (s ∷ t) e
event_more s t e of = (of.0, inr of.1, of.2)

pub event_of : (t : List Event) (e : Entry) → IsOne e (book_of t) → EventOf t e
event_of [] e there = absurd there
event_of (s ∷ t) e there = by (entry_by s) refl there (event_of t e)
  where
    by : (o : Option Entry) → entry_by s ≡ o → IsOne e (with_entry (book_of t) o) → (IsOne e (book_of t) → EventOf t e) → EventOf (s ∷ t) e
    by None is there before = event_more s t e (before there)
    by (Some x) is there before = elim (last_one e (book_of t) x there) [ inl old ↦ event_more s t e (before old) | inr now ↦ (s, inl refl, is ∙ ap Some now) ]

decide_event : (s : Event) (b g : BranchId) (cs : List Change) (n : ℕ) → entry_by s ≡ Some (entries.Decided b g cs n) → s ≡ Decide b g n cs
decide_event (Decide c h m ds) b g cs n is = cc is
decide_event (Learn c d None) b g cs n is = absurd cc
decide_event (Learn c d (Some mixed)) b g cs n is = absurd cc
decide_event s b g cs n is = absurd cc

seal_event : (s : Event) (b g : BranchId) (cs : List Change) (n : ℕ) → entry_by s ≡ Some (entries.Sealed b g cs n) → s ≡ Seal b g n cs
seal_event (Seal c h m ds) b g cs n is = cc is
seal_event (Learn c d None) b g cs n is = absurd cc
seal_event (Learn c d (Some mixed)) b g cs n is = absurd cc
seal_event s b g cs n is = absurd cc

end_event : (s : Event) (b : BranchId) (d : Decision) → entry_by s ≡ Some (entries.Ended b d) → s ≡ Learn b d None
end_event (Learn c e None) b d is = cc is
end_event (Learn c e (Some mixed)) b d is = absurd cc
end_event s b d is = absurd cc

pub has_decide : (t : List Event) (b g : BranchId) (cs : List Change) (n : ℕ) → IsOne (entries.Decided b g cs n) (book_of t) → Has (Decide b g n cs) t
has_decide t b g cs n there = let of = event_of t (entries.Decided b g cs n) there in subst (λ s. Has s t) (decide_event of.0 b g cs n of.2) of.1

pub has_seal : (t : List Event) (b g : BranchId) (cs : List Change) (n : ℕ) → IsOne (entries.Sealed b g cs n) (book_of t) → Has (Seal b g n cs) t
has_seal t b g cs n there = let of = event_of t (entries.Sealed b g cs n) there in subst (λ s. Has s t) (seal_event of.0 b g cs n of.2) of.1

pub has_end : (t : List Event) (b : BranchId) (d : Decision) → IsOne (entries.Ended b d) (book_of t) → Has (Learn b d None) t
has_end t b d there = let of = event_of t (entries.Ended b d) there in subst (λ s. Has s t) (end_event of.0 b d of.2) of.1

-- ---- forced outcomes and transactions, by part of a book

none_forced : (b : BranchId) (es : List Entry) → stands (is_forced_of b) es ≡ false → forced_in b es ≡ None
none_forced b [] none = refl
none_forced b (entries.Forced c o ∷ es) none = by (same c b) none (none_forced b es)
  where
    by : (q : Bool) → (q || stands (is_forced_of b) es) ≡ false → (stands (is_forced_of b) es ≡ false → forced_in b es ≡ None) → (if q then Some o else forced_in b es) ≡ None
    by true none rest = absurd (true≢false none)
    by false none rest = rest none
none_forced b (e ∷ es) none = none_forced b es none

-- a branch that the book does not force was not forced
pub unforced_events : (t : List Event) (b : BranchId) → stands (is_forced_of b) (book_of t) ≡ false → forced t b ≡ None
unforced_events t b none = sym (forced_same t b) ∙ none_forced b (book_of t) none

-- the transaction of a branch in the first part of a book is the one in all of it
global_before : (b g : BranchId) (es : List Entry) (k : ℕ) → global_in b (take k es) ≡ Some g → global_in b es ≡ Some g
global_before b g es zero is = absurd cc
global_before b g [] (suc k) is = absurd cc
global_before b g (entries.Sealed c h cs n ∷ es) (suc k) is = by (same c b) is (global_before b g es k)
  where
    by : (q : Bool) → (if q then Some h else global_in b (take k es)) ≡ Some g → (global_in b (take k es) ≡ Some g → global_in b es ≡ Some g) → (if q then Some h else global_in b es) ≡ Some g
    by true is rest = is
    by false is rest = rest is
global_before b g (entries.Made n x ∷ es) (suc k) is = global_before b g es k is
global_before b g (entries.Decided c h cs n ∷ es) (suc k) is = global_before b g es k is
global_before b g (entries.Ended c d ∷ es) (suc k) is = global_before b g es k is
global_before b g (entries.Forced c d ∷ es) (suc k) is = global_before b g es k is
global_before b g (entries.Met c d mixed ∷ es) (suc k) is = global_before b g es k is

-- ---- decisions

-- a place, an entry there that is the decision of a transaction
pub record DecidedAt (book : List Entry) (g : BranchId) (k : ℕ) : Type 0 where
  pub entry : Entry
  pub at : At book k entry
  pub decides : is_decision_on g entry ≡ true

module _ (p : Forest) (t : List Event) (l : Lawful p t) (agrees : EachAgainst Follows [] (book_of t)) where
  not_before : (g : BranchId) (i j : ℕ) → DecidedAt (book_of t) g i → DecidedAt (book_of t) g j → i < j → ⊥
  not_before g i j one other less = by other.entry other.at other.decides
    where
      by : (e : Entry) → At (book_of t) j e → is_decision_on g e ≡ true → ⊥
      by (entries.Decided b h cs n) at is =
          let none : stands (is_decision_on h) (take j (book_of t)) ≡ false = (at_place Follows [] (book_of t) j (entries.Decided b h cs n) agrees at).0 in
          let some : stands (is_decision_on g) (take j (book_of t)) ≡ true = finds (is_decision_on g) one.entry (take j (book_of t)) (one_before one.entry (book_of t) i j one.at less) one.decides in
          true≢false (sym some ∙ subst (λ z. stands (is_decision_on z) (take j (book_of t)) ≡ false) (equal_from_same h g is) none)
      by (entries.Made n x) at is = true≢false (sym is)
      by (entries.Sealed b h cs n) at is = true≢false (sym is)
      by (entries.Ended b d) at is = true≢false (sym is)
      by (entries.Forced b d) at is = true≢false (sym is)
      by (entries.Met b d mixed) at is = true≢false (sym is)

  -- a transaction has one decision
  pub one_decision : (g : BranchId) (i j : ℕ) → DecidedAt (book_of t) g i → DecidedAt (book_of t) g j → i ≡ j
  one_decision g i j one other = elim (cases_lt i j) [
    | inl less ↦ absurd (not_before g i j one other less)
    | inr le ↦ elim (cases_lt j i) [
      | inl less ↦ absurd (not_before g j i other one less)
      | inr ge ↦ omega (arith, le, ge)
    ]
  ]

  -- the branch of a decision decided
  pub by_decision : (b g : BranchId) (cs : List Change) (m : ℕ) → IsOne (entries.Decided b g cs m) (book_of t) → (exit t b ≡ Some (Decided m)) × (p.root b ≡ g)
  by_decision b g cs m there =
      let has : Has (Decide b g m cs) t = has_decide t b g cs m there in
      (exit_decided p t b g m cs l has, (was_allowed p (Decide b g m cs) t l has).1.3)

  -- the site of each branch of its transaction
  pub site_decided : (b g x : BranchId) (cs : List Change) (m : ℕ) → IsOne (entries.Decided b g cs m) (book_of t) → p.root x ≡ g → exit t (site_of p x) ≡ Some (Decided m)
  site_decided b g x cs m there root =
      let has : Has (Decide b g m cs) t = has_decide t b g cs m there in
      let was = was_allowed p (Decide b g m cs) t l has in
      let at_site : b ≡ site_of p x = was.1.1 ∙ ap p.site (was.1.3 ∙ sym root) in
      subst (λ z. exit t z ≡ Some (Decided m)) at_site (exit_decided p t b g m cs l has)

  -- an entry by which a branch leaves names its transaction
  pub root_of : (x g : BranchId) (cs : List Change) (e : Entry) → IsOne e (book_of t) → IsOf x g cs e → p.root x ≡ g
  root_of x g cs (entries.Sealed b h ds n) there of =
      let was = was_allowed p (Seal b h n ds) t l (has_seal t b h ds n there) in
      ap p.root (sym of.0) ∙ (was.1.4 ∙ of.1)
  root_of x g cs (entries.Decided b h ds n) there of =
      let was = was_allowed p (Decide b h n ds) t l (has_decide t b h ds n there) in
      ap p.root (sym of.0) ∙ (was.1.3 ∙ of.1)
  root_of x g cs (entries.Made n y) there of = absurd of
  root_of x g cs (entries.Ended b d) there of = absurd of
  root_of x g cs (entries.Forced b d) there of = absurd of
  root_of x g cs (entries.Met b d mixed) there of = absurd of

  -- and so does the first part of the book
  pub root_before : (b g : BranchId) (k : ℕ) → global_in b (take k (book_of t)) ≡ Some g → p.root b ≡ g
  root_before b g k is = global_is p t b g l (global_before b g (book_of t) k is)
