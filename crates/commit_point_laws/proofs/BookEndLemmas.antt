-- In every lawful run the seals and decisions of the book are exits of branches, of the transactions that they name. So where
-- the book has a seal of an undisturbed COMMIT it has its decision.
use Rattle.std.proofs.Common.{◌≡◌, ℕ, zero, suc, List, [], ◌∷◌, ◌++◌, length, slice_get, Option, Some, None, inl, inr, refl, sym, subst, ◌∙◌}
use Rattle.std.specs.List.{AllByRecursion}
use Rattle.agreement.specs.BookOf.{entry_by, with_entry, book_of}
use Rattle.agreement.specs.Events.{Forest, Allowed, Event, Make, Seal, Decide, Answer_read_only, Drop, Force, Learn, Forget, Send_vote, Send_commit, Send_rollback, Send_ack, Send_forgotten, Exit, Sealed, Decided, first, only_at, exit, Lawful}
use Rattle.agreement.proofs.EventLemmas.{exit_new, exit_stays, decided_by, only_at_same}
use Rattle.node_rules.specs.Data.{BranchId, Change}
use Rattle.run_rules.specs.Book.{At}
use Rattle.run_rules.specs.Data.{Entry}
use Rattle.run_rules.specs.Data.entries
use Rattle.run_rules.specs.Facts.{first_facts}
use Rattle.run_rules.specs.Lawful.{History, facts_at}
use Rattle.run_base_laws.specs.RunEvents.{events_of}
use Rattle.run_branch_laws.proofs.EventBookLemmas.{book_of_events}
use Rattle.run_rules.proofs.FactLemmas.{book_is}
use Rattle.run_rules.proofs.ListLemmas.{all_weaker, all_append}
use Rattle.tree_laws.specs.Forests.{forest_of}
use Rattle.commit_point_laws.specs.EndLaws.{EntryIs, EntriesAreExits, UndisturbedSealsAreDecided}
use Rattle.tree_laws.proofs.MoreLemmas.{events_lawful}
use Rattle.commit_point_laws.proofs.WalkEndLemmas.{sealed_site}

-- ---- lists

slice_all : {A : Type 0} (P : A → Type 0) (xs : List A) (i : ℕ) (x : A) → AllByRecursion P xs → slice_get xs i ≡ Some x → P x
slice_all P [] i x all is = absurd cc
slice_all P (y ∷ ys) zero x all is = subst P (let it : Some y ≡ Some x = is in cc) all.0
slice_all P (y ∷ ys) (suc i) x all is = slice_all P ys i x all.1 is

-- an item stays where it is in a longer list
at_more : {A : Type 0} (xs ys : List A) (i : ℕ) (x : A) → slice_get xs i ≡ Some x → slice_get (xs ++ ys) i ≡ Some x
at_more [] ys i x is = absurd cc
at_more (y ∷ xs) ys zero x is = is
at_more (y ∷ xs) ys (suc i) x is = at_more xs ys i x is

at_last : {A : Type 0} (xs : List A) (x : A) → slice_get (xs ++ x ∷ []) (length xs) ≡ Some x
at_last [] x = refl
at_last (y ∷ xs) x = at_last xs x

entry_more : (es : List Entry) (o : Option Entry) (i : ℕ) (x : Entry) → At es i x → At (with_entry es o) i x
entry_more es None i x is = is
entry_more es (Some y) i x is = at_more es (y ∷ []) i x is

-- ---- entries

module _ (p : Forest) where
  stays : (s : Event) (t : List Event) (x : Entry) → EntryIs p t x → EntryIs p (s ∷ t) x
  stays s t (entries.Sealed b g cs scn) is = (exit_stays s t b (Sealed scn) is.0, is.1)
  stays s t (entries.Decided b g cs scn) is = (exit_stays s t b (Decided scn) is.0, is.1)
  stays s t _ is = tt

  olds : (s : Event) (t : List Event) → AllByRecursion (EntryIs p t) (book_of t) → AllByRecursion (EntryIs p (s ∷ t)) (book_of t)
  olds s t all = all_weaker (EntryIs p t) (EntryIs p (s ∷ t)) (λ x is. stays s t x is) (book_of t) all

  with_one : (s : Event) (t : List Event) (x : Entry) → AllByRecursion (EntryIs p t) (book_of t) → EntryIs p (s ∷ t) x → AllByRecursion (EntryIs p (s ∷ t)) (book_of t ++ x ∷ [])
  with_one s t x all is = all_append (EntryIs p (s ∷ t)) (book_of t) (x ∷ []) (olds s t all) (is, tt)

  first_new : (o z : Option Exit) → o ≡ None → first o z ≡ z
  first_new None z is = refl
  first_new (Some y) z is = absurd cc

  seal_exit : (t : List Event) (b g : BranchId) (n : ℕ) (cs : List Change) → exit t b ≡ None → exit (Seal b g n cs ∷ t) b ≡ Some (Sealed n)
  seal_exit t b g n cs none = first_new (exit t b) (only_at b b (Sealed n)) none ∙ only_at_same b b (Sealed n) refl

  decide_exit : (t : List Event) (b g : BranchId) (n : ℕ) (cs : List Change) → exit t b ≡ None → exit (Decide b g n cs ∷ t) b ≡ Some (Decided n)
  decide_exit t b g n cs none = first_new (exit t b) (only_at b b (Decided n)) none ∙ only_at_same b b (Decided n) refl

  -- one event more
  next : (s : Event) (t : List Event) → Allowed p t s → AllByRecursion (EntryIs p t) (book_of t) → AllByRecursion (EntryIs p (s ∷ t)) (book_of (s ∷ t))
  next (Seal b g n cs) t allowed all = with_one (Seal b g n cs) t (entries.Sealed b g cs n) all (seal_exit t b g n cs allowed.0, allowed.4)
  next (Decide b g n cs) t allowed all = with_one (Decide b g n cs) t (entries.Decided b g cs n) all (decide_exit t b g n cs allowed.0, allowed.3)
  next (Make n table) t allowed all = with_one (Make n table) t (entries.Made n table) all tt
  next (Learn b d None) t allowed all = with_one (Learn b d None) t (entries.Ended b d) all tt
  next (Learn b d (Some mixed)) t allowed all = with_one (Learn b d (Some mixed)) t (entries.Met b d mixed) all tt
  next (Force b o) t allowed all = with_one (Force b o) t (entries.Forced b o) all tt
  next (Answer_read_only b) t allowed all = olds (Answer_read_only b) t all
  next (Drop b) t allowed all = olds (Drop b) t all
  next (Forget b) t allowed all = olds (Forget b) t all
  next (Send_vote b k) t allowed all = olds (Send_vote b k) t all
  next (Send_commit a b n) t allowed all = olds (Send_commit a b n) t all
  next (Send_rollback a b) t allowed all = olds (Send_rollback a b) t all
  next (Send_ack a b) t allowed all = olds (Send_ack a b) t all
  next (Send_forgotten a b) t allowed all = olds (Send_forgotten a b) t all

  entries_are : (t : List Event) → Lawful p t → AllByRecursion (EntryIs p t) (book_of t)
  entries_are [] lawful = tt
  entries_are (s ∷ t) lawful = next s t lawful.0 (entries_are t lawful.1)

  -- a branch that decided has its decision in the book
  abbrev pub InBook : List Event → BranchId → ℕ → Type 0
  InBook t b n = (ds : List Change) × (j : ℕ) × At (book_of t) j (entries.Decided b (p.root b) ds n)

  pub decided_in : (t : List Event) → Lawful p t → (b : BranchId) (n : ℕ) → exit t b ≡ Some (Decided n) → InBook t b n
  decided_in [] lawful b n is = absurd cc
  decided_in (s ∷ t) lawful b n is = elim (exit_new s t b (Decided n) is) [
    | inl old ↦ (let it : InBook t b n = decided_in t lawful.1 b n old in (it.0, it.1, entry_more (book_of t) (entry_by s) it.1 (entries.Decided b (p.root b) it.0 n) it.2))
    | inr new ↦ (let by = decided_by s b n new.1 in
        let root : p.root b ≡ by.0 = (subst (Allowed p t) by.2 lawful.0).3 in
        let at : At (book_of t ++ entries.Decided b by.0 by.1 n ∷ []) (length (book_of t)) (entries.Decided b by.0 by.1 n) = at_last (book_of t) (entries.Decided b by.0 by.1 n) in (
          by.1,
          length (book_of t),
          subst (λ (x : Event). At (book_of (x ∷ t)) (length (book_of t)) (entries.Decided b (p.root b) by.1 n)) (sym by.2)
              (subst (λ g. At (book_of t ++ entries.Decided b by.0 by.1 n ∷ []) (length (book_of t)) (entries.Decided b g by.1 n)) (sym root) at),
        ))
  ]

-- ---- every run

pub run_book : (t : History) → (facts_at t).book ≡ book_of (events_of t)
run_book t = book_is t.places t.commands (first_facts t.places) t.trace ∙ sym (book_of_events t)

pub entries_are_exits : EntriesAreExits
entries_are_exits t whole = subst (λ es. AllByRecursion (EntryIs (forest_of t) (events_of t)) es) (sym (run_book t)) (entries_are (forest_of t) (events_of t) (events_lawful t whole))

pub undisturbed_seals_are_decided : UndisturbedSealsAreDecided
undisturbed_seals_are_decided t whole c u below b cs scn i at =
    let is : EntryIs (forest_of t) (events_of t) (entries.Sealed b c.root cs scn) = slice_all (EntryIs (forest_of t) (events_of t)) (facts_at t).book i (entries.Sealed b c.root cs scn) (entries_are_exits t whole) at in
    let site = sealed_site t whole c u below b scn is.0 is.1 in
    let it = decided_in (forest_of t) (events_of t) (events_lawful t whole) site.0 site.1 site.2 in (
      site.0,
      it.0,
      site.1,
      it.1,
      subst (λ es. At es it.1 (entries.Decided site.0 c.root it.0 site.1)) (sym (run_book t)) (subst (λ g. At (book_of (events_of t)) it.1 (entries.Decided site.0 g it.0 site.1)) site.3 it.2),
    )
