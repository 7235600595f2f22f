-- In every lawful run each sealed branch of an undisturbed COMMIT has its Ended commit, where its transaction is decided.
use Rattle.std.proofs.Common.{◌≡◌, ℕ, zero, suc, true, List, [], ◌∷◌, ◌++◌, length, slice_get, Option, Some, None, inl, inr, refl, sym, ap, subst, ◌∙◌}
use Rattle.std.specs.List.{AllByRecursion}
use Rattle.tran_ids.proofs.BranchLemmas.{equal_from_same, same_from_equal}
use Rattle.agreement.specs.BookOf.{entry_by, with_entry, book_of}
use Rattle.agreement.specs.Events.{Forest, Event, Sealed, Decided, Seal, Learn, mark, exit, learned, forced, Has, Allowed, Lawful}
use Rattle.agreement.specs.Outcomes.{At, stands}
use Rattle.agreement.proofs.AgreementLaws.{exit_sealed, was_allowed}
use Rattle.agreement.proofs.BookLaws.{decision_is}
use Rattle.agreement.proofs.BookTests.{shows, some_before, some_now}
use Rattle.agreement.proofs.EventLemmas.{exit_new, learned_new, sealed_by, learn_by, first_none}
use Rattle.node_rules.specs.Data.{BranchId, Change}
use Rattle.node_rules.specs.Data.decisions
use Rattle.node_rules.specs.Words.{same}
use Rattle.run_rules.specs.Births.{births_of}
use Rattle.run_rules.specs.Data.{Entry}
use Rattle.run_rules.specs.Data.entries
use Rattle.run_rules.specs.Facts.{first_facts}
use Rattle.run_base_laws.specs.InTurnLaws.{said_in}
use Rattle.run_rules.specs.Lawful.{History, IsLawfulRun, facts_at}
use Rattle.run_branch_laws.proofs.EventBookLemmas.{book_of_events}
use Rattle.run_rules.proofs.FactLemmas.{book_is}
use Rattle.run_rules.proofs.ListLemmas.{all_append}
use Rattle.tree_laws.proofs.ForestLemmas as trees
use Rattle.tree_laws.proofs.ForestRunLemmas.{run_known}
use Rattle.tree_laws.proofs.HeardLemmas.{left_were_asked}
use Rattle.run_claims.specs.Undisturbed.{Commit, Undisturbed, SealIsEnded}
use Rattle.commit_spread_laws.specs.SealLaws.{is_seal_on, SealsAreDecided, UndisturbedSealsEnd}
use Rattle.commit_spread_laws.proofs.BeforeLemmas.{none_forced}
use Rattle.commit_spread_laws.proofs.ComeLemmas.{undisturbed_has_come}
use Rattle.tree_laws.proofs.MoreLemmas.{events_lawful}
use Rattle.commit_spread_laws.proofs.ReachLemmas.{commits_reach_all}
use Rattle.tree_laws.proofs.AtPart.{at_end}

-- ---- books

module _ (Q : Entry → Type 0) where
  all_with : (es : List Entry) (o : Option Entry) → AllByRecursion Q es → ((x : Entry) → o ≡ Some x → Q x) → AllByRecursion Q (with_entry es o)
  all_with es None all new = all
  all_with es (Some x) all new = all_append Q es (x ∷ []) all (new x refl, tt)

  -- what is so of the entry of each event is so of each entry
  each_entry : (t : List Event) → ((s : Event) (x : Entry) → Has s t → entry_by s ≡ Some x → Q x) → AllByRecursion Q (book_of t)
  each_entry [] so = tt
  each_entry (s ∷ t) so = all_with (book_of t) (entry_by s) (each_entry t (λ e x has is. so e x (inr has) is)) (λ x is. so s x (inl refl) is)

-- a Sealed is the entry of a seal
seal_entry : (s : Event) (b g : BranchId) (n : ℕ) (cs : List Change) → entry_by s ≡ Some (entries.Sealed b g cs n) → s ≡ Seal b g n cs
seal_entry (Seal c h m ds) b g n cs is = (let it : entries.Sealed c h ds m ≡ entries.Sealed b g cs n = cc in cc)
seal_entry (Learn c d None) b g n cs is = absurd cc
seal_entry (Learn c d (Some mixed)) b g n cs is = absurd cc
seal_entry _ b g n cs is = absurd cc

-- and it stands in the book
seal_stands : (t : List Event) (root b g : BranchId) (n : ℕ) (cs : List Change) → Has (Seal b g n cs) t → same g root ≡ true → stands (is_seal_on root) (book_of t) ≡ true
seal_stands [] root b g n cs has of = absurd has
seal_stands (s ∷ t) root b g n cs (inl is) of = some_now (is_seal_on root) s t (subst (λ x. shows (is_seal_on root) (entry_by x) ≡ true) (sym is) of)
seal_stands (s ∷ t) root b g n cs (inr has) of = some_before (is_seal_on root) s t (seal_stands t root b g n cs has of)

front_at : {A : Type 0} (xs ys : List A) (i : ℕ) (x : A) → slice_get xs i ≡ Some x → slice_get (xs ++ ys) i ≡ Some x
front_at [] ys i x is = absurd cc
front_at (y ∷ xs) ys zero x is = is
front_at (y ∷ xs) ys (suc i) x is = front_at xs ys i x is

last_at : {A : Type 0} (xs : List A) (x : A) → slice_get (xs ++ x ∷ []) (length xs) ≡ Some x
last_at [] x = refl
last_at (y ∷ xs) x = last_at xs x

with_at : (es : List Entry) (o : Option Entry) (i : ℕ) (x : Entry) → At es i x → At (with_entry es o) i x
with_at es None i x is = is
with_at es (Some e) i x is = front_at es (e ∷ []) i x is

-- a branch that learned a commit, and was not forced, has its Ended
ended_at : (p : Forest) (t : List Event) (b : BranchId) (n : ℕ) → Lawful p t → learned t b ≡ Some (decisions.Commit n) → forced t b ≡ None → (i : ℕ) × At (book_of t) i (entries.Ended b (decisions.Commit n))
ended_at p [] b n lawful learnt free = absurd cc
ended_at p (s ∷ t) b n lawful learnt free = elim (learned_new s t b (decisions.Commit n) learnt) [
  | inl old ↦ (let rest = ended_at p t b n lawful.1 old before in (rest.0, with_at (book_of t) (entry_by s) rest.0 (entries.Ended b (decisions.Commit n)) rest.1))
  | inr new ↦ (let it = learn_by s b (decisions.Commit n) new.1 in
      let allowed : Allowed p t (Learn b (decisions.Commit n) it.0) = subst (Allowed p t) it.1 lawful.0 in
      let unmarked : it.0 ≡ None = allowed.3 ∙ ap (λ o. mark o (decisions.Commit n)) before in
      let is : s ≡ Learn b (decisions.Commit n) None = it.1 ∙ ap (Learn b (decisions.Commit n)) unmarked in
      let entry : entry_by s ≡ Some (entries.Ended b (decisions.Commit n)) = ap entry_by is in
      (length (book_of t), subst (λ o. At (with_entry (book_of t) o) (length (book_of t)) (entries.Ended b (decisions.Commit n))) (sym entry) (last_at (book_of t) (entries.Ended b (decisions.Commit n)))))
]
  where
    before : forced t b ≡ None
    before = (first_none (forced t b) _ free).0

-- a branch that sealed has its seal
seal_there : (t : List Event) (b : BranchId) (m : ℕ) → exit t b ≡ Some (Sealed m) → (g : BranchId) × (cs : List Change) × Has (Seal b g m cs) t
seal_there [] b m is = absurd cc
seal_there (s ∷ t) b m is = elim (exit_new s t b (Sealed m) is) [
  | inl old ↦ (let rest = seal_there t b m old in (rest.0, rest.1, inr rest.2))
  | inr new ↦ (let it = sealed_by s b m new.1 in (it.0, it.1, inl it.2))
]

-- ---- every run

module _ (t : History) (whole : IsLawfulRun t) (c : Commit t.places t.commands t.trace) (u : Undisturbed t.places t.commands t.trace c) where
  open at_end t use {forest as p, e}

  abbrev book : List Entry
  book = book_of e

  lawful : Lawful p e
  lawful = events_lawful t whole

  -- the book that the facts keep
  kept_book : (facts_at t).book ≡ book
  kept_book = book_is t.places t.commands (first_facts t.places) t.trace ∙ sym (book_of_events t)

  -- where a branch of the transaction is sealed, its site has decided
  abbrev pub SitesDecide : Type 0
  SitesDecide = (b : BranchId) (m : ℕ) → exit e b ≡ Some (Sealed m) → p.root b ≡ c.root → (n : ℕ) × (exit e (p.site c.root) ≡ Some (Decided n))

  module _ (decided : SitesDecide) where
    -- each sealed branch has learned the commit, and none was forced
    pub sealed_learned : (b : BranchId) (m : ℕ) → exit e b ≡ Some (Sealed m) → p.root b ≡ c.root → (n : ℕ) × (exit e (p.site c.root) ≡ Some (Decided n)) × (learned e b ≡ Some (decisions.Commit n)) × (forced e b ≡ None)
    sealed_learned b m sealed root =
        let site = decided b m sealed root in
        let above = left_were_asked t whole b (Sealed m) sealed (λ no. absurd cc) in
        let born : above.0.root ≡ c.root = sym (trees.root_is (births_of t) (said_in (facts_at t)) (run_known t whole) above.0 b above.1 above.2) ∙ root in
        (site.0, site.1, commits_reach_all t whole c.root (undisturbed_has_come t whole c u) site.0 site.1 b m sealed root, subst (λ i. forced e i ≡ None) above.2 (none_forced t whole c u above.0 above.1 born))

    seal_ended : (b g : BranchId) (m : ℕ) (cs : List Change) → Has (Seal b g m cs) e → same g c.root ≡ true → (n i : ℕ) × At book i (entries.Ended b (decisions.Commit n))
    seal_ended b g m cs has of =
        let root : p.root b ≡ c.root = (was_allowed p (Seal b g m cs) e lawful has).1.4 ∙ equal_from_same g c.root of in
        let it = sealed_learned b m (exit_sealed p e b g m cs lawful has) root in
        let ended = ended_at p e b it.0 lawful it.2 it.3 in
        (it.0, ended.0, ended.1)

    entry_ended : (s : Event) (x : Entry) → Has s e → entry_by s ≡ Some x → SealIsEnded book c.root x
    entry_ended s (entries.Sealed b g cs m) has is = λ of. seal_ended b g m cs (subst (λ y. Has y e) (seal_entry s b g m cs is) has) of
    entry_ended s _ has is = tt

    -- so each Sealed of the transaction has its Ended commit
    pub seals_end : AllByRecursion (SealIsEnded (facts_at t).book c.root) (facts_at t).book
    seals_end = subst (λ es. AllByRecursion (SealIsEnded es c.root) es) (sym kept_book) (each_entry (SealIsEnded book c.root) e entry_ended)

  -- the same by the book
  decided_by_book : SealsAreDecided (facts_at t).book c.root → SitesDecide
  decided_by_book decided b m sealed root =
      let seal = seal_there e b m sealed in
      let of : same seal.0 c.root ≡ true = same_from_equal seal.0 c.root (sym (was_allowed p (Seal b seal.0 m seal.1) e lawful seal.2).1.4 ∙ root) in
      decision_is p e c.root lawful (subst (λ es. SealsAreDecided es c.root) kept_book decided (seal_stands e c.root b seal.0 m seal.1 seal.2 of))

pub undisturbed_seals_end : UndisturbedSealsEnd
undisturbed_seals_end t whole c u decided = seals_end t whole c u (decided_by_book t whole c u decided)
