-- An outcome is forced on a branch: a commit commits its changes at its place, at the node as by the book.
use Rattle.std.proofs.Common.{◌≡◌, ℕ, ◌==◌, ◌||◌, Bool, true, false, true≢false, if◌then◌else◌, List, [], ◌++◌, inl, inr, refl, sym, ap, subst, ◌∙◌}
use Rattle.std.specs.Prelude.{◌⊎◌}
use Rattle.std.proofs.lemmas.Bool.{eqb-true}
use Rattle.tran_ids.proofs.BranchLemmas.{equal_from_same}
use Rattle.agreement.proofs.BookTests.{not_true}
use Rattle.node_rules.specs.Data.{Value, Change, BranchId, Decision}
use Rattle.node_rules.specs.Data.decisions
use Rattle.node_rules.specs.Words.{same}
use Rattle.run_rules.specs.Data.{Entry}
use Rattle.run_rules.specs.Data.entries
use Rattle.run_rules.specs.Book.{is_sealed_of, is_forced_of, is_end_of, stands, is_decision_on, Follows, changes_of, commits_now}
use Rattle.book_laws.proofs.PlaceLemmas.{IsOne}
use Rattle.book_laws.proofs.FlatLemmas.{none_if, any_now}
use Rattle.book_laws.proofs.CountLemmas.{picked_if, gives, picked_same}
use Rattle.book_laws.proofs.OpenLemmas.{is_open, counted, counted_or, counted_is, open_parts, is_open_from, not_forced, same_counted, open_was}
use Rattle.book_laws.proofs.ApartLemmas.{AreApart, one_free}
use Rattle.book_laws.proofs.TellLemmas.{at_entry, either_order, waiting, Tells, IsQuiet, quiet_commits, quiet_waiting, quiet_old, told_next, same_commits}

module _ (n : ℕ) (table : List ℕ) (key : Value) (book : List Entry) (c : BranchId) (o : Decision) (apart : AreApart n table key book) (follows : Follows book (entries.Forced c o)) (now : Tells n table key book) where
  open at_entry n table key book (entries.Forced c o) use {e, more, at_key, commits}

  quiet : IsQuiet n table key e
  quiet = record { none = λ b. refl; parts = λ counts g. refl; undecided = λ g. refl; unsealed = λ b g cs scn is. absurd cc }

  was_open : is_open book c ≡ true
  was_open = is_open_from book c follows.0 follows.1

  -- it is counted no more than before
  forced_counts : (b : BranchId) → counted more b ≡ counted book b
  forced_counts b = by (same c b) refl
    where
      by : (q : Bool) → same c b ≡ q → counted more b ≡ counted book b
      by true is =
          let me : c ≡ b = equal_from_same c b is in
          counted_is more b true (stands (is_sealed_of b) more) (stands (is_end_of b) more) (any_now (is_forced_of b) book e is) refl refl
          ∙ sym (counted_is book b false true false
          (subst (λ z. stands (is_forced_of z) book ≡ false) me (not_forced book c follows.1)) (subst (λ z. stands (is_sealed_of z) book ≡ true) me follows.0) (subst (λ z. stands (is_end_of z) book ≡ false) me follows.1))
      by false is = same_counted book e b is refl is

  -- what it commits by the book is what is told of it
  forced_gives : (x : Decision) (counts : BranchId → Bool) → gives n table key counts more (entries.Forced c x) ≡ at_key (commits_now book n (entries.Forced c x))
  forced_gives (decisions.Commit m) counts = ap (λ cs. if c.node == n then cs else []) (picked_same n table key counts book e c refl) ∙ sym (picked_if n table key (c.node == n) (changes_of book c))
  forced_gives decisions.Rollback counts = refl

  abbrev given : List Change
  given = at_key (commits_now book n e)

  -- more is committed
  more_commits : (counts : BranchId → Bool) → commits counts more ≡ commits counts book ++ given
  more_commits counts = quiet_commits n table key book e quiet counts ∙ ap (λ cs. commits counts book ++ cs) (forced_gives o counts)

  now_counted : commits (counted more) more ≡ commits (counted book) book ++ given
  now_counted = same_commits n table key book e (counted more) (counted book) more (λ b here. forced_counts b) ∙ more_commits (counted book)

  -- nothing, where the branch is of another node or has no changes at the key
  none_given : (x : Decision) → (c.node ≡ n → at_key (changes_of book c) ≡ []) → at_key (commits_now book n (entries.Forced c x)) ≡ []
  none_given decisions.Rollback none = refl
  none_given (decisions.Commit m) none = by (c.node == n) refl
    where
      by : (q : Bool) → (c.node == n) ≡ q → at_key (if q then changes_of book c else []) ≡ []
      by true is = none (eqb-true c.node n is)
      by false is = refl

  module _ (b g : BranchId) (cs : List Change) (scn : ℕ) (there : IsOne (entries.Sealed b g cs scn) more) (here : b.node ≡ n) (opened : is_open more b ≡ true) where
    other : same c b ≡ false
    other = not_true (same c b) (λ is. true≢false (sym (any_now (is_end_of b) book e is) ∙ (open_parts more b opened).1))

    before : is_open book b ≡ true
    before = elim (open_was book e follows b opened) [ inl old ↦ old | inr new ↦ absurd (let is : e ≡ entries.Sealed b new.0 new.1 new.2 = new.3 in cc is) ]

    one_is_none : (waiting n table key book b g ≡ []) ⊎ (given ≡ [])
    one_is_none = elim (one_free n table key book apart b c here before was_open other) [
      | inl none ↦ inr (none_given o none)
      | inr none ↦ inl (none_if (stands (is_decision_on g) book) (at_key (changes_of book b)) none)
    ]

    still_waits : commits (counted_or b more) more ≡ commits (counted more) more ++ waiting n table key more b g
    still_waits =
        same_commits n table key book e (counted_or b more) (counted_or b book) more (λ x at. ap (λ q. q || same b x) (forced_counts x))
        ∙ (more_commits (counted_or b book)
        ∙ (ap (λ xs. xs ++ given) (now.waits b g cs scn (quiet_old n table key book e quiet b g cs scn there) here before)
        ∙ (either_order (commits (counted book) book) (waiting n table key book b g) given one_is_none
        ∙ (ap (λ xs. xs ++ waiting n table key book b g) (sym now_counted) ∙ ap (λ xs. commits (counted more) more ++ xs) (sym (quiet_waiting n table key book e quiet b g))))))

  pub forced_tells : Tells n table key more
  forced_tells = record {
    told = told_next n table key book e (now_counted ∙ ap (λ xs. xs ++ given) now.told);
    waits = λ b g cs scn there here opened. still_waits b g cs scn there here opened;
  }
