-- Of two open branches of a node at most one has changed a key: a branch seals only on keys that no open branch has changed.
use Rattle.std.proofs.Common.{◌≡◌, ℕ, ◌==◌, Bool, true, false, true≢false, if◌then◌else◌, List, [], ◌∷◌, ◌++◌, inl, inr, refl, sym, ap, subst, ◌∙◌}
use Rattle.std.specs.Prelude.{◌⊎◌}
use Rattle.std.proofs.lemmas.Bool.{eqb-true, eq-eqb}
use Rattle.tran_ids.proofs.BranchLemmas.{equal_from_same, same_from_equal}
use Rattle.node_rules.specs.Data.{Value, Change, BranchId}
use Rattle.node_rules.specs.Rows.{is_change_of}
use Rattle.node_rules.specs.Words.{same}
use Rattle.run_rules.specs.Data.{Entry}
use Rattle.run_rules.specs.Data.entries
use Rattle.run_rules.specs.Book.{is_sealed_of, is_decided_of, is_end_of, stands, Follows, changes_in, changes_of}
use Rattle.book_laws.proofs.PlaceLemmas.{IsOne}
use Rattle.book_laws.proofs.FlatLemmas.{none_flat, filter_flat, none_passes}
use Rattle.book_laws.proofs.CountLemmas.{picked, picked_more, picked_same}
use Rattle.book_laws.proofs.OpenLemmas.{is_open, open_parts, IsSealedIn, sealed_in_book, no_changes, none_later, open_was, SealsFit}

module _ (n : ℕ) (table : List ℕ) (key : Value) where
  abbrev at_key : List Change → List Change
  at_key cs = picked n table key cs

  -- ---- changes that are free

  -- a branch of the node that is sealed without an end has none of its changes at the key, or these have none
  abbrev pub FreeOf : List Entry → List Change → Type 0
  FreeOf book ds = (b g : BranchId) (cs : List Change) (scn : ℕ) → IsOne (entries.Sealed b g cs scn) book → b.node ≡ n → stands (is_end_of b) book ≡ false → (at_key cs ≡ []) ⊎ (at_key ds ≡ [])

  -- those of a seal and of a decision at the node
  abbrev pub IsFree : List Entry → Entry → Type 0
  IsFree book (entries.Sealed c g ds scn) = c.node ≡ n → FreeOf book ds
  IsFree book (entries.Decided c g ds scn) = c.node ≡ n → FreeOf book ds
  IsFree book _ = Unit {0}

  module _ (book : List Entry) (fits : SealsFit book) where
    -- the changes of an open branch at the key are none, where those of its seal are none
    seal_alone : (b : BranchId) → stands (is_decided_of b) book ≡ false → ((g : BranchId) (cs : List Change) (scn : ℕ) → IsOne (entries.Sealed b g cs scn) book → at_key cs ≡ []) → at_key (changes_of book b) ≡ []
    seal_alone b undecided none = filter_flat (is_change_of table key) (changes_in b) book ∙ none_flat (λ e. at_key (changes_in b e)) book by
      where
        by : (e : Entry) → IsOne e book → at_key (changes_in b e) ≡ []
        by (entries.Sealed c g cs scn) there = mine (same c b) refl
          where
            mine : (q : Bool) → same c b ≡ q → at_key (if q then cs else []) ≡ []
            mine true is = none g cs scn (subst (λ z. IsOne (entries.Sealed z g cs scn) book) (equal_from_same c b is) there)
            mine false is = refl
        by (entries.Decided c g cs scn) there = ap (λ q. at_key (if q then cs else [])) (none_passes (is_decided_of b) (entries.Decided c g cs scn) book undecided there)
        by (entries.Made m x) there = refl
        by (entries.Ended c d) there = refl
        by (entries.Forced c d) there = refl
        by (entries.Met c d mixed) there = refl

    -- an open branch has no changes at the key, or these changes have none there
    pub free_branch : (b : BranchId) (ds : List Change) → b.node ≡ n → is_open book b ≡ true → FreeOf book ds → (at_key (changes_of book b) ≡ []) ⊎ (at_key ds ≡ [])
    free_branch b ds here opened free = by (at_key ds) refl
      where
        parts : (stands (is_sealed_of b) book ≡ true) × (stands (is_end_of b) book ≡ false)
        parts = open_parts book b opened

        seal : IsSealedIn book b
        seal = sealed_in_book book b parts.0

        by : (xs : List Change) → at_key ds ≡ xs → (at_key (changes_of book b) ≡ []) ⊎ (at_key ds ≡ [])
        by [] is = inr is
        by (x ∷ xs) is = inl (seal_alone b (fits.undecided b seal.global seal.changes seal.scn seal.there) (λ g cs scn there. elim (free b g cs scn there here parts.1) [
          | inl none ↦ none
          | inr none ↦ absurd (cc (is, none))
        ]))

  -- ---- open branches

  -- two open branches of the node have not both changed the key
  abbrev pub AreApart : List Entry → Type 0
  AreApart book = (b c : BranchId) → b.node ≡ n → c.node ≡ n → is_open book b ≡ true → is_open book c ≡ true → (b ≡ c) ⊎ ((at_key (changes_of book b) ≡ []) ⊎ (at_key (changes_of book c) ≡ []))

  -- of two of them one is of another node or has no changes at the key, or the other has none
  pub one_free : (book : List Entry) → AreApart book → (b c : BranchId) → b.node ≡ n → is_open book b ≡ true → is_open book c ≡ true → same c b ≡ false
      → (c.node ≡ n → at_key (changes_of book c) ≡ []) ⊎ (at_key (changes_of book b) ≡ [])
  one_free book apart b c here opened other_open other = by (c.node == n) refl
    where
      by : (q : Bool) → (c.node == n) ≡ q → (c.node ≡ n → at_key (changes_of book c) ≡ []) ⊎ (at_key (changes_of book b) ≡ [])
      by false at = inl (λ there. absurd (true≢false (sym (eq-eqb c.node n there) ∙ at)))
      by true at = elim (apart b c here (eqb-true c.node n at) opened other_open) [
        | inl is ↦ absurd (true≢false (sym (same_from_equal c b (sym is)) ∙ other))
        | inr none ↦ elim (none) [ inl one ↦ inr one | inr two ↦ inl (λ there. two) ]
      ]

  module _ (book : List Entry) (e : Entry) (fits : SealsFit book) (follows : Follows book e) (free : IsFree book e) (apart : AreApart book) where
    abbrev more : List Entry
    more = book ++ e ∷ []

    -- of a branch that was open before
    same_changes : (b : BranchId) → is_open book b ≡ true → at_key (changes_of more b) ≡ at_key (changes_of book b)
    same_changes b opened = picked_same n table key (λ z. true) book e b (ap at_key (none_later book e follows b (open_parts book b opened).0))

    -- and of one that is sealed now
    module _ (c g : BranchId) (ds : List Change) (scn : ℕ) (new : e ≡ entries.Sealed c g ds scn) where
      first : Follows book (entries.Sealed c g ds scn)
      first = subst (Follows book) new follows

      new_changes : at_key (changes_of more c) ≡ at_key ds
      new_changes =
          picked_more n table key (λ z. true) book e c
          ∙ (ap (λ cs. at_key cs ++ at_key (changes_in c e)) (no_changes book c first.0 first.1)
          ∙ (ap (λ x. at_key (changes_in c x)) new ∙ ap (λ q. at_key (if q then ds else [])) (same_from_equal c c refl)))

      free_now : c.node ≡ n → FreeOf book ds
      free_now = subst (IsFree book) new free

      with_new : (b : BranchId) → b.node ≡ n → c.node ≡ n → is_open book b ≡ true → (at_key (changes_of more b) ≡ []) ⊎ (at_key (changes_of more c) ≡ [])
      with_new b here there opened = elim (free_branch book fits b ds here opened (free_now there)) [
        | inl none ↦ inl (same_changes b opened ∙ none)
        | inr none ↦ inr (new_changes ∙ none)
      ]

    turned : {P Q : Type 0} → P ⊎ Q → Q ⊎ P
    turned (inl p) = inr p
    turned (inr q) = inl q

    pub apart_next : AreApart more
    apart_next b c here there opened other = elim (open_was book e follows b opened) [
      | inl old ↦ elim (open_was book e follows c other) [
        | inl older ↦ elim (apart b c here there old older) [
          | inl is ↦ inl is
          | inr none ↦ inr (elim (none) [ inl one ↦ inl (same_changes b old ∙ one) | inr two ↦ inr (same_changes c older ∙ two) ])
        ]
        | inr new ↦ inr (with_new c new.0 new.1 new.2 new.3 b here there old)
      ]
      | inr new ↦ elim (open_was book e follows c other) [
        | inl older ↦ inr (turned (with_new b new.0 new.1 new.2 new.3 c there here older))
        | inr newer ↦ inl (let is : entries.Sealed b new.0 new.1 new.2 ≡ entries.Sealed c newer.0 newer.1 newer.2 = sym new.3 ∙ newer.3 in cc is)
      ]
    ]
