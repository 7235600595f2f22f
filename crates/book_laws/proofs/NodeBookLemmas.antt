-- What a book says of one node's branches, it says by the entries of that node alone: who is in doubt, and what they changed.
use Rattle.std.proofs.Common.{◌≡◌, ℕ, ◌==◌, ◌||◌, ◌&&◌, not, Bool, true, false, true≢false, if◌then◌else◌, List, [], ◌∷◌, ◌++◌, filter, refl, sym, ap, subst, ◌∙◌, append-nil}
use Rattle.std.specs.List.{list_any}
use Rattle.std.proofs.lemmas.Bool.{eqb-true, eq-eqb}
use Rattle.std.proofs.lemmas.List.Elements.{filter-append}
use Rattle.tran_ids.proofs.BranchLemmas.{equal_from_same}
use Rattle.agreement.proofs.BookTests.{not_true}
use Rattle.node_rules.specs.Data.{BranchId}
use Rattle.node_rules.specs.Words.{same}
use Rattle.run_rules.specs.Data.{Entry}
use Rattle.run_rules.specs.Data.entries
use Rattle.run_rules.specs.Book.{is_sealed_of, is_decided_of, is_end_of, stands, Follows, EachAgainst, changes_in, changes_of, doubt_in, in_doubt}
use Rattle.book_laws.specs.DiskLaws.{node_of, is_of_node}
use Rattle.book_laws.proofs.PlaceLemmas.{any_unfiltered}
use Rattle.book_laws.proofs.FlatLemmas.{same_flat, flat_filter}

-- ---- part of a book

-- what holds of each entry, holds in part of the book, where it does of each one there
pub part_each : (P Q : List Entry → Entry → Type 0) (test : Entry → Bool) → ((older : List Entry) (e : Entry) → P older e → test e ≡ true → Q (filter test older) e) → (older es : List Entry) → EachAgainst P older es
    → EachAgainst Q (filter test older) (filter test es)
part_each P Q test each older [] all = tt
part_each P Q test each older (e ∷ es) all = by (test e) refl (subst (λ xs. EachAgainst Q xs (filter test es)) (filter-append test older (e ∷ [])) (part_each P Q test each (older ++ e ∷ []) es all.1))
  where
    by : (q : Bool) → test e ≡ q → EachAgainst Q (filter test older ++ filter test (e ∷ [])) (filter test es) → EachAgainst Q (filter test older) (if q then e ∷ filter test es else filter test es)
    by true is rest = (each older e all.0 is, subst (λ k. EachAgainst Q (filter test older ++ (if k then e ∷ [] else [])) (filter test es)) is rest)
    by false is rest = subst (λ xs. EachAgainst Q xs (filter test es)) (append-nil (filter test older)) (subst (λ k. EachAgainst Q (filter test older ++ (if k then e ∷ [] else [])) (filter test es)) is rest)

-- a test that only passes what passes another finds it there
any_filtered : {A : Type 0} (q p : A → Bool) (xs : List A) → ((x : A) → p x ≡ false → q x ≡ false) → list_any q (filter p xs) ≡ list_any q xs
any_filtered q p [] none = refl
any_filtered q p (x ∷ xs) none = by (p x) refl (any_filtered q p xs none)
  where
    by : (k : Bool) → p x ≡ k → list_any q (filter p xs) ≡ list_any q xs → list_any q (if k then x ∷ filter p xs else filter p xs) ≡ (q x || list_any q xs)
    by true is rest = ap (λ z. q x || z) rest
    by false is rest = rest ∙ ap (λ z. z || list_any q xs) (sym (none x is))

-- ---- a node's part

module _ (n : ℕ) where
  abbrev pub own_entries : List Entry → List Entry
  own_entries book = filter (is_of_node n) book

  -- an entry of another node is of another branch
  other_branch : (m : ℕ) (c b : BranchId) → c.node ≡ m → b.node ≡ n → (m == n) ≡ false → same c b ≡ false
  other_branch m c b there here other = not_true (same c b) (λ is. true≢false (sym (eq-eqb m n (sym there ∙ (ap (λ (z : BranchId). z.node) (equal_from_same c b is) ∙ here))) ∙ other))

  end_elsewhere : (b : BranchId) → b.node ≡ n → (e : Entry) → is_of_node n e ≡ false → is_end_of b e ≡ false
  end_elsewhere b here (entries.Ended c d) other = other_branch c.node c b refl here other
  end_elsewhere b here (entries.Forced c d) other = other_branch c.node c b refl here other
  end_elsewhere b here (entries.Made m x) other = refl
  end_elsewhere b here (entries.Sealed c g cs scn) other = refl
  end_elsewhere b here (entries.Decided c g cs scn) other = refl
  end_elsewhere b here (entries.Met c d mixed) other = refl

  changes_elsewhere : (b : BranchId) → b.node ≡ n → (e : Entry) → is_of_node n e ≡ false → changes_in b e ≡ []
  changes_elsewhere b here (entries.Sealed c g cs scn) other = ap (λ q. if q then cs else []) (other_branch c.node c b refl here other)
  changes_elsewhere b here (entries.Decided c g cs scn) other = ap (λ q. if q then cs else []) (other_branch c.node c b refl here other)
  changes_elsewhere b here (entries.Made m x) other = refl
  changes_elsewhere b here (entries.Ended c d) other = refl
  changes_elsewhere b here (entries.Forced c d) other = refl
  changes_elsewhere b here (entries.Met c d mixed) other = refl

  doubt_elsewhere : (book : List Entry) (e : Entry) → is_of_node n e ≡ false → doubt_in book n e ≡ []
  doubt_elsewhere book (entries.Sealed b g cs scn) other = ap (λ q. if q && not (stands (is_end_of b) book) then b ∷ [] else []) other
  doubt_elsewhere book (entries.Made m x) other = refl
  doubt_elsewhere book (entries.Decided b g cs scn) other = refl
  doubt_elsewhere book (entries.Ended b d) other = refl
  doubt_elsewhere book (entries.Forced b d) other = refl
  doubt_elsewhere book (entries.Met b d mixed) other = refl

  module _ (book : List Entry) where
    own_doubt : (e : Entry) → doubt_in (own_entries book) n e ≡ doubt_in book n e
    own_doubt (entries.Sealed b g cs scn) = by (b.node == n) refl
      where
        by : (q : Bool) → (b.node == n) ≡ q → (if q && not (stands (is_end_of b) (own_entries book)) then b ∷ [] else []) ≡ (if q && not (stands (is_end_of b) book) then b ∷ [] else [])
        by true is = ap (λ q. if not q then b ∷ [] else []) (any_filtered (is_end_of b) (is_of_node n) book (end_elsewhere b (eqb-true b.node n is)))
        by false is = refl
    own_doubt (entries.Made m x) = refl
    own_doubt (entries.Decided b g cs scn) = refl
    own_doubt (entries.Ended b d) = refl
    own_doubt (entries.Forced b d) = refl
    own_doubt (entries.Met b d mixed) = refl

    pub own_in_doubt : in_doubt (own_entries book) n ≡ in_doubt book n
    unfolding in_doubt
    own_in_doubt =
        same_flat (doubt_in (own_entries book) n) (doubt_in book n) (own_entries book) (λ e there. own_doubt e)
        ∙ flat_filter (is_of_node n) (doubt_in book n) book (doubt_elsewhere book)

    pub own_changes_of : (b : BranchId) → b.node ≡ n → changes_of (own_entries book) b ≡ changes_of book b
    own_changes_of b here = flat_filter (is_of_node n) (changes_in b) book (changes_elsewhere b here)

-- ---- what an entry needs of those of its node

-- a branch seals once, and neither decides nor has an end before; it does not decide after
abbrev pub SealsAlone : List Entry → Entry → Type 0
SealsAlone older (entries.Sealed b g cs scn) = (stands (is_sealed_of b) older ≡ false) × (stands (is_decided_of b) older ≡ false) × (stands (is_end_of b) older ≡ false)
SealsAlone older (entries.Decided b g cs scn) = stands (is_sealed_of b) older ≡ false
SealsAlone older _ = Unit {0}

-- and an entry is of its node
abbrev pub ComesHere : ℕ → List Entry → Entry → Type 0
ComesHere n older e = SealsAlone older e × (node_of e ≡ n)

fewer : (q p : Entry → Bool) (xs : List Entry) → list_any q xs ≡ false → list_any q (filter p xs) ≡ false
fewer q p xs none = not_true (list_any q (filter p xs)) (λ some. true≢false (sym (any_unfiltered q p xs some) ∙ none))

alone_here : (n : ℕ) (older : List Entry) (e : Entry) → Follows older e → SealsAlone (own_entries n older) e
alone_here n older (entries.Sealed b g cs scn) follows = (fewer (is_sealed_of b) (is_of_node n) older follows.0, fewer (is_decided_of b) (is_of_node n) older follows.1, fewer (is_end_of b) (is_of_node n) older follows.2)
alone_here n older (entries.Decided b g cs scn) follows = fewer (is_sealed_of b) (is_of_node n) older follows.2
alone_here n older (entries.Made m x) follows = tt
alone_here n older (entries.Ended b d) follows = tt
alone_here n older (entries.Forced b d) follows = tt
alone_here n older (entries.Met b d mixed) follows = tt

-- so it is with the entries of a node in a book that agrees
pub all_here : (n : ℕ) (book : List Entry) → EachAgainst Follows [] book → EachAgainst (ComesHere n) [] (own_entries n book)
all_here n book all = part_each Follows (ComesHere n) (is_of_node n) (λ older e follows here. (alone_here n older e follows, eqb-true (node_of e) n here)) [] book all
