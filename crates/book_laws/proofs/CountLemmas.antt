-- What a book commits at one key of a node, where only the branches that a test counts have their changes committed by the
-- decision of their transaction; what the test needs to say, and what one more entry changes.
use Rattle.std.proofs.Common.{◌≡◌, ℕ, ◌==◌, ◌&&◌, not, Bool, true, false, if◌then◌else◌, List, [], ◌∷◌, ◌++◌, filter, flat_map, inl, inr, refl, sym, ap, ◌∙◌, append-nil}
use Rattle.std.specs.Prelude.{◌⊎◌}
use Rattle.std.proofs.lemmas.Bool.{eqb-true}
use Rattle.std.proofs.lemmas.List.Elements.{filter-append}
use Rattle.tran_ids.proofs.BranchLemmas.{same_from_equal}
use Rattle.node_rules.specs.Data.{Value, Change, BranchId}
use Rattle.node_rules.specs.Data.decisions
use Rattle.node_rules.specs.Rows.{is_change_of}
use Rattle.node_rules.specs.Words.{same}
use Rattle.run_rules.specs.Data.{Entry}
use Rattle.run_rules.specs.Data.entries
use Rattle.run_rules.specs.Book.{is_forced_of, stands, changes_in, changes_of, transaction_in, transaction_at, commits_at}
use Rattle.run_key_laws.proofs.ToldLemmas.{changes_more}
use Rattle.book_laws.proofs.PlaceLemmas.{IsOne}
use Rattle.book_laws.proofs.FlatLemmas.{same_flat, none_in_flat, filter_flat, flat_last, none_if}

module _ (n : ℕ) (table : List ℕ) (key : Value) where
  -- ---- what is committed

  -- the changes at the key
  abbrev pub picked : List Change → List Change
  picked cs = filter (is_change_of table key) cs

  -- what an entry has of a transaction's, of branches of the node that are counted
  abbrev pub part : (BranchId → Bool) → BranchId → Entry → List Change
  part counts g (entries.Sealed b h cs scn) = if same h g && ((b.node == n) && counts b) then picked cs else []
  part counts g (entries.Decided b h cs scn) = if same h g && ((b.node == n) && counts b) then picked cs else []
  part counts g _ = []

  -- what a book has of them
  abbrev pub total : (BranchId → Bool) → List Entry → BranchId → List Change
  total counts book g = flat_map (part counts g) book

  -- what an entry commits: a decision those of its transaction, a forced commit those of its branch
  abbrev pub gives : (BranchId → Bool) → List Entry → Entry → List Change
  gives counts book (entries.Decided b g cs scn) = total counts book g
  gives counts book (entries.Forced b (decisions.Commit scn)) = if b.node == n then picked (changes_of book b) else []
  gives counts book _ = []

  -- what a book commits
  abbrev pub committed_by : (BranchId → Bool) → List Entry → List Change
  committed_by counts book = flat_map (gives counts book) book

  -- ---- the rows of the book

  -- every branch that was never forced is counted
  abbrev pub unforced : List Entry → BranchId → Bool
  unforced book b = not (stands (is_forced_of b) book)

  pub picked_if : (q : Bool) (cs : List Change) → picked (if q then cs else []) ≡ (if q then picked cs else [])
  picked_if true cs = refl
  picked_if false cs = refl

  module _ (book : List Entry) where
    picked_part : (g : BranchId) (e : Entry) → picked (transaction_in book n g e) ≡ part (unforced book) g e
    picked_part g (entries.Sealed b h cs scn) = picked_if (same h g && ((b.node == n) && not (stands (is_forced_of b) book))) cs
    picked_part g (entries.Decided b h cs scn) = picked_if (same h g && ((b.node == n) && not (stands (is_forced_of b) book))) cs
    picked_part g (entries.Made m t) = refl
    picked_part g (entries.Ended b d) = refl
    picked_part g (entries.Forced b d) = refl
    picked_part g (entries.Met b d mixed) = refl

    picked_total : (g : BranchId) → picked (transaction_at book n g) ≡ total (unforced book) book g
    picked_total g = filter_flat (is_change_of table key) (transaction_in book n g) book ∙ same_flat (λ e. picked (transaction_in book n g e)) (part (unforced book) g) book (λ e there. picked_part g e)

    picked_gives : (e : Entry) → picked (commits_at book n e) ≡ gives (unforced book) book e
    picked_gives (entries.Decided b g cs scn) = picked_total g
    picked_gives (entries.Forced b (decisions.Commit scn)) = picked_if (b.node == n) (changes_of book b)
    picked_gives (entries.Forced b decisions.Rollback) = refl
    picked_gives (entries.Made m t) = refl
    picked_gives (entries.Sealed b g cs scn) = refl
    picked_gives (entries.Ended b d) = refl
    picked_gives (entries.Met b d mixed) = refl

    -- the changes whose rows the book leaves
    pub picked_book : picked (flat_map (commits_at book n) book) ≡ committed_by (unforced book) book
    picked_book = filter_flat (is_change_of table key) (commits_at book n) book ∙ same_flat (λ e. picked (commits_at book n e)) (gives (unforced book) book) book (λ e there. picked_gives e)

  -- ---- tests that count the same

  -- they count the same branches of the node, but for those without a change at the key
  abbrev pub CountAlike : (BranchId → Bool) → (BranchId → Bool) → List Entry → Type 0
  CountAlike counts others book = (b : BranchId) → b.node ≡ n → (counts b ≡ others b) ⊎ (picked (changes_of book b) ≡ [])

  -- the changes at the key of a branch's entry
  pub entry_none : (book : List Entry) (b : BranchId) (e : Entry) → picked (changes_of book b) ≡ [] → IsOne e book → picked (changes_in b e) ≡ []
  entry_none book b e none there = none_in_flat (λ x. picked (changes_in b x)) book e (sym (filter_flat (is_change_of table key) (changes_in b) book) ∙ none) there

  same_part : (h g b : BranchId) (cs : List Change) (one other : Bool) → (b.node ≡ n → (one ≡ other) ⊎ (picked cs ≡ []))
      → (if same h g && ((b.node == n) && one) then picked cs else []) ≡ (if same h g && ((b.node == n) && other) then picked cs else [])
  same_part h g b cs one other alike = by (b.node == n) refl
    where
      by : (here : Bool) → (b.node == n) ≡ here → (if same h g && (here && one) then picked cs else []) ≡ (if same h g && (here && other) then picked cs else [])
      by false at = refl
      by true at = elim (alike (eqb-true b.node n at)) [
        | inl is ↦ ap (λ q. if same h g && q then picked cs else []) is
        | inr none ↦ none_if (same h g && one) (picked cs) none ∙ sym (none_if (same h g && other) (picked cs) none)
      ]

  own_changes : (b : BranchId) (cs : List Change) → picked (if same b b then cs else []) ≡ [] → picked cs ≡ []
  own_changes b cs none = sym (ap (λ q. picked (if q then cs else [])) (same_from_equal b b refl)) ∙ none

  module _ (counts others : BranchId → Bool) (book : List Entry) (alike : CountAlike counts others book) where
    alike_part : (g : BranchId) (e : Entry) → IsOne e book → part counts g e ≡ part others g e
    alike_part g (entries.Sealed b h cs scn) there = same_part h g b cs (counts b) (others b) (λ here. elim (alike b here) [
      | inl is ↦ inl is
      | inr none ↦ inr (own_changes b cs (entry_none book b (entries.Sealed b h cs scn) none there))
    ])
    alike_part g (entries.Decided b h cs scn) there = same_part h g b cs (counts b) (others b) (λ here. elim (alike b here) [
      | inl is ↦ inl is
      | inr none ↦ inr (own_changes b cs (entry_none book b (entries.Decided b h cs scn) none there))
    ])
    alike_part g (entries.Made m t) there = refl
    alike_part g (entries.Ended b d) there = refl
    alike_part g (entries.Forced b d) there = refl
    alike_part g (entries.Met b d mixed) there = refl

    pub alike_total : (g : BranchId) → total counts book g ≡ total others book g
    alike_total g = same_flat (part counts g) (part others g) book (alike_part g)

    alike_gives : (e : Entry) → gives counts book e ≡ gives others book e
    alike_gives (entries.Decided b g cs scn) = alike_total g
    alike_gives (entries.Forced b (decisions.Commit scn)) = refl
    alike_gives (entries.Forced b decisions.Rollback) = refl
    alike_gives (entries.Made m t) = refl
    alike_gives (entries.Sealed b g cs scn) = refl
    alike_gives (entries.Ended b d) = refl
    alike_gives (entries.Met b d mixed) = refl

    -- they commit the same
    pub alike_commits : committed_by counts book ≡ committed_by others book
    alike_commits = same_flat (gives counts book) (gives others book) book (λ e there. alike_gives e)

  -- ---- one more entry

  module _ (counts : BranchId → Bool) (book : List Entry) (e : Entry) where
    -- what an entry commits is as it was
    abbrev pub StaysBefore : Entry → Type 0
    StaysBefore (entries.Decided b g cs scn) = part counts g e ≡ []
    StaysBefore (entries.Forced b (decisions.Commit scn)) = picked (changes_in b e) ≡ []
    StaysBefore _ = Unit {0}

    pub picked_more : (b : BranchId) → picked (changes_of (book ++ e ∷ []) b) ≡ picked (changes_of book b) ++ picked (changes_in b e)
    picked_more b = ap picked (changes_more book e b) ∙ filter-append (is_change_of table key) (changes_of book b) (changes_in b e)

    pub picked_same : (b : BranchId) → picked (changes_in b e) ≡ [] → picked (changes_of (book ++ e ∷ []) b) ≡ picked (changes_of book b)
    picked_same b none = picked_more b ∙ (ap (λ cs. picked (changes_of book b) ++ cs) none ∙ append-nil (picked (changes_of book b)))

    gives_same : (x : Entry) → StaysBefore x → gives counts (book ++ e ∷ []) x ≡ gives counts book x
    gives_same (entries.Decided b g cs scn) stays = flat_last (part counts g) book e ∙ (ap (λ ds. total counts book g ++ ds) stays ∙ append-nil (total counts book g))
    gives_same (entries.Forced b (decisions.Commit scn)) stays = ap (λ cs. if b.node == n then cs else []) (picked_same b stays)
    gives_same (entries.Forced b decisions.Rollback) stays = refl
    gives_same (entries.Made m t) stays = refl
    gives_same (entries.Sealed b g cs scn) stays = refl
    gives_same (entries.Ended b d) stays = refl
    gives_same (entries.Met b d mixed) stays = refl

    -- a book commits what it did, and what the new entry commits
    pub commits_more : ((x : Entry) → IsOne x book → StaysBefore x) → committed_by counts (book ++ e ∷ []) ≡ committed_by counts book ++ gives counts (book ++ e ∷ []) e
    commits_more stays =
        flat_last (gives counts (book ++ e ∷ [])) book e
        ∙ ap (λ cs. cs ++ gives counts (book ++ e ∷ []) e) (same_flat (gives counts (book ++ e ∷ [])) (gives counts book) book (λ x there. gives_same x (stays x there)))

    -- an entry that has no changes
    pub quiet_stays : ((b : BranchId) → picked (changes_in b e) ≡ []) → ((g : BranchId) → part counts g e ≡ []) → (x : Entry) → StaysBefore x
    quiet_stays none parts (entries.Decided b g cs scn) = parts g
    quiet_stays none parts (entries.Forced b (decisions.Commit scn)) = none b
    quiet_stays none parts (entries.Forced b decisions.Rollback) = tt
    quiet_stays none parts (entries.Made m t) = tt
    quiet_stays none parts (entries.Sealed b g cs scn) = tt
    quiet_stays none parts (entries.Ended b d) = tt
    quiet_stays none parts (entries.Met b d mixed) = tt
