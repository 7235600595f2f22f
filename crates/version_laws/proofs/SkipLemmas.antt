-- In a book that agrees the branches whose changes are left out are those that commit above the SCN: so what is left is
-- committed as the book commits it up to the SCN, both by the decisions and as the nodes learn them.
use Rattle.std.proofs.Common.{◌≡◌, ℕ, ◌==◌, ◌&&◌, ◌||◌, not, Bool, true, false, true≢false, if◌then◌else◌, List, [], ◌∷◌, ◌++◌, filter, flat_map, take, slice_get, Option, Some, None, inl, inr, refl, sym, ap, subst, ◌∙◌, append_assoc, arith}
use Rattle.std.specs.Prelude.{nat_le, nat_lt}
use Rattle.std.proofs.lemmas.Bool.{and_parts, or_left, eqb-true}
use Rattle.std.proofs.lemmas.Bool.Decides.{nat_tests}
use Rattle.std.proofs.lemmas.List.Folds.{list_any-append}
use Rattle.tran_ids.proofs.BranchLemmas.{equal_from_same, same_from_equal}
use Rattle.node_rules.specs.Data.{Change, BranchId, Decision}
use Rattle.node_rules.specs.Data.decisions
use Rattle.node_rules.specs.Words.{same}
use Rattle.run_rules.specs.Data.{Entry}
use Rattle.run_rules.specs.Data.entries
use Rattle.run_rules.specs.Book.{is_sealed_of, is_decided_of, is_forced_of, is_end_of, stands, is_decision_on, is_decision_at, global_in, AsDecided, Follows, EachAgainst, At, forced_in, decided, changes_in, changes_of, unforced_at, transaction_in, transaction_at, commits_at, commits_now, committed_at, is_until, rows_of, rows_until}
use Rattle.sql_eval.specs.Rows.{apply}
use Rattle.book_laws.proofs.OpenLemmas.{SealsFit, IsSealedIn, sealed_in_book, global_stays}
use Rattle.book_laws.proofs.PlaceLemmas.{IsOne, found, finds, place_of, one_before, parted, at_place}
use Rattle.version_laws.proofs.ChainLemmas.{either_way}
use Rattle.version_laws.proofs.EntryLemmas.{now_until, all_until}
use Rattle.version_laws.proofs.StripLemmas.{scn_by, scn_of, is_late, strip, less, forced_stands, map_more}

-- ---- lists

neither : (p q : Bool) → (p || q) ≡ false → (p ≡ false) × (q ≡ false)
neither true q none = absurd (true≢false none)
neither false q none = (refl, none)

one_there : {A : Type 0} (x : A) (xs ys : List A) → IsOne x xs → IsOne x (xs ++ ys)
one_there x [] ys there = absurd there
one_there x (y ∷ xs) ys (inl here) = inl here
one_there x (y ∷ xs) ys (inr there) = inr (one_there x xs ys there)

one_here : {A : Type 0} (x : A) (xs ys : List A) → IsOne x (xs ++ x ∷ ys)
one_here x [] ys = inl refl
one_here x (y ∷ xs) ys = inr (one_here x xs ys)

-- ---- what stands once

decided_later : (g : BranchId) (older es : List Entry) → stands (is_decision_on g) older ≡ false → decided (older ++ es) g ≡ decided es g
decided_later g [] es none = refl
decided_later g (entries.Decided b h cs n ∷ older) es none =
    let parts = neither (same h g) (stands (is_decision_on g) older) none in
    ap (λ q. if q then Some n else decided (older ++ es) g) parts.0 ∙ decided_later g older es parts.1
decided_later g (entries.Sealed b h cs n ∷ older) es none = decided_later g older es none
decided_later g (entries.Made m x ∷ older) es none = decided_later g older es none
decided_later g (entries.Ended b d ∷ older) es none = decided_later g older es none
decided_later g (entries.Forced b d ∷ older) es none = decided_later g older es none
decided_later g (entries.Met b d mixed ∷ older) es none = decided_later g older es none

forced_later : (b : BranchId) (older es : List Entry) → stands (is_end_of b) older ≡ false → forced_in b (older ++ es) ≡ forced_in b es
forced_later b [] es none = refl
forced_later b (entries.Forced c d ∷ older) es none =
    let parts = neither (same c b) (stands (is_end_of b) older) none in
    ap (λ q. if q then Some d else forced_in b (older ++ es)) parts.0 ∙ forced_later b older es parts.1
forced_later b (entries.Ended c d ∷ older) es none = forced_later b older es (neither (same c b) (stands (is_end_of b) older) none).1
forced_later b (entries.Sealed c h cs n ∷ older) es none = forced_later b older es none
forced_later b (entries.Made m x ∷ older) es none = forced_later b older es none
forced_later b (entries.Decided c h cs n ∷ older) es none = forced_later b older es none
forced_later b (entries.Met c d mixed ∷ older) es none = forced_later b older es none

forced_found : (b : BranchId) (d : Decision) (es : List Entry) → forced_in b es ≡ Some d → IsOne (entries.Forced b d) es
forced_found b d [] is = absurd cc
forced_found b d (entries.Forced c x ∷ es) is = by (same c b) refl is (forced_found b d es)
  where
    by : (q : Bool) → same c b ≡ q → (if q then Some x else forced_in b es) ≡ Some d → (forced_in b es ≡ Some d → IsOne (entries.Forced b d) es) → IsOne (entries.Forced b d) (entries.Forced c x ∷ es)
    by true here is rest = (let it : x ≡ d = cc is in inl (ap (λ z. entries.Forced z x) (equal_from_same c b here) ∙ ap (entries.Forced b) it))
    by false here is rest = inr (rest is)
forced_found b d (entries.Sealed c h cs n ∷ es) is = inr (forced_found b d es is)
forced_found b d (entries.Made m x ∷ es) is = inr (forced_found b d es is)
forced_found b d (entries.Decided c h cs n ∷ es) is = inr (forced_found b d es is)
forced_found b d (entries.Ended c x ∷ es) is = inr (forced_found b d es is)
forced_found b d (entries.Met c x mixed ∷ es) is = inr (forced_found b d es is)

forced_none : (b : BranchId) (es : List Entry) → stands (is_forced_of b) es ≡ false → forced_in b es ≡ None
forced_none b es none = by (forced_in b es) refl
  where
    by : (o : Option Decision) → forced_in b es ≡ o → o ≡ None
    by None is = refl
    by (Some d) is = absurd (true≢false (sym (finds (is_forced_of b) (entries.Forced b d) es (forced_found b d es is) (same_from_equal b b refl)) ∙ none))

module _ (book : List Entry) (all : EachAgainst Follows [] book) (fits : SealsFit book) where
  -- an entry follows those before it
  split : (e : Entry) → IsOne e book → (older : List Entry) × (later : List Entry) × (book ≡ older ++ e ∷ later) × Follows older e
  split e there =
      let k = place_of e book there in
      let parts = parted e book k.0 k.1 in
      (take k.0 book, parts.0, parts.1, at_place Follows [] book k.0 e all k.1)

  decided_is : (b g : BranchId) (cs : List Change) (m : ℕ) → IsOne (entries.Decided b g cs m) book → decided book g ≡ Some m
  decided_is b g cs m there =
      let s = split (entries.Decided b g cs m) there in
      ap (λ es. decided es g) s.2 ∙ (decided_later g s.0 (entries.Decided b g cs m ∷ s.1) s.3.0 ∙ ap (λ q. if q then Some m else decided s.1 g) (same_from_equal g g refl))

  forced_is : (b : BranchId) (d : Decision) → IsOne (entries.Forced b d) book → forced_in b book ≡ Some d
  forced_is b d there =
      let s = split (entries.Forced b d) there in
      ap (forced_in b) s.2 ∙ (forced_later b s.0 (entries.Forced b d ∷ s.1) s.3.1 ∙ ap (λ q. if q then Some d else forced_in b s.1) (same_from_equal b b refl))

  -- a branch ends once
  not_both : (b : BranchId) (d x : Decision) → IsOne (entries.Ended b d) book → IsOne (entries.Forced b x) book → ⊥
  not_both b d x ended forced = by (nat_lt one.0 other.0) (nat_lt other.0 one.0) refl refl
    where
      one : (k : ℕ) × At book k (entries.Ended b d)
      one = place_of (entries.Ended b d) book ended

      other : (k : ℕ) × At book k (entries.Forced b x)
      other = place_of (entries.Forced b x) book forced

      follows_one : Follows (take one.0 book) (entries.Ended b d)
      follows_one = at_place Follows [] book one.0 (entries.Ended b d) all one.1

      follows_other : Follows (take other.0 book) (entries.Forced b x)
      follows_other = at_place Follows [] book other.0 (entries.Forced b x) all other.1

      by : (p q : Bool) → nat_lt one.0 other.0 ≡ p → nat_lt other.0 one.0 ≡ q → ⊥
      by true q is at =
          true≢false (sym (finds (is_end_of b) (entries.Ended b d) (take other.0 book) (one_before (entries.Ended b d) book one.0 other.0 one.1 (grind (arith, nat_tests, is))) (same_from_equal b b refl)) ∙ follows_other.1)
      by false true is at =
          true≢false (sym (finds (is_end_of b) (entries.Forced b x) (take one.0 book) (one_before (entries.Forced b x) book other.0 one.0 other.1 (grind (arith, nat_tests, at))) (same_from_equal b b refl)) ∙ follows_one.1)
      by false false is at =
          let same_place : one.0 ≡ other.0 = grind (arith, nat_tests, is, at) in
          let both : Some (entries.Ended b d) ≡ Some (entries.Forced b x) = sym one.1 ∙ (ap (λ k. slice_get book k) same_place ∙ other.1) in
          absurd cc

  ended_unforced : (b : BranchId) (d : Decision) → IsOne (entries.Ended b d) book → forced_in b book ≡ None
  ended_unforced b d there = by (forced_in b book) refl
    where
      by : (o : Option Decision) → forced_in b book ≡ o → o ≡ None
      by None is = refl
      by (Some x) is = absurd (not_both b d x there (forced_found b x book is))

  -- a branch that ends was sealed, so it did not decide
  sealed_undecided : (b g : BranchId) (cs : List Change) (m : ℕ) (older more : List Entry) → book ≡ older ++ more → stands (is_sealed_of b) older ≡ true → IsOne (entries.Decided b g cs m) book → ⊥
  sealed_undecided b g cs m older more is sealed there =
      let some : stands (is_sealed_of b) book ≡ true = ap (stands (is_sealed_of b)) is ∙ (list_any-append (is_sealed_of b) older more ∙ or_left (stands (is_sealed_of b) older) (stands (is_sealed_of b) more) sealed) in
      let seal : IsSealedIn book b = sealed_in_book book b some in
      true≢false (sym (finds (is_decided_of b) (entries.Decided b g cs m) book there (same_from_equal b b refl)) ∙ fits.undecided b seal.global seal.changes seal.scn seal.there)

  decided_unforced : (b g : BranchId) (cs : List Change) (m : ℕ) → IsOne (entries.Decided b g cs m) book → forced_in b book ≡ None
  decided_unforced b g cs m there = by (forced_in b book) refl
    where
      by : (o : Option Decision) → forced_in b book ≡ o → o ≡ None
      by None is = refl
      by (Some x) is = (let s = split (entries.Forced b x) (forced_found b x book is) in absurd (sealed_undecided b g cs m s.0 (entries.Forced b x ∷ s.1) s.2 s.3.0 there))

  -- ---- the SCN of a branch

  decided_scn : (b g : BranchId) (cs : List Change) (m : ℕ) → IsOne (entries.Decided b g cs m) book → scn_of book b g ≡ Some m
  decided_scn b g cs m there = ap (λ o. scn_by o (decided book g)) (decided_unforced b g cs m there) ∙ decided_is b g cs m there

  forced_scn : (b g : BranchId) (m : ℕ) → IsOne (entries.Forced b (decisions.Commit m)) book → scn_of book b g ≡ Some m
  forced_scn b g m there = ap (λ o. scn_by o (decided book g)) (forced_is b (decisions.Commit m) there)

  decision_is : (g : BranchId) (m : ℕ) (e : Entry) → is_decision_at g m e ≡ true → IsOne e book → decided book g ≡ Some m
  decision_is g m (entries.Decided b h cs k) is there =
      let parts = and_parts (same h g) (k == m) is in
      subst (λ z. decided book z ≡ Some m) (equal_from_same h g parts.0) (decided_is b h cs k there ∙ ap Some (eqb-true k m parts.1))
  decision_is g m (entries.Sealed b h cs k) is there = absurd (true≢false (sym is))
  decision_is g m (entries.Made k x) is there = absurd (true≢false (sym is))
  decision_is g m (entries.Ended b d) is there = absurd (true≢false (sym is))
  decision_is g m (entries.Forced b d) is there = absurd (true≢false (sym is))
  decision_is g m (entries.Met b d mixed) is there = absurd (true≢false (sym is))

  ended_scn : (b g : BranchId) (cs : List Change) (n m : ℕ) → IsOne (entries.Sealed b g cs n) book → IsOne (entries.Ended b (decisions.Commit m)) book → scn_of book b g ≡ Some m
  ended_scn b g cs n m sealed there = ap (λ o. scn_by o (decided book g)) (ended_unforced b (decisions.Commit m) there) ∙ by (global_in b s.0) refl s.3.2
    where
      s : (older : List Entry) × (later : List Entry) × (book ≡ older ++ entries.Ended b (decisions.Commit m) ∷ later) × Follows older (entries.Ended b (decisions.Commit m))
      s = split (entries.Ended b (decisions.Commit m)) there

      by : (o : Option BranchId) → global_in b s.0 ≡ o → AsDecided (decisions.Commit m) o s.0 → decided book g ≡ Some m
      by None is decides = absurd decides
      by (Some h) is decides =
          let stays : global_in b book ≡ Some h = ap (global_in b) s.2 ∙ global_stays b h s.0 (entries.Ended b (decisions.Commit m) ∷ s.1) is in
          let both : Some h ≡ Some g = sym stays ∙ fits.global b g cs n sealed in
          let one : h ≡ g = cc both in
          let e = found (is_decision_at h m) s.0 decides in
          subst (λ z. decided book z ≡ Some m) one (decision_is h m e.0 e.2 (subst (IsOne e.0) (sym s.2) (one_there e.0 s.0 (entries.Ended b (decisions.Commit m) ∷ s.1) e.1)))

  -- ---- without the changes of those that commit late

  module _ (scn : ℕ) where
    flat_if : {A : Type 0} (q : Bool) (f g : Entry → List A) (es : List Entry) → ((e : Entry) → IsOne e es → f (strip book scn e) ≡ (if q then [] else g e)) → flat_map f (less book scn es) ≡ (if q then [] else flat_map g es)
    flat_if q f g [] each = sym (either_way q [])
    flat_if {A} q f g (e ∷ es) each =
        ap (λ xs. xs ++ flat_map f (less book scn es)) (each e (inl refl))
        ∙ (ap (λ xs. (if q then [] else g e) ++ xs) (flat_if q f g es (λ x there. each x (inr there))) ∙ joined q (g e) (flat_map g es))
      where
        joined : (q : Bool) (xs ys : List A) → (if q then [] else xs) ++ (if q then [] else ys) ≡ (if q then [] else xs ++ ys)
        joined true xs ys = refl
        joined false xs ys = refl

    flat_until : {A : Type 0} (p : Entry → Bool) (f g : Entry → List A) (es : List Entry) → ((e : Entry) → IsOne e es → f (strip book scn e) ≡ (if p e then g e else [])) → flat_map f (less book scn es) ≡ flat_map g (filter p es)
    flat_until p f g [] each = refl
    flat_until p f g (e ∷ es) each =
        ap (λ xs. xs ++ flat_map f (less book scn es)) (each e (inl refl))
        ∙ (ap (λ xs. (if p e then g e else []) ++ xs) (flat_until p f g es (λ x there. each x (inr there))) ∙ by (p e))
      where
        by : (q : Bool) → (if q then g e else []) ++ flat_map g (filter p es) ≡ flat_map g (if q then e ∷ filter p es else filter p es)
        by true = refl
        by false = refl

    -- the changes of a branch that commits at one SCN
    less_changes : (m : ℕ) (b : BranchId) (es : List Entry) → ((g : BranchId) (cs : List Change) (n : ℕ) → IsOne (entries.Sealed b g cs n) es → scn_of book b g ≡ Some m)
        → ((g : BranchId) (cs : List Change) (n : ℕ) → IsOne (entries.Decided b g cs n) es → scn_of book b g ≡ Some m) → changes_of (less book scn es) b ≡ (if not (nat_le m scn) then [] else changes_of es b)
    less_changes m b es sealed decides = flat_if (not (nat_le m scn)) (changes_in b) (changes_in b) es each
      where
        mine : (c g : BranchId) (cs : List Change) → (c ≡ b → scn_of book c g ≡ Some m) → (if same c b then (if is_late scn (scn_of book c g) then [] else cs) else []) ≡ (if not (nat_le m scn) then [] else (if same c b then cs else []))
        mine c g cs is = by (same c b) refl
          where
            by : (q : Bool) → same c b ≡ q → (if q then (if is_late scn (scn_of book c g) then [] else cs) else []) ≡ (if not (nat_le m scn) then [] else (if q then cs else []))
            by true here = ap (λ o. if is_late scn o then [] else cs) (is (equal_from_same c b here))
            by false here = sym (either_way (not (nat_le m scn)) [])

        each : (e : Entry) → IsOne e es → changes_in b (strip book scn e) ≡ (if not (nat_le m scn) then [] else changes_in b e)
        each (entries.Sealed c g cs n) there = mine c g cs (λ is. ap (λ z. scn_of book z g) is ∙ sealed g cs n (subst (λ z. IsOne (entries.Sealed z g cs n) es) is there))
        each (entries.Decided c g cs n) there = mine c g cs (λ is. ap (λ z. scn_of book z g) is ∙ decides g cs n (subst (λ z. IsOne (entries.Decided z g cs n) es) is there))
        each (entries.Made k x) there = sym (either_way (not (nat_le m scn)) [])
        each (entries.Ended c d) there = sym (either_way (not (nat_le m scn)) [])
        each (entries.Forced c d) there = sym (either_way (not (nat_le m scn)) [])
        each (entries.Met c d mixed) there = sym (either_way (not (nat_le m scn)) [])

    swapped : (p q : Bool) (cs : List Change) → (if p then (if not q then [] else cs) else []) ≡ (if q then (if p then cs else []) else [])
    swapped true true cs = refl
    swapped true false cs = refl
    swapped false true cs = refl
    swapped false false cs = refl

    turned : (q : Bool) (cs : List Change) → (if not q then [] else cs) ≡ (if q then cs else [])
    turned true cs = refl
    turned false cs = refl

    forced_changes : (b : BranchId) (m : ℕ) (es : List Entry) → IsOne (entries.Forced b (decisions.Commit m)) book → changes_of (less book scn es) b ≡ (if not (nat_le m scn) then [] else changes_of es b)
    forced_changes b m es there = less_changes m b es (λ g cs n at. forced_scn b g m there) (λ g cs n at. forced_scn b g m there)

    -- ---- as the nodes learn the decisions

    module _ (n : ℕ) where
      now_less : (older : List Entry) (e : Entry) → IsOne e book → ((x : Entry) → IsOne x older → IsOne x book) → commits_now (less book scn older) n (strip book scn e) ≡ now_until n scn older e
      now_less older (entries.Decided b g cs m) there among = ap (λ o. if b.node == n then (if is_late scn o then [] else cs) else []) (decided_scn b g cs m there) ∙ swapped (b.node == n) (nat_le m scn) cs
      now_less older (entries.Ended b (decisions.Commit m)) there among =
          ap (λ cs. if b.node == n then cs else [])
          (less_changes m b older (λ g cs k at. ended_scn b g cs k m (among (entries.Sealed b g cs k) at) there)
          (λ g cs k at. (let s = split (entries.Ended b (decisions.Commit m)) there in absurd (sealed_undecided b g cs k s.0 (entries.Ended b (decisions.Commit m) ∷ s.1) s.2 s.3.0 (among (entries.Decided b g cs k) at)))))
          ∙ swapped (b.node == n) (nat_le m scn) (changes_of older b)
      now_less older (entries.Forced b (decisions.Commit m)) there among = ap (λ cs. if b.node == n then cs else []) (forced_changes b m older there) ∙ swapped (b.node == n) (nat_le m scn) (changes_of older b)
      now_less older (entries.Ended b decisions.Rollback) there among = refl
      now_less older (entries.Forced b decisions.Rollback) there among = refl
      now_less older (entries.Made k x) there among = refl
      now_less older (entries.Sealed b g cs k) there among = refl
      now_less older (entries.Met b d mixed) there among = refl

      committed_from : (older es : List Entry) → book ≡ older ++ es → committed_at (less book scn older) n (less book scn es) ≡ all_until n scn older es
      committed_from older [] is = refl
      committed_from older (e ∷ es) is =
          ap (λ cs. cs ++ committed_at (less book scn older ++ strip book scn e ∷ []) n (less book scn es))
          (now_less older e (subst (IsOne e) (sym is) (one_here e older es)) (λ x there. subst (IsOne x) (sym is) (one_there x older (e ∷ es) there)))
          ∙ ap (λ cs. now_until n scn older e ++ cs)
          (ap (λ os. committed_at os n (less book scn es)) (sym (map_more (strip book scn) older (e ∷ [])))
          ∙ committed_from (older ++ e ∷ []) es (is ∙ sym (append_assoc older (e ∷ []) es)))

      -- they commit what is left, up to the SCN
      pub committed_less : committed_at [] n (less book scn book) ≡ all_until n scn [] book
      committed_less = committed_from [] book refl

      -- ---- by the decisions

      part_less : (g : BranchId) (m : ℕ) → decided book g ≡ Some m → (x h : BranchId) (cs : List Change)
          → unforced_at (less book scn book) n g x h (if is_late scn (scn_of book x h) then [] else cs) ≡ (if not (nat_le m scn) then [] else unforced_at book n g x h cs)
      part_less g m decides x h cs =
          ap (λ q. if same h g && ((x.node == n) && not q) then (if is_late scn (scn_of book x h) then [] else cs) else []) (forced_stands book scn book x)
          ∙ by (same h g) (x.node == n) (stands (is_forced_of x) book) refl refl
        where
          by : (one here q : Bool) → same h g ≡ one → stands (is_forced_of x) book ≡ q → (if one && (here && not q) then (if is_late scn (scn_of book x h) then [] else cs) else []) ≡ (if not (nat_le m scn) then [] else (if one && (here && not q) then cs else []))
          by false here q is at = sym (either_way (not (nat_le m scn)) [])
          by true false q is at = sym (either_way (not (nat_le m scn)) [])
          by true true true is at = sym (either_way (not (nat_le m scn)) [])
          by true true false is at = ap (λ o. if is_late scn o then [] else cs) (ap (λ o. scn_by o (decided book h)) (forced_none x book at) ∙ (ap (decided book) (equal_from_same h g is) ∙ decides))

      transaction_less : (g : BranchId) (m : ℕ) → decided book g ≡ Some m → transaction_at (less book scn book) n g ≡ (if not (nat_le m scn) then [] else transaction_at book n g)
      transaction_less g m decides = flat_if (not (nat_le m scn)) (transaction_in (less book scn book) n g) (transaction_in book n g) book each
        where
          each : (e : Entry) → IsOne e book → transaction_in (less book scn book) n g (strip book scn e) ≡ (if not (nat_le m scn) then [] else transaction_in book n g e)
          each (entries.Sealed x h cs k) there = part_less g m decides x h cs
          each (entries.Decided x h cs k) there = part_less g m decides x h cs
          each (entries.Made k x) there = sym (either_way (not (nat_le m scn)) [])
          each (entries.Ended b d) there = sym (either_way (not (nat_le m scn)) [])
          each (entries.Forced b d) there = sym (either_way (not (nat_le m scn)) [])
          each (entries.Met b d mixed) there = sym (either_way (not (nat_le m scn)) [])

      commits_less : (e : Entry) → IsOne e book → commits_at (less book scn book) n (strip book scn e) ≡ (if is_until scn e then commits_at book n e else [])
      commits_less (entries.Decided b g cs m) there = transaction_less g m (decided_is b g cs m there) ∙ turned (nat_le m scn) (transaction_at book n g)
      commits_less (entries.Forced b (decisions.Commit m)) there = ap (λ cs. if b.node == n then cs else []) (forced_changes b m book there) ∙ swapped (b.node == n) (nat_le m scn) (changes_of book b)
      commits_less (entries.Forced b decisions.Rollback) there = refl
      commits_less (entries.Made k x) there = refl
      commits_less (entries.Sealed b g cs k) there = refl
      commits_less (entries.Ended b d) there = refl
      commits_less (entries.Met b d mixed) there = refl

      -- the rows that are left are those up to the SCN
      pub rows_less : (table : List ℕ) → rows_of (less book scn book) n table ≡ rows_until book n table scn
      unfolding rows_of rows_until
      rows_less table = ap (apply table []) (flat_until (is_until scn) (commits_at (less book scn book) n) (commits_at book n) book commits_less)
