-- In a book that agrees, entries that come later and seal, decide and force a node's branches above an SCN alone leave its rows up
-- to that SCN as they were, at each key that was not in doubt before them.
use Rattle.std.proofs.Common.{◌≡◌, ℕ, ◌<◌, ◌≤◌, ◌==◌, ◌||◌, ◌&&◌, not, Bool, true, false, true≢false, if◌then◌else◌, List, [], ◌∷◌, ◌++◌, filter, flat_map, map, take, slice_get, Option, Some, None, inl, inr, refl, sym, ap, subst, ◌∙◌, append-nil, append_assoc, arith}
use Rattle.std.specs.Prelude.{◌⊎◌, nat_lt}
use Rattle.std.specs.List.{list_any}
use Rattle.std.proofs.lemmas.Bool.{eqb-true}
use Rattle.std.proofs.lemmas.Bool.Decides.{nat_tests}
use Rattle.std.proofs.lemmas.Grind.{flat_map-append}
use Rattle.std.proofs.lemmas.List.Elements.{filter-append}
use Rattle.std.proofs.lemmas.List.Folds.{list_any-append}
use Rattle.dtx_values.proofs.ValueOrder.{same_is}
use Rattle.tran_ids.proofs.BranchLemmas.{equal_from_same, same_from_equal}
use Rattle.agreement.proofs.BookTests.{not_true}
use Rattle.node_rules.specs.Data.{Value, Change, BranchId, Decision}
use Rattle.node_rules.specs.Data.decisions
use Rattle.node_rules.specs.Rows.{same_value, get, is_change_of}
use Rattle.node_rules.specs.Words.{same, same_text}
use Rattle.run_rules.specs.Data.{Entry}
use Rattle.run_rules.specs.Data.entries
use Rattle.run_rules.specs.Book.{is_sealed_of, is_decided_of, is_forced_of, is_end_of, is_rollback_of, stands, is_decision_on, is_decision_at, global_in, is_of, AsDecided, Follows, EachAgainst, At, AboveSeals, changes_in, changes_of, unforced_at, transaction_in, commits_at, is_until, rows_until, in_doubt}
use Rattle.run_rules.specs.Runs.{keys_in_doubt}
use Rattle.book_laws.specs.SealLaws.{ComesFirst}
use Rattle.book_laws.proofs.PlaceLemmas.{IsOne, found, finds, place_of, parted, at_place, one_before}
use Rattle.book_laws.proofs.DoubtLemmas.{in_doubt_of, one_filtered}
use Rattle.book_laws.proofs.FlatLemmas.{same_flat, none_flat, none_in_flat, filter_flat, none_in_part}
use Rattle.book_laws.proofs.KeyChangeLemmas.{last_row, got_applied}
use Rattle.book_laws.proofs.OpenLemmas.{global_stays, SealsFit}
use Rattle.book_laws.proofs.ScnLemmas.{decision_on as decision_by}
use Rattle.repeat_read_laws.specs.RepeatLaws.{IsAbove}

-- ---- tests of joined lists

none_left : (p q : Bool) → (p || q) ≡ false → p ≡ false
none_left true q none = absurd (true≢false none)
none_left false q none = refl

none_right : (p q : Bool) → (p || q) ≡ false → q ≡ false
none_right true q none = absurd (true≢false none)
none_right false q none = none

one_joined : {A : Type 0} (a : A) (xs ys : List A) → IsOne a xs → IsOne a (xs ++ ys)
one_joined a [] ys there = absurd there
one_joined a (x ∷ xs) ys (inl here) = inl here
one_joined a (x ∷ xs) ys (inr there) = inr (one_joined a xs ys there)

one_later : {A : Type 0} (a : A) (xs ys : List A) → IsOne a ys → IsOne a (xs ++ ys)
one_later a [] ys there = there
one_later a (x ∷ xs) ys there = inr (one_later a xs ys there)

pub one_of_joined : {A : Type 0} (a : A) (xs ys : List A) → IsOne a (xs ++ ys) → IsOne a xs ⊎ IsOne a ys
one_of_joined a [] ys there = inr there
one_of_joined a (x ∷ xs) ys (inl here) = inl (inl here)
one_of_joined a (x ∷ xs) ys (inr there) = elim (one_of_joined a xs ys there) [ inl before ↦ inl (inr before) | inr after ↦ inr after ]

-- what a law of each entry says of the later ones
each_later : (P : List Entry → Entry → Type 0) (older xs ys : List Entry) → EachAgainst P older (xs ++ ys) → EachAgainst P (older ++ xs) ys
each_later P older [] ys all = subst (λ os. EachAgainst P os ys) (sym (append-nil older)) all
each_later P older (x ∷ xs) ys all = subst (λ os. EachAgainst P os ys) (append_assoc older (x ∷ []) xs) (each_later P (older ++ x ∷ []) xs ys all.1)

-- An entry of a list, with what stands before it and behind it.
record Placed (P : List Entry → Entry → Type 0) (older es : List Entry) (e : Entry) : Type 0 where
  before : List Entry
  behind : List Entry
  is : es ≡ before ++ e ∷ behind
  so : P (older ++ before) e

placed : (P : List Entry → Entry → Type 0) (older es : List Entry) (e : Entry) → EachAgainst P older es → IsOne e es → Placed P older es e
placed P older es e all there =
    let k = place_of e es there in
    let parts = parted e es k.0 k.1 in
    record { before = take k.0 es; behind = parts.0; is = parts.1; so = at_place P older es k.0 e all k.1 }

module _ (n : ℕ) (table : List ℕ) (key : Value) where
  -- the changes at the key
  abbrev at_key : List Change → List Change
  at_key cs = filter (is_change_of table key) cs

  key_none : (cs : List Change) → list_any (same_value key) (map (λ c. c.key) (filter (λ c. same_text c.table table) cs)) ≡ false → at_key cs ≡ []
  key_none [] none = refl
  key_none (c ∷ cs) none = by (same_text c.table table) none (key_none cs)
    where
      at : (q : Bool) → (q || list_any (same_value key) (map (λ c. c.key) (filter (λ c. same_text c.table table) cs))) ≡ false
          → (list_any (same_value key) (map (λ c. c.key) (filter (λ c. same_text c.table table) cs)) ≡ false → at_key cs ≡ []) → (if q then c ∷ at_key cs else at_key cs) ≡ []
      at true none rest = absurd (true≢false none)
      at false none rest = rest none

      by : (here : Bool) → list_any (same_value key) (map (λ c. c.key) (if here then c ∷ filter (λ c. same_text c.table table) cs else filter (λ c. same_text c.table table) cs)) ≡ false
          → (list_any (same_value key) (map (λ c. c.key) (filter (λ c. same_text c.table table) cs)) ≡ false → at_key cs ≡ [])
          → (if here && same_value c.key key then c ∷ at_key cs else at_key cs) ≡ []
      by true none rest = at (same_value c.key key) (ap (λ q. q || list_any (same_value key) (map (λ c. c.key) (filter (λ c. same_text c.table table) cs))) (sym (same_is c.key key)) ∙ none) rest
      by false none rest = rest none

  -- a branch in doubt has no changes at a key that is not in doubt
  certain_seal : (book : List Entry) → list_any (same_value key) (keys_in_doubt book n table) ≡ false
      → (b g : BranchId) (cs : List Change) (m : ℕ) → IsOne (entries.Sealed b g cs m) book → b.node ≡ n → stands (is_end_of b) book ≡ false → at_key cs ≡ []
  certain_seal book certain b g cs m there here endless =
      let among : IsOne b (in_doubt book n) = in_doubt_of book n b (record { global = g; changes = cs; scn = m; sealed = there; here = here; endless = endless }) in
      let all : at_key (changes_of book b) ≡ [] = key_none (changes_of book b) (none_in_part (same_value key) (λ b. map (λ c. c.key) (filter (λ c. same_text c.table table) (changes_of book b))) (in_doubt book n) b certain among) in
      let one : at_key (changes_in b (entries.Sealed b g cs m)) ≡ []
      = none_in_flat (λ e. at_key (changes_in b e)) book (entries.Sealed b g cs m) (sym (filter_flat (is_change_of table key) (changes_in b) book) ∙ all) there in
      sym (ap (λ q. at_key (if q then cs else [])) (same_from_equal b b refl)) ∙ one

  module _ (scn : ℕ) (older newer : List Entry) (all : EachAgainst Follows [] (older ++ newer)) (fits : SealsFit (older ++ newer)) (first : EachAgainst ComesFirst [] (older ++ newer)) (above : AboveSeals (older ++ newer))
      (later : (e : Entry) → IsOne e newer → IsAbove n scn e) (certain : list_any (same_value key) (keys_in_doubt older n table) ≡ false) where
    abbrev book : List Entry
    book = older ++ newer

    -- an entry that comes later follows all of the older ones
    new_follows : (e : Entry) → IsOne e newer → Placed Follows older newer e
    new_follows e there = placed Follows older newer e (each_later Follows [] older newer all) there

    new_first : (e : Entry) → IsOne e newer → Placed ComesFirst older newer e
    new_first e there = placed ComesFirst older newer e (each_later ComesFirst [] older newer first) there

    -- an old entry, where a test finds none of the older ones and those between
    not_old : (q : Entry → Bool) (between : List Entry) (e : Entry) → stands q (older ++ between) ≡ false → IsOne e older → q e ≡ true → ⊥
    not_old q between e none there is = true≢false (sym (finds q e (older ++ between) (one_joined e older between there) is) ∙ none)

    -- the parts of a book
    old_stands : (q : Entry → Bool) (between : List Entry) → stands q (older ++ between) ≡ false → stands q older ≡ false
    old_stands q between none = none_left (stands q older) (stands q between) (sym (list_any-append q older between) ∙ none)

    -- ---- what the older ones commit, they commit still

    forced_new : (b : BranchId) (e : Entry) → IsOne e newer → is_forced_of b e ≡ true → (stands (is_sealed_of b) book ≡ true) × (stands (is_end_of b) older ≡ false)
    forced_new b (entries.Forced c d) there is =
        let p = new_follows (entries.Forced c d) there in
        let me : c ≡ b = equal_from_same c b is in
        let sealed : stands (is_sealed_of c) (older ++ p.before) ≡ true = p.so.0 in
        let s = found (is_sealed_of c) (older ++ p.before) sealed in
        let whole : book ≡ (older ++ p.before) ++ entries.Forced c d ∷ p.behind = ap (λ es. older ++ es) p.is ∙ sym (append_assoc older p.before (entries.Forced c d ∷ p.behind)) in (
          subst (λ z. stands (is_sealed_of z) book ≡ true) me (finds (is_sealed_of c) s.0 book (subst (IsOne s.0) (sym whole) (one_joined s.0 (older ++ p.before) (entries.Forced c d ∷ p.behind) s.1)) s.2),
          subst (λ z. stands (is_end_of z) older ≡ false) me (old_stands (is_end_of c) p.before p.so.1),
        )
    forced_new b (entries.Made m x) there is = absurd (true≢false (sym is))
    forced_new b (entries.Sealed c g cs m) there is = absurd (true≢false (sym is))
    forced_new b (entries.Decided c g cs m) there is = absurd (true≢false (sym is))
    forced_new b (entries.Ended c d) there is = absurd (true≢false (sym is))
    forced_new b (entries.Met c d mixed) there is = absurd (true≢false (sym is))

    -- the changes of an old branch count as they did, or are at no key that is certain
    still_unforced : (g b h : BranchId) (cs : List Change) → (b.node ≡ n → stands (is_forced_of b) newer ≡ true → at_key cs ≡ []) → at_key (unforced_at older n g b h cs) ≡ at_key (unforced_at book n g b h cs)
    still_unforced g b h cs none =
        by (same h g) (b.node == n) (stands (is_forced_of b) older) (stands (is_forced_of b) newer) refl refl
        ∙ ap (λ q. at_key (if same h g && ((b.node == n) && not q) then cs else [])) (sym (list_any-append (is_forced_of b) older newer))
      where
        by : (one here old new : Bool) → (b.node == n) ≡ here → stands (is_forced_of b) newer ≡ new
            → at_key (if one && (here && not old) then cs else []) ≡ at_key (if one && (here && not (old || new)) then cs else [])
        by false here old new at is = refl
        by true false old new at is = refl
        by true true true new at is = refl
        by true true false false at is = refl
        by true true false true at is = none (eqb-true b.node n at) is

    old_part : (g : BranchId) (e : Entry) → IsOne e older → at_key (transaction_in older n g e) ≡ at_key (transaction_in book n g e)
    old_part g (entries.Sealed b h cs m) there = still_unforced g b h cs (λ here forced.
        let f = found (is_forced_of b) newer forced in
        certain_seal older certain b h cs m there here (forced_new b f.0 f.1 f.2).1)
    old_part g (entries.Decided b h cs m) there = still_unforced g b h cs (λ here forced.
        let f = found (is_forced_of b) newer forced in
        let s = found (is_sealed_of b) book (forced_new b f.0 f.1 f.2).0 in
        absurd (sealed_decided b s.0 s.1 s.2 (finds (is_decided_of b) (entries.Decided b h cs m) book (one_joined (entries.Decided b h cs m) older newer there) (same_from_equal b b refl))))
      where
        sealed_decided : (b : BranchId) (e : Entry) → IsOne e book → is_sealed_of b e ≡ true → stands (is_decided_of b) book ≡ true → ⊥
        sealed_decided b (entries.Sealed c g cs m) there is decided =
            let me : c ≡ b = equal_from_same c b is in
            true≢false (sym decided ∙ fits.undecided b g cs m (subst (λ z. IsOne (entries.Sealed z g cs m) book) me there))
        sealed_decided b (entries.Made m x) there is decided = absurd (true≢false (sym is))
        sealed_decided b (entries.Decided c g cs m) there is decided = absurd (true≢false (sym is))
        sealed_decided b (entries.Ended c d) there is decided = absurd (true≢false (sym is))
        sealed_decided b (entries.Forced c d) there is decided = absurd (true≢false (sym is))
        sealed_decided b (entries.Met c d mixed) there is decided = absurd (true≢false (sym is))
    old_part g (entries.Made m x) there = refl
    old_part g (entries.Ended b d) there = refl
    old_part g (entries.Forced b d) there = refl
    old_part g (entries.Met b d mixed) there = refl

    -- of a transaction that was decided nothing comes later
    new_part : (b g : BranchId) (cs : List Change) (m : ℕ) → IsOne (entries.Decided b g cs m) older → (e : Entry) → IsOne e newer → transaction_in book n g e ≡ []
    new_part b g cs m decided (entries.Sealed c h ds k) there = by (same h g) refl
      where
        by : (q : Bool) → same h g ≡ q → (if q && ((c.node == n) && not (stands (is_forced_of c) book)) then ds else []) ≡ []
        by false is = refl
        by true is = let p = new_first (entries.Sealed c h ds k) there in
            absurd (not_old (is_decision_on h) p.before (entries.Decided b g cs m) p.so decided (same_from_equal g h (sym (equal_from_same h g is))))
    new_part b g cs m decided (entries.Decided c h ds k) there = by (same h g) refl
      where
        by : (q : Bool) → same h g ≡ q → (if q && ((c.node == n) && not (stands (is_forced_of c) book)) then ds else []) ≡ []
        by false is = refl
        by true is = let p = new_follows (entries.Decided c h ds k) there in
            absurd (not_old (is_decision_on h) p.before (entries.Decided b g cs m) p.so.0 decided (same_from_equal g h (sym (equal_from_same h g is))))
    new_part b g cs m decided (entries.Made k x) there = refl
    new_part b g cs m decided (entries.Ended c d) there = refl
    new_part b g cs m decided (entries.Forced c d) there = refl
    new_part b g cs m decided (entries.Met c d mixed) there = refl

    -- nor of a branch that was forced
    none_new : (b : BranchId) (d : Decision) → IsOne (entries.Forced b d) older → (e : Entry) → IsOne e newer → changes_in b e ≡ []
    none_new b d forced (entries.Sealed c h ds k) there = by (same c b) refl
      where
        by : (q : Bool) → same c b ≡ q → (if q then ds else []) ≡ []
        by false is = refl
        by true is = let p = new_follows (entries.Sealed c h ds k) there in
            absurd (not_old (is_end_of c) p.before (entries.Forced b d) p.so.2 forced (same_from_equal b c (sym (equal_from_same c b is))))
    none_new b d forced (entries.Decided c h ds k) there = by (same c b) refl
      where
        by : (q : Bool) → same c b ≡ q → (if q then ds else []) ≡ []
        by false is = refl
        by true is = let p = new_follows (entries.Decided c h ds k) there in
            absurd (not_old (is_end_of c) p.before (entries.Forced b d) p.so.3 forced (same_from_equal b c (sym (equal_from_same c b is))))
    none_new b d forced (entries.Made k x) there = refl
    none_new b d forced (entries.Ended c o) there = refl
    none_new b d forced (entries.Forced c o) there = refl
    none_new b d forced (entries.Met c o mixed) there = refl

    old_same : (e : Entry) → IsOne e older → at_key (commits_at older n e) ≡ at_key (commits_at book n e)
    old_same (entries.Decided b g cs m) there =
        filter_flat (is_change_of table key) (transaction_in older n g) older
        ∙ (same_flat (λ e. at_key (transaction_in older n g e)) (λ e. at_key (transaction_in book n g e)) older (λ e among. old_part g e among)
        ∙ (sym (filter_flat (is_change_of table key) (transaction_in book n g) older)
        ∙ ap at_key (sym (append-nil (flat_map (transaction_in book n g) older))
        ∙ (ap (λ xs. flat_map (transaction_in book n g) older ++ xs) (sym (none_flat (transaction_in book n g) newer (λ e among. new_part b g cs m there e among)))
        ∙ sym (flat_map-append (transaction_in book n g) older newer)))))
    old_same (entries.Forced b (decisions.Commit m)) there =
        ap (λ xs. at_key (if b.node == n then xs else []))
        (sym (append-nil (changes_of older b)) ∙ (ap (λ xs. changes_of older b ++ xs) (sym (none_flat (changes_in b) newer (λ e among. none_new b (decisions.Commit m) there e among))) ∙ sym (flat_map-append (changes_in b) older newer)))
    old_same (entries.Forced b decisions.Rollback) there = refl
    old_same (entries.Made m x) there = refl
    old_same (entries.Sealed b g cs m) there = refl
    old_same (entries.Ended b d) there = refl
    old_same (entries.Met b d mixed) there = refl

    -- ---- what comes later commits nothing at the key up to the SCN

    -- a transaction is decided once
    once : (b c g : BranchId) (cs ds : List Change) (m k : ℕ) → IsOne (entries.Decided b g cs m) book → IsOne (entries.Decided c g ds k) book → m ≡ k
    once b c g cs ds m k one two = by (nat_lt i.0 j.0) (nat_lt j.0 i.0) refl refl
      where
        i : (p : ℕ) × At book p (entries.Decided b g cs m)
        i = place_of (entries.Decided b g cs m) book one

        j : (p : ℕ) × At book p (entries.Decided c g ds k)
        j = place_of (entries.Decided c g ds k) book two

        by : (p q : Bool) → nat_lt i.0 j.0 ≡ p → nat_lt j.0 i.0 ≡ q → m ≡ k
        by true q is at =
            let before : IsOne (entries.Decided b g cs m) (take j.0 book) = one_before (entries.Decided b g cs m) book i.0 j.0 i.1 (grind (arith, nat_tests, is)) in
            let follows : Follows (take j.0 book) (entries.Decided c g ds k) = at_place Follows [] book j.0 (entries.Decided c g ds k) all j.1 in
            absurd (true≢false (sym (finds (is_decision_on g) (entries.Decided b g cs m) (take j.0 book) before (same_from_equal g g refl)) ∙ follows.0))
        by false true is at =
            let before : IsOne (entries.Decided c g ds k) (take i.0 book) = one_before (entries.Decided c g ds k) book j.0 i.0 j.1 (grind (arith, nat_tests, at)) in
            let follows : Follows (take i.0 book) (entries.Decided b g cs m) = at_place Follows [] book i.0 (entries.Decided b g cs m) all i.1 in
            absurd (true≢false (sym (finds (is_decision_on g) (entries.Decided c g ds k) (take i.0 book) before (same_from_equal g g refl)) ∙ follows.0))
        by false false is at =
            let same_place : i.0 ≡ j.0 = grind (arith, nat_tests, is, at) in
            let both : Some (entries.Decided b g cs m) ≡ Some (entries.Decided c g ds k) = sym i.1 ∙ (ap (λ p. slice_get book p) same_place ∙ j.1) in
            cc both

    -- a sealed branch that was never forced has no end before the decision of its transaction
    open_before : (c g : BranchId) (es : List Change) (m : ℕ) → IsOne (entries.Decided c g es m) newer → (b : BranchId) (cs : List Change) (k : ℕ) → IsOne (entries.Sealed b g cs k) older
        → stands (is_forced_of b) book ≡ false → (e : Entry) → IsOne e older → is_end_of b e ≡ true → ⊥
    open_before c g es m decides b cs k sealed unforced (entries.Ended a d) there is = by d (placed Follows [] older (entries.Ended a d) (old_all Follows older newer [] all) there)
      where
        me : a ≡ b
        me = equal_from_same a b is

        p : Placed Follows older newer (entries.Decided c g es m)
        p = new_follows (entries.Decided c g es m) decides

        old_all : (P : List Entry → Entry → Type 0) (xs ys os : List Entry) → EachAgainst P os (xs ++ ys) → EachAgainst P os xs
        old_all P [] ys os each = tt
        old_all P (x ∷ xs) ys os each = (each.0, old_all P xs ys (os ++ x ∷ []) each.1)

        -- the transaction of the branch, by the entries before its end
        global : (before behind : List Entry) (h : BranchId) → older ≡ before ++ behind → global_in a before ≡ Some h → h ≡ g
        global before behind h split at =
            let stays : global_in a book ≡ Some h = ap (λ xs. global_in a (xs ++ newer)) split ∙ (ap (global_in a) (append_assoc before behind newer) ∙ global_stays a h before (behind ++ newer) at) in
            let both : Some h ≡ Some g = sym stays ∙ (ap (λ z. global_in z book) me ∙ fits.global b g cs k (one_joined (entries.Sealed b g cs k) older newer sealed)) in
            cc both

        by : (d : Decision) → Placed Follows [] older (entries.Ended a d) → ⊥
        by (decisions.Commit i) q = commits (global_in a q.before) refl q.so.2
          where
            commits : (o : Option BranchId) → global_in a q.before ≡ o → AsDecided (decisions.Commit i) o q.before → ⊥
            commits None at decided = decided
            commits (Some h) at decided =
                let x = found (is_decision_at h i) q.before decided in
                let among : IsOne x.0 older = subst (IsOne x.0) (sym q.is) (one_joined x.0 q.before (entries.Ended a (decisions.Commit i) ∷ q.behind) x.1) in
                not_old (is_decision_on g) p.before x.0 p.so.0 among (subst (λ z. is_decision_on z x.0 ≡ true) (global q.before (entries.Ended a (decisions.Commit i) ∷ q.behind) h q.is at) (decision_by h i x.0 x.2))
        by decisions.Rollback q = rolls (global_in a q.before) refl q.so.2
          where
            rolls : (o : Option BranchId) → global_in a q.before ≡ o → AsDecided decisions.Rollback o q.before → ⊥
            rolls None at undecided = undecided
            rolls (Some h) at undecided =
                let one : h ≡ g = global q.before (entries.Ended a decisions.Rollback ∷ q.behind) h q.is at in
                let split : older ++ p.before ≡ q.before ++ ((entries.Ended a decisions.Rollback ∷ q.behind) ++ p.before) = ap (λ xs. xs ++ p.before) q.is ∙ append_assoc q.before (entries.Ended a decisions.Rollback ∷ q.behind) p.before in
                let known : global_in a (older ++ p.before) ≡ Some h = ap (global_in a) split ∙ global_stays a h q.before ((entries.Ended a decisions.Rollback ∷ q.behind) ++ p.before) at in
                let ends : IsOne (entries.Ended a decisions.Rollback) older = there_again q.before q.behind q.is in
                not_old (is_rollback_of (older ++ p.before) g) p.before (entries.Ended a decisions.Rollback) p.so.1 ends (ap (λ o. is_of o g) known ∙ same_from_equal h g one)
              where
                there_again : (before behind : List Entry) → older ≡ before ++ entries.Ended a decisions.Rollback ∷ behind → IsOne (entries.Ended a decisions.Rollback) older
                there_again before behind split = subst (IsOne (entries.Ended a decisions.Rollback)) (sym split) (one_later (entries.Ended a decisions.Rollback) before (entries.Ended a decisions.Rollback ∷ behind) (inl refl))
    open_before c g es m decides b cs k sealed unforced (entries.Forced a d) there is =
        true≢false (sym (finds (is_forced_of b) (entries.Forced a d) book (one_joined (entries.Forced a d) older newer there) is) ∙ unforced)
    open_before c g es m decides b cs k sealed unforced (entries.Made i x) there is = true≢false (sym is)
    open_before c g es m decides b cs k sealed unforced (entries.Sealed a h ds i) there is = true≢false (sym is)
    open_before c g es m decides b cs k sealed unforced (entries.Decided a h ds i) there is = true≢false (sym is)
    open_before c g es m decides b cs k sealed unforced (entries.Met a d mixed) there is = true≢false (sym is)

    -- a decision that comes later, up to the SCN, commits no change at the key
    module _ (c g : BranchId) (es : List Change) (m : ℕ) (decides : IsOne (entries.Decided c g es m) newer) (low : m ≤ scn) where
      if_counted : (b h : BranchId) (cs : List Change) → (h ≡ g → b.node ≡ n → stands (is_forced_of b) book ≡ false → at_key cs ≡ []) → at_key (unforced_at book n g b h cs) ≡ []
      if_counted b h cs none = by (same h g) (b.node == n) (stands (is_forced_of b) book) refl refl refl
        where
          by : (one here q : Bool) → same h g ≡ one → (b.node == n) ≡ here → stands (is_forced_of b) book ≡ q → at_key (if one && (here && not q) then cs else []) ≡ []
          by false here q is at forced = refl
          by true false q is at forced = refl
          by true true true is at forced = refl
          by true true false is at forced = none (equal_from_same h g is) (eqb-true b.node n at) forced

      counts_none : (e : Entry) → IsOne e book → at_key (transaction_in book n g e) ≡ []
      counts_none (entries.Sealed b h cs k) there = if_counted b h cs (λ one here unforced.
          let mine : IsOne (entries.Sealed b g cs k) book = subst (λ z. IsOne (entries.Sealed b z cs k) book) one there in
          elim (one_of_joined (entries.Sealed b g cs k) older newer mine) [
            | inl old ↦ certain_seal older certain b g cs k old here (not_true (stands (is_end_of b) older) (λ some. (let e = found (is_end_of b) older some in open_before c g es m decides b cs k old unforced e.0 e.1 e.2)))
            | inr new ↦ (
                let i = place_of (entries.Decided c g es m) book (one_later (entries.Decided c g es m) older newer decides) in
                let j = place_of (entries.Sealed b g cs k) book mine in
                let seal_below : k < m = above i.0 j.0 c b g es cs m k i.1 j.1 in
                let seal_above : scn ≤ k = later (entries.Sealed b g cs k) new here in
                absurd (omega (arith, seal_below, seal_above, low))
                )
          ])
      counts_none (entries.Decided b h cs k) there = if_counted b h cs (λ one here unforced.
          let mine : IsOne (entries.Decided b g cs k) book = subst (λ z. IsOne (entries.Decided b z cs k) book) one there in
          elim (one_of_joined (entries.Decided b g cs k) older newer mine) [
            | inl old ↦ (let p = new_follows (entries.Decided c g es m) decides in absurd (not_old (is_decision_on g) p.before (entries.Decided b g cs k) p.so.0 old (same_from_equal g g refl)))
            | inr new ↦ (
                let same_scn : k ≡ m = once b c g cs es k m mine (one_later (entries.Decided c g es m) older newer decides) in
                let high : scn < k = later (entries.Decided b g cs k) new here in
                absurd (omega (arith, high, same_scn, low))
                )
          ])
      counts_none (entries.Made i x) there = refl
      counts_none (entries.Ended b d) there = refl
      counts_none (entries.Forced b d) there = refl
      counts_none (entries.Met b d mixed) there = refl

    new_none : (e : Entry) → IsOne e newer → is_until scn e ≡ true → at_key (commits_at book n e) ≡ []
    new_none (entries.Decided c g es m) there until =
        filter_flat (is_change_of table key) (transaction_in book n g) book
        ∙ none_flat (λ e. at_key (transaction_in book n g e)) book (λ e among. counts_none c g es m there (grind (arith, nat_tests, until)) e among)
    new_none (entries.Forced b (decisions.Commit m)) there until = by (b.node == n) refl
      where
        by : (q : Bool) → (b.node == n) ≡ q → at_key (if q then changes_of book b else []) ≡ []
        by false is = refl
        by true is =
            let high : scn < m = later (entries.Forced b (decisions.Commit m)) there (eqb-true b.node n is) in
            let low : m ≤ scn = grind (arith, nat_tests, until) in
            absurd (omega (arith, high, low))
    new_none (entries.Forced b decisions.Rollback) there until = refl
    new_none (entries.Made m x) there until = refl
    new_none (entries.Sealed b g cs m) there until = refl
    new_none (entries.Ended b d) there until = refl
    new_none (entries.Met b d mixed) there until = refl

    -- ---- the rows

    changes_same : at_key (flat_map (commits_at older n) (filter (is_until scn) older)) ≡ at_key (flat_map (commits_at book n) (filter (is_until scn) book))
    changes_same =
        filter_flat (is_change_of table key) (commits_at older n) (filter (is_until scn) older)
        ∙ (same_flat (λ e. at_key (commits_at older n e)) (λ e. at_key (commits_at book n e)) (filter (is_until scn) older) (λ e among. old_same e (one_filtered (is_until scn) e older among).0)
        ∙ (sym (append-nil (flat_map (λ e. at_key (commits_at book n e)) (filter (is_until scn) older)))
        ∙ (ap (λ xs. flat_map (λ e. at_key (commits_at book n e)) (filter (is_until scn) older) ++ xs)
        (sym (none_flat (λ e. at_key (commits_at book n e)) (filter (is_until scn) newer) (λ e among. (let is = one_filtered (is_until scn) e newer among in new_none e is.0 is.1))))
        ∙ (sym (flat_map-append (λ e. at_key (commits_at book n e)) (filter (is_until scn) older) (filter (is_until scn) newer))
        ∙ (ap (flat_map (λ e. at_key (commits_at book n e))) (sym (filter-append (is_until scn) older newer))
        ∙ sym (filter_flat (is_change_of table key) (commits_at book n) (filter (is_until scn) book)))))))

    -- the row at the key stays
    pub row_stays : get (rows_until older n table scn) key ≡ get (rows_until book n table scn) key
    unfolding rows_until
    row_stays =
        got_applied table key [] (flat_map (commits_at older n) (filter (is_until scn) older))
        ∙ (ap (last_row None) changes_same ∙ sym (got_applied table key [] (flat_map (commits_at book n) (filter (is_until scn) book))))
