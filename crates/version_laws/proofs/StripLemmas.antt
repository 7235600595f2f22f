-- A book without the changes of the branches that commit above an SCN: it agrees where the book does, commits what the book
-- commits up to the SCN, and has no more keys in doubt.
use Rattle.std.proofs.Common.{◌≡◌, ℕ, ◌==◌, ◌&&◌, ◌||◌, not, Bool, true, false, true≢false, if◌then◌else◌, List, [], ◌∷◌, ◌++◌, filter, flat_map, map, Option, Some, None, inl, inr, refl, sym, ap, subst, ◌∙◌}
use Rattle.std.specs.Prelude.{◌⊎◌, nat_le}
use Rattle.std.specs.List.{list_any}
use Rattle.node_rules.specs.Data.{Value, Change, BranchId, Decision}
use Rattle.node_rules.specs.Data.decisions
use Rattle.node_rules.specs.Words.{same, same_text}
use Rattle.run_rules.specs.Data.{Entry}
use Rattle.run_rules.specs.Data.entries
use Rattle.run_rules.specs.Book.{is_sealed_of, is_decided_of, is_forced_of, is_end_of, is_met_of, stands, is_decision_on, is_decision_at, global_in, is_of, is_rollback_of, AsDecided, Follows, EachAgainst, forced_in, decided, changes_in, changes_of, doubt_in, in_doubt}
use Rattle.run_rules.specs.Runs.{keys_in_doubt}
use Rattle.book_laws.specs.SealLaws.{ComesFirst}
use Rattle.book_laws.proofs.ApartLemmas.{FreeOf, IsFree}
use Rattle.book_laws.proofs.CountLemmas.{picked}
use Rattle.book_laws.proofs.PlaceLemmas.{IsOne}
use Rattle.book_laws.proofs.StandLemmas.{Comes}

-- ---- mapped lists

any_mapped : {A B : Type 0} (p : B → Bool) (q : A → Bool) (f : A → B) (xs : List A) → ((x : A) → p (f x) ≡ q x) → list_any p (map f xs) ≡ list_any q xs
any_mapped p q f [] each = refl
any_mapped p q f (x ∷ xs) each = ap (λ b. b || list_any p (map f xs)) (each x) ∙ ap (λ b. q x || b) (any_mapped p q f xs each)

pub map_more : {A B : Type 0} (f : A → B) (xs ys : List A) → map f (xs ++ ys) ≡ map f xs ++ map f ys
map_more f [] ys = refl
map_more f (x ∷ xs) ys = ap (λ zs. f x ∷ zs) (map_more f xs ys)

one_mapped : {A B : Type 0} (f : A → B) (y : B) (xs : List A) → IsOne y (map f xs) → (x : A) × IsOne x xs × (f x ≡ y)
one_mapped f y [] there = absurd there
one_mapped f y (x ∷ xs) (inl here) = (x, inl refl, here)
one_mapped f y (x ∷ xs) (inr there) = let rest = one_mapped f y xs there in (rest.0, inr rest.1, rest.2)

each_mapped : (P : List Entry → Entry → Type 0) (f : Entry → Entry) → ((older : List Entry) (e : Entry) → P older e → P (map f older) (f e)) → (older es : List Entry) → EachAgainst P older es → EachAgainst P (map f older) (map f es)
each_mapped P f each older [] all = tt
each_mapped P f each older (e ∷ es) all = (each older e all.0, subst (λ os. EachAgainst P os (map f es)) (map_more f older (e ∷ [])) (each_mapped P f each (older ++ e ∷ []) es all.1))

-- ---- which branches commit above

-- the SCN at which a branch commits at its node, by force or by the decision of its transaction
abbrev pub scn_by : Option Decision → Option ℕ → Option ℕ
scn_by None m = m
scn_by (Some (decisions.Commit m)) decision = Some m
scn_by (Some decisions.Rollback) decision = None

abbrev pub scn_of : List Entry → BranchId → BranchId → Option ℕ
scn_of book b g = scn_by (forced_in b book) (decided book g)

-- whether it is above this SCN
abbrev pub is_late : ℕ → Option ℕ → Bool
is_late scn None = false
is_late scn (Some m) = not (nat_le m scn)

-- without the changes of a branch that commits so late
abbrev pub strip : List Entry → ℕ → Entry → Entry
strip book scn (entries.Sealed b g cs n) = entries.Sealed b g (if is_late scn (scn_of book b g) then [] else cs) n
strip book scn (entries.Decided b g cs n) = entries.Decided b g (if is_late scn (scn_of book b g) then [] else cs) n
strip book scn e = e

module _ (whole : List Entry) (scn : ℕ) where
  abbrev pub less : List Entry → List Entry
  less es = map (strip whole scn) es

  -- ---- tests see no changes

  sealed_same : (b : BranchId) (e : Entry) → is_sealed_of b (strip whole scn e) ≡ is_sealed_of b e
  sealed_same b (entries.Sealed c g cs n) = refl
  sealed_same b (entries.Decided c g cs n) = refl
  sealed_same b (entries.Made m x) = refl
  sealed_same b (entries.Ended c d) = refl
  sealed_same b (entries.Forced c d) = refl
  sealed_same b (entries.Met c d mixed) = refl

  decided_same : (b : BranchId) (e : Entry) → is_decided_of b (strip whole scn e) ≡ is_decided_of b e
  decided_same b (entries.Sealed c g cs n) = refl
  decided_same b (entries.Decided c g cs n) = refl
  decided_same b (entries.Made m x) = refl
  decided_same b (entries.Ended c d) = refl
  decided_same b (entries.Forced c d) = refl
  decided_same b (entries.Met c d mixed) = refl

  forced_same : (b : BranchId) (e : Entry) → is_forced_of b (strip whole scn e) ≡ is_forced_of b e
  forced_same b (entries.Sealed c g cs n) = refl
  forced_same b (entries.Decided c g cs n) = refl
  forced_same b (entries.Made m x) = refl
  forced_same b (entries.Ended c d) = refl
  forced_same b (entries.Forced c d) = refl
  forced_same b (entries.Met c d mixed) = refl

  end_same : (b : BranchId) (e : Entry) → is_end_of b (strip whole scn e) ≡ is_end_of b e
  end_same b (entries.Sealed c g cs n) = refl
  end_same b (entries.Decided c g cs n) = refl
  end_same b (entries.Made m x) = refl
  end_same b (entries.Ended c d) = refl
  end_same b (entries.Forced c d) = refl
  end_same b (entries.Met c d mixed) = refl

  met_same : (b : BranchId) (e : Entry) → is_met_of b (strip whole scn e) ≡ is_met_of b e
  met_same b (entries.Sealed c g cs n) = refl
  met_same b (entries.Decided c g cs n) = refl
  met_same b (entries.Made m x) = refl
  met_same b (entries.Ended c d) = refl
  met_same b (entries.Forced c d) = refl
  met_same b (entries.Met c d mixed) = refl

  decision_same : (g : BranchId) (e : Entry) → is_decision_on g (strip whole scn e) ≡ is_decision_on g e
  decision_same g (entries.Sealed c h cs n) = refl
  decision_same g (entries.Decided c h cs n) = refl
  decision_same g (entries.Made m x) = refl
  decision_same g (entries.Ended c d) = refl
  decision_same g (entries.Forced c d) = refl
  decision_same g (entries.Met c d mixed) = refl

  decision_at_same : (g : BranchId) (n : ℕ) (e : Entry) → is_decision_at g n (strip whole scn e) ≡ is_decision_at g n e
  decision_at_same g n (entries.Sealed c h cs m) = refl
  decision_at_same g n (entries.Decided c h cs m) = refl
  decision_at_same g n (entries.Made m x) = refl
  decision_at_same g n (entries.Ended c d) = refl
  decision_at_same g n (entries.Forced c d) = refl
  decision_at_same g n (entries.Met c d mixed) = refl

  global_same : (b : BranchId) (es : List Entry) → global_in b (less es) ≡ global_in b es
  global_same b [] = refl
  global_same b (entries.Sealed c g cs n ∷ es) = ap (λ o. if same c b then Some g else o) (global_same b es)
  global_same b (entries.Decided c g cs n ∷ es) = global_same b es
  global_same b (entries.Made m x ∷ es) = global_same b es
  global_same b (entries.Ended c d ∷ es) = global_same b es
  global_same b (entries.Forced c d ∷ es) = global_same b es
  global_same b (entries.Met c d mixed ∷ es) = global_same b es

  rollback_same : (es : List Entry) (g : BranchId) (e : Entry) → is_rollback_of (less es) g (strip whole scn e) ≡ is_rollback_of es g e
  rollback_same es g (entries.Ended b decisions.Rollback) = ap (λ o. is_of o g) (global_same b es)
  rollback_same es g (entries.Ended b (decisions.Commit n)) = refl
  rollback_same es g (entries.Met b decisions.Rollback mixed) = ap (λ o. is_of o g) (global_same b es)
  rollback_same es g (entries.Met b (decisions.Commit n) mixed) = refl
  rollback_same es g (entries.Sealed c h cs n) = refl
  rollback_same es g (entries.Decided c h cs n) = refl
  rollback_same es g (entries.Made m x) = refl
  rollback_same es g (entries.Forced c d) = refl

  -- so they find in it what they find in the book
  module _ (es : List Entry) where
    sealed_stands : (b : BranchId) → stands (is_sealed_of b) (less es) ≡ stands (is_sealed_of b) es
    sealed_stands b = any_mapped (is_sealed_of b) (is_sealed_of b) (strip whole scn) es (sealed_same b)

    decided_stands : (b : BranchId) → stands (is_decided_of b) (less es) ≡ stands (is_decided_of b) es
    decided_stands b = any_mapped (is_decided_of b) (is_decided_of b) (strip whole scn) es (decided_same b)

    pub forced_stands : (b : BranchId) → stands (is_forced_of b) (less es) ≡ stands (is_forced_of b) es
    forced_stands b = any_mapped (is_forced_of b) (is_forced_of b) (strip whole scn) es (forced_same b)

    end_stands : (b : BranchId) → stands (is_end_of b) (less es) ≡ stands (is_end_of b) es
    end_stands b = any_mapped (is_end_of b) (is_end_of b) (strip whole scn) es (end_same b)

    met_stands : (b : BranchId) → stands (is_met_of b) (less es) ≡ stands (is_met_of b) es
    met_stands b = any_mapped (is_met_of b) (is_met_of b) (strip whole scn) es (met_same b)

    decision_stands : (g : BranchId) → stands (is_decision_on g) (less es) ≡ stands (is_decision_on g) es
    decision_stands g = any_mapped (is_decision_on g) (is_decision_on g) (strip whole scn) es (decision_same g)

    decision_at_stands : (g : BranchId) (n : ℕ) → stands (is_decision_at g n) (less es) ≡ stands (is_decision_at g n) es
    decision_at_stands g n = any_mapped (is_decision_at g n) (is_decision_at g n) (strip whole scn) es (decision_at_same g n)

    rollback_stands : (g : BranchId) → stands (is_rollback_of (less es) g) (less es) ≡ stands (is_rollback_of es g) es
    rollback_stands g = any_mapped (is_rollback_of (less es) g) (is_rollback_of es g) (strip whole scn) es (rollback_same es g)

    as_decided : (d : Decision) (o : Option BranchId) → AsDecided d o es → AsDecided d o (less es)
    as_decided d None is = absurd is
    as_decided (decisions.Commit n) (Some g) is = decision_at_stands g n ∙ is
    as_decided decisions.Rollback (Some g) is = decision_stands g ∙ is

    as_decided_global : (d : Decision) (b : BranchId) → AsDecided d (global_in b es) es → AsDecided d (global_in b (less es)) (less es)
    as_decided_global d b is = subst (λ o. AsDecided d o (less es)) (sym (global_same b es)) (as_decided d (global_in b es) is)

    -- ---- it agrees

    follows_still : (e : Entry) → Follows es e → Follows (less es) (strip whole scn e)
    follows_still (entries.Made m x) follows = tt
    follows_still (entries.Sealed b g cs n) follows = (sealed_stands b ∙ follows.0, decided_stands b ∙ follows.1, end_stands b ∙ follows.2)
    follows_still (entries.Decided b g cs n) follows = (decision_stands g ∙ follows.0, rollback_stands g ∙ follows.1, sealed_stands b ∙ follows.2, end_stands b ∙ follows.3)
    follows_still (entries.Ended b d) follows = (sealed_stands b ∙ follows.0, end_stands b ∙ follows.1, as_decided_global d b follows.2)
    follows_still (entries.Forced b d) follows = (sealed_stands b ∙ follows.0, end_stands b ∙ follows.1)
    follows_still (entries.Met b d mixed) follows = (forced_stands b ∙ follows.0, met_stands b ∙ follows.1, as_decided_global d b follows.2)

    first_still : (e : Entry) → ComesFirst es e → ComesFirst (less es) (strip whole scn e)
    first_still (entries.Sealed b g cs n) first = decision_stands g ∙ first
    first_still (entries.Made m x) first = tt
    first_still (entries.Decided b g cs n) first = tt
    first_still (entries.Ended b d) first = tt
    first_still (entries.Forced b d) first = tt
    first_still (entries.Met b d mixed) first = tt

  -- an entry that seals is one that sealed
  was_sealed : (b g : BranchId) (cs : List Change) (n : ℕ) (e : Entry) → strip whole scn e ≡ entries.Sealed b g cs n → (ds : List Change) × (e ≡ entries.Sealed b g ds n) × ((cs ≡ []) ⊎ (cs ≡ ds))
  was_sealed b g cs n (entries.Sealed c h ds m) is =
      let me : c ≡ b = cc is in
      let root : h ≡ g = cc is in
      let at : m ≡ n = cc is in
      let left : (if is_late scn (scn_of whole c h) then [] else ds) ≡ cs = cc is in
      (ds, (ap (λ z. entries.Sealed z h ds m) me ∙ (ap (λ z. entries.Sealed b z ds m) root ∙ ap (entries.Sealed b g ds) at)), by (is_late scn (scn_of whole c h)) left)
    where
      by : (q : Bool) → (if q then [] else ds) ≡ cs → (cs ≡ []) ⊎ (cs ≡ ds)
      by true is = inl (sym is)
      by false is = inr (sym is)
  was_sealed b g cs n (entries.Decided c h ds m) is = absurd cc
  was_sealed b g cs n (entries.Made m x) is = absurd cc
  was_sealed b g cs n (entries.Ended c d) is = absurd cc
  was_sealed b g cs n (entries.Forced c d) is = absurd cc
  was_sealed b g cs n (entries.Met c d mixed) is = absurd cc

  module _ (n : ℕ) (table : List ℕ) (key : Value) where
    picked_less : (q : Bool) (cs : List Change) → picked n table key cs ≡ [] → picked n table key (if q then [] else cs) ≡ []
    picked_less true cs none = refl
    picked_less false cs none = none

    picked_either : (cs ds : List Change) → (cs ≡ []) ⊎ (cs ≡ ds) → picked n table key ds ≡ [] → picked n table key cs ≡ []
    picked_either cs ds (inl is) none = ap (picked n table key) is
    picked_either cs ds (inr is) none = ap (picked n table key) is ∙ none

    free_less : (es : List Entry) (q : Bool) (ds : List Change) → FreeOf n table key es ds → FreeOf n table key (less es) (if q then [] else ds)
    free_less es q ds free b g cs m there here endless =
        let at = one_mapped (strip whole scn) (entries.Sealed b g cs m) es there in
        let was = was_sealed b g cs m at.0 at.2 in
        elim (free b g was.0 m (subst (λ e. IsOne e es) was.1 at.1) here (sym (end_stands es b) ∙ endless)) [
          | inl none ↦ inl (picked_either cs was.0 was.2 none)
          | inr none ↦ inr (picked_less q ds none)
        ]

    free_still : (es : List Entry) (e : Entry) → IsFree n table key es e → IsFree n table key (less es) (strip whole scn e)
    free_still es (entries.Sealed c g ds m) free = λ here. free_less es (is_late scn (scn_of whole c g)) ds (free here)
    free_still es (entries.Decided c g ds m) free = λ here. free_less es (is_late scn (scn_of whole c g)) ds (free here)
    free_still es (entries.Made m x) free = tt
    free_still es (entries.Ended c d) free = tt
    free_still es (entries.Forced c d) free = tt
    free_still es (entries.Met c d mixed) free = tt

    comes_still : (es : List Entry) (e : Entry) → Comes n table key es e → Comes n table key (less es) (strip whole scn e)
    comes_still es e comes = record { follows = follows_still es e comes.follows; first = first_still es e comes.first; free = free_still es e comes.free }

    -- each entry comes as it did
    pub all_come : (es : List Entry) → EachAgainst (Comes n table key) [] es → EachAgainst (Comes n table key) [] (less es)
    all_come es all = each_mapped (Comes n table key) (strip whole scn) comes_still [] es all

  -- ---- the keys in doubt

  doubt_same : (es : List Entry) (n : ℕ) (e : Entry) → doubt_in (less es) n (strip whole scn e) ≡ doubt_in es n e
  doubt_same es n (entries.Sealed b g cs m) = ap (λ q. if (b.node == n) && not q then b ∷ [] else []) (end_stands es b)
  doubt_same es n (entries.Decided b g cs m) = refl
  doubt_same es n (entries.Made m x) = refl
  doubt_same es n (entries.Ended b d) = refl
  doubt_same es n (entries.Forced b d) = refl
  doubt_same es n (entries.Met b d mixed) = refl

  flat_mapped : {A : Type 0} (f g : Entry → List A) (es : List Entry) → ((e : Entry) → f (strip whole scn e) ≡ g e) → flat_map f (less es) ≡ flat_map g es
  flat_mapped f g [] each = refl
  flat_mapped f g (e ∷ es) each = ap (λ xs. xs ++ flat_map f (less es)) (each e) ∙ ap (λ xs. g e ++ xs) (flat_mapped f g es each)

  in_doubt_same : (es : List Entry) (n : ℕ) → in_doubt (less es) n ≡ in_doubt es n
  unfolding in_doubt
  in_doubt_same es n = flat_mapped (doubt_in (less es) n) (doubt_in es n) es (doubt_same es n)

  module _ (table : List ℕ) (test : Value → Bool) where
    -- whether the test passes a key of these changes
    abbrev passes : List Change → Bool
    passes cs = list_any test (map (λ c. c.key) (filter (λ c. same_text c.table table) cs))

    passes_more : (cs ds : List Change) → passes (cs ++ ds) ≡ (passes cs || passes ds)
    passes_more [] ds = refl
    passes_more (c ∷ cs) ds = by (same_text c.table table) (passes_more cs ds)
      where
        or_all : (p q r s : Bool) → q ≡ (r || s) → (p || q) ≡ ((p || r) || s)
        or_all true q r s is = refl
        or_all false q r s is = is

        by : (here : Bool) → passes (cs ++ ds) ≡ (passes cs || passes ds)
            → list_any test (map (λ c. c.key) (if here then c ∷ filter (λ c. same_text c.table table) (cs ++ ds) else filter (λ c. same_text c.table table) (cs ++ ds)))
            ≡ (list_any test (map (λ c. c.key) (if here then c ∷ filter (λ c. same_text c.table table) cs else filter (λ c. same_text c.table table) cs)) || passes ds)
        by true rest = or_all (test c.key) (passes (cs ++ ds)) (passes cs) (passes ds) rest
        by false rest = rest

    neither : (p q : Bool) → (p || q) ≡ false → (p ≡ false) × (q ≡ false)
    neither true q none = absurd (true≢false none)
    neither false q none = (refl, none)

    none_joined : (cs ds es fs : List Change) → (passes cs ≡ false → passes es ≡ false) → (passes ds ≡ false → passes fs ≡ false) → passes (cs ++ ds) ≡ false → passes (es ++ fs) ≡ false
    none_joined cs ds es fs one other none =
        let parts = neither (passes cs) (passes ds) (sym (passes_more cs ds) ∙ none) in
        passes_more es fs ∙ (ap (λ q. q || passes fs) (one parts.0) ∙ other parts.1)

    none_less : (q r : Bool) (cs : List Change) → passes (if q then cs else []) ≡ false → passes (if q then (if r then [] else cs) else []) ≡ false
    none_less true true cs none = refl
    none_less true false cs none = none
    none_less false r cs none = refl

    none_in : (b : BranchId) (e : Entry) → passes (changes_in b e) ≡ false → passes (changes_in b (strip whole scn e)) ≡ false
    none_in b (entries.Sealed c g cs m) none = none_less (same c b) (is_late scn (scn_of whole c g)) cs none
    none_in b (entries.Decided c g cs m) none = none_less (same c b) (is_late scn (scn_of whole c g)) cs none
    none_in b (entries.Made m x) none = refl
    none_in b (entries.Ended c d) none = refl
    none_in b (entries.Forced c d) none = refl
    none_in b (entries.Met c d mixed) none = refl

    none_of : (b : BranchId) (es : List Entry) → passes (changes_of es b) ≡ false → passes (changes_of (less es) b) ≡ false
    none_of b [] none = refl
    none_of b (e ∷ es) none = none_joined (changes_in b e) (changes_of es b) (changes_in b (strip whole scn e)) (changes_of (less es) b) (none_in b e) (none_of b es) none

    none_flat : {A : Type 0} (p : A → Bool) (f g : BranchId → List A) (bs : List BranchId) → ((b : BranchId) → list_any p (f b) ≡ false → list_any p (g b) ≡ false) → list_any p (flat_map f bs) ≡ false → list_any p (flat_map g bs) ≡ false
    none_flat p f g [] each none = refl
    none_flat p f g (b ∷ bs) each none =
        let parts = neither (list_any p (f b)) (list_any p (flat_map f bs)) (sym (any_more p (f b) (flat_map f bs)) ∙ none) in
        any_more p (g b) (flat_map g bs) ∙ (ap (λ q. q || list_any p (flat_map g bs)) (each b parts.0) ∙ none_flat p f g bs each parts.1)
      where
        any_more : {A : Type 0} (p : A → Bool) (xs ys : List A) → list_any p (xs ++ ys) ≡ (list_any p xs || list_any p ys)
        any_more p [] ys = refl
        any_more p (x ∷ xs) ys = by (p x) (any_more p xs ys)
          where
            by : (q : Bool) → list_any p (xs ++ ys) ≡ (list_any p xs || list_any p ys) → (q || list_any p (xs ++ ys)) ≡ ((q || list_any p xs) || list_any p ys)
            by true rest = refl
            by false rest = rest

    -- a key that is not in doubt by the book is not in doubt without these changes
    pub still_certain : (es : List Entry) (n : ℕ) → list_any test (keys_in_doubt es n table) ≡ false → list_any test (keys_in_doubt (less es) n table) ≡ false
    still_certain es n none =
        ap (λ bs. list_any test (flat_map (λ b. map (λ c. c.key) (filter (λ c. same_text c.table table) (changes_of (less es) b))) bs)) (in_doubt_same es n)
        ∙ none_flat test (λ b. map (λ c. c.key) (filter (λ c. same_text c.table table) (changes_of es b))) (λ b. map (λ c. c.key) (filter (λ c. same_text c.table table) (changes_of (less es) b))) (in_doubt es n) (λ b is. none_of b es is) none
