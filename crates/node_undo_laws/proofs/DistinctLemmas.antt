-- No key is held twice: so where a branch lets its keys go they are free, and a start gives each branch in doubt its own.
use Rattle.std.proofs.Common.{◌≡◌, ℕ, ◌&&◌, not, Bool, true, false, if◌then◌else◌, List, [], ◌∷◌, find, filter, fold, map, Some, None, refl, sym, ap, subst, ◌∙◌, arith, true≢false}
use Rattle.std.specs.List.{AllByRecursion, IsDistinct}
use Rattle.std.specs.Str.{bytes_eq}
use Rattle.std.specs.Cmp.Lexicographic.{bytes_decides}
use Rattle.std.proofs.lemmas.Bool.{and_parts, cond_both}
use Rattle.dtx_values.specs.Order.{same_value}
use Rattle.dtx_values.proofs.ValueOrder.{equal_from_same}
use Rattle.row_locks.specs.Locks.{Lock, is_lock_on, are_on_one_key, AreOnDistinctKeys, is_held_by, other_holder, taken, doubted, without}
use Rattle.node_rules.specs.Data.{Value, Change, BranchId, Doubt}
use Rattle.node_rules.specs.Words.{same}
use Rattle.node_rules.specs.Records.{take_changed, with_doubt}
use Rattle.node_rules.specs.Turn.{with_doubt_of}
use Rattle.stmt_run.specs.Run.{take_keys}
use Rattle.tran_ids.proofs.BranchLemmas as ids
use Rattle.node_undo_laws.specs.Keys.{passes, is_written_by, is_doubted_by, is_held, AreHeld, are_of_one_key}
use Rattle.node_ready_laws.proofs.ListLemmas.{all_weaker, all_filtered}
use Rattle.node_undo_laws.proofs.HoldLemmas.{doubt_holds, doubt_leaves, doubted_again, still_doubted}

-- ---- no key is held twice

-- a lock on other keys than these, and than one that is taken
others_taken : (l : Lock) (ls : List Lock) (b : BranchId) (t : List ℕ) (k : Value) (w : Bool) → is_lock_on t k l ≡ false → AllByRecursion (λ x. are_on_one_key l x ≡ false) ls
    → AllByRecursion (λ x. are_on_one_key l x ≡ false) (taken ls b t k w)
others_taken l [] b t k w off all = (off, tt)
others_taken l (x ∷ ls) b t k w off all =
    cond_both (is_lock_on t k x) _ _ (AllByRecursion (λ x. are_on_one_key l x ≡ false)) (λ here. (all.0, all.1)) (λ other. (all.0, others_taken l ls b t k w off all.1))

pub distinct_taken : (ls : List Lock) (b : BranchId) (t : List ℕ) (k : Value) (w : Bool) → AreOnDistinctKeys ls → AreOnDistinctKeys (taken ls b t k w)
unfolding IsDistinct
distinct_taken [] b t k w apart = (tt, tt)
distinct_taken (l ∷ ls) b t k w apart =
    cond_both (is_lock_on t k l) _ _ AreOnDistinctKeys (λ here. (apart.0, apart.1)) (λ off. (others_taken l ls b t k w off apart.0, distinct_taken ls b t k w apart.1))

pub distinct_filter : (keep : Lock → Bool) (ls : List Lock) → AreOnDistinctKeys ls → AreOnDistinctKeys (filter keep ls)
unfolding IsDistinct
distinct_filter keep [] apart = tt
distinct_filter keep (l ∷ ls) apart =
    cond_both (keep l) _ _ AreOnDistinctKeys
    (λ kept. (all_filtered (λ x. are_on_one_key l x ≡ false) keep ls apart.0, distinct_filter keep ls apart.1)) (λ gone. distinct_filter keep ls apart.1)

all_doubted : (P : Lock → Type 0) (b : BranchId) (ls : List Lock) → AllByRecursion (λ x. P (doubted b x)) ls → AllByRecursion P (map (doubted b) ls)
all_doubted P b [] all = tt
all_doubted P b (l ∷ ls) all = (all.0, all_doubted P b ls all.1)

pub distinct_doubted : (b : BranchId) (ls : List Lock) → AreOnDistinctKeys ls → AreOnDistinctKeys (map (doubted b) ls)
unfolding IsDistinct
distinct_doubted b [] apart = tt
distinct_doubted b (l ∷ ls) apart = (all_doubted (λ x. are_on_one_key (doubted b l) x ≡ false) b ls apart.0, distinct_doubted b ls apart.1)

pub distinct_keys : (keys : List Value) (ls : List Lock) (b : BranchId) (t : List ℕ) (w : Bool) → AreOnDistinctKeys ls → AreOnDistinctKeys (take_keys ls b t w keys)
distinct_keys [] ls b t w apart = apart
distinct_keys (k ∷ ks) ls b t w apart = distinct_keys ks (taken ls b t k w) b t w (distinct_taken ls b t k w apart)

distinct_changed : (cs : List Change) (ls : List Lock) (b : BranchId) → AreOnDistinctKeys ls → AreOnDistinctKeys (fold (take_changed b) ls cs)
distinct_changed [] ls b apart = apart
distinct_changed (c ∷ cs) ls b apart = distinct_changed cs (take_changed b ls c) b (distinct_taken ls b c.table c.key true apart)

pub distinct_doubt : (ls : List Lock) (b : BranchId) (cs : List Change) → AreOnDistinctKeys ls → AreOnDistinctKeys (with_doubt ls b cs)
distinct_doubt ls b cs apart = distinct_doubted b (fold (take_changed b) ls cs) (distinct_changed cs ls b apart)

-- ---- keys that are let go

-- a lock on a key is on the key of any other that is on it
on_as : (l x : Lock) (table : List ℕ) (key : Value) → is_lock_on table key l ≡ true → are_on_one_key l x ≡ false → is_lock_on table key x ≡ false
on_as l x table key on off = by (is_lock_on table key x) refl
  where
    by : (here : Bool) → is_lock_on table key x ≡ here → here ≡ false
    by false is = refl
    by true is =
        let one = and_parts (bytes_eq l.table table) (same_value l.key key) on in
        let two = and_parts (bytes_eq x.table table) (same_value x.key key) is in
        let tables : x.table ≡ table = (bytes_decides x.table table).0 two.0 in
        let keys : x.key ≡ key = equal_from_same x.key key two.1 in
        let both : are_on_one_key l x ≡ true = subst (λ t. is_lock_on t x.key l ≡ true) (sym tables) (subst (λ k. is_lock_on table k l ≡ true) (sym keys) on) in
        absurd (true≢false (sym both ∙ off))

none_on : (table : List ℕ) (key : Value) (keep : Lock → Bool) (ls : List Lock) → AllByRecursion (λ x. is_lock_on table key x ≡ false) ls → find (is_lock_on table key) (filter keep ls) ≡ None
none_on table key keep [] all = refl
none_on table key keep (l ∷ ls) all =
    cond_both (keep l) _ _ (λ ms. find (is_lock_on table key) ms ≡ None) (λ kept. ap (λ q. if q then Some l else find (is_lock_on table key) (filter keep ls)) all.0 ∙ none_on table key keep ls all.1)
    (λ gone. none_on table key keep ls all.1)

-- a key that a branch held is free once its locks are let go
pub let_go : (b : BranchId) (table : List ℕ) (key : Value) (ls : List Lock) → AreOnDistinctKeys ls → is_held (is_written_by b) ls table key ≡ true → find (is_lock_on table key) (without ls b) ≡ None
unfolding IsDistinct
let_go b table key [] apart held = refl
let_go b table key (l ∷ ls) apart held = by (is_lock_on table key l) refl held (let_go b table key ls apart.1)
  where
    by : (there : Bool) → is_lock_on table key l ≡ there → passes (is_written_by b) (if there then Some l else find (is_lock_on table key) ls) ≡ true
        → (is_held (is_written_by b) ls table key ≡ true → find (is_lock_on table key) (without ls b) ≡ None) → find (is_lock_on table key) (without (l ∷ ls) b) ≡ None
    by true is held later =
        let mine : same l.branch b ≡ true = (and_parts (same l.branch b) l.writes held).0 in
        ap (λ q. find (is_lock_on table key) (if not q then l ∷ without ls b else without ls b)) mine
        ∙ none_on table key (λ x. not (is_held_by b x)) ls (all_weaker _ _ (λ x off. on_as l x table key is off) ls apart.0)
    by false is held later =
        cond_both (not (is_held_by b l)) _ _ (λ ms. find (is_lock_on table key) ms ≡ None)
        (λ kept. ap (λ q. if q then Some l else find (is_lock_on table key) (without ls b)) is ∙ later held) (λ gone. later held)

-- ---- a start

-- the key of a change is free for a branch
abbrev pub IsFreeFor : List Lock → BranchId → Change → Type 0
IsFreeFor ls b c = other_holder ls b c.table c.key ≡ None

-- changes of different branches in doubt are of different keys
abbrev pub AreApart : Doubt → Doubt → Type 0
AreApart d e = AllByRecursion (λ x. AllByRecursion (λ y. are_of_one_key x y ≡ true → d.branch ≡ e.branch) e.changes) d.changes

abbrev pub DoubtsApart : List Doubt → Type 0
DoubtsApart [] = Unit {0}
DoubtsApart (d ∷ ds) = AllByRecursion (AreApart d) ds × DoubtsApart ds

-- a key is free still where another branch takes another key, or the branch itself takes one
free_taken : (ls : List Lock) (b c : BranchId) (t : List ℕ) (k : Value) (w : Bool) (table : List ℕ) (key : Value) → ((bytes_eq t table && same_value k key) ≡ true → c ≡ b)
    → other_holder ls b table key ≡ None → other_holder (taken ls c t k w) b table key ≡ None
free_taken [] b c t k w table key one free = by (bytes_eq t table && same_value k key) refl
  where
    by : (here : Bool) → (bytes_eq t table && same_value k key) ≡ here → other_holder (taken [] c t k w) b table key ≡ None
    by true is = let mine : same c b ≡ true = ids.same_from_equal c b (one is) in grind (arith, is, mine)
    by false is = grind (arith, is)
free_taken (l ∷ ls) b c t k w table key one free = grind (arith, free_taken ls b c t k w table key one, free)

free_changed : (xs : List Change) (ls : List Lock) (b c : BranchId) (y : Change) → AllByRecursion (λ x. are_of_one_key x y ≡ true → c ≡ b) xs → IsFreeFor ls b y → IsFreeFor (fold (take_changed c) ls xs) b y
free_changed [] ls b c y one free = free
free_changed (x ∷ xs) ls b c y one free = free_changed xs (take_changed c ls x) b c y one.1 (free_taken ls b c x.table x.key true y.table y.key one.0 free)

-- doubt takes no key
free_doubted : (ls : List Lock) (b c : BranchId) (table : List ℕ) (key : Value) → other_holder ls b table key ≡ None → other_holder (map (doubted c) ls) b table key ≡ None
free_doubted [] b c table key free = refl
free_doubted (l ∷ ls) b c table key free = grind (arith, free_doubted ls b c table key, free)

-- from the changes of one branch to those of the other
turned : (d e : Doubt) (y : Change) (xs : List Change) → ((x : Change) → are_of_one_key x y ≡ true → d.branch ≡ e.branch) → AllByRecursion (λ x. are_of_one_key x y ≡ true → d.branch ≡ e.branch) xs
turned d e y [] one = tt
turned d e y (x ∷ xs) one = (one x, turned d e y xs one)

-- each of the others is apart from a change
each_apart : (P : Change → Change → Type 0) (xs ys : List Change) → AllByRecursion (λ x. AllByRecursion (P x) ys) xs → AllByRecursion (λ y. AllByRecursion (λ x. P x y) xs) ys
each_apart P xs [] all = tt
each_apart P xs (y ∷ ys) all = (all_weaker _ _ (λ x is. is.0) xs all, each_apart P xs ys (all_weaker _ _ (λ x is. is.1) xs all))

module _ (ls : List Lock) (d e : Doubt) (apart : AreApart d e) where
  still_free : AllByRecursion (IsFreeFor ls e.branch) e.changes → AllByRecursion (IsFreeFor (with_doubt_of ls d) e.branch) e.changes
  still_free free = go e.changes (each_apart (λ x y. are_of_one_key x y ≡ true → d.branch ≡ e.branch) d.changes e.changes apart) free
    where
      go : (ys : List Change) → AllByRecursion (λ y. AllByRecursion (λ x. are_of_one_key x y ≡ true → d.branch ≡ e.branch) d.changes) ys → AllByRecursion (IsFreeFor ls e.branch) ys
          → AllByRecursion (IsFreeFor (with_doubt_of ls d) e.branch) ys
      go [] one free = tt
      go (y ∷ ys) one free = (
        free_doubted (fold (take_changed d.branch) ls d.changes) e.branch d.branch y.table y.key (free_changed d.changes ls e.branch d.branch y one.0 free.0),
        go ys one.1 free.1,
      )

-- what a branch in doubt holds stays, as others are put in doubt
doubts_leave : (ds : List Doubt) (ls : List Lock) (b : BranchId) (cs : List Change) → AreHeld (is_doubted_by b) ls cs → AreHeld (is_doubted_by b) (fold with_doubt_of ls ds) cs
doubts_leave [] ls b cs held = held
doubts_leave (d ∷ ds) ls b cs held =
    doubts_leave ds (with_doubt_of ls d) b cs (doubt_leaves (is_doubted_by b) (λ l w is. doubted_again b l w is) (λ l c is. still_doubted b c l is) d.branch d.changes ls cs held)

-- so after a start each branch in doubt holds the keys of its changes
pub start_holds : (ds : List Doubt) (ls : List Lock) → DoubtsApart ds → AllByRecursion (λ d. AllByRecursion (IsFreeFor ls d.branch) d.changes) ds
    → AllByRecursion (λ d. AreHeld (is_doubted_by d.branch) (fold with_doubt_of ls ds) d.changes) ds
start_holds [] ls apart free = tt
start_holds (d ∷ ds) ls apart free = (
  doubts_leave ds (with_doubt_of ls d) d.branch d.changes (doubt_holds d.branch d.changes ls free.0),
  start_holds ds (with_doubt_of ls d) apart.1 (go ds apart.0 free.1),
)
  where
    go : (es : List Doubt) → AllByRecursion (AreApart d) es → AllByRecursion (λ e. AllByRecursion (IsFreeFor ls e.branch) e.changes) es → AllByRecursion (λ e. AllByRecursion (IsFreeFor (with_doubt_of ls d) e.branch) e.changes) es
    go [] apart free = tt
    go (e ∷ es) apart free = (still_free ls d e apart.0 free.0, go es apart.1 free.1)

pub start_distinct : (ds : List Doubt) (ls : List Lock) → AreOnDistinctKeys ls → AreOnDistinctKeys (fold with_doubt_of ls ds)
start_distinct [] ls apart = apart
start_distinct (d ∷ ds) ls apart = start_distinct ds (with_doubt_of ls d) (distinct_doubt ls d.branch d.changes apart)
