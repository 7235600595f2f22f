-- What the maps of locks keep: the number of the lock on each key, distinct keys, and how many locks are in doubt.
use Rattle.std.proofs.Common.{◌≡◌, ℕ, ◌+◌, ◌<◌, ◌≤◌, zero, suc, Bool, true, false, cond, not, ◌&&◌, ◌||◌, List, [], ◌∷◌, filter, find, length, slice_get, get_or, position, None, Some, Option, is_some, refl, sym, ap, subst, ◌∙◌, arith, true≢false}
use Rattle.std.proofs.lemmas.Bool.{and_parts}
use Rattle.std.proofs.lemmas.List.Quantifiers.{position-Some}
use Rattle.std.proofs.lemmas.Option.{slice_get-get_or}
use Rattle.std.specs.Cow.{cow_value}
use Rattle.std.specs.Cmp.Lexicographic.{bytes_decides}
use Rattle.std.specs.List.{IsDistinct, list_any}
use Rattle.std.specs.Map.{lookup, keys_of, remove_entry}
use Rattle.std.specs.BTreeMap.{insert_entry}
use Rattle.std.specs.List.Sorted.{IsStrictlySortedBy}
use Rattle.std.specs.Ordering.{nat_cmp}
use Rattle.std.specs.Option.{option_map}
use Rattle.std.specs.Str.{bytes_eq}
use Rattle.dtx_values.specs.declared.value.Value.{Value}
use Rattle.dtx_values.specs.Order.{same_value}
use Rattle.dtx_values.proofs.ValueOrder.{equal_from_same}
use Rattle.row_locks.specs.declared.held_key.HeldKey.{HeldKey}
use Rattle.row_locks.specs.declared.lock_key.LockKey.{LockKey}
use Rattle.row_locks.specs.contracts.lock_key.LockKeyEq.TheImpl.Laws.{laws-law}
use Rattle.row_locks.specs.Locks.{Lock, is_lock_on, are_on_one_key}
use Rattle.row_locks.specs.Numbered.{Numbered, lock_of, is_on, is_number, is_among, number_on, number_at, written, doubtful, is_live_one, changed_at, HasNone, HaveOwnNumbers, AreNumbered}
use Rattle.row_locks.proofs.NumberLaws.{number_itself, number_flips, own_from_order, insert_last, removed, own_less, own_changed}
use Rattle.row_locks.proofs.KeyLaws.{none_on}
use Rattle.row_locks.proofs.FindLaws.{found_as, asked, lookup_is, hit_is}
use Rattle.row_locks.proofs.MoreLaws.{found_more, distinct_more, below_more, counted_more}
use Rattle.row_locks.proofs.LessLaws.{one_if, number_less, distinct_less, below_less, left, doubts_less, some_live}
use Rattle.row_locks.proofs.ChangedLaws.{doubts_more, number_changed, distinct_changed, below_changed, doubts_changed}

-- no lock
pub nothing_kept : (es : List Numbered) (ks : List (LockKey × ℕ)) → es ≡ [] → ks ≡ [] → AreNumbered es ks 0 0
unfolding IsDistinct
nothing_kept es ks none empty =
    let start : AreNumbered [] [] 0 0 = record { apart = record { numbers = tt; keys = tt }; below = tt; found = λ table key. refl; counted = refl } in
    subst (λ (xs : List (LockKey × ℕ)). AreNumbered es xs 0 0) (sym empty) (subst (λ (xs : List Numbered). AreNumbered xs [] 0 0) (sym none) start)

-- and where the map of keys has none, nobody holds the key
pub nobody_on : (es : List Numbered) (ks : List (LockKey × ℕ)) (next count : ℕ) (table : List ℕ) (key : Value) → AreNumbered es ks next count
    → number_at ks table key ≡ None → find (is_on table key) es ≡ None
nobody_on es ks next count table key are none = from (find (is_on table key) es) (sym (are.found table key) ∙ none)
  where
    from : (found : Option Numbered) → option_map (λ e. e.0) found ≡ None → found ≡ None
    from None h = refl
    from (Some e) h = absurd cc

number_found : (e : Numbered) (n : ℕ) → Some e.0 ≡ Some n → e.0 ≡ n
number_found e n is = cc

found_apart : (table : List ℕ) (key : Value) (n m : ℕ) (xs : List Numbered) → HasNone m xs → number_on xs table key ≡ Some n → is_number n m ≡ false
found_apart table key n m [] none h = absurd cc
found_apart table key n m (x ∷ xs) none h = by (is_on table key x) h (found_apart table key n m xs none.1)
  where
    by : (b : Bool) → option_map (λ y. y.0) (cond b (Some x) (find (is_on table key) xs)) ≡ Some n → (number_on xs table key ≡ Some n → is_number n m ≡ false) → is_number n m ≡ false
    by true is rest = number_flips n m ∙ ap (is_number m) (sym (number_found x n is)) ∙ none.0
    by false is rest = rest is

-- what is found under the number of a key is the lock on it
pub lock_on : (table : List ℕ) (key : Value) (n : ℕ) (es : List Numbered) → HaveOwnNumbers es → number_on es table key ≡ Some n
    → find (is_on table key) es ≡ option_map (λ h. (n, h)) (lookup (is_number n) es)
lock_on table key n [] own there = absurd cc
lock_on table key n (e ∷ es) own there = by (is_on table key e) there own.0 (lock_on table key n es own.1)
  where
    by : (b : Bool) → option_map (λ x. x.0) (cond b (Some e) (find (is_on table key) es)) ≡ Some n
        → HasNone e.0 es → (number_on es table key ≡ Some n → find (is_on table key) es ≡ option_map (λ h. (n, h)) (lookup (is_number n) es))
        → cond b (Some e) (find (is_on table key) es) ≡ option_map (λ h. (n, h)) (cond (is_number n e.0) (Some e.1) (lookup (is_number n) es))
    by true is none rest =
        let number = number_found e n is in
        (λ i. Some (number i, e.1))
        ∙ ap (λ b. option_map (λ (h : HeldKey). (n, h)) (cond b (Some e.1) (lookup (is_number n) es))) (sym (ap (is_number n) number ∙ number_itself n))
    by false is none rest =
        rest is
        ∙ ap (λ b. option_map (λ (h : HeldKey). (n, h)) (cond b (Some e.1) (lookup (is_number n) es))) (sym (found_apart table key n e.0 es none is))

-- ---- what the calls leave

key_at : {K X : Type 0} (es : List (K × X)) (i : ℕ) (d : K × X) → get_or (keys_of es) i d.0 ≡ (get_or es i d).0
key_at [] i d = refl
key_at (e ∷ es) zero d = refl
key_at (e ∷ es) (suc i) d = key_at es i d

keys_long : {K X : Type 0} (es : List (K × X)) → length (keys_of es) ≡ length es
keys_long [] = refl
keys_long (e ∷ es) = ap suc (keys_long es)

-- the first entry that passes a test
pub first_entry : {K X : Type 0} (t : K → Bool) (es : List (K × X)) (i : ℕ) (d : K × X) → position t (keys_of es) ≡ Some i
    → (slice_get es i ≡ Some (get_or es i d)) × (t (get_or es i d).0 ≡ true)
first_entry t es i d at =
    let h = position-Some t (keys_of es) i d.0 at in
    (slice_get-get_or es i d (subst (λ n. i < n) (keys_long es) h.0), ap t (sym (key_at es i d)) ∙ h.1)

-- the map has no number any more for the key of a lock
pub forgotten : (h : HeldKey) (ks left : List (LockKey × ℕ)) (k : LockKey) → found_as (asked h.table h.key) k ≡ true
    → ((q : LockKey) → lookup (found_as q) left ≡ cond (found_as k q) None (lookup (found_as q) ks))
    → (table : List ℕ) (key : Value) → number_at left table key ≡ cond (is_lock_on table key (lock_of h)) None (number_at ks table key)
forgotten h ks left k its put table key =
    sym (lookup_is (asked table key) left) ∙ put (asked table key)
    ∙ (λ i. cond ((sym (laws-law.congr (asked h.table h.key) k (asked table key) its) ∙ hit_is (asked h.table h.key) h table key refl refl) i) None (lookup_is (asked table key) ks i))

none_at : (o : Option ℕ) → false ≡ is_some o → o ≡ None
none_at None h = refl
none_at (Some n) h = absurd (true≢false (sym h))

pub nothing_forgotten : (h : HeldKey) (ks : List (LockKey × ℕ)) → false ≡ is_some (lookup (found_as (asked h.table h.key)) ks)
    → (table : List ℕ) (key : Value) → number_at ks table key ≡ cond (is_lock_on table key (lock_of h)) None (number_at ks table key)
nothing_forgotten h ks none table key = by (is_lock_on table key (lock_of h)) refl
  where
    here : number_at ks h.table h.key ≡ None
    here = sym (lookup_is (asked h.table h.key) ks) ∙ none_at (lookup (found_as (asked h.table h.key)) ks) none

    by : (b : Bool) → is_lock_on table key (lock_of h) ≡ b → number_at ks table key ≡ cond b None (number_at ks table key)
    by true on =
        let both = and_parts (bytes_eq h.table table) (same_value h.key key) on in
        let tables = (bytes_decides h.table table).0 both.0 in
        let keys = equal_from_same h.key key both.1 in
        (λ i. number_at ks (sym tables i) (sym keys i)) ∙ here
    by false on = refl

pub one_more : (h : HeldKey) (n next doubted : ℕ) (es fs : List Numbered) (ks ls : List (LockKey × ℕ)) (k : LockKey) → AreNumbered es ks n doubted
    → find (is_on h.table h.key) es ≡ None → h.in_doubt ≡ false → fs ≡ insert_entry nat_cmp es n h → IsStrictlySortedBy nat_cmp (keys_of fs) → n < next
    → cow_value k.table ≡ h.table → cow_value k.key ≡ h.key → ((q : LockKey) → lookup (found_as q) ls ≡ cond (found_as k q) (Some n) (lookup (found_as q) ks))
    → AreNumbered fs ls next doubted
one_more h n next doubted es fs ks ls k are free live entries order less tables keys put =
    let is = entries ∙ insert_last n h es are.below in
    let none = none_on h.table h.key es free in
    let own = subst HaveOwnNumbers is (own_from_order fs order) in
    subst (λ (xs : List Numbered). AreNumbered xs ls next doubted) (sym is)
    (record {
      apart = record { numbers = own; keys = distinct_more n h es none are.apart.keys };
      below = below_more n h next es less are.below;
      found = found_more n h ks ls k es tables keys put none are.found;
      counted = are.counted ∙ sym (counted_more n h es live);
    })

-- a lock that is dropped
pub one_less : (h : HeldKey) (n next doubted rest : ℕ) (es fs : List Numbered) (ks ls : List (LockKey × ℕ)) → AreNumbered es ks next doubted → lookup (is_number n) es ≡ Some h
    → fs ≡ remove_entry (is_number n) es → rest + one_if h.in_doubt ≡ doubted
    → ((table : List ℕ) (key : Value) → number_at ls table key ≡ cond (is_lock_on table key (lock_of h)) None (number_at ks table key))
    → AreNumbered fs ls next rest
one_less h n next doubted rest es fs ks ls are there entries count put =
    let is = entries ∙ removed n es are.apart.numbers in
    let test : Numbered → Bool = λ e. not (is_among (n ∷ []) e.0) in
    let fewer = doubts_less n h es are.apart.numbers there in
    let counted : doubted ≡ length (filter (λ e. e.1.in_doubt) es) = are.counted in
    subst (λ (xs : List Numbered). AreNumbered xs ls next rest) (sym is)
    (record {
      apart = record { numbers = own_less test es are.apart.numbers; keys = distinct_less test es are.apart.keys };
      below = below_less test next es are.below;
      found = λ table key. put table key ∙ ap (cond (is_lock_on table key (lock_of h)) None) (are.found table key) ∙ sym (number_less n h table key es are.apart.numbers are.apart.keys there);
      counted = omega arith;
    })

-- where a lock in doubt is dropped there was one
pub some_doubted : (h : HeldKey) (n : ℕ) (es : List Numbered) → HaveOwnNumbers es → lookup (is_number n) es ≡ Some h → h.in_doubt ≡ true → 1 ≤ length (filter (λ e. e.1.in_doubt) es)
some_doubted h n es own there on =
    let fewer = doubts_less n h es own there in
    let one : one_if h.in_doubt ≡ 1 = ap one_if on in
    omega arith

-- a lock that is changed, on its key, in doubt as before
pub one_changed : (f : HeldKey → HeldKey) → ((h : HeldKey) (table : List ℕ) (key : Value) → is_lock_on table key (lock_of (f h)) ≡ is_lock_on table key (lock_of h))
    → ((h : HeldKey) (l : Lock) → are_on_one_key l (lock_of (f h)) ≡ are_on_one_key l (lock_of h)) → ((h : HeldKey) → (f h).in_doubt ≡ h.in_doubt)
    → (n next doubted : ℕ) (es fs : List Numbered) (ks : List (LockKey × ℕ)) → AreNumbered es ks next doubted → fs ≡ changed_at f (n ∷ []) es → AreNumbered fs ks next doubted
one_changed f stays alike keeps n next doubted es fs ks are is =
    subst (λ (xs : List Numbered). AreNumbered xs ks next doubted) (sym is)
    (record {
      apart = record { numbers = own_changed f (n ∷ []) es are.apart.numbers; keys = distinct_changed f (n ∷ []) stays alike es are.apart.keys };
      below = below_changed f (n ∷ []) stays alike next es are.below;
      found = λ table key. are.found table key ∙ sym (number_changed f (n ∷ []) stays alike es table key);
      counted = are.counted ∙ sym (doubts_changed f (n ∷ []) keeps es);
    })

-- locks that are written
pub one_written : (n next doubted : ℕ) (es fs : List Numbered) (ks : List (LockKey × ℕ)) → AreNumbered es ks next doubted → fs ≡ changed_at written (n ∷ []) es → AreNumbered fs ks next doubted
one_written = one_changed written (λ h t k. refl) (λ h l. refl) (λ h. refl)

live_one : (o : Option HeldKey) → true ≡ is_live_one o → (h : HeldKey) × (o ≡ Some h) × (h.in_doubt ≡ false)
live_one None h = absurd (true≢false h)
live_one (Some x) h = (x, refl, live_so x.in_doubt h)
  where
    live_so : (b : Bool) → true ≡ not b → b ≡ false
    live_so true h = absurd (true≢false h)
    live_so false h = refl

-- a lock that is in doubt from now on
pub one_doubted : (n next doubted : ℕ) (es fs : List Numbered) (ks : List (LockKey × ℕ)) → AreNumbered es ks next doubted → true ≡ is_live_one (lookup (is_number n) es)
    → fs ≡ changed_at doubtful (n ∷ []) es → AreNumbered fs ks next (doubted + 1)
one_doubted n next doubted es fs ks are live is =
    let one = live_one (lookup (is_number n) es) live in
    let more = doubts_more n one.0 es are.apart.numbers one.1 one.2 in
    subst (λ (xs : List Numbered). AreNumbered xs ks next (doubted + 1)) (sym is)
    (record {
      apart = record { numbers = own_changed doubtful (n ∷ []) es are.apart.numbers; keys = distinct_changed doubtful (n ∷ []) (λ h t k. refl) (λ h l. refl) es are.apart.keys };
      below = below_changed doubtful (n ∷ []) (λ h t k. refl) (λ h l. refl) next es are.below;
      found = λ table key. are.found table key ∙ sym (number_changed doubtful (n ∷ []) (λ h t k. refl) (λ h l. refl) es table key);
      counted = ap (λ m. m + 1) are.counted ∙ sym more;
    })

-- where a lock is not in doubt, not all are
pub not_all_doubted : (n next doubted : ℕ) (es : List Numbered) (ks : List (LockKey × ℕ)) → AreNumbered es ks next doubted → true ≡ is_live_one (lookup (is_number n) es) → doubted < length es
not_all_doubted n next doubted es ks are live =
    let one = live_one (lookup (is_number n) es) live in
    subst (λ m. m < length es) (sym are.counted) (some_live n one.0 es one.1 one.2)

-- and where none is, nobody is in doubt on a table
pub none_doubted : (table : List ℕ) (es : List Numbered) → 0 ≡ length (filter (λ e. e.1.in_doubt) es) → list_any (λ e. e.1.in_doubt && bytes_eq e.1.table table) es ≡ false
none_doubted table [] h = refl
none_doubted table (e ∷ es) h = by e.1.in_doubt h (none_doubted table es)
  where
    by : (b : Bool) → 0 ≡ length (cond b (e ∷ filter (λ x. x.1.in_doubt) es) (filter (λ x. x.1.in_doubt) es))
        → (0 ≡ length (filter (λ x. x.1.in_doubt) es) → list_any (λ x. x.1.in_doubt && bytes_eq x.1.table table) es ≡ false)
        → ((b && bytes_eq e.1.table table) || list_any (λ x. x.1.in_doubt && bytes_eq x.1.table table) es) ≡ false
    by true h rest = absurd (omega arith)
    by false h rest = rest h
