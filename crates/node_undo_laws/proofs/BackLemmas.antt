-- What going back leaves of a branch's sets, of the undo and of the keys that are held, and that it leaves what is of other branches.
use Rattle.std.proofs.Common.{◌≡◌, ℕ, zero, suc, ◌-◌, ◌≤◌, ◌&&◌, ◌||◌, not, Bool, true, false, if◌then◌else◌, List, [], ◌∷◌, ◌++◌, find, length, take, Option, Some, None, inl, inr, refl, sym, ap, subst, ◌∙◌, arith}
use Rattle.std.specs.List.{AllByRecursion, list_any, IsDistinct}
use Rattle.std.specs.Option.{option_or}
use Rattle.std.specs.Str.{bytes_eq}
use Rattle.std.specs.Cmp.Lexicographic.{bytes_decides}
use Rattle.std.proofs.lemmas.Bool.{and_parts, cond_both, not-true}
use Rattle.std.proofs.lemmas.Grind.{div_ceil_times}
use Rattle.std.proofs.lemmas.List.{length-map}
use Rattle.std.proofs.lemmas.List.Folds.{find-append}
use Rattle.std.proofs.lemmas.List.Sums.{sum_by-append}
use Rattle.dtx_values.specs.Limits.{extent_size}
use Rattle.dtx_values.specs.Order.{same_value}
use Rattle.dtx_values.proofs.ValueOrder.{equal_from_same, same_from_equal}
use Rattle.tran_ids.proofs.BranchLemmas as ids
use Rattle.tran_ids.proofs.ListedLemmas.{item_is, put_or_before, drop_gone, drop_leaves}
use Rattle.row_locks.specs.Locks.{Lock, is_lock_on, are_on_one_key, AreOnDistinctKeys, is_held_by, lock_back, locks_back}
use Rattle.row_store.specs.Own.{is_change_of, before}
use Rattle.row_store.specs.Store.{less_sets, without_sets, used_extents, extents_of_sets}
use Rattle.sql_eval.specs.Rows.{change_length}
use Rattle.node_rules.specs.Data.{Value, Change, ChangeSet, BranchId, Keyed, Owned, Doubt}
use Rattle.node_rules.specs.Words.{same, item_at, put_item, drop_item}
use Rattle.node_rules.specs.Rows.{TableRows, apply_all, changes_of, changes_length, extents, undo_of, undo_over, set_over}
use Rattle.node_rules.specs.NodeState.{own_id, sets_of, sets_at}
use Rattle.node_rules.specs.Marks.{is_changed_in}
use Rattle.node_rules.specs.Statement.{StmtOutcome, Refuses, Reads, Writes, owns_after}
use Rattle.node_ready_laws.proofs.ListLemmas.{all_weaker, all_both}
use Rattle.node_ready_laws.proofs.RowStepLemmas.{first_changes}
use Rattle.node_undo_laws.specs.Changed.{changes_at}
use Rattle.node_undo_laws.specs.Keys.{passes, is_written_by, is_doubted_by, is_held, AreHeld, KeysHeld}
use Rattle.node_undo_laws.specs.Kept.{IsEven, UndoIsOf, UndoStands}
use Rattle.node_undo_laws.proofs.HoldLemmas.{doubt_is_written, kept_by_other}
use Rattle.node_undo_laws.proofs.KeyLemmas.{other_way}
use Rattle.node_undo_laws.proofs.RoomLemmas.{room_put}
use Rattle.node_undo_laws.proofs.UndoLemmas.{undo_both}
use Rattle.node_undo_laws.proofs.BackSetLemmas.{back_leaves, back_sets}

-- ---- undo

-- a set has as many rows from before as changes
abbrev pub AreEven : List Owned → Type 0
AreEven owns = (b : BranchId) → AllByRecursion IsEven (sets_at owns b)

-- with the sets of one branch
put_even : (owns : List Owned) (x : Owned) → AreEven owns → AllByRecursion IsEven x.sets → AreEven (put_item own_id owns x)
put_even owns x now new b = elim (put_or_before own_id owns x b) [
  | inl before ↦ subst (λ o. AllByRecursion IsEven (sets_of o)) (sym before) (now b)
  | inr put ↦ subst (λ o. AllByRecursion IsEven (sets_of o)) (sym put.1) new
]

all_with : (sets : List ChangeSet) (s : ChangeSet) → AllByRecursion IsEven sets → IsEven s → AllByRecursion IsEven (sets ++ s ∷ [])
all_with [] s all new = (new, tt)
all_with (x ∷ sets) s all new = (all.0, all_with sets s all.1 new)

all_first : (n : ℕ) (sets : List ChangeSet) → AllByRecursion IsEven sets → AllByRecursion IsEven (take n sets)
all_first zero sets all = tt
all_first (suc n) [] all = tt
all_first (suc n) (s ∷ sets) all = (all.0, all_first n sets all.1)

-- a run adds one
pub ran_even : (owns : List Owned) (b : BranchId) (rows : List Keyed) (r : StmtOutcome) → AreEven owns → AreEven (owns_after owns b rows r)
ran_even owns b rows (Refuses r) now = now
ran_even owns b rows (Reads rs keys) now = now
ran_even owns b rows (Writes d cs keys undo) now = put_even owns _ now (all_with (sets_at owns b) (set_over rows cs) (now b) (length-map cs (before rows)))

-- a branch leaves
pub drop_even : (owns : List Owned) (b : BranchId) → AreEven owns → AreEven (drop_item own_id owns b)
drop_even owns b now c = by (same b c) refl
  where
    by : (here : Bool) → same b c ≡ here → AllByRecursion IsEven (sets_at (drop_item own_id owns b) c)
    by true is = subst (λ o. AllByRecursion IsEven (sets_of o)) (sym (subst (λ m. item_at own_id (drop_item own_id owns b) m ≡ None) (ids.equal_from_same b c is) (drop_gone own_id owns b))) tt
    by false is = subst (λ o. AllByRecursion IsEven (sets_of o)) (sym (drop_leaves own_id owns b c is)) (now c)

-- the undo of a change each
as_long : (cs : List Change) (rows : List TableRows) → length (undo_over rows cs) ≡ length cs
as_long [] rows = refl
as_long (c ∷ cs) rows = ap suc (as_long cs (apply_all rows (c ∷ [])))

-- two lists of two parts, whose first parts are as long, have the same parts
same_parts : (xs us ys vs : List Change) → length xs ≡ length us → xs ++ ys ≡ us ++ vs → (xs ≡ us) × (ys ≡ vs)
same_parts [] [] ys vs long even = (refl, even)
same_parts [] (u ∷ us) ys vs long even = absurd (omega (arith, long))
same_parts (x ∷ xs) [] ys vs long even = absurd (omega (arith, long))
same_parts (x ∷ xs) (u ∷ us) ys vs long even =
    let head : x ≡ u = cc in
    let tail : xs ++ ys ≡ us ++ vs = cc in
    let rest = same_parts xs us ys vs (omega (arith, long)) tail in
    (λ i. head i ∷ rest.0 i, rest.1)

-- the undo of the first sets is that of their changes
pub first_undo : (n : ℕ) (sets : List ChangeSet) (rows : List TableRows) → AllByRecursion IsEven sets → UndoIsOf rows sets → UndoIsOf rows (take n sets)
first_undo zero sets rows even now = refl
first_undo (suc n) [] rows even now = refl
first_undo (suc n) (s ∷ sets) rows even now =
    let parts = same_parts s.undo (undo_over rows s.changes) (undo_of sets) (undo_over (apply_all rows s.changes) (changes_of sets)) (even.0 ∙ sym (as_long s.changes rows)) (now ∙ undo_both s.changes (changes_of sets) rows) in
    let rest : undo_of (take n sets) ≡ undo_over (apply_all rows s.changes) (changes_of (take n sets)) = first_undo n sets (apply_all rows s.changes) even.1 parts.1 in
    ap (λ us. us ++ undo_of (take n sets)) parts.0 ∙ ap (λ us. undo_over rows s.changes ++ us) rest ∙ sym (undo_both s.changes (changes_of (take n sets)) rows)

-- ---- space

-- more bytes take no fewer extents
extents_rise : (a b : ℕ) → a ≤ b → extents a ≤ extents b
extents_rise a b less = let one = div_ceil_times a extent_size (omega arith) in let two = div_ceil_times b extent_size (omega arith) in omega (arith, less, one, two)

-- the undo of the first sets has no more bytes than that of all
first_bytes : (n : ℕ) (sets : List ChangeSet) → changes_length (undo_of (take n sets)) ≤ changes_length (undo_of sets)
first_bytes zero sets = omega arith
first_bytes (suc n) [] = omega arith
first_bytes (suc n) (s ∷ sets) =
    let fewer = sum_by-append change_length s.undo (undo_of (take n sets)) in
    let all = sum_by-append change_length s.undo (undo_of sets) in
    let rest = first_bytes n sets in
    omega (arith, fewer, all, rest)

module _ (undo : ℕ) (rows : List TableRows) (owns : List Owned) (ds : List Doubt) (now : UndoStands undo rows owns ds) (b : BranchId) (n : ℕ) where
  room_back : (o : Option Owned) → item_at own_id owns b ≡ o → used_extents (less_sets n owns o) ds ≤ used_extents owns ds
  room_back None is = omega arith
  room_back (Some o) is =
      let left : List ChangeSet = take (length o.sets - n) o.sets in
      let more = room_put owns o.branch left in
      let there : sets_at owns o.branch ≡ o.sets = ap sets_of (subst (λ m. item_at own_id owns m ≡ Some o) (sym (item_is own_id owns b o is)) is) in
      let even : extents_of_sets (sets_at owns o.branch) ≡ extents_of_sets o.sets = ap extents_of_sets there in
      let less = extents_rise (changes_length (undo_of left)) (changes_length (undo_of o.sets)) (first_bytes (length o.sets - n) o.sets) in
      omega (arith, more, even, less)

  -- a branch that goes back keeps its undo
  pub back_stands : AreEven owns → UndoStands undo rows (without_sets owns b n) ds
  back_stands even = record { ordered = now.ordered; own = λ c. own c (same b c) refl; held_back = now.held_back; room = let less = room_back (item_at own_id owns b) refl in omega (arith, less, now.room) }
    where
      own : (c : BranchId) (here : Bool) → same b c ≡ here → UndoIsOf rows (sets_at (without_sets owns b n) c)
      own c true is =
          subst (λ m. UndoIsOf rows (sets_at (without_sets owns b n) m)) (ids.equal_from_same b c is)
          (subst (UndoIsOf rows) (sym (back_sets owns b n)) (first_undo (length (sets_at owns b) - n) (sets_at owns b) rows (even b) (now.own b)))
      own c false is = subst (λ o. UndoIsOf rows (sets_of o)) (sym (back_leaves owns b n c is)) (now.own c)

-- and the rows from before the changes that are left
pub back_even : (owns : List Owned) (b : BranchId) (n : ℕ) → AreEven owns → AreEven (without_sets owns b n)
back_even owns b n now c = by (same b c) refl
  where
    by : (here : Bool) → same b c ≡ here → AllByRecursion IsEven (sets_at (without_sets owns b n) c)
    by true is =
        subst (λ m. AllByRecursion IsEven (sets_at (without_sets owns b n) m)) (ids.equal_from_same b c is)
        (subst (AllByRecursion IsEven) (sym (back_sets owns b n)) (all_first (length (sets_at owns b) - n) (sets_at owns b) (now b)))
    by false is = subst (λ o. AllByRecursion IsEven (sets_of o)) (sym (back_leaves owns b n c is)) (now c)

-- ---- keys

pub or_true : (a b : Bool) → b ≡ true → (a || b) ≡ true
or_true true b is = refl
or_true false b is = is

-- a change is one of the changes at its key
in_itself : (cs : List Change) → AllByRecursion (λ c. list_any (is_change_of c.table c.key) cs ≡ true) cs
in_itself [] = tt
in_itself (c ∷ cs) = (
  ap (λ here. here || list_any (is_change_of c.table c.key) cs) {x = is_change_of c.table c.key c} {y = true} (grind (arith, (bytes_decides c.table c.table).1 refl, same_from_equal c.key c.key refl)),
  all_weaker (λ x. list_any (is_change_of x.table x.key) cs ≡ true) (λ x. list_any (is_change_of x.table x.key) (c ∷ cs) ≡ true)
      (λ x is. or_true (is_change_of x.table x.key c) (list_any (is_change_of x.table x.key) cs) is) cs (in_itself cs),
)

module _ (b : BranchId) (stays writes : Lock → Bool) where
  -- one lock
  module _ (table : List ℕ) (key : Value) (l : Lock) where
    abbrev on : Lock → Bool
    on = is_lock_on table key

    none_back : on l ≡ false → find on (lock_back b stays writes l) ≡ None
    none_back off =
        cond_both (is_held_by b l) _ _ (λ ls. find on ls ≡ None)
        (λ mine. cond_both (stays l) _ _ (λ ls. find on ls ≡ None) (λ left. ap (λ q. if q then Some (record l { writes = writes l }) else None) off) (λ gone. refl))
        (λ other. ap (λ q. if q then Some l else None) off)

    -- that of another branch stays as it is
    kept_as : (test : Lock → Bool) → not (is_held_by b l) ≡ true → on l ≡ true → test l ≡ true → passes test (find on (lock_back b stays writes l)) ≡ true
    kept_as test other here so =
        ap (λ q. passes test (find on (if q then (if stays l then (record l { writes = writes l }) ∷ [] else []) else l ∷ []))) (not-true (is_held_by b l) other)
        ∙ ap (λ q. passes test (if q then Some l else None)) here ∙ so

    -- the branch's own stays, and writes, where a change is left at its key
    kept_own : stays l ≡ true → writes l ≡ true → on l ≡ true → is_written_by b l ≡ true → passes (is_written_by b) (find on (lock_back b stays writes l)) ≡ true
    kept_own left changed here so =
        let mine : same l.branch b ≡ true = (and_parts (same l.branch b) l.writes so).0 in
        ap (λ q. passes (is_written_by b) (find on (if q then (if stays l then (record l { writes = writes l }) ∷ [] else []) else l ∷ []))) mine
        ∙ ap (λ q. passes (is_written_by b) (find on (if q then (record l { writes = writes l }) ∷ [] else []))) left
        ∙ ap (λ q. passes (is_written_by b) (if q then Some (record l { writes = writes l }) else None)) here
        ∙ ap (λ q. q && writes l) mine ∙ changed

  -- a key is held still where its lock stays so
  still_held : (test : Lock → Bool) (table : List ℕ) (key : Value) → ((l : Lock) → is_lock_on table key l ≡ true → test l ≡ true → passes test (find (is_lock_on table key) (lock_back b stays writes l)) ≡ true)
      → (ls : List Lock) → is_held test ls table key ≡ true → is_held test (locks_back b stays writes ls) table key ≡ true
  still_held test table key kept [] held = held
  still_held test table key kept (l ∷ ls) held = ap (passes test) (find-append (is_lock_on table key) (lock_back b stays writes l) (locks_back b stays writes ls)) ∙ by (is_lock_on table key l) refl held (still_held test table key kept ls)
    where
      found : (o : Option Lock) → passes test o ≡ true → passes test (option_or o (find (is_lock_on table key) (locks_back b stays writes ls))) ≡ true
      found None is = absurd cc
      found (Some x) is = is

      by : (here : Bool) → is_lock_on table key l ≡ here → passes test (if here then Some l else find (is_lock_on table key) ls) ≡ true
          → (is_held test ls table key ≡ true → is_held test (locks_back b stays writes ls) table key ≡ true)
          → passes test (option_or (find (is_lock_on table key) (lock_back b stays writes l)) (find (is_lock_on table key) (locks_back b stays writes ls))) ≡ true
      by true is held later = found _ (kept l is held)
      by false is held later = ap (λ o. passes test (option_or o (find (is_lock_on table key) (locks_back b stays writes ls)))) (none_back table key l is) ∙ later held

  -- what is so of locks, whatever they are for, is so of those that stay
  pub all_back : (P : Lock → Type 0) → ((l : Lock) → P l → P (record l { writes = writes l })) → (ls : List Lock) → AllByRecursion P ls → AllByRecursion P (locks_back b stays writes ls)
  all_back P so [] all = tt
  all_back P so (l ∷ ls) all =
      let rest = all_back P so ls all.1 in
      cond_both (is_held_by b l) _ _ (λ ms. AllByRecursion P (ms ++ locks_back b stays writes ls))
      (λ mine. cond_both (stays l) _ _ (λ ms. AllByRecursion P (ms ++ locks_back b stays writes ls)) (λ left. (so l all.0, rest)) (λ gone. rest)) (λ other. (all.0, rest))

  distinct_back : (ls : List Lock) → AreOnDistinctKeys ls → AreOnDistinctKeys (locks_back b stays writes ls)
  unfolding IsDistinct
  distinct_back [] apart = tt
  distinct_back (l ∷ ls) apart =
      let rest = distinct_back ls apart.1 in
      let others = all_back (λ x. are_on_one_key l x ≡ false) (λ x off. off) ls apart.0 in
      cond_both (is_held_by b l) _ _ (λ ms. AreOnDistinctKeys (ms ++ locks_back b stays writes ls))
      (λ mine. cond_both (stays l) _ _ (λ ms. AreOnDistinctKeys (ms ++ locks_back b stays writes ls)) (λ left. (others, rest)) (λ gone. rest)) (λ other. (others, rest))

module _ (locks : List Lock) (owns : List Owned) (ds : List Doubt) (b : BranchId) (n : ℕ) (others : AllByRecursion (λ d. same d.branch b ≡ false) ds) (now : KeysHeld locks owns ds) where
  abbrev left : List Change
  left = changes_at (without_sets owns b n) b

  -- a branch that goes back keeps the keys of the changes that are left, and others keep theirs
  module _ (stays : Lock → Bool) (enough : (l : Lock) → is_changed_in left l ≡ true → stays l ≡ true) where
    own_key : (c : Change) → is_held (is_written_by b) locks c.table c.key ≡ true → list_any (is_change_of c.table c.key) left ≡ true
        → is_held (is_written_by b) (locks_back b stays (is_changed_in left) locks) c.table c.key ≡ true
    own_key c held here = still_held b stays (is_changed_in left) (is_written_by b) c.table c.key (λ l on so. kept_own b stays (is_changed_in left) c.table c.key l (enough l (changed l on)) (changed l on) on so) locks held
      where
        changed : (l : Lock) → is_lock_on c.table c.key l ≡ true → is_changed_in left l ≡ true
        changed l on =
            let both = and_parts (bytes_eq l.table c.table) (same_value l.key c.key) on in
            let table : l.table ≡ c.table = (bytes_decides l.table c.table).0 both.0 in
            let key : l.key ≡ c.key = equal_from_same l.key c.key both.1 in
            subst (λ t. list_any (is_change_of t l.key) left ≡ true) (sym table) (subst (λ k. list_any (is_change_of c.table k) left ≡ true) (sym key) here)

    own_left : AreHeld (is_written_by b) locks left
    own_left =
        subst (λ sets. AreHeld (is_written_by b) locks (changes_of sets)) (sym (back_sets owns b n))
        (first_changes (λ c. is_held (is_written_by b) locks c.table c.key ≡ true) (length (sets_at owns b) - n) (sets_at owns b) (now.own b))

    pub back_keys : KeysHeld (locks_back b stays (is_changed_in left) locks) (without_sets owns b n) ds
    back_keys = record { apart = distinct_back b stays (is_changed_in left) locks now.apart; own = λ c. own c (same b c) refl; doubts = doubts ds others now.doubts }
      where
        own : (c : BranchId) (here : Bool) → same b c ≡ here → AreHeld (is_written_by c) (locks_back b stays (is_changed_in left) locks) (changes_at (without_sets owns b n) c)
        own c true is =
            subst (λ m. AreHeld (is_written_by m) (locks_back b stays (is_changed_in left) locks) (changes_at (without_sets owns b n) m)) (ids.equal_from_same b c is)
            (all_both (λ x. is_held (is_written_by b) locks x.table x.key ≡ true) (λ x. list_any (is_change_of x.table x.key) left ≡ true) (λ x. is_held (is_written_by b) (locks_back b stays (is_changed_in left) locks) x.table x.key ≡ true)
            own_key left own_left (in_itself left))
        own c false is =
            subst (λ o. AreHeld (is_written_by c) (locks_back b stays (is_changed_in left) locks) (changes_of (sets_of o))) (sym (back_leaves owns b n c is))
            (all_weaker _ _ (λ x held. still_held b stays (is_changed_in left) (is_written_by c) x.table x.key (λ l on so. kept_as b stays (is_changed_in left) x.table x.key l (is_written_by c) (kept_by_other c b l (other_way b c is) so) on so) locks held)
            (changes_at owns c) (now.own c))

        doubts : (es : List Doubt) → AllByRecursion (λ d. same d.branch b ≡ false) es → AllByRecursion (λ d. AreHeld (is_doubted_by d.branch) locks d.changes) es
            → AllByRecursion (λ d. AreHeld (is_doubted_by d.branch) (locks_back b stays (is_changed_in left) locks) d.changes) es
        doubts [] other all = tt
        doubts (d ∷ es) other all = (
          all_weaker _ _ (λ x held. still_held b stays (is_changed_in left) (is_doubted_by d.branch) x.table x.key
              (λ l on so. kept_as b stays (is_changed_in left) x.table x.key l (is_doubted_by d.branch) (kept_by_other d.branch b l other.0 (doubt_is_written d.branch l so)) on so) locks held) d.changes all.0,
          doubts es other.1 all.1,
        )
