-- The locks of keys: what becomes of a lock, and of keys that are free, where keys are taken, let go or in doubt.
use Rattle.std.proofs.Common.{◌≡◌, ℕ, ◌&&◌, ◌||◌, not, Bool, true, false, if◌then◌else◌, List, [], ◌∷◌, find, filter, fold, map, Option, Some, None, refl, sym, ap, ◌∙◌, arith, true≢false}
use Rattle.std.specs.List.{AllByRecursion}
use Rattle.std.specs.Cmp.Lexicographic.{bytes_decides}
use Rattle.std.proofs.lemmas.Bool.{and_parts}
use Rattle.dtx_values.proofs.ValueOrder.{same_from_equal}
use Rattle.row_locks.specs.Locks.{Lock, is_lock_on, is_held_by, other_holder, new_lock, taken, doubted}
use Rattle.node_rules.specs.Data.{Value, Change, BranchId}
use Rattle.node_rules.specs.Words.{same}
use Rattle.node_rules.specs.Records.{take_changed, with_doubt}
use Rattle.tran_ids.proofs.BranchLemmas as ids
use Rattle.stmt_run.specs.Run.{take_keys}
use Rattle.node_undo_laws.specs.Keys.{passes, is_written_by, is_doubted_by, is_held, AreHeld}
use Rattle.node_ready_laws.proofs.ListLemmas.{all_weaker}

-- ---- a key stays held

module _ (test : Lock → Bool) (table : List ℕ) (key : Value) where
  -- with another key taken
  pub held_taken : ((l : Lock) (w : Bool) → test l ≡ true → test (record l { writes = l.writes || w }) ≡ true) → (ls : List Lock) (b : BranchId) (t : List ℕ) (k : Value) (w : Bool)
      → is_held test ls table key ≡ true → is_held test (taken ls b t k w) table key ≡ true
  held_taken stays [] b t k w held = absurd (true≢false (sym held))
  held_taken stays (l ∷ ls) b t k w held = by (is_lock_on t k l) (is_lock_on table key l) refl held (held_taken stays ls b t k w)
    where
      by : (here there : Bool) → is_lock_on table key l ≡ there → passes test (if there then Some l else find (is_lock_on table key) ls) ≡ true
          → (is_held test ls table key ≡ true → is_held test (taken ls b t k w) table key ≡ true)
          → is_held test (if here then record l { writes = l.writes || w } ∷ ls else l ∷ taken ls b t k w) table key ≡ true
      by true true is held later = ap (λ q. passes test (if q then Some (record l { writes = l.writes || w }) else find (is_lock_on table key) ls)) is ∙ stays l w held
      by true false is held later = ap (λ q. passes test (if q then Some (record l { writes = l.writes || w }) else find (is_lock_on table key) ls)) is ∙ held
      by false true is held later = ap (λ q. passes test (if q then Some l else find (is_lock_on table key) (taken ls b t k w))) is ∙ held
      by false false is held later = ap (λ q. passes test (if q then Some l else find (is_lock_on table key) (taken ls b t k w))) is ∙ later held

  -- with another branch in doubt
  pub held_mapped : (f : Lock → Lock) → ((l : Lock) → is_lock_on table key (f l) ≡ is_lock_on table key l) → ((l : Lock) → test l ≡ true → test (f l) ≡ true) → (ls : List Lock)
      → is_held test ls table key ≡ true → is_held test (map f ls) table key ≡ true
  held_mapped f on stays [] held = held
  held_mapped f on stays (l ∷ ls) held = by (is_lock_on table key l) (on l) held (held_mapped f on stays ls)
    where
      by : (there : Bool) → is_lock_on table key (f l) ≡ there → passes test (if there then Some l else find (is_lock_on table key) ls) ≡ true
          → (is_held test ls table key ≡ true → is_held test (map f ls) table key ≡ true) → is_held test (f l ∷ map f ls) table key ≡ true
      by true is held later = ap (λ q. passes test (if q then Some (f l) else find (is_lock_on table key) (map f ls))) is ∙ stays l held
      by false is held later = ap (λ q. passes test (if q then Some (f l) else find (is_lock_on table key) (map f ls))) is ∙ later held

  -- and where locks are let go, but not this one
  pub held_filtered : (keep : Lock → Bool) → ((l : Lock) → test l ≡ true → keep l ≡ true) → (ls : List Lock) → is_held test ls table key ≡ true → is_held test (filter keep ls) table key ≡ true
  held_filtered keep stays [] held = held
  held_filtered keep stays (l ∷ ls) held = by (keep l) refl (is_lock_on table key l) refl held (held_filtered keep stays ls)
    where
      by : (kept : Bool) → keep l ≡ kept → (there : Bool) → is_lock_on table key l ≡ there → passes test (if there then Some l else find (is_lock_on table key) ls) ≡ true
          → (is_held test ls table key ≡ true → is_held test (filter keep ls) table key ≡ true) → is_held test (if kept then l ∷ filter keep ls else filter keep ls) table key ≡ true
      by true kept there is held later = ap (λ q. passes test (if q then Some l else find (is_lock_on table key) (filter keep ls))) is ∙ on there held
        where
          on : (there : Bool) → passes test (if there then Some l else find (is_lock_on table key) ls) ≡ true → passes test (if there then Some l else find (is_lock_on table key) (filter keep ls)) ≡ true
          on true held = held
          on false held = later held
      by false gone true is held later = absurd (let stay : keep l ≡ true = stays l held in cc (stay, gone))
      by false gone false is held later = later held

-- what is held so is held otherwise
pub held_weaker : (test other : Lock → Bool) (table : List ℕ) (key : Value) → ((l : Lock) → test l ≡ true → other l ≡ true) → (ls : List Lock) → is_held test ls table key ≡ true → is_held other ls table key ≡ true
held_weaker test other table key so ls held = by (find (is_lock_on table key) ls) held
  where
    by : (o : Option Lock) → passes test o ≡ true → passes other o ≡ true
    by None held = absurd (true≢false (sym held))
    by (Some l) held = so l held

-- one branch alone holds a key
pub held_by_one : (b c : BranchId) (ls : List Lock) (table : List ℕ) (key : Value) → is_held (is_written_by b) ls table key ≡ true → is_held (is_written_by c) ls table key ≡ true → b ≡ c
held_by_one b c ls table key one other = by (find (is_lock_on table key) ls) one other
  where
    by : (o : Option Lock) → passes (is_written_by b) o ≡ true → passes (is_written_by c) o ≡ true → b ≡ c
    by None one other = absurd (true≢false (sym one))
    by (Some l) one other = sym (ids.equal_from_same l.branch b (and_parts _ l.writes one).0) ∙ ids.equal_from_same l.branch c (and_parts _ l.writes other).0

-- a lock stays its branch's where it is written again
pub written_again : (b : BranchId) (l : Lock) (w : Bool) → is_written_by b l ≡ true → is_written_by b (record l { writes = l.writes || w }) ≡ true
written_again b l w is = grind (arith, is)

pub doubted_again : (b : BranchId) (l : Lock) (w : Bool) → is_doubted_by b l ≡ true → is_doubted_by b (record l { writes = l.writes || w }) ≡ true
doubted_again b l w is = grind (arith, is)

pub doubt_is_written : (b : BranchId) (l : Lock) → is_doubted_by b l ≡ true → is_written_by b l ≡ true
doubt_is_written b l is = (and_parts (is_written_by b l) l.in_doubt is).0

pub still_doubted : (b c : BranchId) (l : Lock) → is_doubted_by b l ≡ true → is_doubted_by b (doubted c l) ≡ true
still_doubted b c l is = grind (arith, is)

pub now_doubted : (b : BranchId) (l : Lock) → is_written_by b l ≡ true → is_doubted_by b (doubted b l) ≡ true
now_doubted b l is = grind (arith, is)

-- other branches keep theirs
pub kept_by_other : (b c : BranchId) (l : Lock) → same b c ≡ false → is_written_by b l ≡ true → not (is_held_by c l) ≡ true
kept_by_other b c l other is =
    let it : l.branch ≡ b = ids.equal_from_same l.branch b (and_parts (same l.branch b) l.writes is).0 in
    ap not (ap (λ m. same m c) it ∙ other)

pub kept_by_writer : (b c : BranchId) (l : Lock) → is_written_by b l ≡ true → (not (is_held_by c l) || l.writes) ≡ true
kept_by_writer b c l is = grind (arith, is)

-- ---- a key that is free

itself_on : (table : List ℕ) (key : Value) (b : BranchId) (w : Bool) → is_lock_on table key (new_lock b table key w) ≡ true
itself_on table key b w = grind (arith, (bytes_decides table table).1 refl, same_from_equal key key refl)

-- a free key that is taken for writing is held
pub held_new : (ls : List Lock) (b : BranchId) (table : List ℕ) (key : Value) → other_holder ls b table key ≡ None → is_held (is_written_by b) (taken ls b table key true) table key ≡ true
held_new [] b table key free =
    ap (λ q. passes (is_written_by b) (if q then Some (new_lock b table key true) else None)) (itself_on table key b true) ∙ ap (λ q. q && true) (ids.same_from_equal b b refl)
held_new (l ∷ ls) b table key free = grind (arith, held_new ls b table key, free)

-- and a free key stays free where the branch takes another
pub free_still : (ls : List Lock) (b : BranchId) (t : List ℕ) (k : Value) (w : Bool) (table : List ℕ) (key : Value) → other_holder ls b table key ≡ None → other_holder (taken ls b t k w) b table key ≡ None
free_still [] b t k w table key free = grind (arith, ids.same_from_equal b b refl)
free_still (l ∷ ls) b t k w table key free = grind (arith, free_still ls b t k w table key, free)

-- ---- keys that are taken one after the other

module _ (b : BranchId) where
  keys_stay : (test : Lock → Bool) → ((l : Lock) (w : Bool) → test l ≡ true → test (record l { writes = l.writes || w }) ≡ true) → (keys : List Value) (ls : List Lock) (c : BranchId) (t : List ℕ) (w : Bool) (table : List ℕ) (key : Value)
      → is_held test ls table key ≡ true → is_held test (take_keys ls c t w keys) table key ≡ true
  keys_stay test stays [] ls c t w table key held = held
  keys_stay test stays (k ∷ ks) ls c t w table key held = keys_stay test stays ks (taken ls c t k w) c t w table key (held_taken test table key stays ls c t k w held)

  -- keys that were free are held once they are taken
  pub keys_taken : (keys : List Value) (ls : List Lock) (t : List ℕ) → AllByRecursion (λ key. other_holder ls b t key ≡ None) keys
      → AllByRecursion (λ key. is_held (is_written_by b) (take_keys ls b t true keys) t key ≡ true) keys
  keys_taken [] ls t free = tt
  keys_taken (k ∷ ks) ls t free = (
    keys_stay (is_written_by b) (written_again b) ks (taken ls b t k true) b t true t k (held_new ls b t k free.0),
    keys_taken ks (taken ls b t k true) t (all_weaker _ _ (λ key free. free_still ls b t k true t key free) ks free.1),
  )

pub keys_leave : (test : Lock → Bool) → ((l : Lock) (w : Bool) → test l ≡ true → test (record l { writes = l.writes || w }) ≡ true) → (keys : List Value) (ls : List Lock) (c : BranchId) (t : List ℕ) (w : Bool) (cs : List Change)
    → AreHeld test ls cs → AreHeld test (take_keys ls c t w keys) cs
keys_leave test stays keys ls c t w cs all = all_weaker _ _ (λ x held. keys_stay c test stays keys ls c t w x.table x.key held) cs all

changed_stays : (test : Lock → Bool) → ((l : Lock) (w : Bool) → test l ≡ true → test (record l { writes = l.writes || w }) ≡ true) → (cs : List Change) (ls : List Lock) (c : BranchId) (table : List ℕ) (key : Value)
    → is_held test ls table key ≡ true → is_held test (fold (take_changed c) ls cs) table key ≡ true
changed_stays test stays [] ls c table key held = held
changed_stays test stays (x ∷ cs) ls c table key held = changed_stays test stays cs (take_changed c ls x) c table key (held_taken test table key stays ls c x.table x.key true held)

-- the keys of changes that were free
changed_taken : (b : BranchId) (cs : List Change) (ls : List Lock) → AllByRecursion (λ c. other_holder ls b c.table c.key ≡ None) cs → AreHeld (is_written_by b) (fold (take_changed b) ls cs) cs
changed_taken b [] ls free = tt
changed_taken b (c ∷ cs) ls free = (
  changed_stays (is_written_by b) (written_again b) cs (take_changed b ls c) b c.table c.key (held_new ls b c.table c.key free.0),
  changed_taken b cs (take_changed b ls c) (all_weaker _ _ (λ x free. free_still ls b c.table c.key true x.table x.key free) cs free.1),
)

-- a branch in doubt holds the keys of its changes, where these were free
pub doubt_holds : (b : BranchId) (cs : List Change) (ls : List Lock) → AllByRecursion (λ c. other_holder ls b c.table c.key ≡ None) cs → AreHeld (is_doubted_by b) (with_doubt ls b cs) cs
doubt_holds b cs ls free = all_weaker _ _ (λ c held. doubts c.table c.key (fold (take_changed b) ls cs) held) cs (changed_taken b cs ls free)
  where
    doubts : (table : List ℕ) (key : Value) (ms : List Lock) → is_held (is_written_by b) ms table key ≡ true → is_held (is_doubted_by b) (map (doubted b) ms) table key ≡ true
    doubts table key [] held = held
    doubts table key (l ∷ ms) held = by (is_lock_on table key l) refl held (doubts table key ms)
      where
        by : (there : Bool) → is_lock_on table key l ≡ there → passes (is_written_by b) (if there then Some l else find (is_lock_on table key) ms) ≡ true
            → (is_held (is_written_by b) ms table key ≡ true → is_held (is_doubted_by b) (map (doubted b) ms) table key ≡ true) → is_held (is_doubted_by b) (doubted b l ∷ map (doubted b) ms) table key ≡ true
        by true is held later = ap (λ q. passes (is_doubted_by b) (if q then Some (doubted b l) else find (is_lock_on table key) (map (doubted b) ms))) is ∙ now_doubted b l held
        by false is held later = ap (λ q. passes (is_doubted_by b) (if q then Some (doubted b l) else find (is_lock_on table key) (map (doubted b) ms))) is ∙ later held

-- and what others hold stays
pub doubt_leaves : (test : Lock → Bool) → ((l : Lock) (w : Bool) → test l ≡ true → test (record l { writes = l.writes || w }) ≡ true) → ((l : Lock) (c : BranchId) → test l ≡ true → test (doubted c l) ≡ true)
    → (b : BranchId) (cs : List Change) (ls : List Lock) (ds : List Change) → AreHeld test ls ds → AreHeld test (with_doubt ls b cs) ds
doubt_leaves test again doubts b cs ls ds all =
    all_weaker _ _ (λ c held. held_mapped test c.table c.key (doubted b) (λ l. refl) (λ l so. doubts l b so) (fold (take_changed b) ls cs) (changed_stays test again cs ls b c.table c.key held)) ds all
