-- The locks of a node that has just started: each key that a branch in doubt has changed is locked for the first such branch.
use Rattle.std.proofs.Common.{◌≡◌, ℕ, ◌&&◌, ◌||◌, Bool, true, false, true≢false, if◌then◌else◌, List, [], ◌∷◌, find, fold, map, Option, Some, None, refl, sym, ap, subst, ◌∙◌}
use Rattle.std.specs.List.{list_any}
use Rattle.std.specs.Option.{option_map}
use Rattle.std.specs.Str.{bytes_eq}
use Rattle.std.specs.Cmp.Lexicographic.{bytes_decides}
use Rattle.std.proofs.lemmas.Bool.{and_parts}
use Rattle.dtx_values.specs.Order.{same_value}
use Rattle.dtx_values.proofs.ValueOrder.{equal_from_same}
use Rattle.row_locks.specs.Locks.{Lock, is_lock_on, new_lock, taken, doubted}
use Rattle.node_rules.specs.Data.{Value, Change, BranchId, Doubt}
use Rattle.node_rules.specs.NodeState.{doubt_id}
use Rattle.node_rules.specs.Records.{take_changed, with_doubt}
use Rattle.node_rules.specs.Turn.{with_doubt_of}
use Rattle.tran_ids.proofs.BranchLemmas as ids
use Rattle.start_laws.specs.StartLaws.{is_change_to, lock_in_doubt}

-- a lock that is written stays the same where it is written again
written_again : (l : Lock) → l.writes ≡ true → record l { writes = l.writes || true } ≡ l
written_again l is = ap (λ w. record l { writes = w }) (ap (λ w. w || true) is ∙ sym is)

module _ (table : List ℕ) (key : Value) where
  abbrev found : List Lock → Option Lock
  found ls = find (is_lock_on table key) ls

  -- whether a key is this one
  abbrev is_it : List ℕ → Value → Bool
  is_it t k = bytes_eq t table && same_value k key

  -- a lock on both keys makes them one
  on_both : (t : List ℕ) (k : Value) (l : Lock) → is_lock_on t k l ≡ true → is_it t k ≡ true → is_lock_on table key l ≡ true
  on_both t k l on it =
      let parts = and_parts (bytes_eq t table) (same_value k key) it in
      let tables : t ≡ table = (bytes_decides t table).0 parts.0 in
      let keys : k ≡ key = equal_from_same k key parts.1 in
      subst (λ x. is_lock_on table x l ≡ true) keys (subst (λ x. is_lock_on x k l ≡ true) tables on)

  -- ---- one key more

  -- where it was free
  taken_free : (ls : List Lock) (b : BranchId) (t : List ℕ) (k : Value) → found ls ≡ None → found (taken ls b t k true) ≡ (if is_it t k then Some (new_lock b t k true) else None)
  taken_free [] b t k free = refl
  taken_free (l ∷ ls) b t k free = by (is_lock_on t k l) refl (is_lock_on table key l) refl free (taken_free ls b t k)
    where
      off : (q : Bool) → is_it t k ≡ q → is_lock_on t k l ≡ true → is_lock_on table key l ≡ false → None ≡ (if q then Some (new_lock b t k true) else None)
      off true is on none = absurd (true≢false (sym (on_both t k l on is) ∙ none))
      off false is on none = refl

      by : (there : Bool) → is_lock_on t k l ≡ there → (here : Bool) → is_lock_on table key l ≡ here → (if here then Some l else found ls) ≡ None
          → (found ls ≡ None → found (taken ls b t k true) ≡ (if is_it t k then Some (new_lock b t k true) else None))
          → found (if there then record l { writes = l.writes || true } ∷ ls else l ∷ taken ls b t k true) ≡ (if is_it t k then Some (new_lock b t k true) else None)
      by there on true is none rest = absurd cc
      by true on false is none rest =
          ap (λ q. if q then Some (record l { writes = l.writes || true }) else found ls) is ∙ (none ∙ off (is_it t k) refl on is)
      by false on false is none rest = ap (λ q. if q then Some l else found (taken ls b t k true)) is ∙ rest none

  -- and where it was locked for writing
  taken_held : (ls : List Lock) (b : BranchId) (t : List ℕ) (k : Value) (l : Lock) → found ls ≡ Some l → l.writes ≡ true → found (taken ls b t k true) ≡ Some l
  taken_held [] b t k l held writes = absurd cc
  taken_held (x ∷ ls) b t k l held writes = by (is_lock_on t k x) (is_lock_on table key x) refl held (taken_held ls b t k l)
    where
      by : (there here : Bool) → is_lock_on table key x ≡ here → (if here then Some x else found ls) ≡ Some l
          → (found ls ≡ Some l → l.writes ≡ true → found (taken ls b t k true) ≡ Some l)
          → found (if there then record x { writes = x.writes || true } ∷ ls else x ∷ taken ls b t k true) ≡ Some l
      by true true is one rest =
          let it : x ≡ l = cc in
          ap (λ q. if q then Some (record x { writes = x.writes || true }) else found ls) is ∙ subst (λ (z : Lock). Some (record z { writes = z.writes || true }) ≡ Some l) (sym it) (ap Some (written_again l writes))
      by true false is one rest = ap (λ q. if q then Some (record x { writes = x.writes || true }) else found ls) is ∙ one
      by false true is one rest = ap (λ q. if q then Some x else found (taken ls b t k true)) is ∙ one
      by false false is one rest = ap (λ q. if q then Some x else found (taken ls b t k true)) is ∙ rest one writes

  -- ---- the keys of changes

  changed_held : (b : BranchId) (cs : List Change) (ls : List Lock) (l : Lock) → found ls ≡ Some l → l.writes ≡ true → found (fold (take_changed b) ls cs) ≡ Some l
  changed_held b [] ls l held writes = held
  changed_held b (c ∷ cs) ls l held writes = changed_held b cs (take_changed b ls c) l (taken_held ls b c.table c.key l held writes) writes

  -- the lock of this key, where they have it
  abbrev new_of : BranchId → Bool → Option Lock
  new_of b q = if q then Some (new_lock b table key true) else None

  new_is : (b : BranchId) (t : List ℕ) (k : Value) → is_it t k ≡ true → new_lock b t k true ≡ new_lock b table key true
  new_is b t k it =
      let parts = and_parts (bytes_eq t table) (same_value k key) it in
      ap (λ x. new_lock b x k true) ((bytes_decides t table).0 parts.0) ∙ ap (λ x. new_lock b table x true) (equal_from_same k key parts.1)

  changed_free : (b : BranchId) (cs : List Change) (ls : List Lock) → found ls ≡ None → found (fold (take_changed b) ls cs) ≡ new_of b (list_any (is_change_to table key) cs)
  changed_free b [] ls free = free
  changed_free b (c ∷ cs) ls free = by (is_it c.table c.key) refl (taken_free ls b c.table c.key free) (changed_free b cs (take_changed b ls c))
    where
      by : (q : Bool) → is_it c.table c.key ≡ q → found (take_changed b ls c) ≡ (if q then Some (new_lock b c.table c.key true) else None)
          → (found (take_changed b ls c) ≡ None → found (fold (take_changed b) (take_changed b ls c) cs) ≡ new_of b (list_any (is_change_to table key) cs))
          → found (fold (take_changed b) (take_changed b ls c) cs) ≡ new_of b (q || list_any (is_change_to table key) cs)
      by true is now rest = changed_held b cs (take_changed b ls c) (new_lock b table key true) (now ∙ ap Some (new_is b c.table c.key is)) refl
      by false is now rest = rest now

  -- ---- a branch in doubt

  found_doubted : (b : BranchId) (ls : List Lock) → found (map (doubted b) ls) ≡ option_map (doubted b) (found ls)
  found_doubted b [] = refl
  found_doubted b (l ∷ ls) = by (is_lock_on table key l) (found_doubted b ls)
    where
      by : (q : Bool) → found (map (doubted b) ls) ≡ option_map (doubted b) (found ls) → (if q then Some (doubted b l) else found (map (doubted b) ls)) ≡ option_map (doubted b) (if q then Some l else found ls)
      by true rest = refl
      by false rest = rest

  -- what another holds in doubt stays
  doubt_held : (b : BranchId) (cs : List Change) (ls : List Lock) (c : BranchId) → found ls ≡ Some (lock_in_doubt table key c) → found (with_doubt ls b cs) ≡ Some (lock_in_doubt table key c)
  doubt_held b cs ls c held =
      found_doubted b (fold (take_changed b) ls cs) ∙ ap (option_map (doubted b)) (changed_held b cs ls (lock_in_doubt table key c) held refl)

  doubted_new : (b : BranchId) (q : Bool) → option_map (doubted b) (new_of b q) ≡ (if q then Some (lock_in_doubt table key b) else None)
  doubted_new b true = ap (λ (d : Bool). Some (record (new_lock b table key true) { in_doubt = d })) (ids.same_from_equal b b refl)
  doubted_new b false = refl

  -- and a free key is its own where it has changed it
  doubt_free : (b : BranchId) (cs : List Change) (ls : List Lock) → found ls ≡ None → found (with_doubt ls b cs) ≡ (if list_any (is_change_to table key) cs then Some (lock_in_doubt table key b) else None)
  doubt_free b cs ls free =
      found_doubted b (fold (take_changed b) ls cs) ∙ (ap (option_map (doubted b)) (changed_free b cs ls free) ∙ doubted_new b (list_any (is_change_to table key) cs))

  -- ---- all branches in doubt

  doubts_held : (ds : List Doubt) (ls : List Lock) (c : BranchId) → found ls ≡ Some (lock_in_doubt table key c) → found (fold with_doubt_of ls ds) ≡ Some (lock_in_doubt table key c)
  doubts_held [] ls c held = held
  doubts_held (d ∷ ds) ls c held = doubts_held ds (with_doubt_of ls d) c (doubt_held d.branch d.changes ls c held)

  -- a branch in doubt that has changed the key
  abbrev pub has_it : Doubt → Bool
  has_it d = list_any (is_change_to table key) d.changes

  pub doubts_lock : (ds : List Doubt) (ls : List Lock) → found ls ≡ None → found (fold with_doubt_of ls ds) ≡ option_map (lock_in_doubt table key) (option_map doubt_id (find has_it ds))
  doubts_lock [] ls free = free
  doubts_lock (d ∷ ds) ls free = by (has_it d) (doubt_free d.branch d.changes ls free) (doubts_lock ds (with_doubt_of ls d))
    where
      by : (q : Bool) → found (with_doubt_of ls d) ≡ (if q then Some (lock_in_doubt table key d.branch) else None)
          → (found (with_doubt_of ls d) ≡ None → found (fold with_doubt_of (with_doubt_of ls d) ds) ≡ option_map (lock_in_doubt table key) (option_map doubt_id (find has_it ds)))
          → found (fold with_doubt_of (with_doubt_of ls d) ds) ≡ option_map (lock_in_doubt table key) (option_map doubt_id (if q then Some d else find has_it ds))
      by true now rest = doubts_held ds (with_doubt_of ls d) d.branch now
      by false now rest = rest now
