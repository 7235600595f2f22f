-- A branch stays live, or its row stays and has not forgotten, with each change of a node that is not of this branch.
use Rattle.std.proofs.Common.{◌≡◌, ◌≢◌, ◌&&◌, ◌||◌, ◌⊎◌, Bool, true, false, not, if◌then◌else◌, List, [], ◌∷◌, Some, refl, sym, ap, ◌∙◌}
use Rattle.std.specs.List.{list_any}
use Rattle.std.proofs.lemmas.Bool.{cond_both, or_right, and_parts}
use Rattle.tran_ids.proofs.BranchLemmas.{equal_from_same, same_from_equal}
use Rattle.node_rules.specs.Data.{BranchId, Decided, Live, RedoRecord, Sealed, KeptRow}
use Rattle.node_rules.specs.Data.decisions
use Rattle.node_rules.specs.Data.params
use Rattle.node_rules.specs.Data.records
use Rattle.node_rules.specs.NodeState.{NodeState, Stored, live_id, kept_row_id, stands_at}
use Rattle.node_rules.specs.Records.{applied}
use Rattle.node_rules.specs.Words.{same, is_item_of, item_at, put_item, drop_item, put_by_branch, change_where, drop_where, branch_below}
use Rattle.redo_record.specs.Durable.{durable_after}
use Rattle.redo_record.specs.Kept.{kept_after, ended_commit, in_state, forced_state, met_as, forgot_as, hidden_as, is_done}
use Rattle.redo_record.specs.Rows.{sealed_as, decided_as, has_neighbors}
use Rattle.run_rules.proofs.ListLemmas.{any_dropped, any_put}

-- ---- what lasts

-- a row of a branch that has not forgotten
abbrev pub is_unforgotten : BranchId → KeptRow → Bool
is_unforgotten r s = same s.me r && not s.forgot

abbrev pub has_row : BranchId → List KeptRow → Bool
has_row r ks = list_any (is_unforgotten r) ks

abbrev pub is_living : BranchId → List Live → Bool
is_living r ls = list_any (is_item_of live_id r) ls

-- a branch is live, or has such a row
abbrev pub Lasts : BranchId → NodeState → Type 0
Lasts r k = (is_living r k.lives ≡ true) ⊎ (has_row r k.stored.durable.kept ≡ true)

-- ---- lists

module _ {A : Type 0} (p : A → Bool) where
  -- an item more, in its place
  any_put_in : (id : A → BranchId) (xs : List A) (x : A) → list_any p xs ≡ true → list_any p (put_by_branch id xs x) ≡ true
  any_put_in id [] x is = absurd cc
  any_put_in id (y ∷ ys) x is = by (branch_below (id x) (id y)) (p y) is (any_put_in id ys x)
    where
      by : (q here : Bool) → (here || list_any p ys) ≡ true → (list_any p ys ≡ true → list_any p (put_by_branch id ys x) ≡ true)
          → list_any p (if q then x ∷ y ∷ ys else y ∷ put_by_branch id ys x) ≡ true
      by true here found rest = or_right (p x) (list_any p (y ∷ ys)) is
      by false here found rest = after (p y) is
        where
          after : (w : Bool) → (w || list_any p ys) ≡ true → (w || list_any p (put_by_branch id ys x)) ≡ true
          after true at = refl
          after false at = rest at

  -- and it is there
  any_put_new : (id : A → BranchId) (xs : List A) (x : A) → p x ≡ true → list_any p (put_by_branch id xs x) ≡ true
  any_put_new id [] x is = ap (λ q. q || false) is
  any_put_new id (y ∷ ys) x is =
      cond_both (branch_below (id x) (id y)) (x ∷ y ∷ ys) (y ∷ put_by_branch id ys x) (λ zs. list_any p zs ≡ true) (λ below. ap (λ q. q || list_any p (y ∷ ys)) is)
      (λ other. or_right (p y) (list_any p (put_by_branch id ys x)) (any_put_new id ys x is))

  -- a change that leaves the test
  any_change : (q : A → Bool) (f : A → A) → ((x : A) → p (f x) ≡ p x) → (xs : List A) → list_any p (change_where q f xs) ≡ list_any p xs
  any_change q f still [] = refl
  any_change q f still (x ∷ xs) =
      let here : p (if q x then f x else x) ≡ p x = cond_both (q x) (f x) x (λ y. p y ≡ p x) (λ is. still x) (λ other. refl) in
      ap (λ w. w || list_any p (change_where q f xs)) here ∙ ap (λ w. p x || w) (any_change q f still xs)

  -- others are dropped
  any_drop : (q : A → Bool) → ((x : A) → p x ≡ true → q x ≡ false) → (xs : List A) → list_any p xs ≡ true → list_any p (drop_where q xs) ≡ true
  any_drop q other [] is = absurd cc
  any_drop q other (x ∷ xs) is = by (p x) refl is (any_drop q other xs)
    where
      by : (w : Bool) → p x ≡ w → (w || list_any p xs) ≡ true → (list_any p xs ≡ true → list_any p (drop_where q xs) ≡ true) → list_any p (drop_where q (x ∷ xs)) ≡ true
      by true here found rest =
          let stays : q x ≡ false = other x here in
          ap (λ v. list_any p (if not v then x ∷ drop_where q xs else drop_where q xs)) stays ∙ ap (λ v. v || list_any p (drop_where q xs)) here
      by false here found rest =
          cond_both (not (q x)) (x ∷ drop_where q xs) (drop_where q xs) (λ zs. list_any p zs ≡ true) (λ is_kept. or_right (p x) (list_any p (drop_where q xs)) (rest found)) (λ gone. rest found)

  -- an item in the place of one with the same test
  any_same : (id : A → BranchId) (xs : List A) (x y : A) → item_at id xs (id x) ≡ Some y → p x ≡ p y → list_any p (put_item id xs x) ≡ list_any p xs
  any_same id [] x y found alike = absurd cc
  any_same id (z ∷ zs) x y found alike = by (same (id z) (id x)) found (any_same id zs x y)
    where
      by : (q : Bool) → (if q then Some z else item_at id zs (id x)) ≡ Some y → (item_at id zs (id x) ≡ Some y → p x ≡ p y → list_any p (put_item id zs x) ≡ list_any p zs)
          → list_any p (if q then x ∷ zs else z ∷ put_item id zs x) ≡ (p z || list_any p zs)
      by true here rest = (let it : Some z ≡ Some y = here in let one : z ≡ y = cc in ap (λ w. w || list_any p zs) (alike ∙ ap p (sym one)))
      by false here rest = ap (λ w. p z || w) (rest here alike)

-- ---- rows

-- whether a record is of another branch, where it ends a row
abbrev pub Spares : BranchId → RedoRecord → Type 0
Spares r (records.Ended b decisions.Rollback) = b ≢ r
Spares r (records.Met b decisions.Rollback mixed) = b ≢ r
Spares r (records.Forgot b) = b ≢ r
Spares r _ = Unit {0}

module _ (r : BranchId) where
  other_row : (b : BranchId) → b ≢ r → (s : KeptRow) → is_unforgotten r s ≡ true → stands_at b s ≡ false
  other_row b other s is = by (stands_at b s) refl
    where
      by : (q : Bool) → stands_at b s ≡ q → stands_at b s ≡ false
      by false at = at
      by true at = absurd (other (sym (equal_from_same s.me b at) ∙ equal_from_same s.me r (and_parts (same s.me r) (not s.forgot) is).0))

  other_done : (b : BranchId) → b ≢ r → (s : KeptRow) → is_unforgotten r s ≡ true → is_done b s ≡ false
  other_done b other s is = ap (λ q. q && not s.mixed) (other_row b other s is)

  -- a row that forgets is of another branch
  forgot_other : (b : BranchId) → b ≢ r → (ks : List KeptRow) → has_row r ks ≡ true → has_row r (change_where (stands_at b) forgot_as ks) ≡ true
  forgot_other b other [] is = absurd cc
  forgot_other b other (s ∷ ks) is = by (is_unforgotten r s) refl is (forgot_other b other ks)
    where
      by : (w : Bool) → is_unforgotten r s ≡ w → (w || has_row r ks) ≡ true → (has_row r ks ≡ true → has_row r (change_where (stands_at b) forgot_as ks) ≡ true) → has_row r (change_where (stands_at b) forgot_as (s ∷ ks)) ≡ true
      by true here found rest =
          let still : stands_at b s ≡ false = other_row b other s here in
          ap (λ q. is_unforgotten r (if q then forgot_as s else s) || has_row r (change_where (stands_at b) forgot_as ks)) still ∙ ap (λ q. q || has_row r (change_where (stands_at b) forgot_as ks)) here
      by false here found rest = or_right (is_unforgotten r (if stands_at b s then forgot_as s else s)) (has_row r (change_where (stands_at b) forgot_as ks)) (rest found)

  pub row_kept : (ks : List KeptRow) (x : RedoRecord) → Spares r x → has_row r ks ≡ true → has_row r (kept_after ks x) ≡ true
  unfolding kept_after
  row_kept ks (records.Sealed x) spares is = any_put_in (is_unforgotten r) (λ y. y.me) ks (sealed_as x) is
  row_kept ks (records.Decided x) spares is = cond_both (has_neighbors (decided_as x)) _ _ (λ zs. has_row r zs ≡ true) (λ kept. any_put_in (is_unforgotten r) (λ y. y.me) ks (decided_as x) is) (λ alone. is)
  row_kept ks (records.Ended b (decisions.Commit n)) spares is = any_change (is_unforgotten r) (stands_at b) (ended_commit n) (λ x. refl) ks ∙ is
  row_kept ks (records.Ended b decisions.Rollback) spares is = any_drop (is_unforgotten r) (stands_at b) (other_row b spares) ks is
  row_kept ks (records.Forced b d given) spares is = any_change (is_unforgotten r) (stands_at b) (in_state (forced_state d)) (λ x. refl) ks ∙ is
  row_kept ks (records.Met b (decisions.Commit n) true) spares is = any_change (is_unforgotten r) (stands_at b) (met_as (decisions.Commit n) true) (λ x. refl) ks ∙ is
  row_kept ks (records.Met b (decisions.Commit n) false) spares is = any_change (is_unforgotten r) (stands_at b) (met_as (decisions.Commit n) false) (λ x. refl) ks ∙ is
  row_kept ks (records.Met b decisions.Rollback true) spares is = any_change (is_unforgotten r) (stands_at b) (met_as decisions.Rollback true) (λ x. refl) ks ∙ is
  row_kept ks (records.Met b decisions.Rollback false) spares is = any_drop (is_unforgotten r) (stands_at b) (other_row b spares) ks is
  row_kept ks (records.Forgot b) spares is = forgot_other b spares (drop_where (is_done b) ks) (any_drop (is_unforgotten r) (is_done b) (other_done b spares) ks is)
  row_kept ks (records.Hidden b) spares is = any_change (is_unforgotten r) (stands_at b) hidden_as (λ x. refl) ks ∙ is
  row_kept ks _ spares is = is

  pub row_applied : (s : Stored) (x : RedoRecord) → Spares r x → has_row r s.durable.kept ≡ true → has_row r (applied s x).durable.kept ≡ true
  unfolding applied durable_after
  row_applied s (records.Boot n) spares is = is
  row_applied s (records.Table t) spares is = is
  row_applied s (records.Link l) spares is = is
  row_applied s (records.Synonym y) spares is = is
  row_applied s (records.Param (params.Recovery on)) spares is = is
  row_applied s (records.Param (params.Strength strength)) spares is = is
  row_applied s x spares is = row_kept s.durable.kept x spares is

  -- the row of a seal, and of a decision with neighbours
  pub sealed_row : (s : Stored) (x : Sealed) → x.me ≡ r → has_row r (applied s (records.Sealed x)).durable.kept ≡ true
  unfolding applied durable_after kept_after
  sealed_row s x me = any_put_new (is_unforgotten r) (λ y. y.me) s.durable.kept (sealed_as x) (ap (λ q. q && true) (same_from_equal x.me r me))

  pub decided_row : (s : Stored) (x : Decided) → x.me ≡ r → has_neighbors (decided_as x) ≡ true → has_row r (applied s (records.Decided x)).durable.kept ≡ true
  unfolding applied durable_after kept_after
  decided_row s x me neighbors =
      cond_both (has_neighbors (decided_as x)) _ _ (λ zs. has_row r zs ≡ true) (λ kept. any_put_new (is_unforgotten r) (λ y. y.me) s.durable.kept (decided_as x) (ap (λ q. q && true) (same_from_equal x.me r me)))
      (λ alone. absurd (cc (neighbors, alone)))

  -- ---- live branches and rows

  module _ (k : NodeState) where
    pub lives_put : (ls : List Live) (l y : Live) → item_at live_id ls l.me ≡ Some y → is_living r ls ≡ true → is_living r (put_item live_id ls l) ≡ true
    lives_put ls l y found is = any_put live_id r ls l y found ∙ is

    pub lives_drop : (ls : List Live) (b : BranchId) → b ≢ r → is_living r ls ≡ true → is_living r (drop_item live_id ls b) ≡ true
    lives_drop ls b other is = any_dropped live_id ls r b (apart (same r b) refl) ∙ is
      where
        apart : (q : Bool) → same r b ≡ q → same r b ≡ false
        apart false at = at
        apart true at = absurd (other (sym (equal_from_same r b at)))

    pub acked_row : (s y : KeptRow) → item_at kept_row_id k.stored.durable.kept s.me ≡ Some y → s.forgot ≡ y.forgot → s.me ≡ y.me → has_row r k.stored.durable.kept ≡ true
        → has_row r (put_item kept_row_id k.stored.durable.kept s) ≡ true
    acked_row s y found forgot me is =
        any_same (is_unforgotten r) kept_row_id k.stored.durable.kept s y found (ap (λ b. same b r && not s.forgot) me ∙ ap (λ q. same y.me r && not q) forgot) ∙ is
