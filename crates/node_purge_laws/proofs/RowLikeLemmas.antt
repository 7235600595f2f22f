-- Rows that differ in which are hidden alone: what is found in them, what records make of them, and what a branch does next.
use Rattle.std.proofs.Common.{◌≡◌, not, Bool, true, false, if◌then◌else◌, List, [], ◌∷◌, Option, Some, None, refl, sym, ap, subst, subst₂, ◌∙◌}
use Rattle.tran_ids.specs.Branch.{same, branch_below, put_by_branch}
use Rattle.tran_ids.specs.Listed.{item_at, put_item}
use Rattle.redo_record.specs.Lists.{change_where, drop_where}
use Rattle.redo_record.specs.Kept.{stands_at, ended_commit, forced_state, in_state, met_as, forgot_as, hidden_as, is_done, kept_after}
use Rattle.redo_record.specs.Rows.{sealed_as, decided_as, has_neighbors}
use Rattle.node_rules.specs.Data.{BranchId, RedoRecord, KeptRow}
use Rattle.node_rules.specs.Data.decisions
use Rattle.node_rules.specs.Data.records
use Rattle.node_rules.specs.NodeState.{kept_row_id}
use Rattle.node_purge_laws.specs.PurgeLaws.{row_as, RowsLike}

-- ---- two rows

-- the same row, hidden or not
abbrev pub OneLike : KeptRow → KeptRow → Type 0
OneLike x y = y ≡ row_as x y.hidden

-- what a row found is, in like rows
abbrev pub FoundLike : Option KeptRow → Option KeptRow → Type 0
FoundLike None None = Unit {0}
FoundLike (Some x) (Some y) = OneLike x y
FoundLike None (Some y) = ⊥
FoundLike (Some x) None = ⊥

-- ---- lists

-- a change of rows that leaves like rows alike
abbrev pub KeepsLike : (KeptRow → KeptRow) → Type 0
KeepsLike g = (x : KeptRow) (h : Bool) → OneLike (g x) (g (row_as x h))

one_by : (g : KeptRow → KeptRow) → KeepsLike g → (x y : KeptRow) → OneLike x y → OneLike (g x) (g y)
one_by g keeps x y is = subst (λ z. OneLike (g x) (g z)) (sym is) (keeps x y.hidden)

-- a test that does not see it
abbrev pub IsBlind : (KeptRow → Bool) → Type 0
IsBlind test = (x : KeptRow) (h : Bool) → test (row_as x h) ≡ test x

pub blind_by : (test : KeptRow → Bool) → IsBlind test → (x y : KeptRow) → OneLike x y → test y ≡ test x
blind_by test blind x y is = ap test is ∙ blind x y.hidden

module _ (test : KeptRow → Bool) (blind : IsBlind test) where
  change_one : (g : KeptRow → KeptRow) → KeepsLike g → (q : Bool) (x y : KeptRow) → OneLike x y → OneLike (if q then g x else x) (if q then g y else y)
  change_one g keeps true x y is = one_by g keeps x y is
  change_one g keeps false x y is = is

  changes_like : (g : KeptRow → KeptRow) → KeepsLike g → (xs ys : List KeptRow) → RowsLike xs ys → RowsLike (change_where test g xs) (change_where test g ys)
  changes_like g keeps [] [] like = tt
  changes_like g keeps [] (y ∷ ys) like = absurd like
  changes_like g keeps (x ∷ xs) [] like = absurd like
  changes_like g keeps (x ∷ xs) (y ∷ ys) like = (
    subst (λ (q : Bool). OneLike (if test x then g x else x) (if q then g y else y)) (sym (blind_by test blind x y like.0)) (change_one g keeps (test x) x y like.0),
    changes_like g keeps xs ys like.1,
  )

  pub drop_one : (q : Bool) (x y : KeptRow) (xs ys : List KeptRow) → OneLike x y → RowsLike xs ys → RowsLike (if q then x ∷ xs else xs) (if q then y ∷ ys else ys)
  drop_one true x y xs ys is like = (is, like)
  drop_one false x y xs ys is like = like

  drops_like : (xs ys : List KeptRow) → RowsLike xs ys → RowsLike (drop_where test xs) (drop_where test ys)
  drops_like [] [] like = tt
  drops_like [] (y ∷ ys) like = absurd like
  drops_like (x ∷ xs) [] like = absurd like
  drops_like (x ∷ xs) (y ∷ ys) like =
      subst (λ (q : Bool). RowsLike (drop_where test (x ∷ xs)) (if not q then y ∷ drop_where test ys else drop_where test ys)) (sym (blind_by test blind x y like.0))
      (drop_one (not (test x)) x y (drop_where test xs) (drop_where test ys) like.0 (drops_like xs ys like.1))

  find_one : (q : Bool) (x y : KeptRow) (o r : Option KeptRow) → OneLike x y → FoundLike o r → FoundLike (if q then Some x else o) (if q then Some y else r)
  find_one true x y o r is like = is
  find_one false x y o r is like = like

pub id_same : (x y : KeptRow) → OneLike x y → y.me ≡ x.me
id_same x y is = ap kept_row_id is

-- the row of a branch
pub found_like : (xs ys : List KeptRow) (b : BranchId) → RowsLike xs ys → FoundLike (item_at kept_row_id xs b) (item_at kept_row_id ys b)
found_like [] [] b like = tt
found_like [] (y ∷ ys) b like = absurd like
found_like (x ∷ xs) [] b like = absurd like
found_like (x ∷ xs) (y ∷ ys) b like =
    subst (λ i. FoundLike (if same x.me b then Some x else item_at kept_row_id xs b) (if same i b then Some y else item_at kept_row_id ys b)) (sym (id_same x y like.0))
    (find_one (stands_at b) (λ z h. refl) (same x.me b) x y (item_at kept_row_id xs b) (item_at kept_row_id ys b) like.0 (found_like xs ys b like.1))

put_one : (q : Bool) (x y z w : KeptRow) (xs ys put_x put_y : List KeptRow) → OneLike x y → OneLike z w → RowsLike xs ys → RowsLike put_x put_y → RowsLike (if q then z ∷ xs else x ∷ put_x) (if q then w ∷ ys else y ∷ put_y)
put_one true x y z w xs ys put_x put_y is new like rest = (new, like)
put_one false x y z w xs ys put_x put_y is new like rest = (is, rest)

-- a row in its place
pub put_like : (xs ys : List KeptRow) (z w : KeptRow) → OneLike z w → RowsLike xs ys → RowsLike (put_item kept_row_id xs z) (put_item kept_row_id ys w)
put_like [] [] z w new like = (new, tt)
put_like [] (y ∷ ys) z w new like = absurd like
put_like (x ∷ xs) [] z w new like = absurd like
put_like (x ∷ xs) (y ∷ ys) z w new like =
    subst₂ (λ i j. RowsLike (if same x.me z.me then z ∷ xs else x ∷ put_item kept_row_id xs z) (if same i j then w ∷ ys else y ∷ put_item kept_row_id ys w)) (sym (id_same x y like.0)) (sym (id_same z w new))
    (put_one (same x.me z.me) x y z w xs ys (put_item kept_row_id xs z) (put_item kept_row_id ys w) like.0 new like.1 (put_like xs ys z w new like.1))

add_one : (q : Bool) (x y z : KeptRow) (xs ys put_x put_y : List KeptRow) → OneLike x y → RowsLike xs ys → RowsLike put_x put_y → RowsLike (if q then z ∷ x ∷ xs else x ∷ put_x) (if q then z ∷ y ∷ ys else y ∷ put_y)
add_one true x y z xs ys put_x put_y is like rest = (refl, (is, like))
add_one false x y z xs ys put_x put_y is like rest = (is, rest)

-- a new row in its order
add_like : (xs ys : List KeptRow) (z : KeptRow) → RowsLike xs ys → RowsLike (put_by_branch (λ (v : KeptRow). v.me) xs z) (put_by_branch (λ (v : KeptRow). v.me) ys z)
add_like [] [] z like = (refl, tt)
add_like [] (y ∷ ys) z like = absurd like
add_like (x ∷ xs) [] z like = absurd like
add_like (x ∷ xs) (y ∷ ys) z like =
    subst (λ i. RowsLike (put_by_branch (λ (v : KeptRow). v.me) (x ∷ xs) z) (if branch_below z.me i then z ∷ y ∷ ys else y ∷ put_by_branch (λ (v : KeptRow). v.me) ys z)) (sym (id_same x y like.0))
    (add_one (branch_below z.me x.me) x y z xs ys (put_by_branch (λ (v : KeptRow). v.me) xs z) (put_by_branch (λ (v : KeptRow). v.me) ys z) like.0 like.1 (add_like xs ys z like.1))

-- ---- records

keep_one : (q : Bool) (xs ys put_x put_y : List KeptRow) → RowsLike xs ys → RowsLike put_x put_y → RowsLike (if q then put_x else xs) (if q then put_y else ys)
keep_one true xs ys put_x put_y like rest = rest
keep_one false xs ys put_x put_y like rest = like

-- like rows are alike after a record
pub kept_like : (xs ys : List KeptRow) (r : RedoRecord) → RowsLike xs ys → RowsLike (kept_after xs r) (kept_after ys r)
unfolding kept_after
kept_like xs ys (records.Sealed r) like = add_like xs ys (sealed_as r) like
kept_like xs ys (records.Decided r) like = keep_one (has_neighbors (decided_as r)) xs ys _ _ like (add_like xs ys (decided_as r) like)
kept_like xs ys (records.Ended b (decisions.Commit n)) like = changes_like (stands_at b) (λ z h. refl) (ended_commit n) (λ z h. refl) xs ys like
kept_like xs ys (records.Ended b decisions.Rollback) like = drops_like (stands_at b) (λ z h. refl) xs ys like
kept_like xs ys (records.Forced b d given) like = changes_like (stands_at b) (λ z h. refl) (in_state (forced_state d)) (λ z h. refl) xs ys like
kept_like xs ys (records.Met b d true) like = changes_like (stands_at b) (λ z h. refl) (met_as d true) (λ z h. refl) xs ys like
kept_like xs ys (records.Met b (decisions.Commit n) false) like = changes_like (stands_at b) (λ z h. refl) (met_as (decisions.Commit n) false) (λ z h. refl) xs ys like
kept_like xs ys (records.Met b decisions.Rollback false) like = drops_like (stands_at b) (λ z h. refl) xs ys like
kept_like xs ys (records.Forgot b) like = changes_like (stands_at b) (λ z h. refl) forgot_as (λ z h. refl) _ _ (drops_like (is_done b) (λ z h. refl) xs ys like)
kept_like xs ys (records.Hidden b) like = changes_like (stands_at b) (λ z h. refl) hidden_as (λ z h. refl) xs ys like
kept_like xs ys _ like = like
