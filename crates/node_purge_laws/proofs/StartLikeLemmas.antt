-- Nodes and disks that differ in purges alone, at their places in lists, and what a start makes of such a disk.
use Rattle.std.proofs.Common.{◌≡◌, ℕ, zero, suc, ◌+◌, List, [], ◌∷◌, ◌++◌, slice_get, slice_set, unwrap_or, Option, Some, None, refl, sym, ap, subst, subst₂, ◌∙◌}
use Rattle.std.specs.Option.{option_to_list}
use Rattle.redo_record.specs.Durable.{durable_after}
use Rattle.redo_record.specs.Kept.{kept_after}
use Rattle.node_rules.specs.Data.{BranchId, KeptRow, RedoRecord}
use Rattle.node_rules.specs.Data.records
use Rattle.node_rules.specs.NodeState.{NodeState, Stored}
use Rattle.node_rules.specs.Records.{applied, nothing_stored, stored_by, versions_read, versions_in}
use Rattle.node_rules.specs.Turn.{kept_by, start_of}
use Rattle.node_rules.specs.Words.{numbered, set_numbered}
use Rattle.node_rules.specs.Data.decisions
use Rattle.run_rules.specs.Facts.{flat}
use Rattle.run_rules.specs.Lawful.{boots}
use Rattle.node_purge_laws.specs.PurgeLaws.{row_as, RowsLike, rows_of, with_rows, IsLike, but_hidden, written}
use Rattle.node_purge_laws.proofs.HideLemmas.{rows_same, hidden_like}
use Rattle.node_purge_laws.proofs.LikeLemmas.{recorded}
use Rattle.read_only_tx.specs.Versions.{Versions, versions_from}

-- ---- nodes that are alike

rows_turned : (xs ys : List KeptRow) → RowsLike xs ys → RowsLike ys xs
rows_turned [] [] like = tt
rows_turned [] (y ∷ ys) like = absurd like
rows_turned (x ∷ xs) [] like = absurd like
rows_turned (x ∷ xs) (y ∷ ys) like = (subst (λ z. x ≡ row_as z x.hidden) (sym like.0) refl, rows_turned xs ys like.1)

rows_on : (xs ys zs : List KeptRow) → RowsLike xs ys → RowsLike ys zs → RowsLike xs zs
rows_on [] [] zs like next = next
rows_on [] (y ∷ ys) zs like next = absurd like
rows_on (x ∷ xs) [] zs like next = absurd like
rows_on (x ∷ xs) (y ∷ ys) [] like next = absurd next
rows_on (x ∷ xs) (y ∷ ys) (z ∷ zs) like next = (subst (λ w. z ≡ row_as w z.hidden) like.0 next.0, rows_on xs ys zs like.1 next.1)

pub like_turned : {k other : NodeState} → IsLike k other → IsLike other k
like_turned {k} {other} like = record { same = subst (λ z. k ≡ with_rows z (rows_of k)) (sym like.same) refl; rows = rows_turned (rows_of k) (rows_of other) like.rows }

pub like_on : {k other next : NodeState} → IsLike k other → IsLike other next → IsLike k next
like_on {k} {other} {next} like more = record {
  same = subst (λ z. next ≡ with_rows z (rows_of next)) like.same more.same;
  rows = rows_on (rows_of k) (rows_of other) (rows_of next) like.rows more.rows;
}

-- both are down, or both are up and alike
abbrev pub NodeLike : Option NodeState → Option NodeState → Type 0
NodeLike None None = Unit {0}
NodeLike (Some k) (Some other) = IsLike k other
NodeLike None (Some other) = ⊥
NodeLike (Some k) None = ⊥

-- ---- disks

-- the same records but for the hidden rows of images, and without some that hide a row
pub data Fewer : List RedoRecord → List RedoRecord → Type 0 where
  Same_end : Fewer [] []
  Same_record : {rs more : List RedoRecord} (r q : RedoRecord) → but_hidden q ≡ but_hidden r → Fewer rs more → Fewer (r ∷ rs) (q ∷ more)
  One_fewer : {rs more : List RedoRecord} (b : BranchId) → Fewer rs more → Fewer (records.Hidden b ∷ rs) more

pub fewer_same : (rs : List RedoRecord) → Fewer rs rs
fewer_same [] = Same_end
fewer_same (r ∷ rs) = Same_record r r refl (fewer_same rs)

pub fewer_with : {rs more : List RedoRecord} → Fewer rs more → (w v : Option RedoRecord) → written v ≡ written w → Fewer (rs ++ option_to_list w) (more ++ option_to_list v)
fewer_with Same_end None None same = Same_end
fewer_with Same_end None (Some q) same = absurd cc
fewer_with Same_end (Some r) None same = absurd cc
fewer_with Same_end (Some r) (Some q) same = (let same : but_hidden q ≡ but_hidden r = cc in Same_record r q same Same_end)
fewer_with (Same_record r q is few) w v same = Same_record r q is (fewer_with few w v same)
fewer_with (One_fewer b few) w v same = One_fewer b (fewer_with few w v same)

pub fewer_hidden : {rs more : List RedoRecord} → Fewer rs more → (b : BranchId) → Fewer (rs ++ records.Hidden b ∷ []) more
fewer_hidden Same_end b = One_fewer b Same_end
fewer_hidden (Same_record r q is few) b = Same_record r q is (fewer_hidden few b)
fewer_hidden (One_fewer c few) b = One_fewer c (fewer_hidden few b)

-- an image is no start of the node
boots_same : (r : RedoRecord) (rs : List RedoRecord) → boots (but_hidden r ∷ rs) ≡ boots (r ∷ rs)
boots_same (records.Boot n) rs = refl
boots_same (records.Table t) rs = refl
boots_same (records.Link l) rs = refl
boots_same (records.Synonym y) rs = refl
boots_same (records.Param q) rs = refl
boots_same (records.Sealed r) rs = refl
boots_same (records.Decided r) rs = refl
boots_same (records.Ended b d) rs = refl
boots_same (records.Forced b d given) rs = refl
boots_same (records.Met b d mixed) rs = refl
boots_same (records.Forgot b) rs = refl
boots_same (records.Hidden b) rs = refl
boots_same (records.Image i) rs = refl

one_boot : (r : RedoRecord) (rs more : List RedoRecord) → boots more ≡ boots rs → boots (r ∷ more) ≡ boots (r ∷ rs)
one_boot (records.Boot n) rs more same = ap (λ m. 1 + m) same
one_boot (records.Table t) rs more same = same
one_boot (records.Link l) rs more same = same
one_boot (records.Synonym y) rs more same = same
one_boot (records.Param q) rs more same = same
one_boot (records.Sealed r) rs more same = same
one_boot (records.Decided r) rs more same = same
one_boot (records.Ended b d) rs more same = same
one_boot (records.Forced b d given) rs more same = same
one_boot (records.Met b d mixed) rs more same = same
one_boot (records.Forgot b) rs more same = same
one_boot (records.Hidden b) rs more same = same
one_boot (records.Image i) rs more same = same

pub fewer_boots : {rs more : List RedoRecord} → Fewer rs more → boots more ≡ boots rs
fewer_boots Same_end = refl
fewer_boots (Same_record {rs = rs} {more = more} r q is few) = sym (boots_same q more) ∙ (ap (λ x. boots (x ∷ more)) is ∙ (boots_same r more ∙ one_boot r rs more (fewer_boots few)))
fewer_boots (One_fewer b few) = fewer_boots few

-- ---- a start

-- which rows are hidden does not matter to the commits that are kept
versions_same : (s : Stored) (ks : List KeptRow) (vs : Versions) (r : RedoRecord) → versions_read (record s { durable = record s.durable { kept = ks } }) vs r ≡ versions_read s vs r
versions_same s ks vs (records.Decided r) = refl
versions_same s ks vs (records.Ended b (decisions.Commit n)) = refl
versions_same s ks vs (records.Ended b decisions.Rollback) = refl
versions_same s ks vs (records.Forced b (decisions.Commit n) given) = refl
versions_same s ks vs (records.Forced b decisions.Rollback given) = refl
versions_same s ks vs (records.Image i) = refl
versions_same s ks vs _ = refl

-- the hidden rows of an image do not matter to what is stored, nor to the commits that are kept
applied_same : (s : Stored) (r : RedoRecord) → applied s (but_hidden r) ≡ applied s r
unfolding applied durable_after kept_after
applied_same s (records.Boot n) = refl
applied_same s (records.Table t) = refl
applied_same s (records.Link l) = refl
applied_same s (records.Synonym y) = refl
applied_same s (records.Param q) = refl
applied_same s (records.Sealed r) = refl
applied_same s (records.Decided r) = refl
applied_same s (records.Ended b d) = refl
applied_same s (records.Forced b d given) = refl
applied_same s (records.Met b d mixed) = refl
applied_same s (records.Forgot b) = refl
applied_same s (records.Hidden b) = refl
applied_same s (records.Image i) = refl

read_same : (s : Stored) (vs : Versions) (r : RedoRecord) → versions_read s vs (but_hidden r) ≡ versions_read s vs r
read_same s vs (records.Boot n) = refl
read_same s vs (records.Table t) = refl
read_same s vs (records.Link l) = refl
read_same s vs (records.Synonym y) = refl
read_same s vs (records.Param q) = refl
read_same s vs (records.Sealed r) = refl
read_same s vs (records.Decided r) = refl
read_same s vs (records.Ended b d) = refl
read_same s vs (records.Forced b d given) = refl
read_same s vs (records.Met b d mixed) = refl
read_same s vs (records.Forgot b) = refl
read_same s vs (records.Hidden b) = refl
read_same s vs (records.Image i) = refl

-- one record more on both disks
started_with : (s z : Stored) (vs us : Versions) (r q : RedoRecord) → but_hidden q ≡ but_hidden r → IsLike (kept_by s vs) (kept_by z us) → IsLike (kept_by (applied s r) (versions_read s vs r)) (kept_by (applied z q) (versions_read z us q))
started_with s z vs us r q is like =
    let x : Stored = record s { durable = record s.durable { kept = z.durable.kept } } in
    let both = recorded (kept_by s vs) z.durable.kept like.rows r in
    let store : applied z q ≡ applied z r = sym (applied_same z q) ∙ (ap (applied z) is ∙ applied_same z r) in
    let reads : versions_read z us q ≡ versions_read z us r = sym (read_same z us q) ∙ (ap (versions_read z us) is ∙ read_same z us r) in
    subst₂ (λ (t : Stored) (ws : Versions). IsLike (kept_by (applied s r) (versions_read s vs r)) (kept_by t ws)) (sym store) (sym reads)
    (subst (λ (y : NodeState). IsLike (kept_by (applied s r) (versions_read s vs r)) (kept_by (applied y.stored r) (versions_read y.stored y.versions r))) (sym like.same)
    (subst (λ (ws : Versions). IsLike (kept_by (applied s r) (versions_read s vs r)) (kept_by (applied x r) ws)) (sym (versions_same s z.durable.kept vs r))
    (record { same = ap (λ (y : NodeState). kept_by y.stored (versions_read s vs r)) both.same; rows = both.rows })))

-- and one that hides a row on the first alone
started_hidden : (s z : Stored) (vs us : Versions) (b : BranchId) → IsLike (kept_by s vs) (kept_by z us) → IsLike (kept_by (applied s (records.Hidden b)) vs) (kept_by z us)
unfolding applied durable_after kept_after
started_hidden s z vs us b like = like_on (like_turned (hidden_like (kept_by s vs) b)) like

stored_like : {rs more : List RedoRecord} → Fewer rs more → (s z : Stored) (vs us : Versions) → IsLike (kept_by s vs) (kept_by z us) → IsLike (kept_by (stored_by s rs) (versions_in s vs rs)) (kept_by (stored_by z more) (versions_in z us more))
unfolding stored_by
stored_like Same_end s z vs us like = like
stored_like (Same_record r q is few) s z vs us like = stored_like few (applied s r) (applied z q) (versions_read s vs r) (versions_read z us q) (started_with s z vs us r q is like)
stored_like (One_fewer b few) s z vs us like = stored_like few (applied s (records.Hidden b)) z vs us (started_hidden s z vs us b like)

pub start_like : {rs more : List RedoRecord} → Fewer rs more → IsLike (start_of rs) (start_of more)
unfolding start_of
start_like few = stored_like few nothing_stored nothing_stored (versions_from 0) (versions_from 0) (record { same = refl; rows = rows_same (rows_of (kept_by nothing_stored (versions_from 0))) })

-- ---- lists of them

module _ {A : Type 0} (Both : A → A → Type 0) where
  -- the items of two lists, one by one
  abbrev pub Pairwise : List A → List A → Type 0
  Pairwise [] [] = Unit {0}
  Pairwise [] (y ∷ ys) = ⊥
  Pairwise (x ∷ xs) [] = ⊥
  Pairwise (x ∷ xs) (y ∷ ys) = Both x y × Pairwise xs ys

  pub pairs_same : ((x : A) → Both x x) → (xs : List A) → Pairwise xs xs
  pairs_same same [] = tt
  pairs_same same (x ∷ xs) = (same x, pairs_same same xs)

  abbrev BothThere : Option A → Option A → Type 0
  BothThere None None = Unit {0}
  BothThere (Some x) (Some y) = Both x y
  BothThere None (Some y) = ⊥
  BothThere (Some x) None = ⊥

  slices_at : (xs ys : List A) (i : ℕ) → Pairwise xs ys → BothThere (slice_get xs i) (slice_get ys i)
  slices_at [] [] i pairs = tt
  slices_at [] (y ∷ ys) i pairs = absurd pairs
  slices_at (x ∷ xs) [] i pairs = absurd pairs
  slices_at (x ∷ xs) (y ∷ ys) zero pairs = pairs.0
  slices_at (x ∷ xs) (y ∷ ys) (suc i) pairs = slices_at xs ys i pairs.1

  pairs_at : (xs ys : List A) (n : ℕ) → Pairwise xs ys → BothThere (numbered xs n) (numbered ys n)
  pairs_at xs ys zero pairs = tt
  pairs_at xs ys (suc i) pairs = slices_at xs ys i pairs

  slices_set : (xs ys : List A) (i : ℕ) (x y : A) → Pairwise xs ys → Both x y → Pairwise (slice_set xs i x) (slice_set ys i y)
  slices_set [] [] i x y pairs new = tt
  slices_set [] (w ∷ ws) i x y pairs new = absurd pairs
  slices_set (z ∷ zs) [] i x y pairs new = absurd pairs
  slices_set (z ∷ zs) (w ∷ ws) zero x y pairs new = (new, pairs.1)
  slices_set (z ∷ zs) (w ∷ ws) (suc i) x y pairs new = (pairs.0, slices_set zs ws i x y pairs.1 new)

  -- an item is set in both
  pub pairs_set : (xs ys : List A) (n : ℕ) (x y : A) → Pairwise xs ys → Both x y → Pairwise (set_numbered xs n x) (set_numbered ys n y)
  pairs_set xs ys zero x y pairs new = pairs
  pairs_set xs ys (suc i) x y pairs new = slices_set xs ys i x y pairs new

  slice_left : (xs ys : List A) (i : ℕ) (x : A) → Pairwise xs ys → ((y : A) → slice_get ys i ≡ Some y → Both x y) → Pairwise (slice_set xs i x) ys
  slice_left [] [] i x pairs new = tt
  slice_left [] (w ∷ ws) i x pairs new = absurd pairs
  slice_left (z ∷ zs) [] i x pairs new = absurd pairs
  slice_left (z ∷ zs) (w ∷ ws) zero x pairs new = (new w refl, pairs.1)
  slice_left (z ∷ zs) (w ∷ ws) (suc i) x pairs new = (pairs.0, slice_left zs ws i x pairs.1 new)

  -- or in the first alone
  pub pairs_left : (xs ys : List A) (n : ℕ) (x : A) → Pairwise xs ys → ((y : A) → numbered ys n ≡ Some y → Both x y) → Pairwise (set_numbered xs n x) ys
  pairs_left xs ys zero x pairs new = pairs
  pairs_left xs ys (suc i) x pairs new = slice_left xs ys i x pairs new

-- an item that is set twice
slice_twice : {A : Type 0} (xs : List A) (i : ℕ) (x y : A) → slice_set (slice_set xs i x) i y ≡ slice_set xs i y
slice_twice [] i x y = refl
slice_twice (z ∷ zs) zero x y = refl
slice_twice (z ∷ zs) (suc i) x y = ap (λ ws. z ∷ ws) (slice_twice zs i x y)

pub set_twice : {A : Type 0} (xs : List A) (n : ℕ) (x y : A) → set_numbered (set_numbered xs n x) n y ≡ set_numbered xs n y
set_twice xs zero x y = refl
set_twice xs (suc i) x y = slice_twice xs i x y

-- what is at a number
pub node_there : (ns ms : List (Option NodeState)) (n : ℕ) → Pairwise NodeLike ns ms → NodeLike (flat (numbered ns n)) (flat (numbered ms n))
node_there ns ms n pairs = by (numbered ns n) (numbered ms n) (pairs_at NodeLike ns ms n pairs)
  where
    by : (o r : Option (Option NodeState)) → BothThere NodeLike o r → NodeLike (flat o) (flat r)
    by None None both = tt
    by None (Some y) both = absurd both
    by (Some x) None both = absurd both
    by (Some x) (Some y) both = both

pub disk_there : (ds es : List (List RedoRecord)) (n : ℕ) → Pairwise Fewer ds es → Fewer (unwrap_or (numbered ds n) []) (unwrap_or (numbered es n) [])
disk_there ds es n pairs = by (numbered ds n) (numbered es n) (pairs_at Fewer ds es n pairs)
  where
    by : (o r : Option (List RedoRecord)) → BothThere Fewer o r → Fewer (unwrap_or o []) (unwrap_or r [])
    by None None both = Same_end
    by None (Some y) both = absurd both
    by (Some x) None both = absurd both
    by (Some x) (Some y) both = both
