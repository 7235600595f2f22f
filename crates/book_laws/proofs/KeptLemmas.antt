-- The row that a node keeps of a branch is the one that the records on its disk make, but for the Acks that it holds.
use Rattle.std.proofs.Common.{◌≡◌, ◌≤◌, Bool, true, false, if◌then◌else◌, List, [], ◌∷◌, map, find, Some, refl, ap, subst, ◌∙◌}
use Rattle.std.specs.Prelude.{fold}
use Rattle.std.specs.List.{AllByRecursion}
use Rattle.redo_record.specs.Durable.{durable_after, durable}
use Rattle.node_rules.specs.Data.{BranchId, RedoRecord, KeptRow}
use Rattle.node_rules.specs.Words.{same, item_at}
use Rattle.node_rules.specs.NodeState.{NodeState, Stored, kept_row_id}
use Rattle.node_rules.specs.Records.{applied, nothing_stored, stored_by}
use Rattle.run_base_laws.specs.NodeLaws.{count_of, unacked_row}
use Rattle.run_rules.proofs.ListLemmas.{all_weaker}
use Rattle.run_branch_laws.proofs.RowSayStandLemmas.{rows_found}
use Rattle.run_base_laws.proofs.StoredLemmas.{StoresOf}

-- ---- lists

-- what holds of each item holds of the one that a test finds, and it passes
pub find_so : {A : Type 0} (P : A → Type 0) (test : A → Bool) (xs : List A) (a : A) → AllByRecursion P xs → find test xs ≡ Some a → P a × (test a ≡ true)
find_so P test [] a all found = absurd cc
find_so {A} P test (x ∷ xs) a all found = by (test x) refl found (find_so P test xs a all.1)
  where
    by : (q : Bool) → test x ≡ q → (if q then Some x else find test xs) ≡ Some a → (find test xs ≡ Some a → P a × (test a ≡ true)) → P a × (test a ≡ true)
    by true is found rest = let here : x ≡ a = cc found in (subst P here all.0, subst (λ z. test z ≡ true) here is)
    by false is found rest = rest found

-- ---- rows

pub durable_stored : (s : Stored) (rs : List RedoRecord) → (stored_by s rs).durable ≡ fold durable_after s.durable rs
unfolding stored_by applied
durable_stored s [] = refl
durable_stored s (r ∷ rs) = durable_stored (applied s r) rs

row_unacked : (ks : List KeptRow) (b : BranchId) (s : KeptRow) → item_at kept_row_id ks b ≡ Some s → item_at kept_row_id (map unacked_row ks) b ≡ Some (unacked_row s)
row_unacked [] b s found = absurd cc
row_unacked (x ∷ ks) b s found = by (same x.me b) found (row_unacked ks b s)
  where
    by : (q : Bool) → (if q then Some x else item_at kept_row_id ks b) ≡ Some s → (item_at kept_row_id ks b ≡ Some s → item_at kept_row_id (map unacked_row ks) b ≡ Some (unacked_row s))
        → (if q then Some (unacked_row x) else item_at kept_row_id (map unacked_row ks) b) ≡ Some (unacked_row s)
    by true found rest = let here : x ≡ s = cc found in ap (λ z. Some (unacked_row z)) here
    by false found rest = rest found

-- these rows have one of the branch that is hidden, mixed and in a state as this one
abbrev pub IsKnownRow : List KeptRow → KeptRow → Type 0
IsKnownRow ks s = (row : KeptRow) × (item_at kept_row_id ks s.me ≡ Some row) × (row.hidden ≡ s.hidden) × (row.mixed ≡ s.mixed) × (row.state ≡ s.state)

pub rows_known : (k : NodeState) (rs : List RedoRecord) → StoresOf rs k → ((b : BranchId) → count_of kept_row_id b k.stored.durable.kept ≤ 1) → AllByRecursion (IsKnownRow (durable rs).kept) k.stored.durable.kept
rows_known k rs stored one =
    let rows : map unacked_row k.stored.durable.kept ≡ (durable rs).kept = ap (λ (s : Stored). s.durable.kept) stored ∙ ap (λ d. d.kept) (durable_stored nothing_stored rs) in
    all_weaker (λ s. item_at kept_row_id k.stored.durable.kept s.me ≡ Some s) (IsKnownRow (durable rs).kept)
    (λ s found. (unacked_row s, subst (λ (ks : List KeptRow). item_at kept_row_id ks s.me ≡ Some (unacked_row s)) rows (row_unacked k.stored.durable.kept s.me s found), refl, refl, refl)) k.stored.durable.kept
    (rows_found k.stored.durable.kept one)
