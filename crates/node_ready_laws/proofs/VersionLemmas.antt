-- The commits that a node can look behind are of tables that are there, and so the rows at an SCN are rows of their tables.
use Rattle.std.proofs.Common.{◌≡◌, ℕ, Bool, true, false, if◌then◌else◌, List, [], ◌∷◌, ◌++◌, map, fold, max, length, Some, refl, sym, subst}
use Rattle.std.specs.Prelude.{IfSome, nat_lt, nat_le}
use Rattle.std.proofs.lemmas.Bool.{cond_both}
use Rattle.dtx_values.specs.Limits.{version_limit}
use Rattle.dtx_values.proofs.ValueOrder.{equal_from_same}
use Rattle.sql_eval.specs.Laws.{AreRowsOf, IsRowAt}
use Rattle.row_store.specs.Own.{before}
use Rattle.redo_record.specs.Durable.{durable_after}
use Rattle.read_only_tx.specs.Versions.{Version, Versions, version_over, newest, with_commit, undone, redone, rows_at}
use Rattle.node_rules.specs.Data.{Value, Table, Change, Keyed, BranchId, Decision, RedoRecord, Owned, Doubt}
use Rattle.node_rules.specs.Data.decisions
use Rattle.node_rules.specs.Data.records
use Rattle.node_rules.specs.Words.{same_text, item_at}
use Rattle.node_rules.specs.Rows.{TableRows, rows_of_table, apply_all, get, same_value}
use Rattle.node_rules.specs.NodeState.{Stored, doubt_id}
use Rattle.node_rules.specs.Records.{applied, held_back, doubt_commit, versions_by, versions_after, versions_read}
use Rattle.node_ready_laws.specs.Rows.{table_named, IsChangeAt, AreChangesAt, AreVersionsOf, AreRows}
use Rattle.node_ready_laws.proofs.ListLemmas.{all_last, all_found}
use Rattle.node_ready_laws.proofs.RecordLemmas.{KeepsRows, rows_with, held_at, rows_applied}

-- ---- the row from before a change

-- a row that is found stands at its key
got_row : (t : Table) (rows : List Keyed) (key : Value) → AreRowsOf t rows → IfSome (get rows key) (IsRowAt t key)
got_row t [] key all = tt
got_row t (r ∷ rows) key all = by (same_value r.key key) refl (got_row t rows key all.1)
  where
    by : (here : Bool) → same_value r.key key ≡ here → IfSome (get rows key) (IsRowAt t key) → IfSome (if here then Some r.row else get rows key) (IsRowAt t key)
    by true is later = subst (λ k. IsRowAt t k r.row) (equal_from_same r.key key is) all.0
    by false is later = later

module _ (ts : List Table) (rows : List TableRows) (owns : List Owned) (doubts : List Doubt) (vs : List Version) (now : AreRows ts rows owns doubts vs) where
  before_at : (c : Change) → IsChangeAt ts c → IsChangeAt ts (before (rows_of_table rows c.table) c)
  before_at c at =
      let own : table_named ts at.0.name ≡ Some at.0 = subst (λ name. table_named ts name ≡ Some at.0) at.2.0 at.1 in
      let fit : AreRowsOf at.0 (rows_of_table rows c.table) =
      subst (λ name. AreRowsOf at.0 (rows_of_table rows name)) (sym at.2.0) (all_found (λ x. AreRowsOf x (rows_of_table rows x.name)) (λ x. same_text x.name at.0.name) ts at.0 now.fit own) in
      (at.0, at.1, (at.2.0, at.2.1, got_row at.0 (rows_of_table rows c.table) c.key fit))

  befores_at : (cs : List Change) → AreChangesAt ts cs → AreChangesAt ts (map (λ c. before (rows_of_table rows c.table) c) cs)
  befores_at [] all = tt
  befores_at (c ∷ cs) all = (before_at c all.0, befores_at cs all.1)

  -- ---- one commit more

  newest_of : (xs : List Version) (floor : ℕ) → AreVersionsOf ts xs → AreVersionsOf ts (newest xs floor).kept
  newest_of [] floor all = tt
  newest_of (v ∷ xs) floor all =
      cond_both (nat_lt version_limit (length (v ∷ xs))) (newest xs (max floor v.scn)) _ (λ (n : Versions). AreVersionsOf ts n.kept) (λ many. newest_of xs (max floor v.scn) all.1) (λ few. all)

  pub with_commit_of : (floor scn : ℕ) (cs : List Change) → AreChangesAt ts cs → AreVersionsOf ts (with_commit rows (record { kept = vs; floor = floor }) scn cs).kept
  with_commit_of floor scn [] at = now.behind
  with_commit_of floor scn (c ∷ cs) at =
      newest_of (vs ++ version_over rows scn (c ∷ cs) ∷ []) floor
      (all_last (λ v. AreChangesAt ts v.changes × AreChangesAt ts v.before) vs (version_over rows scn (c ∷ cs)) now.behind (at, befores_at (c ∷ cs) at))

  settled_of : (floor : ℕ) (b : BranchId) (d : Decision) → AreVersionsOf ts (versions_by rows (record { kept = vs; floor = floor }) (doubt_commit (item_at doubt_id doubts b) d)).kept
  settled_of floor b (decisions.Commit n) = with_commit_of floor n (held_back (item_at doubt_id doubts b)) (held_at ts rows owns doubts vs now b (item_at doubt_id doubts b) refl)
  settled_of floor b decisions.Rollback = now.behind

  -- ---- the rows at an SCN

  undone_rows : (xs : List Version) → AreVersionsOf ts xs → AreRows ts (undone rows xs) owns doubts vs
  undone_rows [] all = now
  undone_rows (v ∷ xs) all = rows_with ts (undone rows xs) owns doubts vs (undone_rows xs all.1) v.before all.0.1

redone_rows : (ts : List Table) (rows : List TableRows) (owns : List Owned) (doubts : List Doubt) (vs : List Version) (scn : ℕ) (xs : List Version) → AreVersionsOf ts xs → AreRows ts rows owns doubts vs
    → AreRows ts (fold (redone scn) rows xs) owns doubts vs
redone_rows ts rows owns doubts vs scn [] all now = now
redone_rows ts rows owns doubts vs scn (v ∷ xs) all now =
    redone_rows ts (redone scn rows v) owns doubts vs scn xs all.1
    (cond_both (nat_le v.scn scn) (apply_all rows v.changes) rows (λ rs. AreRows ts rs owns doubts vs) (λ until. rows_with ts rows owns doubts vs now v.changes all.0.0) (λ later. now))

pub rows_at_scn : (ts : List Table) (rows : List TableRows) (owns : List Owned) (doubts : List Doubt) (vs : Versions) (scn : ℕ) → AreRows ts rows owns doubts vs.kept → AreRows ts (rows_at rows vs scn) owns doubts vs.kept
unfolding rows_at
rows_at_scn ts rows owns doubts vs scn now = redone_rows ts (undone rows vs.kept) owns doubts vs.kept scn vs.kept now.behind (undone_rows ts rows owns doubts vs.kept now vs.kept now.behind)

-- ---- a record

-- the commits after one more record of a node that runs are of tables that were there
pub versions_kept : (s : Stored) (owns : List Owned) (vs : Versions) (r : RedoRecord) → AreRows s.durable.tables s.rows owns s.doubts vs.kept → KeepsRows s r → AreVersionsOf s.durable.tables (versions_after s vs r).kept
versions_kept s owns vs (records.Decided r) now is = with_commit_of s.durable.tables s.rows owns s.doubts vs.kept now vs.floor r.scn r.changes is
versions_kept s owns vs (records.Ended b d) now is = settled_of s.durable.tables s.rows owns s.doubts vs.kept now vs.floor b d
versions_kept s owns vs (records.Forced b d given) now is = settled_of s.durable.tables s.rows owns s.doubts vs.kept now vs.floor b d
versions_kept s owns vs _ now is = now.behind

with_behind : {ts : List Table} {rows : List TableRows} {owns : List Owned} {doubts : List Doubt} {vs more : List Version} → AreRows ts rows owns doubts vs → AreVersionsOf ts more → AreRows ts rows owns doubts more
with_behind now behind = record { whole = now.whole; own_names = now.own_names; fit = now.fit; names = now.names; own = now.own; held_back = now.held_back; behind = behind }

-- rows after one more record, at a node that runs
pub rows_recorded : (s : Stored) (owns : List Owned) (vs : Versions) (r : RedoRecord) → AreRows s.durable.tables s.rows owns s.doubts vs.kept → KeepsRows s r
    → AreRows (applied s r).durable.tables (applied s r).rows owns (applied s r).doubts (versions_after s vs r).kept
unfolding applied durable_after
rows_recorded s owns vs (records.Decided r) now is = with_behind (rows_applied s owns vs.kept (records.Decided r) now is) (versions_kept s owns vs (records.Decided r) now is)
rows_recorded s owns vs (records.Ended b d) now is = with_behind (rows_applied s owns vs.kept (records.Ended b d) now is) (versions_kept s owns vs (records.Ended b d) now is)
rows_recorded s owns vs (records.Forced b d given) now is = with_behind (rows_applied s owns vs.kept (records.Forced b d given) now is) (versions_kept s owns vs (records.Forced b d given) now is)
rows_recorded s owns vs r now is = rows_applied s owns vs.kept r now is

-- and in a start
pub rows_read_back : (s : Stored) (owns : List Owned) (vs : Versions) (r : RedoRecord) → AreRows s.durable.tables s.rows owns s.doubts vs.kept → KeepsRows s r
    → AreRows (applied s r).durable.tables (applied s r).rows owns (applied s r).doubts (versions_read s vs r).kept
unfolding applied durable_after
rows_read_back s owns vs (records.Image i) now is = with_behind now tt
rows_read_back s owns vs r now is = rows_recorded s owns vs r now is
