-- The table at which a statement runs has one key, its rows are kept, and the branch sees rows of it.
use Rattle.std.proofs.Common.{◌≡◌, ℕ, true}
use Rattle.dtx_values.specs.declared.table.Table.{Table}
use Rattle.tran_ids.specs.declared.branch.BranchId.{BranchId}
use Rattle.sql_eval.specs.Laws.{has_one_key, AreRowsOf}
use Rattle.row_store.specs.Store.{has_table}
use Rattle.node_rules.specs.Data.{Place, Live, Stmt}
use Rattle.node_rules.specs.Words.{same_text}
use Rattle.node_rules.specs.Names.{Runs_here, way_of}
use Rattle.node_rules.specs.NodeState.{NodeState}
use Rattle.node_rules.specs.Statement.{view}
use Rattle.node_ready_laws.specs.Rows.{HasRows}
use Rattle.node_ready_laws.proofs.ListLemmas.{all_found}
use Rattle.node_ready_laws.proofs.TableLemmas.{rows_there}
use Rattle.node_ready_laws.proofs.RanLemmas.{one_key, seen}
use Rattle.node_ready_laws.proofs.RowStepLemmas.{way_there}

module _ (p : Place) (k : NodeState) (l : Live) (given : ℕ) (s : Stmt) (t : Table) (now : HasRows k) (way : way_of p k.stored.durable l given s ≡ Runs_here t) where
  pub has_key : (b : BranchId) → has_one_key t ≡ true
  has_key b = one_key k now b t (way_there p k.stored.durable l given t s way)

  pub rows_kept : has_table k.stored.rows t.name ≡ true
  rows_kept =
      all_found (λ u. has_table k.stored.rows u.name ≡ true) (λ u. same_text u.name t.name) k.stored.durable.tables t
      (rows_there k.stored.durable.tables k.stored.rows now.names) (way_there p k.stored.durable l given t s way)

  pub rows_seen : (b : BranchId) → AreRowsOf t (view k b t.name)
  rows_seen b = seen k now b t (way_there p k.stored.durable l given t s way)
