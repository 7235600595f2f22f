-- What each node of a lawful run has in its tables: rows of the table, each with its key; and each change that is not
-- committed is one of the table of its name.
use Rattle.std.specs.Prelude.{◌≡◌, ℕ, true, false, List, find, Option, Some, None}
use Rattle.std.specs.List.{AllByRecursion}
use Rattle.sql_eval.specs.Laws.{has_one_key, IsChangeOf, AreRowsOf}
use Rattle.row_store.specs.Store.{has_table}
use Rattle.node_rules.specs.Data.{Change, Table, BranchId, Owned, Doubt}
use Rattle.node_rules.specs.Words.{same_text}
use Rattle.node_rules.specs.Rows.{TableRows, rows_of_table}
use Rattle.node_rules.specs.NodeState.{Stored}
use Rattle.run_key_laws.specs.ChangedLaws.{changes_at}
use Rattle.run_base_laws.specs.NodeLaws.{OfEachNode}

-- the table of a name
abbrev pub table_in : List Table → List ℕ → Option Table
table_in ts name = find (λ t. same_text t.name name) ts

-- a change of the table of its name
abbrev pub IsChangeIn : List Table → Change → Type 0
IsChangeIn ts c = (t : Table) × (table_in ts c.table ≡ Some t) × IsChangeOf t c

-- changes of tables that there are
abbrev pub AreChangesIn : List Table → List Change → Type 0
AreChangesIn ts cs = AllByRecursion (IsChangeIn ts) cs

-- Each table has one key, and rows of its own; nothing else has rows; and branches in doubt hold back changes of these tables.
pub record TablesFit (ts : List Table) (rows : List TableRows) (ds : List Doubt) : Type 0 where
  pub one_key : AllByRecursion (λ t. has_one_key t ≡ true) ts
  pub known : (name : List ℕ) → table_in ts name ≡ None → has_table rows name ≡ false
  pub rows_of : (name : List ℕ) (t : Table) → table_in ts name ≡ Some t → AreRowsOf t (rows_of_table rows name)
  pub doubts : AllByRecursion (λ d. AreChangesIn ts d.changes) ds

-- what is stored fits
abbrev pub StoredFits : Stored → Type 0
StoredFits s = TablesFit s.durable.tables s.rows s.doubts

-- live branches changed these tables
abbrev pub LiveChangesFit : List Table → List Owned → Type 0
LiveChangesFit ts owns = (b : BranchId) → AreChangesIn ts (changes_at owns b)

-- so it is at each node of every lawful run
abbrev pub ChangesAreOfTables : Type 0
ChangesAreOfTables = OfEachNode (λ p rs k. StoredFits k.stored × LiveChangesFit k.stored.durable.tables k.owns)
