-- What holds of the rows of a node between turns: its tables are whole, the rows under a table's name are rows of it, and
-- what branches have changed are changes of tables that are there.
use Rattle.std.specs.Prelude.{◌≡◌, ℕ, List, find, map, Option, Some}
use Rattle.std.specs.List.{AllByRecursion}
use Rattle.node_rules.specs.Data.{Table, Stmt, Change, Owned, Doubt, Place, Input}
use Rattle.node_rules.specs.Data.stmts
use Rattle.node_rules.specs.Data.inputs
use Rattle.node_rules.specs.Words.{same_text}
use Rattle.node_rules.specs.Rows.{TableRows, rows_of_table, changes_of}
use Rattle.node_rules.specs.NodeState.{NodeState}
use Rattle.node_rules.specs.Turn.{turn_of, made}
use Rattle.node_rules.specs.Inputs.{IsFit}
use Rattle.sql_statement.specs.Whole.{IsWholeTable}
use Rattle.sql_eval.specs.Laws.{AreRowsOf, IsChangeOf}
use Rattle.read_only_tx.specs.Versions.{Version}

-- the first table of a name
abbrev pub table_named : List Table → List ℕ → Option Table
table_named ts name = find (λ t. same_text t.name name) ts

-- a change of a table that is there
abbrev pub IsChangeAt : List Table → Change → Type 0
IsChangeAt ts c = (t : Table) × (table_named ts c.table ≡ Some t) × IsChangeOf t c

-- changes of tables that are there
abbrev pub AreChangesAt : List Table → List Change → Type 0
AreChangesAt ts cs = AllByRecursion (IsChangeAt ts) cs

-- commits of tables that are there, and the rows from before them
abbrev pub AreVersionsOf : List Table → List Version → Type 0
AreVersionsOf ts vs = AllByRecursion (λ v. AreChangesAt ts v.changes × AreChangesAt ts v.before) vs

-- Tables that are whole and have names of their own, rows of them, changes of them that are not committed, and commits that
-- READ ONLY transactions can look behind.
pub record AreRows (tables : List Table) (rows : List TableRows) (owns : List Owned) (doubts : List Doubt) (versions : List Version) : Type 0 where
  pub whole : AllByRecursion IsWholeTable tables
  pub own_names : AllByRecursion (λ t. table_named tables t.name ≡ Some t) tables
  pub fit : AllByRecursion (λ t. AreRowsOf t (rows_of_table rows t.name)) tables
  pub names : map (λ r. r.table) rows ≡ map (λ t. t.name) tables
  pub own : AllByRecursion (λ o. AreChangesAt tables (changes_of o.sets)) owns
  pub held_back : AllByRecursion (λ d. AreChangesAt tables d.changes) doubts
  pub behind : AreVersionsOf tables versions

-- a node whose rows are so
abbrev pub HasRows : NodeState → Type 0
HasRows k = AreRows k.stored.durable.tables k.stored.rows k.owns k.stored.doubts k.versions.kept

-- a statement that makes a table makes a whole one
abbrev pub MakesWhole : Stmt → Type 0
MakesWhole (stmts.CreateTable t) = IsWholeTable t
MakesWhole _ = Unit {0}

-- so does a call, if its statement makes a table
abbrev pub BringsWhole : Input → Type 0
BringsWhole (inputs.Call session (Some s)) = MakesWhole s
BringsWhole _ = Unit {0}

-- each turn leaves rows that are so
abbrev pub RowsStayOfTables : Type 0
RowsStayOfTables = (p : Place) (k : NodeState) (input : Input) → IsFit input → BringsWhole input → HasRows k → HasRows (turn_of p k input).after

-- a node that has just been made has none
abbrev pub NoRowsAtFirst : Type 0
NoRowsAtFirst = HasRows made
