-- The rows of all tables of a node, and what changes do to them.
use Rattle.std.specs.Prelude.{ℕ, if◌then◌else◌, List, [], ◌∷◌, ◌++◌, map}
use Rattle.dtx_values.specs.declared.row.Change.{Change}
use Rattle.sql_eval.specs.declared.keyed.Keyed.{Keyed}
use Rattle.sql_check.specs.Words.{same_text}
use Rattle.sql_eval.specs.Rows.{apply}

-- The rows of each table of a node.
pub record TableRows : Type 0 where
  pub table : List ℕ
  pub rows : List Keyed

-- the changes of this table's name, to its rows
abbrev pub apply_to : List Change → TableRows → TableRows
apply_to cs t = record { table = t.table; rows = apply t.table t.rows cs }

-- the rows of all tables with these changes
abbrev pub apply_all : List TableRows → List Change → List TableRows
apply_all tables cs = map (apply_to cs) tables

-- the rows of the table of a name
abbrev pub rows_of_table : List TableRows → List ℕ → List Keyed
rows_of_table [] table = []
rows_of_table (t ∷ ts) table = if same_text t.table table then t.rows else rows_of_table ts table

-- with a table that has no rows behind the others
abbrev pub with_table : List TableRows → List ℕ → List TableRows
with_table tables table = tables ++ (record { table = table; rows = [] }) ∷ []
