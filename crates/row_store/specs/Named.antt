-- The rows of tables, as a map by the names of the tables has them.
use Rattle.std.specs.Prelude.{ℕ, List, map}
use Rattle.sql_eval.specs.declared.keyed.Keyed.{Keyed}
use Rattle.row_store.specs.Tables.{TableRows}

-- the table that is kept as this entry
abbrev pub table_of : List ℕ × List Keyed → TableRows
table_of e = record { table = e.0; rows = e.1 }

-- the tables, in the order in which they were added
abbrev pub tables_of : List (List ℕ × List Keyed) → List TableRows
tables_of es = map table_of es
