use Rattle.std.proofs.Common.{◌≡◌, take, map, zip}
use Rattle.sql_check.specs.Columns.{given_columns}
use Rattle.sql_check.specs.Inserted.{given_value as given_value_of}
use Rattle.sql_check.proofs.inserted.inserted_cells.Given as goal

abbrev pub invariant-loop-column : goal.invariant-loop-column
invariant-loop-column l = l.cells.items ≡ map (λ c. given_value_of l.table (zip (given_columns l.table l.columns) l.values) c.name) (take l.column-index l.table.columns)
