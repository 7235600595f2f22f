use Rattle.std.proofs.Common.{◌≡◌, drop, find}
use Rattle.sql_check.specs.Columns.{is_named}
use Rattle.sql_check.proofs.column.column_of.Given as goal

abbrev pub invariant-loop-column : goal.invariant-loop-column
invariant-loop-column l = find (is_named l.name) l.table.columns ≡ find (is_named l.name) (drop l.column-index l.table.columns)
