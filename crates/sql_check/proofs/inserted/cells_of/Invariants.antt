use Rattle.std.proofs.Common.{◌≡◌}
use Rattle.sql_check.specs.Inserted.{cells_of as cells_in}
use Rattle.sql_check.proofs.inserted.cells_of.Given as goal

abbrev pub invariant-loop-value : goal.invariant-loop-value
invariant-loop-value l = l.cells.items ≡ cells_in l.yielded
