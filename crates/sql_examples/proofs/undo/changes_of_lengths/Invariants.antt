use Rattle.std.proofs.Common.{◌≡◌}
use Rattle.std.specs.List.{AllByRecursion}
use Rattle.sql_examples.proofs.undo.changes_of_lengths.Given as goal

abbrev pub invariant-loop-key : goal.invariant-loop-key
invariant-loop-key l = AllByRecursion (λ c. c.table ≡ l.table) l.changes
