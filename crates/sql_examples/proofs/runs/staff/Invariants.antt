use Rattle.std.specs.List.{AllByRecursion}
use Rattle.sql_eval.specs.Laws.{IsChangeOf}
use Rattle.sql_examples.proofs.runs.staff.Given as goal

abbrev pub invariant-loop-number : goal.invariant-loop-number
invariant-loop-number l = AllByRecursion (IsChangeOf l.table) l.staff
