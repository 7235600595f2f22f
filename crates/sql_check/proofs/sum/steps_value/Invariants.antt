use Rattle.std.proofs.Common.{◌≡◌, Some, drop}
use Rattle.sql_check.specs.Sums.{steps_value as steps_value_of}
use Rattle.sql_check.proofs.sum.steps_value.Given as goal

-- the terms that are left go on from the value so far
abbrev pub invariant-loop-step : goal.invariant-loop-step
invariant-loop-step l = steps_value_of l.table l.row (Some l.fn.first) l.steps ≡ steps_value_of l.table l.row (Some l.value) (drop l.step-index l.steps)
