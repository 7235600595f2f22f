-- The calls so far are changed.
use Rattle.std.proofs.Common.{◌≡◌, ◌++◌, map, take, drop}
use Rattle.run_rules.specs.Calls.{change_call}
use Rattle.run_report_parts.proofs.calls.change_calls.Given as goal

abbrev pub invariant-loop-call : goal.invariant-loop-call
invariant-loop-call l = l.call-items ≡ map (change_call l.new) (take l.call-index l.initial.call-items) ++ drop l.call-index l.initial.call-items
