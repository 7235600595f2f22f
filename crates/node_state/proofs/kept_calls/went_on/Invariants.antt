use Rattle.std.proofs.Common.{◌≡◌, ◌+◌}
use Rattle.node_rules.specs.Marks.{next_back}
use Rattle.node_state.proofs.kept_calls.went_on.Given as goal

-- no call was made over the edges so far since the step
abbrev pub invariant-loop-place : goal.invariant-loop-place
invariant-loop-place l = next_back l.work l.step (l.last + 1) ≡ next_back l.work l.step (l.place + 1)
