use Rattle.std.proofs.Common.{◌≡◌, ◌+◌, ◌≤◌, ◌++◌, length}
use Rattle.script_read.specs.Parts.{outside_comments}
use Rattle.script_read.specs.Parts as spec
use Rattle.script_read.proofs.cut.said.Given as goal

-- what was kept so far and what is to be kept of the rest
abbrev pub invariant-loop-rest : goal.invariant-loop-rest
invariant-loop-rest l = record {
  kept : l.kept.items ++ outside_comments l.part l.rest ≡ spec.said l.piece;
  no_longer : length l.kept.items + length l.rest ≤ length l.piece;
}

abbrev pub decreases-loop-rest : goal.decreases-loop-rest
decreases-loop-rest l = length l.rest
