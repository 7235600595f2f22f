use Rattle.std.proofs.Common.{◌≡◌, ◌-◌, ◌≤◌, length, take, drop}
use Rattle.script_read.specs.Parts.{pieces_from, pieces_of}
use Rattle.script_read.proofs.PieceLemmas.{with_front}
use Rattle.script_read.proofs.cut.cut.Given as goal

-- no command ends in what was seen so far
abbrev pub invariant-loop-further : goal.invariant-loop-further
invariant-loop-further l = record {
  within : l.place ≤ length l.bytes;
  so_far : with_front (take l.place l.bytes) (pieces_from l.part (drop l.place l.bytes)) ≡ pieces_of l.bytes;
}

abbrev pub decreases-loop-further : goal.decreases-loop-further
decreases-loop-further l = length l.bytes - l.place
