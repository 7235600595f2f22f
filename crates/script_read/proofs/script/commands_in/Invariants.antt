use Rattle.std.proofs.Common.{◌≡◌, ◌+◌, ◌≤◌, length}
use Rattle.dtx_values.specs.Limits.{node_limit}
use Rattle.script_read.specs.Parts.{pieces_of}
use Rattle.script_read.specs.Asked.{asked}
use Rattle.script_read.specs.Reading.{goes_on}
use Rattle.script_read.proofs.script.commands_in.Given as goal

-- what was read, and what is left
abbrev pub invariant-loop-piece : goal.invariant-loop-piece
invariant-loop-piece l = record {
  read : goes_on l.reading (pieces_of l.rest).0 (pieces_of l.rest).1 ≡ asked l.bytes;
  room : length l.reading.before.names ≤ node_limit;
  short : l.reading.line + length l.rest ≤ 1 + length l.bytes;
}

abbrev pub decreases-loop-piece : goal.decreases-loop-piece
decreases-loop-piece l = length l.rest
