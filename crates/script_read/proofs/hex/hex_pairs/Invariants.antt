use Rattle.std.proofs.Common.{◌≡◌, [], length}
use Rattle.script_read.specs.Forms as spec
use Rattle.script_read.proofs.hex.hex_pairs.Given as goal

-- the bytes so far, and those of the digits that are left
abbrev pub invariant-loop-high : goal.invariant-loop-high
invariant-loop-high l = spec.hex_behind l.bytes.items l.rest ≡ spec.hex_behind [] l.digits

abbrev pub decreases-loop-high : goal.decreases-loop-high
decreases-loop-high l = length l.rest
