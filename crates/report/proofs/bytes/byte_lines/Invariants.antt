use Rattle.std.proofs.Common.{◌≡◌, ◌*◌, map}
use Rattle.std.specs.List.{range_with_len}
use Rattle.report.specs.Bytes.{byte_line}
use Rattle.report.proofs.bytes.byte_lines.Given as goal

-- so many lines are there
abbrev pub invariant-loop-i : goal.invariant-loop-i
invariant-loop-i l = l.lines.items ≡ map (λ i. byte_line l.bytes (32 * i)) (range_with_len 0 l.i)
