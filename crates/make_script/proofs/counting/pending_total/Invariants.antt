use Rattle.std.proofs.Common.{◌≡◌, ◌≤◌, ◌*◌, ◌-◌, ◌^◌, length, take, drop}
use Rattle.std.specs.Prelude.{sum_by}
use Rattle.make_script.specs.Summary.{count_told}
use Rattle.make_script.proofs.counting.pending_total.Given as goal

-- the counts so far were added up
abbrev pub invariant-loop-line : goal.invariant-loop-line
invariant-loop-line l = (l.sum ≡ sum_by count_told (take l.line-index (drop (length l.lines - 4) l.lines))) × (l.sum ≤ l.line-index * 2 ^ 63)
