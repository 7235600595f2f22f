use Rattle.std.proofs.Common.{◌≡◌, ◌+◌, drop}
use Rattle.std.specs.List.{position_or_len}
use Rattle.tran_ids.specs.Branch.{branch_below}
use Rattle.node_memory.proofs.doubts.place_among.Given as goal

-- the first that it comes before is none of those so far
abbrev pub invariant-loop-place : goal.invariant-loop-place
invariant-loop-place l =
    position_or_len (λ r. branch_below l.branch r.now.me) l.doubts ≡ l.place + position_or_len (λ r. branch_below l.branch r.now.me) (drop l.place l.doubts)
