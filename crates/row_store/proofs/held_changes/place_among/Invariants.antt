use Rattle.std.proofs.Common.{◌≡◌, ◌+◌, drop}
use Rattle.std.specs.List.{position_or_len}
use Rattle.tran_ids.specs.Branch.{branch_below}
use Rattle.row_store.proofs.held_changes.place_among.Given as goal

abbrev pub invariant-loop-place : goal.invariant-loop-place
invariant-loop-place l =
    position_or_len (λ other. branch_below l.branch other) l.branches ≡ l.place + position_or_len (λ other. branch_below l.branch other) (drop l.place l.branches)
