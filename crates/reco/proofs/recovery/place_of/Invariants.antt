use Rattle.std.proofs.Common.{◌≡◌, ◌+◌, drop}
use Rattle.std.specs.List.{position_or_len}
use Rattle.tran_ids.specs.Branch.{branch_below}
use Rattle.reco.proofs.recovery.place_of.Given as goal

abbrev pub invariant-loop-place : goal.invariant-loop-place
invariant-loop-place l =
    position_or_len (λ asking. branch_below l.me asking.me) l.askings
    ≡ l.place + position_or_len (λ asking. branch_below l.me asking.me) (drop l.place l.askings)
