use Rattle.std.proofs.Common.{◌≡◌, ◌≤◌, count_by, take}
use Rattle.pending_view.specs.Views.{has_sent_prepare}
use Rattle.pending_count.proofs.count_collecting.Given as goal

-- the branches so far were counted
abbrev pub invariant-loop-live : goal.invariant-loop-live
invariant-loop-live l = (l.count ≡ count_by has_sent_prepare (take l.live-index l.lives)) × (l.count ≤ l.live-index)
