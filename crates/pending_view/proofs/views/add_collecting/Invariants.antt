use Rattle.std.proofs.Common.{◌≡◌, ◌++◌, map, filter, take}
use Rattle.pending_view.specs.Views.{has_sent_prepare, pending_live}
use Rattle.pending_view.proofs.views.add_collecting.Given as goal

abbrev pub invariant-loop-live : goal.invariant-loop-live
invariant-loop-live l = l.rows.items ≡ l.initial.rows.items ++ map pending_live (filter has_sent_prepare (take l.live-index l.lives))
