-- The messages so far, with the clock on each.
use Rattle.std.proofs.Common.{◌≡◌, map}
use Rattle.reco.specs.Asks.{stamped}
use Rattle.node_drafts.proofs.sending.stamp.Given as goal

abbrev pub invariant-loop-post : goal.invariant-loop-post
invariant-loop-post l = l.msgs.items ≡ map (stamped l.scn) l.yielded
