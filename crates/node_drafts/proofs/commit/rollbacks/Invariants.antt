-- The messages to the neighbours so far.
use Rattle.std.proofs.Common.{◌≡◌, map, take}
use Rattle.node_rules.specs.Commit.{rollback_to}
use Rattle.node_drafts.proofs.commit.rollbacks.Given as goal

abbrev pub invariant-loop-neighbor : goal.invariant-loop-neighbor
invariant-loop-neighbor l = l.posts.items ≡ map (rollback_to l.me) (take l.neighbor-index l.beyond)
