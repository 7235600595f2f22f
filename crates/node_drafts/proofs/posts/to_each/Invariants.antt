-- The messages to those so far.
use Rattle.std.proofs.Common.{◌≡◌, take}
use Rattle.node_rules.specs.NodeState.{to_each}
use Rattle.node_drafts.proofs.posts.to_each.Given as goal

abbrev pub invariant-loop-to : goal.invariant-loop-to
invariant-loop-to l = l.posts.items ≡ to_each l.from l.kind (take l.to-index l.tos)
