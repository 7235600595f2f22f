-- The messages from before, then those to the children so far.
use Rattle.std.proofs.Common.{◌≡◌, ◌++◌, map, take}
use Rattle.node_rules.specs.NodeState.{to_each}
use Rattle.node_drafts.proofs.prepare.add_to_children.Given as goal

abbrev pub invariant-loop-edge : goal.invariant-loop-edge
invariant-loop-edge l = l.posts.items ≡ l.initial.posts.items ++ to_each l.me l.kind (map (λ e. e.peer) (take l.edge-index l.edges))
