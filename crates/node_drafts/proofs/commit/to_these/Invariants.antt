-- The messages to the neighbours so far.
use Rattle.std.proofs.Common.{◌≡◌, map, take}
use Rattle.node_rules.specs.NodeState.{to_each}
use Rattle.node_drafts.proofs.commit.to_these.Given as goal

abbrev pub invariant-loop-neighbor : goal.invariant-loop-neighbor
invariant-loop-neighbor l = l.posts.items ≡ to_each l.me l.kind (map (λ b. b.branch) (take l.neighbor-index l.beyond))
