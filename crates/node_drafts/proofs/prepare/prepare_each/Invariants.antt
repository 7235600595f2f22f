-- The messages to the children so far.
use Rattle.std.proofs.Common.{◌≡◌, map, take}
use Rattle.node_rules.specs.Prepare.{prepare_to}
use Rattle.node_drafts.proofs.prepare.prepare_each.Given as goal

abbrev pub invariant-loop-asked : goal.invariant-loop-asked
invariant-loop-asked l = l.posts.items ≡ map (prepare_to l.me l.comment) (take l.asked-index l.children)
