use Rattle.std.proofs.Common.{◌≡◌, ◌≤◌, drop, length}
use Rattle.node_memory.specs.Versions.{undone_in}
use Rattle.node_memory.proofs.versions.undo_all.Given as goal

-- without those that are not left
abbrev pub invariant-loop-left : goal.invariant-loop-left
invariant-loop-left l = record {
  within : l.left ≤ length l.kept;
  undone : l.rows.items ≡ undone_in l.table l.initial.rows.items (drop l.left l.kept);
}

abbrev pub decreases-loop-left : goal.decreases-loop-left
decreases-loop-left l = l.left
