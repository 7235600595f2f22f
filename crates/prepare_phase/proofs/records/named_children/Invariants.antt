use Rattle.std.proofs.Common.{◌≡◌, ◌+◌, ◌++◌, drop}
use Rattle.prepare_phase.specs.Records.{named_children}
use Rattle.prepare_phase.proofs.records.named_children.Given as goal

abbrev pub invariant-loop-edge : goal.invariant-loop-edge
invariant-loop-edge l = record {
  counted : l.number ≡ l.edge-index;
  so_far : named_children l.path 1 l.edges ≡ l.children.items ++ named_children l.path (l.number + 1) (drop l.edge-index l.edges);
}
