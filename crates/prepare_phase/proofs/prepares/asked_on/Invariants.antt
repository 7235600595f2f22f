use Rattle.std.proofs.Common.{◌≡◌, ◌+◌, ◌++◌, drop}
use Rattle.prepare_phase.specs.Records.{asked_from}
use Rattle.prepare_phase.proofs.prepares.asked_on.Given as goal

abbrev pub invariant-loop-edge : goal.invariant-loop-edge
invariant-loop-edge l = record {
  counted : l.number ≡ l.edge-index;
  so_far : asked_from l.path 1 l.edges ≡ l.asked.items ++ asked_from l.path (l.number + 1) (drop l.edge-index l.edges);
}
