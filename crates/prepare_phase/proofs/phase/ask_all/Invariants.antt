use Rattle.std.proofs.Common.{◌≡◌, ◌++◌, map, take, drop}
use Rattle.prepare_phase.specs.Acts.{with_prepare_sent}
use Rattle.prepare_phase.proofs.phase.ask_all.Given as goal

abbrev pub invariant-loop-edge : goal.invariant-loop-edge
invariant-loop-edge l = l.edge-items ≡ map with_prepare_sent (take l.edge-index l.initial.edge-items) ++ drop l.edge-index l.initial.edge-items
