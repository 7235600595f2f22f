use Rattle.std.proofs.Common.{◌≡◌, ◌++◌, map, take, drop}
use Rattle.prepare_phase.specs.Acts.{has_voted}
use Rattle.prepare_phase.proofs.phase.vote_in.Given as goal

abbrev pub invariant-loop-edge : goal.invariant-loop-edge
invariant-loop-edge l = l.edge-items ≡ map (has_voted l.from l.vote) (take l.edge-index l.initial.edge-items) ++ drop l.edge-index l.initial.edge-items
