use Rattle.std.proofs.Common.{◌≡◌, ◌++◌, map, filter, take}
use Rattle.std.specs.Prelude.{option_to_list}
use Rattle.prepare_phase.specs.Records.{is_prepared}
use Rattle.prepare_phase.proofs.records.site_neighbors.Given as goal

abbrev pub invariant-loop-edge : goal.invariant-loop-edge
invariant-loop-edge l = l.neighbors.items ≡ option_to_list l.live.parent ++ map (λ e. e.peer) (filter is_prepared (take l.edge-index l.edges))
