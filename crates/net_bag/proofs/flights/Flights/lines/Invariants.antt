use Rattle.std.proofs.Common.{◌≡◌, map}
use Rattle.std.specs.List.{flat_map}
use Rattle.tran_ids.specs.Listed.{numbered}
use Rattle.net_bag.specs.Numbered.{lines_at}
use Rattle.net_bag.proofs.flights.Flights.lines.Given as goal

abbrev pub invariant-loop-number : goal.invariant-loop-number
invariant-loop-number l = l.lines.items ≡ flat_map (λ k. lines_at l.names k (numbered l.self-inside.parcels.items k)) (map (λ n. n.now) l.yielded)
