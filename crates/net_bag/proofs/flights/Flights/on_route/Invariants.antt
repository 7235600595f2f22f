use Rattle.std.proofs.Common.{◌≡◌, filter, map}
use Rattle.tran_ids.specs.Listed.{numbered}
use Rattle.net_bag.specs.Numbered.{passes_at}
use Rattle.net_bag.specs.Route.{takes}
use Rattle.net_bag.proofs.flights.Flights.on_route.Given as goal

abbrev pub invariant-loop-number : goal.invariant-loop-number
invariant-loop-number l = l.numbers.items ≡ filter (λ k. passes_at (takes l.route) (numbered l.self-inside.parcels.items k)) (map (λ n. n.now) l.yielded)
