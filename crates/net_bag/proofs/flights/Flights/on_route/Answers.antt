use Rattle.std.proofs.Common.{◌≡◌, ◌&&◌, ◌∙◌, ap, filter, map, rules}
use Rattle.std.proofs.lemmas.Map.Iter.{iter_end}
use Rattle.tran_ids.specs.Listed.{numbered}
use Rattle.net_bag.specs.Net.{flies, numbers_where}
use Rattle.net_bag.specs.Numbered.{passes_at}
use Rattle.net_bag.specs.Route.{takes}
use Rattle.net_bag.proofs.FlightLemmas.{kept_numbers}
use Rattle.net_bag.proofs.flights.Flights.on_route.Goals as goal

pub returns : goal.returns
returns c =
    let all : map (λ n. n.now) c.loop-number.yielded ≡ c.self.inside.flying.keys = search (rules, iter_end) in
    c.of.ensures
    ∙ c.loop-number.invariant
    ∙ ap (filter (λ k. passes_at (takes c.args.route) (numbered c.self.inside.parcels.items k))) (all ∙ c.self.invariant)
    ∙ kept_numbers (takes c.args.route) c.self.inside.parcels.items
    ∙ ap (numbers_where (λ x. flies x && takes c.args.route x) 1) c.self.view_is
