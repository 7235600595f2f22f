use Rattle.std.proofs.Common.{◌≡◌, ◌∙◌, ap, fold, map}
use Rattle.net_bag.specs.declared.packet.Fate.TheVariants as fates
use Rattle.net_bag.specs.declared.route.Route.TheVariants as routes
use Rattle.net_bag.specs.Net.{stopped, lost_to}
use Rattle.net_bag.specs.Numbered.{met_at}
use Rattle.net_bag.proofs.FlightLemmas.{all_lost}
use Rattle.net_bag.proofs.bag.Bag.stop.Goals as goal

pub returns-clause-stopped : goal.returns-clause-stopped
unfolding stopped
returns-clause-stopped c =
    let lost : c.lose.new.self ≡ map (lost_to c.args.node) c.self.inside.flights =
    c.lose.ensures ∙ ap (fold (met_at fates.Lost) c.self.inside.flights) (c.as_slice.ensures ∙ c.in_ok-numbers.ensures) ∙ all_lost (routes.To c.args.node) c.self.inside.flights in
    rw (lost, c.in_ok-add_node.ensures.ok) (ap (λ net. stopped net c.args.node) c.self.view_is)
