use Rattle.std.proofs.Common.{◌≡◌, ◌∙◌, ap, fold, map}
use Rattle.net_bag.specs.declared.packet.Fate.TheVariants as fates
use Rattle.net_bag.specs.declared.route.Route.TheVariants as routes
use Rattle.net_bag.specs.Net.{cut_over, lost_over}
use Rattle.net_bag.specs.Numbered.{met_at}
use Rattle.net_bag.proofs.FlightLemmas.{all_lost}
use Rattle.net_bag.proofs.bag.Bag.cut.Goals as goal

pub returns-clause-cut : goal.returns-clause-cut
unfolding cut_over
returns-clause-cut c =
    let lost : c.lose.new.self ≡ map (lost_over c.args.a c.args.b) c.self.inside.flights =
    c.lose.ensures ∙ ap (fold (met_at fates.Lost) c.self.inside.flights) (c.as_slice.ensures ∙ c.in_ok-numbers.ensures) ∙ all_lost (routes.Over c.args.a c.args.b) c.self.inside.flights in
    rw (lost, c.in_ok-add_pair.ensures.ok) (ap (λ net. cut_over net c.args.a c.args.b) c.self.view_is)
