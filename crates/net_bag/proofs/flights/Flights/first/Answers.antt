use Rattle.std.proofs.Common.{◌+◌, ◌∙◌, ap, sym, slice_get}
use Rattle.std.specs.List.{position}
use Rattle.std.specs.Option.{option_map}
use Rattle.net_bag.specs.Net.{flies}
use Rattle.net_bag.proofs.FlightLemmas.{first_found, first_is}
use Rattle.net_bag.proofs.flights.Flights.first.Goals as goal

pub returns : goal.returns
returns c =
    c.copied.ensures
    ∙ first_found c.first.result c.self.inside.flying.keys c.first.ensures.first c.first.ensures.variant
    ∙ ap (λ ks. slice_get ks 0) c.self.invariant
    ∙ sym (first_is c.self.inside.parcels.items)
    ∙ ap (λ xs. option_map (λ i. i + 1) (position flies xs)) c.self.view_is
