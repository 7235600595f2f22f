use Rattle.std.proofs.Common.{◌≡◌, length, rules}
use Rattle.net_bag.proofs.FlightLemmas.{noted}
use Rattle.net_bag.proofs.flights.Flights.push.Goals as goal

pub invariant_of-self-2 : goal.invariant_of-self-2
invariant_of-self-2 c =
    let many : c.len.result ≡ length c.self.inside.parcels.items = search rules in
    rw (c.in_ok-note.ensures.ok, c.flies.ensures, c.self.invariant, c.in-Ok.ensures.items, c.in_ok-try_reserve.ensures.items, many) (noted c.self.inside.parcels.items c.args.parcel)
