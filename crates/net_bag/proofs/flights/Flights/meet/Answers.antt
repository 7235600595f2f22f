use Rattle.std.proofs.Common.{◌∙◌, ap, sym}
use Rattle.std.specs.BTreeMap.{is_at}
use Rattle.std.specs.Ordering.{nat_cmp}
use Rattle.std.specs.Set.{remove_key}
use Rattle.net_bag.specs.Numbered.{flying_numbers}
use Rattle.net_bag.proofs.FlightLemmas.{gone}
use Rattle.net_bag.proofs.flights.Flights.meet.Goals as goal

pub invariant_of-self : goal.invariant_of-self
invariant_of-self c =
    c.remove.ensures.keys
    ∙ ap (remove_key (is_at (nat_cmp c.args.number))) c.self.invariant
    ∙ gone c.args.fate c.self.inside.parcels.items c.args.number c.requires
    ∙ ap flying_numbers (sym c.meet_at.ensures)
