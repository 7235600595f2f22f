use Rattle.std.proofs.Common.{◌≡◌, ◌∙◌, ap, map, rules}
use Rattle.std.proofs.lemmas.Map.Iter.{iter_end}
use Rattle.std.specs.List.{flat_map}
use Rattle.tran_ids.specs.Listed.{numbered}
use Rattle.net_bag.specs.Numbered.{lines_at}
use Rattle.net_bag.specs.Texts.{flying_lines}
use Rattle.net_bag.proofs.FlightLemmas.{shown_numbers}
use Rattle.net_bag.proofs.flights.Flights.lines.Goals as goal

pub returns : goal.returns
returns c =
    let all : map (λ n. n.now) c.loop-number.yielded ≡ c.self.inside.flying.keys = search (rules, iter_end) in
    c.loop-number.invariant
    ∙ ap (flat_map (λ k. lines_at c.args.names.now k (numbered c.self.inside.parcels.items k))) (all ∙ c.self.invariant)
    ∙ shown_numbers c.args.names.now c.self.inside.parcels.items
    ∙ ap (flying_lines c.args.names.now 1) c.self.view_is
