use Rattle.std.proofs.Common.{◌≡◌, ◌<◌, ◌≤◌, ◌-◌, ◌∙◌, suc, length, ap, sym, arith, rules}
use Rattle.std.proofs.Math.ListN.{set}
use Rattle.net_bag.specs.Net.{fated}
use Rattle.net_bag.specs.Numbered.{met_at}
use Rattle.net_bag.proofs.FlightLemmas.{met_at_none, met_at_past, met_at_place}
use Rattle.net_bag.proofs.flights.meet_at.Goals as goal

pub returns-then-number-eq0 : goal.returns-then-number-eq0
returns-then-number-eq0 c = sym (ap (met_at c.args.fate c.args.parcels.now.items) c.if-number-eq0.true ∙ met_at_none c.args.fate c.args.parcels.now.items)

pub returns-then-place-len : goal.returns-then-place-len
returns-then-place-len c =
    let same : c.args.number ≡ suc (c.args.number - 1) = omega arith in
    let past : length c.args.parcels.now.items ≤ c.args.number - 1 = search rules in
    sym (ap (met_at c.args.fate c.args.parcels.now.items) same ∙ met_at_past c.args.fate c.args.parcels.now.items (c.args.number - 1) past)

pub returns : goal.returns
returns c =
    let same : suc (c.args.number - 1) ≡ c.args.number = omega arith in
    let within : c.args.number - 1 < length c.args.parcels.now.items = search rules in
    ap (set c.args.parcels.now.items (c.args.number - 1)) (c.meet.ensures ∙ ap (fated c.args.fate) c.index_mut.ensures.value)
    ∙ met_at_place c.args.fate c.args.parcels.now.items (c.args.number - 1) c.index_mut.result.now within
    ∙ ap (met_at c.args.fate c.args.parcels.now.items) same
