use Rattle.std.proofs.Common.{◌-◌, ℕ, List, get_or, sym, refl, ap, subst, ◌∙◌}
use Rattle.node_rules.specs.Data.{Place}
use Rattle.world.specs.Started.{CanStart, TriesAt}
use Rattle.world.proofs.SlotLemmas.{place_is}
use Rattle.world.proofs.TryLemmas.{on_ok}
use Rattle.world.proofs.world.World.try_start.Goals as goal

pub try_at-requires-clause-ready : goal.try_at-requires-clause-ready
try_at-requires-clause-ready c =
    let x = c.index-places-from.result in
    let place = place_is c.args.self.now.trace.places c.args.node x c.requires.there.0 c.requires.there.1
    (c.index-places-from.is ∙ (ap (λ (ps : List Place). get_or ps (c.from.result - 1) x) c.places.ensures ∙ ap (λ (k : ℕ). get_or c.args.self.now.trace.places (k - 1) x) c.from.ensures)) in
    λ slot at. subst (λ (p : Place). CanStart p slot) (sym (c.in_ok-place.ensures ∙ sym place)) (c.requires.ready slot at)

pub returns-clause-tried : goal.returns-clause-tried
returns-clause-tried c =
    let x = c.index-places-from.result in
    let place = place_is c.args.self.now.trace.places c.args.node x c.requires.there.0 c.requires.there.1
    (c.index-places-from.is ∙ (ap (λ (ps : List Place). get_or ps (c.from.result - 1) x) c.places.ensures ∙ ap (λ (k : ℕ). get_or c.args.self.now.trace.places (k - 1) x) c.from.ensures)) in
    on_ok c.try_at.result (TriesAt c.in_ok-place.place c.args.node c.args.self.now.slots.items c.try_at.new.slots.items) _ c.try_at.ensures (λ tries.
    record { slots = subst (λ (p : Place). TriesAt p c.args.node c.args.self.now.slots.items c.try_at.new.slots.items) (c.in_ok-place.ensures ∙ sym place) tries; same = refl })
