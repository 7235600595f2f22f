use Rattle.std.proofs.Common.{◌-◌, ℕ, List, get_or, sym, ap, ◌∙◌}
use Rattle.tran_ids.specs.Texts.{name_of}
use Rattle.node_rules.specs.Data.{Place}
use Rattle.world.proofs.SlotLemmas.{place_is}
use Rattle.world.proofs.TryLemmas.{on_ok}
use Rattle.world.proofs.world.World.report_start.Goals as goal

pub returns-clause-tells : goal.returns-clause-tells
returns-clause-tells c =
    let x = c.index-places-from.result in
    let place = place_is c.args.self.now.trace.places c.args.node x c.requires.there.0 c.requires.there.1
    (c.index-places-from.is ∙ (ap (λ (ps : List Place). get_or ps (c.from.result - 1) x) c.places.ensures ∙ ap (λ (k : ℕ). get_or c.args.self.now.trace.places (k - 1) x) c.from.ensures)) in
    on_ok c.start.result _ _ c.start.ensures.tells (λ tells. tells c.args.self.now.trace.places
    (c.node_name-name.ensures ∙ ap (λ (names : List (List ℕ)). name_of names c.args.node) (c.as_slice.ensures ∙ sym (ap (λ (p : Place). p.names) place))))
