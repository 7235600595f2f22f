use Rattle.std.proofs.Common.{ap, sym, subst, ◌∙◌}
use Rattle.catalog.specs.Catalog.{Listed, is_link_used, HasOwnNames}
use Rattle.catalog.proofs.Apart.{own_link}
use Rattle.catalog.proofs.catalog.Catalog.add_link.Goals as goal

pub invariant_of-self-2 : goal.invariant_of-self-2
invariant_of-self-2 c =
    let before : Listed = record { recovery = c.self.inside.recovery; tables = c.self.inside.tables; links = c.self.inside.links; synonyms = c.self.inside.synonyms } in
    subst (λ xs. HasOwnNames (record before { links = xs })) (sym c.in_ok-push.ensures.ok)
    (own_link before c.self.invariant c.args.item (ap (λ d. is_link_used d c.args.item.name) c.self.view_is ∙ sym c.is_link_used.ensures.used ∙ c.if-is_link_used.false))
