use Rattle.std.proofs.Common.{ap, sym, subst, ◌∙◌}
use Rattle.std.specs.Map.{values_of}
use Rattle.catalog.proofs.Titles.{are_titled, titled_insert, values_insert}
use Rattle.catalog.proofs.by_name.ByName.push.Goals as goal

pub invariant_of-self-2 : goal.invariant_of-self-2
invariant_of-self-2 g c =
    subst (are_titled g.T.Named.title) (sym c.in_ok-insert.ensures.entries)
    (titled_insert g.T.Named.title c.self.inside.items c.in_ok-name.name c.args.item c.self.invariant (c.in_ok-name.ensures ∙ c.name.ensures) c.args.self.now c.self.view_is c.requires.new)

pub returns-clause-ok : goal.returns-clause-ok
returns-clause-ok g c =
    ap values_of c.in_ok-insert.ensures.entries
    ∙ values_insert g.T.Named.title c.self.inside.items c.in_ok-name.name c.args.item c.self.invariant (c.in_ok-name.ensures ∙ c.name.ensures) c.args.self.now c.self.view_is c.requires.new
