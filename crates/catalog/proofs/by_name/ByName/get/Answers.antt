use Rattle.std.proofs.Common.{ap, find, ◌∙◌}
use Rattle.std.specs.Str.{bytes_eq}
use Rattle.catalog.proofs.Titles.{lookup_find}
use Rattle.catalog.proofs.by_name.ByName.get.Goals as goal

pub returns : goal.returns
returns g c =
    c.get.ensures.value ∙ lookup_find g.T.Named.title c.self.inside.items.entries c.args.name.now c.self.invariant
    ∙ ap (find (λ x. bytes_eq (g.T.Named.title x) c.args.name.now)) c.self.view_is
