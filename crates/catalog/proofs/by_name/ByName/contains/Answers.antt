use Rattle.std.proofs.Common.{ap, ◌∙◌}
use Rattle.std.specs.List.{list_any}
use Rattle.std.specs.Str.{bytes_eq}
use Rattle.catalog.proofs.Titles.{lookup_any}
use Rattle.catalog.proofs.by_name.ByName.contains.Goals as goal

pub returns : goal.returns
returns g c =
    c.contains_key.ensures ∙ lookup_any g.T.Named.title c.self.inside.items.entries c.args.name.now c.self.invariant
    ∙ ap (list_any (λ x. bytes_eq (g.T.Named.title x) c.args.name.now)) c.self.view_is
