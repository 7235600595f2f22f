use Rattle.std.proofs.Common.{None, ap, ◌∙◌}
use Rattle.std.specs.declared.borrow.Cow.TheVariants.{Borrowed}
use Rattle.row_store.specs.Kept.{last_place}
use Rattle.row_store.proofs.Places.{lookup_is}
use Rattle.row_store.proofs.made.MadeChanges.place.Goals as goal

pub returns : goal.returns
returns c =
    c.copied.ensures ∙ c.get.ensures.value
    ∙ lookup_is (record { table = Borrowed c.args.table; key = Borrowed c.args.key }) c.self.inside.places.entries
    ∙ c.self.invariant.indexed c.args.table.now c.args.key.now
    ∙ ap (λ made. last_place 0 made c.args.table.now c.args.key.now None) c.self.view_is
