use Rattle.std.proofs.Common.{List, ◌++◌, ap, subst, ◌∙◌}
use Rattle.std.specs.Prelude.{option_to_list}
use Rattle.dtx_values.specs.declared.row.Change.{Change}
use Rattle.row_store.specs.Kept.{AreIndexed}
use Rattle.row_store.proofs.MadeLaws.{is_placed, made_less}
use Rattle.row_store.proofs.made.MadeChanges.pop.Goals as goal

pub set_place-requires : goal.set_place-requires
set_place-requires c =
    let s = c.self.inside in
    let are = subst (λ (cs : List Change). AreIndexed s.places.entries s.earlier.items cs s.bytes) c.in-Some.ensures.items c.self.invariant in
    is_placed c.pop.new.self.items c.in-Some.change s.places.entries s.earlier.items s.bytes are

pub invariant_of-self : goal.invariant_of-self
invariant_of-self c =
    let s = c.self.inside in
    let are = subst (λ (cs : List Change). AreIndexed s.places.entries s.earlier.items cs s.bytes) c.in-Some.ensures.items c.self.invariant in
    made_less c.pop.new.self.items c.in-Some.change s.places.entries s.earlier.items s.bytes are
    c.set_place.new.places.entries c.pop-in-Some.new.self.items c.unwrap-earlier.result c.less-self-inside.result
    (c.pop-in-Some.ensures.items ∙ ap (λ r. c.pop-in-Some.new.self.items ++ option_to_list r) c.unwrap-earlier.ensures) c.set_place.ensures
    c.less-self-inside.ensures
