use Rattle.std.proofs.Common.{map, ap, ◌∙◌}
use Rattle.indexmap.specs.IndexMap.{insert_entry}
use Rattle.link_session.specs.Opens.{opening_of, with_opening}
use Rattle.link_session.specs.Keyed.{opening_in}
use Rattle.link_session.proofs.Entries.{found_as, distinct_are, insert_is}
use Rattle.link_session.proofs.opens.Opens.add.Goals as goal

pub returns-clause-ok : goal.returns-clause-ok
returns-clause-ok c =
    let opening = c.args.opening in
    let entries = c.self.inside.opened.entries in
    ap (map opening_in) c.in_ok-insert.ensures.entries
    ∙ ap (λ k. map opening_in (insert_entry found_as entries k (record { child = opening.child; strength = opening.strength }))) c.of-key.ensures
    ∙ insert_is entries opening.parent opening.edge (record { child = opening.child; strength = opening.strength }) (ap (λ os. opening_of os opening.parent opening.edge) c.self.view_is ∙ c.requires)
    ∙ ap (λ os. with_opening os opening) c.self.view_is

pub invariant_of-self : goal.invariant_of-self
invariant_of-self c = distinct_are c.insert.new.self.entries c.insert.ensures.unique

pub invariant_of-self-2 : goal.invariant_of-self-2
invariant_of-self-2 c = distinct_are c.insert.new.self.entries c.insert.ensures.unique
