use Rattle.std.proofs.Common.{◌∙◌}
use Rattle.row_store.proofs.HeldLaws.{have_still}
use Rattle.row_store.proofs.store.Store.apply.Goals as goal

pub invariant_of-self : goal.invariant_of-self
invariant_of-self c = have_still c.self.inside.tables c.make_places.new.tables c.make_places.ensures.places c.self.inside.pending.owns c.self.inside.pending.doubts c.self.invariant

pub invariant_of-self-2 : goal.invariant_of-self-2
invariant_of-self-2 c =
    have_still c.make_places.new.tables c.make_changes.new.tables (λ name key has. c.make_changes.ensures.places name key ∙ has) c.self.inside.pending.owns c.self.inside.pending.doubts
    (have_still c.self.inside.tables c.make_places.new.tables c.make_places.ensures.places c.self.inside.pending.owns c.self.inside.pending.doubts c.self.invariant)
